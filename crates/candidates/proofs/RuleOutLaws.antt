-- Laws of ruling out: vertices that stand in a list get the mark for none, one after another. Assumes nothing.
use Rattle.std.proofs.Common.{ℕ, ◌+◌, ◌<◌, ◌≡◌, refl, sym, ◌∙◌, List, arith, length, get_or, take, set, length-set, get_or-set_same, get_or-set_other}
use native.Mathlib.Decide.{ℕ_discrete}
use Rattle.table.specs.Table.{In}
use Rattle.parents.proofs.PlaceLaws.{in_take, take_in}
use Rattle.candidates.specs.Steps.{RuledOut}

-- one more is
pub ruled_more : (list exits exits' : List ℕ) (none k : ℕ) → k < length list → get_or list k 0 < length exits → RuledOut (take k list) exits exits' none
    → RuledOut (take (k + 1) list) exits (set exits' (get_or list k 0) none) none
ruled_more list exits exits' none k h l r = record {
  same = length-set exits' x none ∙ r.same;
  out = λ v i. elim (ℕ_discrete v x) [
    | yes q ↦ rw q (get_or-set_same exits' x none 0 (omega (arith, r.same)))
    | no n ↦ get_or-set_other exits' x v none 0 n ∙ r.out v (narrow v i n)
  ];
  others = λ v n. get_or-set_other exits' x v none 0 (λ q. n (rw q (in_take list (k + 1) k (omega arith) (omega arith)))) ∙ r.others v (λ i. n (widen v i));
}
  where
    x : ℕ
    x = get_or list k 0

    narrow : (v : ℕ) → In v (take (k + 1) list) → (v ≡ x → ⊥) → In v (take k list)
    narrow v i n =
        let (j, b, q) = take_in v list (k + 1) (omega arith) i in
        elim (ℕ_discrete j k) [
          | yes e ↦ absurd (n (sym q ∙ rw e refl))
          | no m ↦ rw q at (in_take list k j (omega arith) (omega arith))
        ]

    widen : (v : ℕ) → In v (take k list) → In v (take (k + 1) list)
    widen v i = let (j, b, q) = take_in v list k (omega arith) i in rw q at (in_take list (k + 1) j (omega arith) (omega arith))
