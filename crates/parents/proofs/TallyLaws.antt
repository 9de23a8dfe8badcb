-- Laws of the counts: those that are all 0, and a loop that adds 1 for each number it passes. Assumes nothing.
use Rattle.std.proofs.Common.{ℕ, ◌+◌, ◌≤◌, ◌<◌, ◌≡◌, refl, sym, ◌∙◌, List, arith, length, get_or, take, set, length-set, get_or-set_same, get_or-set_other, ext_get_or}
use native.Mathlib.Decide.{ℕ_discrete}
use Rattle.table.specs.Limits.{edge_limit}
use Rattle.table.specs.Table.{Below}
use Rattle.parents.specs.Parents.{Parents, Zeros, Tallying, Tallied}
use Rattle.parents.proofs.OccurrenceLaws.{same_yes, same_no, occurrences_more, occurrences_least, occurrences_most}

-- two lists of zeros are the same
pub zeros_same : {counts counts₁ counts₂ : List ℕ} → Zeros counts counts₁ → Zeros counts counts₂ → counts₁ ≡ counts₂
zeros_same {counts₁ = counts₁} {counts₂ = counts₂} a b = ext_get_or 0 counts₁ counts₂ (a.same ∙ sym b.same) (λ k l. a.zeros k ∙ sym (b.zeros k))

-- the next number's count has room for it
pub tally_fits : {numbers counts counts' : List ℕ} (k : ℕ) → k < length numbers → Tallying numbers counts → Tallied (take k numbers) counts counts'
    → get_or counts' (get_or numbers k 0) 0 + 1 ≤ 4294967295
tally_fits {numbers} k h p t =
    let x = get_or numbers k 0 in
    omega (arith, p.fits x, t.more x, occurrences_more x numbers k h, same_yes x x refl, occurrences_least x (k + 1) numbers)

-- one number more is passed
pub tally_more : (numbers : List ℕ) {counts counts' : List ℕ} (k : ℕ) → k < length numbers → get_or numbers k 0 < length counts → Tallied (take k numbers) counts counts'
    → Tallied (take (k + 1) numbers) counts (set counts' (get_or numbers k 0) (get_or counts' (get_or numbers k 0) 0 + 1))
tally_more numbers {counts' = counts'} k h l t = record {
  same = length-set counts' x (get_or counts' x 0 + 1) ∙ t.same;
  more = λ v. elim (ℕ_discrete x v) [
    | yes q ↦
        let e : get_or (set counts' x (get_or counts' x 0 + 1)) v 0 ≡ get_or counts' v 0 + 1 = rw (← q) (get_or-set_same counts' x (get_or counts' x 0 + 1) 0 (omega (arith, t.same))) in
        omega (arith, e, t.more v, occurrences_more v numbers k h, same_yes x v q)
    | no n ↦ omega (arith, get_or-set_other counts' x v (get_or counts' x 0 + 1) 0 (λ e. n (sym e)), t.more v, occurrences_more v numbers k h, same_no x v n)
  ];
}
  where
    x : ℕ
    x = get_or numbers k 0

-- the counts that come out are determined
pub tallied_same : {numbers counts counts₁ counts₂ : List ℕ} → Tallied numbers counts counts₁ → Tallied numbers counts counts₂ → counts₁ ≡ counts₂
tallied_same {counts₁ = counts₁} {counts₂ = counts₂} a b = ext_get_or 0 counts₁ counts₂ (a.same ∙ sym b.same) (λ v l. a.more v ∙ sym (b.more v))

-- counts that begin at 0 are small enough
pub tally_zeros : {numbers counts counts' : List ℕ} → length numbers ≤ edge_limit → Below (length counts) numbers → Zeros counts counts' → Tallying numbers counts'
tally_zeros {numbers} h b z = record { below = rw z.same b; fits = λ v. omega (arith, z.zeros v, occurrences_most v numbers) }

-- and come to the number of occurrences
pub zeros_tallied : {numbers counts counts' counts'' : List ℕ} → Zeros counts counts' → Tallied numbers counts' counts'' → Parents (length counts) numbers counts''
zeros_tallied z t = record { each = t.same ∙ z.same; count = λ v. omega (arith, z.zeros v, t.more v) }

-- the counts of parents are determined
pub parents_same : {n : ℕ} {targets parents parents' : List ℕ} → Parents n targets parents → Parents n targets parents' → parents ≡ parents'
parents_same {parents = parents} {parents' = parents'} p q = ext_get_or 0 parents parents' (p.each ∙ sym q.each) (λ v l. p.count v ∙ sym (q.count v))
