-- Laws of passing the visited vertices: those that are gone are different, so the sum of their counts fits, and one vertex more is passed. Assumes nothing.
use Rattle.std.proofs.Common.{ℕ, ◌+◌, ◌≤◌, ◌<◌, ◌≡◌, refl, sym, ◌∙◌, ap, ⊎_elim, List, [], ◌∷◌, ◌++◌, add-one, arith, length, get_or, length-set, length-append, get_or-set_same, get_or-set_other}
use mathlib.Core.List.Memᴰ
use mathlib.Core.List.{Memᴰ}
use native.Mathlib.Decide.{ℕ_discrete}
use Rattle.table.specs.Limits.{read_limit}
use Rattle.table.proofs.SumLaws.{count_most}
use Rattle.bubble.specs.Distinct.{Distinct, Distinct.empty, Distinct.fresh}
use Rattle.rule.specs.Lists.{sum}
use Rattle.rule.specs.Tables.{count_of}
use Rattle.kept.specs.declared.paths.Along.{Along}
use Rattle.kept.specs.Steps.{Partable, Step, Step.keeps, Step.drops, Siftable, puts, Passing, Passing.begun, Passing.keeps, Passing.drops, Sifted}
use Rattle.kept.proofs.CountLaws.{distinct_sum}

pub length_puts : (xs l : List ℕ) (a : ℕ) → length (puts xs l a) ≡ length xs
length_puts xs [] a = refl
length_puts xs (v ∷ l) a = length-set (puts xs l a) v a ∙ length_puts xs l a

pub puts_listed : {v : ℕ} (xs l : List ℕ) (a : ℕ) → Memᴰ v l → v < length xs → get_or (puts xs l a) v 0 ≡ a
puts_listed xs [] a m h = absurd (Memᴰ.not-nil m)
puts_listed {v} xs (x ∷ l) a m h =
    elim (ℕ_discrete v x) [
      | yes q ↦ rw (← q) (get_or-set_same (puts xs l a) v a 0 (omega (arith, length_puts xs l a)))
      | no n ↦ get_or-set_other (puts xs l a) x v a 0 n ∙ puts_listed xs l a (⊎_elim (λ q. absurd (n q)) (λ i. i) (Memᴰ.cases_cons m)) h
    ]

pub puts_other : {v : ℕ} (xs l : List ℕ) (a : ℕ) → (Memᴰ v l → ⊥) → get_or (puts xs l a) v 0 ≡ get_or xs v 0
puts_other xs [] a n = refl
puts_other {v} xs (x ∷ l) a n = get_or-set_other (puts xs l a) x v a 0 (λ q. n (Memᴰ.head q)) ∙ puts_other xs l a (λ m. n (Memᴰ.tail m))

passing_some : {visited next : List ℕ} {k : ℕ} {arm gone : List ℕ} {kept : ℕ} → Passing visited next k arm gone kept → 0 < k
passing_some begun = omega arith
passing_some (keeps r q) = omega arith
passing_some (drops r n) = omega arith

-- the path has fewer inner vertices than are passed
pub inner_fewer : {visited next : List ℕ} {k : ℕ} {arm gone : List ℕ} {kept : ℕ} → Passing visited next k arm gone kept → length arm < k
inner_fewer begun = omega arith
inner_fewer (keeps {arm = arm} {kept = kept} r q) = omega (arith, inner_fewer r, length-append arm (kept ∷ []))
inner_fewer (drops r n) = omega (arith, inner_fewer r)

-- what is gone has a place after the entrance and before k
pub gone_place : {visited next : List ℕ} {k : ℕ} {arm gone : List ℕ} {kept v : ℕ} → Passing visited next k arm gone kept → Memᴰ v gone
    → (i : ℕ) × (0 < i) × (i < k) × (get_or visited i 0 ≡ v)
gone_place begun m = absurd (Memᴰ.not-nil m)
gone_place (keeps r q) m = let (i, a, b, e) = gone_place r m in (i, a, omega arith, e)
gone_place (drops {k = k} r n) m =
    ⊎_elim (λ q. (k, passing_some r, omega arith, sym q)) (λ j. let (i, a, b, e) = gone_place r j in (i, a, omega arith, e)) (Memᴰ.cases_cons m)

module _ {counts visited next out : List ℕ} (p : Siftable counts visited next out) where
  -- the next vertex is not gone yet
  next_new : {k : ℕ} {arm gone : List ℕ} {kept : ℕ} → Passing visited next k arm gone kept → k < length visited → Memᴰ (get_or visited k 0) gone → ⊥
  next_new {k} r l m = let (i, a, b, q) = gone_place r m in omega (arith, p.apart i k (omega arith) l q)

  pub gone_distinct : {k : ℕ} {arm gone : List ℕ} {kept : ℕ} → Passing visited next k arm gone kept → k ≤ length visited → Distinct gone
  gone_distinct begun l = empty
  gone_distinct (keeps r q) l = gone_distinct r (omega arith)
  gone_distinct (drops r n) l = fresh (next_new r (omega arith)) (gone_distinct r (omega arith))

  pub gone_below : {k : ℕ} {arm gone : List ℕ} {kept v : ℕ} → Passing visited next k arm gone kept → k ≤ length visited → Memᴰ v gone → v < length counts
  gone_below r l m = let (i, a, b, q) = gone_place r m in omega (arith, q, p.below i (omega arith))

  -- the sum of their counts fits
  pub gone_sum : {k : ℕ} {arm gone : List ℕ} {kept : ℕ} → Passing visited next k arm gone kept → k ≤ length visited → sum (count_of counts) gone ≤ read_limit
  gone_sum r l = omega (arith, distinct_sum counts (gone_distinct r l) (λ v m. gone_below r l m), p.sum_fits)

  -- the entrance is passed
  pub sift_one : (none : ℕ) → Sifted counts visited next out none 1 next out (record { kept = get_or next (get_or visited 0 0) 0; inner = 0; dropped = 0 })
  sift_one none = record { arm = []; gone = []; passing = begun; no_rows = refl; no_counts = refl; how_many = refl; dropped_sum = refl }

  module _ {none k : ℕ} {next' out' : List ℕ} {along : Along} (w : Sifted counts visited next out none k next' out' along) where
    pub sift_next_room : length next' ≡ length next
    sift_next_room = ap length w.no_rows ∙ length_puts next w.gone none

    pub sift_out_room : length out' ≡ length out
    sift_out_room = ap length w.no_counts ∙ length_puts out w.gone 0

    module _ (l : k < length visited) where
      pub sift_partable : k < 18446744073709551615 → Partable counts next' out' (get_or visited k 0) along
      sift_partable k-fits = record {
        counted = p.below k l;
        next_room = omega (arith, p.below k l, p.next_room, sift_next_room);
        out_room = omega (arith, p.below k l, p.out_room, sift_out_room);
        inner_fits = omega (arith, k-fits, w.how_many, inner_fewer w.passing);
        dropped_fits = omega (arith, w.dropped_sum, gone_sum w.passing (omega arith), count_most counts (get_or visited k 0) (p.below k l), p.sum_fits);
      }

      pub sift_more : {next'' out'' : List ℕ} {along'' : Along} → Step counts next' out' none (get_or visited k 0) along next'' out'' along''
          → Sifted counts visited next out none (k + 1) next'' out'' along''
      sift_more (keeps q) =
          let same : get_or next' (get_or visited k 0) 0 ≡ get_or next along.kept 0 =
          ap (λ xs. get_or xs (get_or visited k 0) 0) w.no_rows ∙ puts_other next w.gone none (next_new w.passing l) ∙ ap (λ v. get_or next v 0) q in
          rw (add-one k, same) (record {
            arm = w.arm ++ (along.kept ∷ []);
            gone = w.gone;
            passing = keeps w.passing q;
            no_rows = w.no_rows;
            no_counts = w.no_counts;
            how_many = omega (arith, w.how_many, length-append w.arm (along.kept ∷ []));
            dropped_sum = w.dropped_sum;
          })
      sift_more (drops n) =
          rw (add-one k) (record {
            arm = w.arm;
            gone = get_or visited k 0 ∷ w.gone;
            passing = drops w.passing n;
            no_rows = rw w.no_rows;
            no_counts = rw w.no_counts;
            how_many = w.how_many;
            dropped_sum = omega (arith, w.dropped_sum);
          })
