-- Laws of the entrances: one vertex more, as a caller meets them who goes over the vertices in turn; and that they are listed. Assumes nothing.
use Rattle.std.proofs.Common.{Bool, refl, sym, ℕ, zero, suc, ◌+◌, ◌≤◌, ◌<◌, ◌≡◌, ap, ◌∙◌, List, [], ◌∷◌, ◌++◌}
use Rattle.std.proofs.Common.{ltb, take, count_by, append-nil, add-one, arith, lt-ltb, le-ltb, length, get_or, length-append}
use lib.Seq.{take-length}
use Rattle.std.proofs.lemmas.List.Sums.{count_by_more_yes, count_by_more_no}
use mathlib.Core.List.Memᴰ
use native.Mathlib.Decide.{dec_lt}
use Rattle.rule.specs.Lists.{Rising.empty, Listing}
use Rattle.rule.proofs.Listings.{listing_grows, listing_stays}
use Rattle.candidates.specs.Candidates.{entrances_below, entrances}

-- s is an entrance
pub entrance_more : (exits : List ℕ) (s : ℕ) → get_or exits s 0 < length exits → entrances_below exits (s + 1) ≡ entrances_below exits s ++ s ∷ []
entrance_more exits s h = rw (add-one s, lt-ltb (get_or exits s 0) (length exits) h)

-- s is none
pub entrance_none : (exits : List ℕ) (s : ℕ) → length exits ≤ get_or exits s 0 → entrances_below exits (s + 1) ≡ entrances_below exits s
entrance_none exits s h = rw (add-one s, le-ltb (get_or exits s 0) (length exits) h) (append-nil (entrances_below exits s))

pub count_more : (exits : List ℕ) (s : ℕ) → get_or exits s 0 < length exits → length (entrances_below exits (s + 1)) ≡ length (entrances_below exits s) + 1
count_more exits s h = ap length (entrance_more exits s h) ∙ length-append (entrances_below exits s) (s ∷ [])

pub count_none : (exits : List ℕ) (s : ℕ) → length exits ≤ get_or exits s 0 → length (entrances_below exits (s + 1)) ≡ length (entrances_below exits s)
count_none exits s h = ap length (entrance_none exits s h)

-- a vertex that has an exit and is below s
abbrev pub HasExit : List ℕ → ℕ → ℕ → Type 0
HasExit exits s v = (v < s) × (get_or exits v 0 < length exits)

-- the entrances below s rise, and are the vertices below s that have an exit
pub listed_below : (exits : List ℕ) (s : ℕ) → Listing (HasExit exits s) (entrances_below exits s)
listed_below exits zero = record { rising = empty; holds = λ v. (λ m. absurd (Memᴰ.not-nil m), λ h. absurd (omega (arith, h.0))) }
listed_below exits (suc s) =
    elim (dec_lt (get_or exits s 0) (length exits)) [
      | yes h ↦ rw (lt-ltb (get_or exits s 0) (length exits) h) (listing_grows {P = λ v. get_or exits v 0 < length exits} h (listed_below exits s))
      | no n ↦ rw (le-ltb (get_or exits s 0) (length exits) (omega arith), append-nil (entrances_below exits s)) (listing_stays {P = λ v. get_or exits v 0 < length exits} n (listed_below exits s))
    ]

-- all of them
pub entrances_are : (exits : List ℕ) → Listing (HasExit exits (length exits)) (entrances exits)
entrances_are exits = listed_below exits (length exits)

-- as many as the exits that are vertices
counted_below : (exits : List ℕ) (s : ℕ) → s ≤ length exits → length (entrances_below exits s) ≡ count_by (λ x. ltb x (length exits)) (take s exits)
counted_below exits zero h = refl
counted_below exits (suc s) h =
    let test : ℕ → Bool = λ x. ltb x (length exits) in
    let before = counted_below exits s (omega arith) in
    let next : length (entrances_below exits (s + 1)) ≡ count_by test (take (s + 1) exits) =
    elim (dec_lt (get_or exits s 0) (length exits)) [
      | yes l ↦ omega (arith, before, count_more exits s l, count_by_more_yes test exits s 0 (omega arith) (lt-ltb (get_or exits s 0) (length exits) l))
      | no n ↦ omega (arith, before, count_none exits s (omega arith), count_by_more_no test exits s 0 (omega arith) (le-ltb (get_or exits s 0) (length exits) (omega arith)))
    ] in
    rw (add-one s) at next

pub entrances_counted : (exits : List ℕ) → count_by (λ x. ltb x (length exits)) exits ≡ length (entrances exits)
entrances_counted exits = sym (counted_below exits (length exits) (omega arith) ∙ ap (count_by (λ x. ltb x (length exits))) (take-length exits))
