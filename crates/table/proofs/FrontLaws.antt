-- Laws of a slice that is filled from its front, and of one that becomes a copy of another. Assumes nothing.
use Prim.Native.Nat.{ℕ, ◌+◌, ◌<◌}
use mathlib.Core.Path.{◌≡◌, sym, ap, ◌∙◌}
use mathlib.Core.List.{List, [], ◌∷◌, ◌++◌, append_assoc}
use native.Mathlib.Numerals.{add-one}
use lib.ListN.{length, get_or, take, drop, set}
use lib.Seq.{drop-cons, set_at, take_at}
use Rattle.table.specs.Table.{Table}
use Rattle.table.specs.Lent.{AtFronts, fronts}

-- the number at a place, and the rest
pub one_at : (list : List ℕ) (at : ℕ) → at < length list → drop at list ≡ get_or list at 0 ∷ drop (at + 1) list
one_at list at h = rw (add-one at) (drop-cons list at 0 h)

-- a store right behind a front that stands over a list
pub front_more : (front list : List ℕ) (v n : ℕ) → length front ≡ n → n < length list → set (front ++ drop n list) n v ≡ front ++ v ∷ [] ++ drop (n + 1) list
front_more front list v n e h =
    rw (one_at list n h, set_at front (get_or list n 0) (drop (n + 1) list) v n e) (sym (append_assoc front (v ∷ []) (drop (n + 1) list)))

-- a table that stands at the fronts of slices is what their fronts hold
pub fronts_are : {n m : ℕ} {table lent after : Table} → AtFronts n m table lent after
    → length table.rows.starts ≡ n + 1 → length table.rows.targets ≡ m → length table.counts ≡ n → fronts n m after ≡ table
fronts_are {n} {m} {table} {lent} at long-starts long-targets long-counts =
    let starts = ap (take (n + 1)) at.starts_front ∙ take_at table.rows.starts (drop (n + 1) lent.rows.starts) (n + 1) long-starts in
    let targets = ap (take m) at.targets_front ∙ take_at table.rows.targets (drop m lent.rows.targets) m long-targets in
    let counts = ap (take n) at.counts_front ∙ take_at table.counts (drop n lent.counts) n long-counts in
    λ i. record { rows = record { starts = starts i; targets = targets i }; counts = counts i }
