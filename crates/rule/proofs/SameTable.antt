-- Tables and graphs: well-formed tables with as many vertices, the same edges and the same counts are the same, and the sum of the counts is the total over all vertices. Assumes nothing.
use Prim.Native.Nat.{ℕ, suc, ◌+◌, ◌<◌}
use mathlib.Core.Path.{◌≡◌, refl, sym, ◌∙◌, ap}
use mathlib.Core.Logic.{◌↔◌, ⊎_elim}
use mathlib.Core.List.Memᴰ
use mathlib.Core.List.{List, [], ◌∷◌, Memᴰ}
use native.Mathlib.Numerals.{add-one}
use native.Mathlib.Omega.{arith}
use lib.ListN.{length}
use lib.Seq.{ext_get_or}
use Rattle.table.specs.Table.{vertices, row, In, Rises, count_sum, Rows, Table, edges, Sound}
use Rattle.table.proofs.SameRows.{same_by_row}
use Rattle.bubble.proofs.Pigeonhole.{getD_in, place_of}
use Rattle.rule.specs.Lists.{Rising, Rising.empty, Rising.first, total, Same}
use Rattle.rule.specs.Tables.{count_of}
use Rattle.rule.proofs.Listings.{rising_unique}
use Rattle.rule.proofs.Sums.{total_first}

rises_tail : (x : ℕ) (l : List ℕ) → Rises (x ∷ l) → Rises l
rises_tail x l h k b = rw add-one (rw add-one at (h (suc k) (omega arith)))

first_smallest : {w : ℕ} (x : ℕ) (l : List ℕ) → Rises (x ∷ l) → Memᴰ w l → x < w
first_smallest x [] h m = absurd (Memᴰ.not-nil m)
first_smallest {w} x (y ∷ l) h m =
    let b : x < y = h 0 (omega arith) in
    ⊎_elim (λ q. rw q b) (λ k. omega (arith, first_smallest y l (rises_tail x (y ∷ l) h) k)) (Memᴰ.cases_cons m)

rising_row : (l : List ℕ) → Rises l → Rising l
rising_row [] h = empty
rising_row (x ∷ l) h = first (λ w. first_smallest x l h) (rising_row l (rises_tail x l h))

in_list : {v : ℕ} {l : List ℕ} → In v l ↔ Memᴰ v l
in_list {v} {l} =
    (λ i. Memᴰ.cast (sym i.stands) (getD_in l i.place i.inside), λ m. let (j, h, q) = place_of m in record { place = j; inside = h; stands = q })

module _ {rows rows' : Rows} (w : Sound rows) (w' : Sound rows') (n : length rows.starts ≡ length rows'.starts)
    (same : (u v : ℕ) → edges rows u v ↔ edges rows' u v) where
  open rows use {starts, targets}
  open rows' use {starts as starts', targets as targets'}

  row_same : (v : ℕ) → v < vertices starts → row starts targets v ≡ row starts' targets' v
  row_same v h =
      let h' : v < vertices starts' = omega arith in
      rising_unique (rising_row (row starts targets v) (w.rows_rise v h)) (rising_row (row starts' targets' v) (w'.rows_rise v h'))
      (λ x m. in_list.0 ((same v x).0 (record { vertex = h; listed = in_list.1 m })).listed)
      (λ x m. in_list.0 ((same v x).1 (record { vertex = h'; listed = in_list.1 m })).listed)

  pub same_rows : rows ≡ rows'
  same_rows = same_by_row w w' n row_same

pub same_tables : {table table' : Table} → Sound table.rows → Sound table'.rows → length table.rows.starts ≡ length table'.rows.starts
    → length table.counts ≡ length table'.counts
    → Same (edges table.rows) (edges table'.rows) (count_of table.counts) (count_of table'.counts) → table ≡ table'
same_tables {table} {table'} w w' n m s =
    let q = same_rows w w' n s.edges in
    let r = ext_get_or 0 table.counts table'.counts m (λ v h. s.counts v) in
    λ i. record { rows = q i; counts = r i }

pub total_of_counts : (counts : List ℕ) → total (count_of counts) (length counts) ≡ count_sum counts
total_of_counts [] = refl
total_of_counts (x ∷ l) = total_first (count_of (x ∷ l)) (length l) ∙ ap (λ (k : ℕ). x + k) (total_of_counts l)
