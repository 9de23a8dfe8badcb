-- The new table while it is written: what holds after each vertex, from the first to the last. Assumes nothing.
use Rattle.std.proofs.Common.{ℕ, suc, ◌+◌, ◌≤◌, ◌<◌, ◌≡◌, refl, sym, ap, ◌∙◌, List, [], ◌∷◌, ◌++◌}
use Rattle.std.proofs.Common.{not-suc-le-zero, add-one, arith, length, get_or, drop, set, length-append, length-drop, take_at, drop_at, drop-drop}
use lib.Seq.{take-length}
use Rattle.table.specs.Table.{row, Rows, size}
use Rattle.table.proofs.RowLaws.{start_most, row_below, next_start}
use Rattle.table.proofs.FrontLaws.{front_more}
use Rattle.staying.specs.Staying.{staying, Put, TableReady, EdgesStay, TableWritten}
use Rattle.staying.proofs.LaidRows.{laid, begins, laid_more, begins_length, edge_laid, well_formed_laid}
use Rattle.staying.proofs.StayingLaws.{stays_none, stays_one, stays_whole, stays_below, stays_rising, stays_few, in_one}

-- a row written right behind a front that stands over a list
row_more : (front list list' new : List ℕ) (at r : ℕ) → length front ≡ at → Put new (front ++ drop at list) list' at r → list' ≡ front ++ new ++ drop r list
row_more front list list' new at r long put =
    let rest : drop (at + length new) (front ++ drop at list) ≡ drop r list =
    sym (drop-drop (length new) at (front ++ drop at list)) ∙ ap (drop (length new)) (drop_at front (drop at list) at long)
    ∙ drop-drop (length new) at list ∙ ap (λ (k : ℕ). drop k list) (sym put.behind) in
    put.written ∙ rw (take_at front (drop at list) at long, take-length new, rest) refl

-- the rows of the new table
abbrev pub new_row : Rows → List ℕ → ℕ → List ℕ
new_row rows next v = staying (size rows) (get_or next v 0) (row rows.starts rows.targets v)

-- the new table
abbrev pub new_rows : Rows → List ℕ → Rows
new_rows rows next = record { starts = begins (new_row rows next) (suc (size rows)); targets = laid (new_row rows next) (size rows) }

-- the edges of the new table are those that stay
new_edges : (rows : Rows) (next : List ℕ) → EdgesStay rows next (new_rows rows next)
new_edges rows next =
    let new = new_row rows next in
    let old = row rows.starts rows.targets in
    let n = size rows in
    record {
      whole =
          λ u e v.
          let all = stays_whole n (get_or next u 0) (old u) e in (
            λ i. let inside = (edge_laid new n u v).0 i in record { vertex = inside.0; listed = rw all at inside.1 },
            λ i. (edge_laid new n u v).1 (i.vertex, rw all i.listed),
          );
      one =
          λ u h l v.
          let only = stays_one n (get_or next u 0) (old u) l in (
            λ i. (in_one v (get_or next u 0)).0 (rw only at ((edge_laid new n u v).0 i).1),
            λ e. (edge_laid new n u v).1 (h, rw only ((in_one v (get_or next u 0)).1 e)),
          );
      none =
          λ u h v i.
          let nothing = rw (stays_none n (get_or next u 0) (old u) h) at ((edge_laid new n u v).0 i).1 in
          not-suc-le-zero nothing.inside;
    }

-- the new rows of the vertices below v stand at the front of the targets, and their starts at the front of the starts
pub record RowsWritten (rows : Rows) (next : List ℕ) (lent after : Rows) (at v : ℕ) : Type 0 where
  pub passed : v ≤ size rows
  pub place : length (laid (new_row rows next) v) ≡ at
  pub few : at ≤ get_or rows.starts v 0
  pub starts_front : after.starts ≡ begins (new_row rows next) v ++ drop v lent.starts
  pub targets_front : after.targets ≡ laid (new_row rows next) v ++ drop at lent.targets

module _ {rows : Rows} {next : List ℕ} {lent : Rows} (ready : TableReady rows next lent) where
  open rows use {starts, targets}

  -- a row does not grow
  row_few : (v : ℕ) → v < size rows → get_or starts v 0 + length (new_row rows next v) ≤ get_or starts (v + 1) 0
  row_few v h = omega (arith, next_start ready.well_formed v h, stays_few (size rows) (get_or next v 0) (row starts targets v) (λ l. (ready.next_edge v h l).listed))

  module _ {after : Rows} {at v : ℕ} (done : RowsWritten rows next lent after at v) where
    pub place_most : at ≤ length targets
    place_most = omega (arith, done.few, start_most starts (length targets) ready.well_formed.starts_fit v (omega (arith, done.passed, ready.well_formed.some)))

    -- the targets keep their length
    pub targets_length : length after.targets ≡ length lent.targets
    targets_length =
        ap length done.targets_front ∙ length-append (laid (new_row rows next) v) (drop at lent.targets)
        ∙ omega (arith, done.place, length-drop at lent.targets, place_most, ready.targets_room)

    -- there is room for the next row
    pub row_room : v < size rows → at + length (new_row rows next v) ≤ length after.targets
    row_room h =
        omega (
          arith,
          done.few,
          row_few v h,
          start_most starts (length targets) ready.well_formed.starts_fit (v + 1) (omega arith),
          ready.targets_room,
          targets_length,
        )

    starts_more : set after.starts v at ≡ begins (new_row rows next) (suc v) ++ drop (v + 1) lent.starts
    starts_more =
        let new = new_row rows next in
        ap (λ (l : List ℕ). set l v at) done.starts_front
        ∙ front_more (begins new v) lent.starts at v (begins_length new v) (omega (arith, done.passed, ready.starts_room))
        ∙ ap (λ (k : ℕ). begins new v ++ k ∷ [] ++ drop (v + 1) lent.starts) (sym done.place)

    -- one vertex more
    pub written_more : v < size rows → {targets'' : List ℕ} {r : ℕ} → Put (new_row rows next v) after.targets targets'' at r
        → RowsWritten rows next lent (record { starts = set after.starts v at; targets = targets'' }) r (v + 1)
    written_more h {targets''} {r} put =
        let new = new_row rows next in
        let few : r ≤ get_or starts (v + 1) 0 = omega (arith, done.few, row_few v h, put.behind) in
        rw (add-one v) (record {
          passed = omega arith;
          place = laid_more new v ∙ omega (arith, done.place, put.behind);
          few = rw (add-one v) at few;
          starts_front = rw (add-one v) at starts_more;
          targets_front = row_more (laid new v) lent.targets targets'' (new v) at r done.place (rw done.targets_front at put);
        })

    -- all vertices passed, and the last start
    pub written_all : size rows ≤ v → TableWritten rows next lent (record { starts = set after.starts (size rows) at; targets = after.targets }) at
    written_all h =
        let new = new_row rows next in
        let n = size rows in
        let last : v ≡ n = omega (arith, done.passed) in
        let few : at ≤ length targets = place_most in
        let place : length (laid new n) ≡ at = rw last at done.place in
        let ok = ready.well_formed in
        record {
          result = new_rows rows next;
          starts_front = rw last at starts_more;
          targets_front = rw last at done.targets_front;
          edge_count = place;
          well_formed =
              well_formed_laid new n (omega (arith, ok.most_vertices)) (omega (arith, ok.most_edges))
              (λ u l. stays_below n (get_or next u 0) (row starts targets u) (row_below starts targets ok.targets_below u))
              (λ u l. stays_rising n (get_or next u 0) (row starts targets u) (ok.rows_rise u l));
          as_many = begins_length new (suc n) ∙ omega (arith, ok.some);
          fewer = few;
          edges_stay = new_edges rows next;
        }
