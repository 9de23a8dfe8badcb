-- The scan over all entrances of a table: what holds after each, from the first to the last. Assumes nothing.
use Rattle.std.proofs.Common.{Option, Some, None, ℕ, ◌+◌, ◌-◌, ◌≤◌, ◌<◌, ◌≡◌, refl, sym, ◌∙◌, ◌≢◌, ◌↔◌, List, arith, length, get_or, drop, length-drop, get_or-drop}
use native.Mathlib.Decide.{dec_lt}
use Rattle.table.specs.Table.{In, Below, Rows, size, edges}
use Rattle.table.proofs.RowLaws.{edges_below}
use Rattle.bubble.specs.Superbubble.{Interior}
use Rattle.bubble.proofs.Number.{exit_below, interior_below}
use Rattle.bubble.proofs.Unique.{exit_unique}
use Rattle.search.specs.declared.Exit.{Exit}
use Rattle.search.specs.Search.{Visited, Searched, Sought}
use Rattle.rule.specs.Rings.{Passable}
use Rattle.rule.specs.Way.{candidates_of}
use Rattle.rule.specs.declared.Rings.{Rings}
use Rattle.rule.proofs.Passable.{passed_once}
use Rattle.skipping.specs.Skipping.{Skips, Found, Admitted, Admitted.unasked, Admitted.nothing, Admitted.passed, Admitted.skipped}
use Rattle.parents.proofs.PlaceLaws.{in_take, take_in}
use Rattle.candidates.specs.Candidates.{entrances, FindDone}
use Rattle.candidates.specs.Steps.{inner, Notable, Noted, Filled, taken_of, Passed, Scan}
use Rattle.candidates.proofs.PassLaws.{by_entrance, pass_ruled, pass_none, pass_taken, pass_most, pass_sound, pass_no_other}

-- what stands behind the first of the first k has a place below k
inner_place : (v : ℕ) (order : List ℕ) (k : ℕ) → k ≤ length order → In v (inner order k) → (i : ℕ) × (i + 1 < k) × (get_or order (i + 1) 0 ≡ v)
inner_place v order k h i =
    elim (dec_lt k 1) [
      | yes l ↦ absurd (let none : k - 1 ≡ 0 = omega arith in let empty = rw none at i.inside in let no : ⊥ = omega arith in no)
      | no m ↦
          let (j, b, q) = take_in v (drop 1 order) (k - 1) (omega (arith, length-drop 1 order)) i in
          let next : 1 + j ≡ j + 1 = omega arith in
          (j, omega arith, rw next at (sym (get_or-drop 1 order j 0) ∙ q))
    ]

place_inner : (order : List ℕ) (k i : ℕ) → k ≤ length order → i + 1 < k → In (get_or order (i + 1) 0) (inner order k)
place_inner order k i h l =
    let next : 1 + i ≡ i + 1 = omega arith in
    rw (rw next at (get_or-drop 1 order i 0)) at (in_take (drop 1 order) (k - 1) i (omega arith) (omega (arith, length-drop 1 order)))

-- what was visited behind the entrance is the interior
module _ {rows : Rows} {order : List ℕ} {s t k : ℕ} (visited : Visited rows.starts rows.targets order s t k) where
  inner_is : (v : ℕ) → In v (inner order k) ↔ Interior (edges rows) s t v
  inner_is v = (to, back)
    where
      to : In v (inner order k) → Interior (edges rows) s t v
      to i =
          let (j, l, q) = inner_place v order k visited.room i in
          let (f, n) = (visited.whole v).0 (rw q at (in_take order k (j + 1) l visited.room)) in
          let behind : v ≢ s = λ e. omega (arith, visited.apart (j + 1) 0 l visited.some (q ∙ e ∙ sym visited.first)) in
          record { inside = f; not_entrance = behind; not_exit = n }

      back : Interior (edges rows) s t v → In v (inner order k)
      back i =
          let (j, l, q) = take_in v order k visited.room ((visited.whole v).1 (i.inside, i.not_exit)) in
          elim (dec_lt 0 j) [
            | yes h ↦
                let next : j - 1 + 1 ≡ j = omega arith in
                rw q at (rw next at (place_inner order k (j - 1) visited.room (omega arith)))
            | no m ↦ let zero : j ≡ 0 = omega arith in absurd (i.not_entrance (sym q ∙ rw zero visited.first))
          ]

  -- nothing behind it, nothing taken
  no_interior : k < 2 → (rings : Rings) (x : ℕ) → taken_of rings (edges rows) s x → ⊥
  no_interior h rings x p =
      let f = (by_entrance rings).filled p in
      let q : x ≡ t = exit_unique f.superbubble visited.superbubble in
      let (v, i) = rw q at f.interior in
      let (j, l, e) = inner_place v order k visited.room ((inner_is v).1 i) in
      omega arith

  filled : 2 ≤ k → Filled (edges rows) s t
  filled h = record { superbubble = visited.superbubble; interior = (get_or order 1 0, (inner_is (get_or order 1 0)).0 (place_inner order k 0 visited.room (omega arith))) }

  -- one that is skipped is not taken,
  skipped_none : Skips (edges rows) s t k → (x : ℕ) → Passable (edges rows) s x → ⊥
  skipped_none skips x p =
      let q : x ≡ t = exit_unique p.superbubble visited.superbubble in
      passed_once p (rw q skips.leads_back.bare_edge) (rw q skips.leads_back.way_back)

  -- and one that is not skipped is
  passable : 2 ≤ k → (Skips (edges rows) s t k → ⊥) → Passable (edges rows) s t
  passable h none = record {
    superbubble = visited.superbubble;
    interior = (filled h).interior;
    not_skipped = λ q. none (record { inner = h; leads_back = record { bare_edge = q.bare_edge; way_back = q.way_back } });
  }

-- what is left of what a search from s found: the visiting order of a superbubble that is taken if it has an interior, or that none begins at s that is taken
abbrev Left : Rings → Rows → ℕ → Option Exit → List ℕ → Type 0
Left rings rows s (Some exit) order = Visited rows.starts rows.targets order s exit.vertex exit.visited × (2 ≤ exit.visited → taken_of rings (edges rows) s exit.vertex)
Left rings rows s None order = (t : ℕ) → taken_of rings (edges rows) s t → ⊥

admitted_left : {rings : Rings} {rows : Rows} {s : ℕ} (exit exit' : Option Exit) (order : List ℕ) → Searched rows.starts rows.targets s exit order
    → Admitted (edges rows) s rings exit exit' → Left rings rows s exit' order
admitted_left {rows = rows} (Some exit) exit' order visited unasked = (visited, filled {rows = rows} visited)
admitted_left None exit' order found unasked = λ t p. found t p.superbubble
admitted_left None exit' order found nothing = λ t p. found t p.superbubble
admitted_left {rows = rows} (Some exit) exit' order visited (passed free) = (visited, λ h. passable {rows = rows} visited h free)
admitted_left {rows = rows} (Some exit) exit' order visited (skipped skips) = skipped_none {rows = rows} visited skips

module _ {rings : Rings} {rows : Rows} {parents pending order exits : List ℕ} {s : ℕ} (scan : Scan rings rows parents pending order exits s) where
  -- what the search from s found can be asked whether it is skipped,
  pub scan_found : (exit : Option Exit) (order' : List ℕ) → s < size rows → Searched rows.starts rows.targets s exit order' → Found rows.starts rows.targets s exit
  scan_found (Some exit) order' h visited =
      record { well_formed = scan.well_formed; entrance = h; exit = exit_below (edges_below scan.well_formed) visited.superbubble.bubbloid }
  scan_found None order' h none = tt

  -- and what is left of it can be noted
  left_notable : (exit : Option Exit) (order' : List ℕ) → s < size rows → Left rings rows s exit order' → Notable order' exits s exit
  left_notable (Some exit) order' h (visited, taken) =
      record { vertex = omega (arith, scan.passed.each); few = omega (arith, scan.passed.each, scan.well_formed.most_vertices); room = visited.room; below = below }
    where
      below : Below (length exits) (inner order' exit.visited)
      below i l =
          let inside = (inner_is {rows = rows} visited (get_or (inner order' exit.visited) i 0)).0 (record { place = i; inside = l; stands = refl }) in
          omega (arith, scan.passed.each, interior_below (edges_below scan.well_formed) inside)
  left_notable None order' h none = (omega (arith, scan.passed.each), omega (arith, scan.passed.each, scan.well_formed.most_vertices))

  pub scan_notable : (exit exit' : Option Exit) (order' : List ℕ) → s < size rows → Searched rows.starts rows.targets s exit order'
      → Admitted (edges rows) s rings exit exit' → Notable order' exits s exit'
  scan_notable exit exit' order' h searched admitted = left_notable exit' order' h (admitted_left exit exit' order' searched admitted)

  -- s is ruled out
  pub scan_ruled : s < size rows → get_or exits s 0 ≡ length exits → Scan rings rows parents pending order exits (s + 1)
  scan_ruled h q =
      record {
        well_formed = scan.well_formed;
        counted = scan.counted;
        whole = scan.whole;
        room = scan.room;
        passed = pass_ruled rings scan.passed h (q ∙ scan.passed.each);
      }

  next : (exit : Option Exit) (order' exits' : List ℕ) → s < size rows → get_or exits s 0 ≢ length exits
      → Left rings rows s exit order' → Noted order' exits exits' s exit → Passed rings (edges rows) (size rows) (s + 1) exits'
  next (Some exit) order' exits' h free (visited, taken) noted =
      let long = scan.passed.each in
      elim (dec_lt exit.visited 2) [
        | yes l ↦ rw (noted.empty l, long) (pass_none rings scan.passed h (no_interior {rows = rows} visited l rings))
        | no n ↦
            let l : 2 ≤ exit.visited = omega arith in
            pass_taken rings scan.passed h (rw long at free) (exit_below (edges_below scan.well_formed) visited.superbubble.bubbloid) (taken l)
            (inner_is {rows = rows} visited) (rw long at (noted.taken l))
      ]
  next None order' exits' h free none noted = rw (noted, scan.passed.each) (pass_none rings scan.passed h none)

  -- what is left of what the search from s found was noted
  pub scan_noted : {pending' order' exits' : List ℕ} (exit exit' : Option Exit) → s < size rows → get_or exits s 0 ≢ length exits
      → Sought rows.starts rows.targets pending order pending' order' s exit → Admitted (edges rows) s rings exit exit' → Noted order' exits exits' s exit'
      → Scan rings rows parents pending' order' exits' (s + 1)
  scan_noted {order' = order'} {exits' = exits'} exit exit' h free sought admitted noted =
      record {
        well_formed = scan.well_formed;
        counted = scan.counted;
        whole = sought.whole ∙ scan.whole;
        room = omega (arith, sought.room, scan.room);
        passed = next exit' order' exits' h free (admitted_left exit exit' order' sought.searched admitted) noted;
      }

  -- all entrances are passed
  pub scan_done : {found : ℕ} → size rows ≤ s → found ≡ length (entrances exits) → FindDone (candidates_of rings) rows parents pending order exits found
  scan_done h number =
      let below = edges_below scan.well_formed in
      record {
        candidates = record {
          each = scan.passed.each;
          most = pass_most rings below scan.passed h;
          sound = pass_sound rings below scan.passed h;
          none = pass_no_other rings below scan.passed h;
        };
        number = number;
        counted = scan.counted;
        whole = scan.whole;
        room = scan.room;
      }
