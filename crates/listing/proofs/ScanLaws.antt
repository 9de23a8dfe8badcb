-- The scan over all entrances: what holds after each, from the first to the last. Assumes nothing.
use Rattle.std.proofs.Common.{ℕ, ◌+◌, ◌*◌, ◌≤◌, ◌<◌, ◌≡◌, ap, ◌∙◌, List, [], ◌∷◌, ◌++◌, append_assoc, arith, length, drop, set, length-append, Option, Some, None}
use Rattle.table.specs.Table.{Rows, size, edges, Sound}
use Rattle.table.proofs.FrontLaws.{front_more}
use Rattle.table.proofs.RowLaws.{edges_below}
use Rattle.bubble.specs.Superbubble.{Superbubble}
use Rattle.bubble.proofs.Number.{entrance_below}
use Rattle.bubble.proofs.Unique.{exit_unique}
use Rattle.parents.specs.Parents.{Parents}
use Rattle.search.specs.declared.Exit.{Exit}
use Rattle.search.specs.Search.{Sought}
use Rattle.listing.specs.Listing.{ListedAt}
use Rattle.listing.specs.Steps.{Line}
use Rattle.listing.proofs.ListLaws.{Before, listed_same, listed_without, listed_more}

-- the superbubbles whose entrance is below s stand at the front of the slice, and what the search needs is as it was
pub record Scan (rows : Rows) (parents pending order out out' : List ℕ) (found s : ℕ) : Type 0 where
  pub sound : Sound rows
  pub counted : Parents (size rows) rows.targets parents
  pub whole : pending ≡ parents
  pub order_room : size rows ≤ length order
  pub passed : s ≤ size rows
  pub few : found ≤ s
  pub room : 2 * size rows ≤ length out
  pub lines : ListedAt (Before (Superbubble (edges rows)) s) out out' found

-- two numbers more at the front of a slice
two_more : (front list : List ℕ) (a b k : ℕ) → length front ≡ k → k + 2 ≤ length list
    → set (set (front ++ drop k list) k a) (k + 1) b ≡ front ++ a ∷ b ∷ [] ++ drop (k + 2) list
two_more front list a b k e h =
    let long : length (front ++ a ∷ []) ≡ k + 1 = length-append front (a ∷ []) ∙ omega arith in
    let next : k + 1 + 1 ≡ k + 2 = omega arith in
    ap (λ (l : List ℕ). set l (k + 1) b) (front_more front list a k e (omega arith))
    ∙ rw next at (front_more (front ++ a ∷ []) list b (k + 1) long (omega arith))
    ∙ ap (λ (l : List ℕ). l ++ drop (k + 2) list) (append_assoc front (a ∷ []) (b ∷ []))

module _ {rows : Rows} {parents pending order out out' : List ℕ} {found s : ℕ} (scan : Scan rows parents pending order out out' found s) where
  next_lines : {pending' order' out'' : List ℕ} {r : ℕ} (exit : Option Exit) → s < size rows → Sought rows.starts rows.targets pending order pending' order' s exit
      → Line out' out'' found s exit r → (r ≤ s + 1) × ListedAt (Before (Superbubble (edges rows)) (s + 1)) out out'' r
  next_lines (Some exit) h sought line =
      let lines = scan.lines in
      let P = Superbubble (edges rows) in
      let t = exit.vertex in
      let bubble : P s t = sought.searched.superbubble in
      let twice : 2 * (found + 1) ≡ 2 * found + 2 = omega arith in (
        omega (arith, line.0, scan.few),
        rw line.0
            (record {
              pairs = lines.pairs ++ s ∷ t ∷ [];
              listed = listed_more P s t bubble (λ x b. exit_unique b bubble) lines.listed;
              front =
                  rw twice
                  (line.1
                  ∙ ap (λ (l : List ℕ). set (set l (2 * found) s) (2 * found + 1) t) lines.front
                  ∙ two_more lines.pairs out s t (2 * found) lines.listed.long (omega (arith, scan.few, scan.room)));
            }),
      )
  next_lines None h sought line =
      let lines = scan.lines in (
        omega (arith, line.0, scan.few),
        rw line.0
            (record {
              pairs = lines.pairs;
              listed = listed_without (Superbubble (edges rows)) s sought.searched lines.listed;
              front = line.1 ∙ lines.front;
            }),
      )

  -- one entrance more
  pub scan_more : {pending' order' out'' : List ℕ} {r : ℕ} (exit : Option Exit) → s < size rows → Sought rows.starts rows.targets pending order pending' order' s exit
      → Line out' out'' found s exit r → Scan rows parents pending' order' out out'' r (s + 1)
  scan_more exit h sought line =
      let next = next_lines exit h sought line in
      record {
        sound = scan.sound;
        counted = scan.counted;
        whole = sought.whole ∙ scan.whole;
        order_room = omega (arith, sought.room, scan.order_room);
        passed = omega arith;
        few = next.0;
        room = scan.room;
        lines = next.1;
      }

  -- all entrances passed
  pub scan_done : size rows ≤ s → ListedAt (Superbubble (edges rows)) out out' found
  scan_done h =
      record {
        pairs = scan.lines.pairs;
        listed =
            listed_same scan.lines.listed (λ x y b. b.1)
            (λ x y b. (let l : x < s = omega (arith, entrance_below (edges_below scan.sound) b.bubbloid) in l, b));
        front = scan.lines.front;
      }
