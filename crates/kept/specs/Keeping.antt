-- What keeping the best path of one candidate states: its item of the fold, the one successor of each kept vertex, and the new counts. Assumes nothing.
use Rattle.std.specs.Prelude.{ℕ, ◌+◌, ◌≤◌, ◌<◌, ◌≡◌, length, get_or}
use mathlib.Core.List.{List, [], ◌∷◌, ◌++◌, Memᴰ}
use Rattle.table.specs.Table.{Table, size, edges, SoundTable}
use Rattle.bubble.specs.Superbubble.{F, Interior}
use Rattle.search.specs.Search.{Visited}
use Rattle.rule.specs.Lists.{CandidateSet, sum, Follows}
use Rattle.rule.specs.Fold.{Rule, Item, Fits}
use Rattle.rule.specs.Tables.{count_of}
use Rattle.rule.specs.Next.{no_row}

-- what is handed over: a table with its counts, a candidate with the visiting order of its U less its exit t, and room for each vertex
pub record Keepable (C : CandidateSet) (table : Table) (visited : List ℕ) (t : ℕ) (best next out : List ℕ) : Type 0 where
  pub counted : SoundTable table
  pub order : Visited table.rows.starts table.rows.targets visited (get_or visited 0 0) t (length visited)
  pub candidate : C (edges table.rows) (get_or visited 0 0) t
  pub best_room : size table.rows ≤ length best
  pub next_room : size table.rows ≤ length next
  pub out_room : size table.rows ≤ length out

-- what is left: the item of the candidate s, t; its kept path by `next`; its counts in `out`; and all else as it was
pub record KeptDone (C : CandidateSet) (R : Rule) (table : Table) (s t : ℕ) (best next out best' next' out' : List ℕ) : Type 0 where
  pub item : Item
  pub entrance : item.entrance ≡ s
  pub exit : item.exit ≡ t
  pub fits : Fits C R (edges table.rows) (count_of table.counts) item
  -- from each vertex of the kept path to the next
  pub on_path : (u w : ℕ) → Follows (s ∷ item.arm ++ (t ∷ [])) u w → get_or next' u 0 ≡ w
  pub off_path : (v : ℕ) → Memᴰ v item.dropped → get_or next' v 0 ≡ no_row (size table.rows)
  -- a vertex that is not in U, or is the exit
  pub elsewhere : (v : ℕ) → (F (edges table.rows) s t v → v ≡ t) → get_or next' v 0 ≡ get_or next v 0
  -- each kept inner vertex gets its portion of the dropped counts
  pub added : (j : ℕ) → j < length item.arm
      → get_or out' (get_or item.arm j 0) 0
      ≡ get_or table.counts (get_or item.arm j 0) 0 + R.portion (sum (count_of table.counts) item.dropped) (length item.arm) j
  pub emptied : (v : ℕ) → Memᴰ v item.dropped → get_or out' v 0 ≡ 0
  pub untouched : (v : ℕ) → (Interior (edges table.rows) s t v → ⊥) → get_or out' v 0 ≡ get_or out v 0
  pub same_best : length best' ≡ length best
  pub same_next : length next' ≡ length next
  pub same_out : length out' ≡ length out
