-- The entrances passed so far, in any way of folding: the folded items, the one number a vertex that says its new row, and the new counts. Assumes nothing.
use Rattle.std.specs.Prelude.{ℕ, ◌+◌, ◌≤◌, ◌<◌, ◌≡◌, length, get_or, take}
use mathlib.Core.List.{List, map, Memᴰ}
use Rattle.table.specs.Table.{Table, size, edges}
use Rattle.bubble.specs.Superbubble.{Interior}
use Rattle.rule.specs.Lists.{sum}
use Rattle.rule.specs.Fold.{Item, Fits}
use Rattle.rule.specs.Way.{Way}
use Rattle.rule.specs.Tables.{count_of}
use Rattle.rule.specs.Next.{Numbered}
use Rattle.candidates.specs.Candidates.{entrances_below, CandidatesFound}

-- the entrances below s are passed, and the first of them, as many as the budget, are folded
pub record Turns (way : Way) (table : Table) (exits next out : List ℕ) (budget s folded : ℕ) : Type 0 where
  pub items : List Item
  pub first : map (λ (i : Item). i.entrance) items ≡ take budget (entrances_below exits s)
  pub how_many : folded ≡ length items
  pub fit : (i : Item) → Memᴰ i items → Fits way.candidates way.rule (edges table.rows) (count_of table.counts) i
  pub numbered : (u : ℕ) → u < size table.rows → Numbered (edges table.rows) items (size table.rows) (count_of next) u
  pub added : (i : Item) → Memᴰ i items → (j : ℕ) → j < length i.arm
      → get_or out (get_or i.arm j 0) 0
      ≡ get_or table.counts (get_or i.arm j 0) 0 + way.rule.portion (sum (count_of table.counts) i.dropped) (length i.arm) j
  pub emptied : (i : Item) → Memᴰ i items → (v : ℕ) → Memᴰ v i.dropped → get_or out v 0 ≡ 0
  pub untouched : (v : ℕ) → ((i : Item) → Memᴰ i items → Interior (edges table.rows) i.entrance i.exit v → ⊥)
      → get_or out v 0 ≡ get_or table.counts v 0

-- the entrances below s are passed, of a table that the way folds
pub record Turning (way : Way) (table : Table) (exits next out : List ℕ) (budget s folded : ℕ) : Type 0 where
  pub kind : way.Kind (edges table.rows)
  pub candidates : CandidatesFound way.candidates table.rows exits
  pub passed : s ≤ size table.rows
  pub turns : Turns way table exits next out budget s folded
