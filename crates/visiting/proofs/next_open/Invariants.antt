-- `visiting::next_open` meets its contract. The loop's invariant: each place before k is passed. Assumes nothing.
use Rattle.std.proofs.Common.{ℕ, ◌≤◌, ◌<◌, ◌≡◌, ◌⊎◌, length, get_or}
use Rattle.std.specs.Option.{unwrap_or}
use Rattle.visiting.proofs.next_open.Given as goal

abbrev pub invariant-loop-k : goal.invariant-loop-k
invariant-loop-k l = (none j : ℕ) → length l.colours ≤ none → l.place ≤ j → j < l.k → (2 ≤ get_or l.colours (get_or l.row j 0) 0) ⊎ (get_or l.row j 0 ≡ unwrap_or l.over none)
