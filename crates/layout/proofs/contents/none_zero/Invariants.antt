-- `layout::contents::none_zero` meets its contract. The loop's invariant: no length passed is 0. Assumes nothing.
use Rattle.std.proofs.Common.{ℕ, ◌<◌, ◌≡◌, length, get_or}
use Rattle.layout.proofs.contents.none_zero.Given as goal

abbrev pub invariant-loop-v : goal.invariant-loop-v
invariant-loop-v g l = (l.v-end ≡ length (g.N.Numbers.list l.lengths)) × ((j : ℕ) → j < l.v → 0 < get_or (g.N.Numbers.list l.lengths) j 0)
