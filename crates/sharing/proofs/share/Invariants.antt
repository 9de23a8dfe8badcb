-- `sharing::share` meets its contract. The loop's invariant: the first j inner vertices have their portion, and v is the one before place j. Assumes nothing.
use Rattle.std.proofs.Common.{◌≡◌, ◌∷◌, get_or}
use Rattle.sharing.specs.Sharing.{onward, Shared}
use Rattle.sharing.proofs.share.Given as goal

abbrev pub invariant-loop-j : goal.invariant-loop-j
invariant-loop-j l = (l.v ≡ get_or (l.s ∷ onward l.next l.s l.k) l.j 0) × Shared l.counts l.next l.initial.out l.s l.k l.dropped l.j l.out
