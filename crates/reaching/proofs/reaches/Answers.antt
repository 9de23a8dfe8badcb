-- `reaching::reaches` meets its contract: a vertex reaches itself, and another one by the walk with arrays that are all 0. Assumes nothing.
use Rattle.std.proofs.Common.{refl}
use Rattle.table.specs.Limits.{vertex_limit}
use Rattle.bubble.specs.Superbubble.{Reaches.none}
use Rattle.reaching.proofs.ReachLaws.{zeros_ready}
use Rattle.reaching.proofs.reaches.Goals as goal

pub returns-then-from-to : goal.returns-then-from-to
returns-then-from-to c = rw c.if-from-to.true none

pub reaches_other-requires : goal.reaches_other-requires
reaches_other-requires c = zeros_ready vertex_limit refl c.requires c.if-from-to.false
