-- `kept::paths::keep_or_drop` meets its contract. Assumes nothing.
use Rattle.kept.specs.Steps.{Step.keeps, Step.drops}
use Rattle.kept.proofs.paths.keep_or_drop.Goals as goal

pub returns-then-v-along : goal.returns-then-v-along
returns-then-v-along c = keeps c.if-v-along.true

pub returns : goal.returns
returns c = drops c.if-v-along.false
