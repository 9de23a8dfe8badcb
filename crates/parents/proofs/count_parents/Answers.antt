-- `parents::count_parents` meets its contract: counts that begin at 0 come to the number of occurrences. Assumes nothing.
use Rattle.std.proofs.Common.{arith}
use Rattle.std.proofs.lemmas.Grind.{common_steps}
use Rattle.parents.proofs.TallyLaws.{tally_zeros, zeros_tallied}
use Rattle.parents.proofs.count_parents.Goals as goal

pub tally-requires : goal.tally-requires
tally-requires c = tally_zeros c.requires.targets_len_bound c.requires.below (grind (arith, common_steps))

pub returns : goal.returns
returns c = zeros_tallied (grind (arith, common_steps)) c.tally.ensures
