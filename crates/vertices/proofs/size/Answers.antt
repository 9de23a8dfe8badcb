-- `vertices::size` meets its contract: the sum of each word's count of ones fits, and is the number of members. Assumes nothing.
use Rattle.std.proofs.Common.{rules, ◌≡◌, ◌<◌, arith, sum_by}
use Rattle.std.specs.Int.Count.{ones}
use Rattle.std.proofs.iter.runs.Made.{chains}
use Rattle.vertices.proofs.SetLaws.{ones_fit, summed}
use Rattle.vertices.proofs.size.Goals as goal

pub sum-requires-clause-fits : goal.sum-requires-clause-fits
sum-requires-clause-fits c =
    let fits : sum_by ones c.args.words.now < 4294967296 = ones_fit c.requires in search (rules, chains, fits)

pub returns : goal.returns
returns c = let total : c.sum.result ≡ sum_by ones c.args.words.now = search (rules, chains) in summed c.requires (omega (arith, total))
