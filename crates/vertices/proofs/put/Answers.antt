-- `vertices::put` meets its contract: the word that holds the vertex's bit gets it, by `|`. Assumes nothing.
use Rattle.vertices.proofs.SetLaws.{added}
use Rattle.vertices.proofs.put.Goals as goal

pub returns : goal.returns
returns c = added c.args.v c.requires.0 c.requires.1
