-- `judging::count_vertices` meets its contract. Assumes nothing.
use Rattle.vertices.specs.Vertices.{set_words}
use Rattle.vertices.proofs.SetLaws.{empty_words}
use Rattle.judging.proofs.CountLaws.{counted_all}
use Rattle.judging.proofs.count_vertices.Goals as goal

pub put_all-requires : goal.put_all-requires
put_all-requires c = (empty_words, c.requires.0)

pub returns : goal.returns
returns c = counted_all set_words c.put_all.ensures c.put.ensures c.size.ensures
