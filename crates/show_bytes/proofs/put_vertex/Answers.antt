-- `show_bytes::put_vertex` meets its contract: the words of the line one behind the other. Assumes nothing.
use Rattle.std.proofs.Common.{rules}
use Rattle.show_bytes.proofs.PutContents.{put_vertex_line}
use Rattle.show_bytes.proofs.put_vertex.Goals as goal

pub returns : goal.returns
returns c =
    put_vertex_line c.args.version c.args.contents.now c.args.v (search rules) (search rules) (search rules)
    c.number-place.ensures c.next_number-place.ensures c.put_length-place.ensures c.put_successors-place.ensures c.end_line.ensures
