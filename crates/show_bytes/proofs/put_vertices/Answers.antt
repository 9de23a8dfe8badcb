-- `show_bytes::put_vertices` meets its contract: there is room for one line more, and with it the text is one longer. Assumes nothing.
use Rattle.std.proofs.Common.{arith, rules, ◌<◌}
use Rattle.table.specs.Table.{size}
use Rattle.texts.specs.Text.{vertex_line}
use Rattle.texts.proofs.EachLaws.{each_within}
use Rattle.show_bytes.proofs.PutContents.{put_next_vertex}
use Rattle.show_bytes.proofs.put_vertices.Goals as goal

pub put_vertex-place-requires-clause-line_in_bounds : goal.put_vertex-place-requires-clause-line_in_bounds
put_vertex-place-requires-clause-line_in_bounds c =
    let contents = c.args.contents.now in
    let inside : c.loop-v.v < size contents.table.rows = search rules in
    let room = each_within (vertex_line c.args.version contents) c.loop-v.v (size contents.table.rows) inside in
    omega (arith, c.requires.lines_in_bounds, c.loop-v.invariant, room)

pub loop-v-preserved : goal.loop-v-preserved
loop-v-preserved c = put_next_vertex c.args.version c.args.contents.now c.loop-v.v c.loop-v.invariant c.put_vertex-place.ensures
