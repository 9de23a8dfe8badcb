-- `show_bytes::put_contents` meets its contract: the longest text fits. Assumes nothing.
use Rattle.std.proofs.Common.{◌≡◌, arith, rules, length}
use Rattle.table.specs.Table.{size}
use Rattle.show_bytes.proofs.Long.{heading_long, contents_by_lines, contents_long}
use Rattle.show_bytes.proofs.PutContents.{put_contents_text}
use Rattle.show_bytes.proofs.put_contents.Goals as goal

pub sizes-place-requires : goal.sizes-place-requires
sizes-place-requires c =
    let n : c.vertices.result ≡ size c.args.contents.now.table.rows = search rules in
    let m : length c.rows.inside.targets.now ≡ length c.args.contents.now.table.rows.targets = search rules in
    rw (n, m) (omega (arith, heading_long c.requires))

pub put_vertices-requires-clause-lines_in_bounds : goal.put_vertices-requires-clause-lines_in_bounds
put_vertices-requires-clause-lines_in_bounds c =
    let n : c.vertices.result ≡ size c.args.contents.now.table.rows = search rules in
    let m : length c.rows.inside.targets.now ≡ length c.args.contents.now.table.rows.targets = search rules in
    let heading = rw (n, m) at c.sizes-place.ensures in
    omega (arith, contents_long c.requires, contents_by_lines c.requires, heading)

pub returns : goal.returns
returns c = put_contents_text c.args.version c.args.contents.now (search rules) (search rules) c.sizes-place.ensures c.put_vertices.ensures
