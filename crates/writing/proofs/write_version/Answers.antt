-- `writing::write_version` meets its contract: the contents' check, room, and header, starts, targets, counts and lengths one after the other. Assumes nothing.
use Rattle.std.proofs.Common.{◌≡◌, rules, refl, arith, length}
use Rattle.table.specs.Table.{size}
use Rattle.layout.specs.Image.{image_length}
use Rattle.writing.specs.Writing.{image_room}
use Rattle.writing.proofs.WriteLaws.{contents_met, met_table, met_lengths, image_whole, write_taken}
use Rattle.writing.proofs.write_version.Goals as goal

pub returns : goal.returns
returns c =
    let version = c.args.version in
    let contents = c.args.contents.now in
    let met = contents_met version contents c.in_ok-check.ensures in
    let starts : c.table-inside.inside.0.0.starts.now ≡ contents.table.rows.starts = search rules in
    let targets : c.table-inside.inside.0.0.targets.now ≡ contents.table.rows.targets = search rules in
    let counts : c.table-inside.inside.0.1.0.now ≡ contents.table.counts = search rules in
    let lengths : c.contents.inside.lengths.now ≡ contents.lengths = search rules in
    let n : c.vertices-n.result ≡ size contents.table.rows = search rules in
    let long : c.length-length.result ≡ image_length version (size contents.table.rows) (length contents.table.rows.targets) = rw (n, targets) at c.length-length.ensures in
    let room : (image_room version contents.table.rows c.args.image.now).met = omega (arith, long, c.if-image-length.false) in
    write_taken refl c.in_ok-check.ensures room long
    (image_whole version contents c.args.image.now (met_table version contents met) (met_lengths version contents met) room
    (rw (n, targets) at c.put.ensures)
    (rw starts at c.write_numbers.ensures)
    (rw (n, targets) at c.write_numbers-2.ensures)
    (rw (n, targets, counts) at c.write_numbers-3.ensures)
    (rw (n, targets, lengths) at c.write_numbers-4.ensures))
