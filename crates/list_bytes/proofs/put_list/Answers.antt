-- `list_bytes::put_list` meets its contract: the buffer has room for the longest list. Assumes nothing.
use Rattle.std.proofs.Common.{[], ◌/◌, arith, length}
use Rattle.texts.specs.Text.{decimal, named}
use Rattle.printing.proofs.PutLaws.{put_then, put_first, put_next, at_front}
use Rattle.list_bytes.proofs.Long.{list_long}
use Rattle.list_bytes.proofs.put_list.Goals as goal

pub next_number-place-requires : goal.next_number-place-requires
next_number-place-requires c =
    let long = list_long c.args.pairs.now (length c.args.pairs.now / 2) (omega arith) (omega (arith, c.requires.0)) c.requires.1 in
    omega (arith, long, c.word-place.ensures.ends)

pub end_line-place-requires : goal.end_line-place-requires
end_line-place-requires c =
    let long = list_long c.args.pairs.now (length c.args.pairs.now / 2) (omega arith) (omega (arith, c.requires.0)) c.requires.1 in
    omega (arith, long, c.word-place.ensures.ends, c.next_number-place.ensures.ends)

pub put_pairs-requires : goal.put_pairs-requires
put_pairs-requires c =
    let long = list_long c.args.pairs.now (length c.args.pairs.now / 2) (omega arith) (omega (arith, c.requires.0)) c.requires.1 in
    omega (arith, long, c.word-place.ensures.ends, c.next_number-place.ensures.ends, c.end_line-place.ensures.ends)

pub returns : goal.returns
returns c =
    let heading = put_next (named "superbubbles" []) (decimal (length c.args.pairs.now / 2)) (put_first c.word-place.ensures) c.next_number-place.ensures in
    at_front (put_then (put_then heading c.end_line-place.ensures) c.put_pairs.ensures)
