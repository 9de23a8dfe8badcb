-- `printing::next_number` meets its contract: a blank, and the number behind it. Assumes nothing.
use Rattle.std.proofs.Common.{◌∙◌, arith, length-set}
use Rattle.printing.proofs.PutLaws.{put_then, put_byte}
use Rattle.printing.proofs.next_number.Goals as goal

pub number-requires : goal.number-requires
number-requires c = omega (arith, c.requires, length-set c.args.out.now c.args.at 32)

pub shape_of-out : goal.shape_of-out
shape_of-out c = c.number.ensures.as_long ∙ length-set c.args.out.now c.args.at 32

pub returns : goal.returns
returns c = put_then (put_byte c.args.out.now c.args.at 32 (omega (arith, c.requires))) c.number.ensures
