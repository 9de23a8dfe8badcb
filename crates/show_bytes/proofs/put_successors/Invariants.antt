-- `show_bytes::put_successors` meets its contract. The loop's invariant: the successors so far stand behind the place. Assumes nothing.
use Rattle.std.proofs.Common.{map, take}
use Rattle.texts.specs.Text.{decimal, following}
use Rattle.printing.specs.Put.{Put}
use Rattle.show_bytes.proofs.put_successors.Given as goal

abbrev pub invariant-loop-successor : goal.invariant-loop-successor
invariant-loop-successor l = Put l.initial.out l.at (following (map decimal (take l.successor-index l.row))) l.out l.place
