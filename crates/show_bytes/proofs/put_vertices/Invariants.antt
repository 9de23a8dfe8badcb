-- `show_bytes::put_vertices` meets its contract. The loop's invariant: the lines of the first v vertices stand behind the place. Assumes nothing.
use Rattle.texts.specs.Text.{text, each, vertex_line}
use Rattle.printing.specs.Put.{Put}
use Rattle.show_bytes.proofs.put_vertices.Given as goal

abbrev pub invariant-loop-v : goal.invariant-loop-v
invariant-loop-v l = Put l.initial.out l.at (text (each (vertex_line l.version l.contents) l.v)) l.out l.place
