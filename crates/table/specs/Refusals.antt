-- The number that is given for each refusal (docs/RULES.md, Numbers), and the number of an answer that may be a refusal. Assumes nothing.
use Rattle.std.specs.Prelude.{ℕ, Result, Ok, Err}
use Rattle.table.specs.declared.refusal.Refusal.{Refusal}
use Rattle.table.specs.declared.refusal.Refusal.TheVariants.{Vertices, Edges, Starts, Target, Row, CountEach, Reads, Room, Cycle, Mark, Version, Length, Vertex, ZeroLength}

-- the number of a refusal
abbrev pub number : Refusal → ℕ
number Vertices = 1
number Edges = 2
number Starts = 3
number Target = 4
number Row = 5
number CountEach = 6
number Reads = 7
number Room = 8
number Cycle = 9
number Mark = 10
number Version = 11
number Length = 12
number Vertex = 13
number ZeroLength = 20

-- the number of an answer: 0 where nothing is refused
abbrev pub numbered : {A : Type 0} → Result A Refusal → ℕ
numbered (Ok _) = 0
numbered (Err refusal) = number refusal
