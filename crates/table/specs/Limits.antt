-- The limits of a table, by name. The code has each once more (`crates/table/src/limits.rt`), and the contract of `stated_limits` there ties the two. Assumes nothing.
use Rattle.std.specs.Prelude.{ℕ}

-- the most vertices
abbrev pub vertex_limit : ℕ
vertex_limit = 2048

-- the most starts: one for each vertex, and the end
abbrev pub start_limit : ℕ
start_limit = 2049

-- the most edges
abbrev pub edge_limit : ℕ
edge_limit = 8192

-- the most reads on all vertices together
abbrev pub read_limit : ℕ
read_limit = 1099511627775
