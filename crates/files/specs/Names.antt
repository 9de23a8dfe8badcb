-- The names of files. Assumes nothing.
use Rattle.std.specs.Prelude.{ℕ}

-- how many bytes the system takes for a name with the 0 behind it: `attributes::PATH_MAX` in the code, which the proofs of `crates/files/src/replacing.rt` tie to this
abbrev pub path_limit : ℕ
path_limit = 4096
