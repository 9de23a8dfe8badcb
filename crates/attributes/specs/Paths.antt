-- A path as the C library takes it, and the error of a call that failed. Assumes nothing.
use Rattle.std.specs.Prelude.{ℕ, ◌≡◌, ◌≢◌, List, pos, slice_index_or, MatchOption}
use Rattle.std.specs.IoError.{raw_os_error}
use Rattle.std.specs.declared.io.Error.{Error}

-- the error has a number of the system's, which is never 0: that would be said of a call that succeeds
abbrev pub Numbered : Error → Type 0
Numbered error = MatchOption (raw_os_error error) ⊥ (λ number. number ≢ pos 0)

-- the last of a path's 4096 bytes is 0
abbrev pub Ended : List ℕ → Type 0
Ended bytes = slice_index_or bytes 4095 1 ≡ 0
