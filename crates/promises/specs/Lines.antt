-- The list that a call of list leaves. Assumes nothing.
use Rattle.std.specs.Prelude.{ℕ, ◌*◌, List, take}
use Rattle.listing.specs.Listing.{Found}

-- its lines, entrance and exit in turn: so much of the front of the slice as were found
abbrev pub lines : Found → List ℕ → List ℕ
lines answer out = take (2 * answer.found) out
