-- Numbers as little-endian bytes, and bytes as numbers. Assumes nothing.
use Rattle.std.specs.Prelude.{ℕ, zero, suc, ◌+◌, ◌*◌, ◌/◌, ◌%◌, List, [], ◌∷◌, ◌++◌, length, take, drop}

-- the number that these bytes spell, the lowest byte first
abbrev pub value_of : List ℕ → ℕ
value_of [] = 0
value_of (b ∷ bs) = b + 256 * value_of bs

-- x in k bytes, the lowest first
abbrev pub bytes_of : ℕ → ℕ → List ℕ
bytes_of zero x = []
bytes_of (suc k) x = x % 256 ∷ bytes_of k (x / 256)

-- the first `count` numbers of k bytes each
abbrev pub numbers_of : ℕ → ℕ → List ℕ → List ℕ
numbers_of k zero bs = []
numbers_of k (suc count) bs = value_of (take k bs) ∷ numbers_of k count (drop k bs)

-- each number in k bytes, one after the other
abbrev pub spelled : ℕ → List ℕ → List ℕ
spelled k [] = []
spelled k (x ∷ xs) = bytes_of k x ++ spelled k xs

-- the list with xs written over it from the place `at` on
abbrev pub over : List ℕ → ℕ → List ℕ → List ℕ
over list at xs = take at list ++ xs ++ drop (at + length xs) list
