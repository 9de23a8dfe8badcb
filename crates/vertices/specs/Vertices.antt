-- A set of vertices, one bit each, in words of 64 bits, and the number of its members. Assumes nothing.
use Rattle.std.specs.Prelude.{ℕ, ◌+◌, ◌/◌, ◌%◌, ◌^◌, ◌<◌, ◌≡◌, ◌↔◌, ◌⊎◌, List, [], ◌∷◌, length, get_or}
use Rattle.std.specs.Int.Count.{ones}
use Rattle.table.specs.Limits.{vertex_limit}
use Rattle.table.specs.Table.{In, Below}

-- the bit of place k, 0 or 1
abbrev pub bit_at : ℕ → ℕ → ℕ
bit_at w k = w / 2 ^ k % 2

-- v is in the set: the bit of place v % 64 of word v / 64 is 1
abbrev pub Member : List ℕ → ℕ → Type 0
Member words v = bit_at (get_or words (v / 64) 0) (v % 64) ≡ 1

-- the sum of each word's count of ones
abbrev pub ones_of : List ℕ → ℕ
ones_of [] = 0
ones_of (w ∷ words) = ones w + ones_of words

-- P holds of exactly k numbers: a list of k different numbers has exactly those of which it holds
pub record Numbers (P : ℕ → Type 0) (k : ℕ) : Type 0 where
  pub listed : List ℕ
  pub many : length listed ≡ k
  pub apart : (i j : ℕ) → i < k → j < k → get_or listed i 0 ≡ get_or listed j 0 → i ≡ j
  pub exactly : (v : ℕ) → In v listed ↔ P v

-- the words of a set: each holds 64 vertices
abbrev pub set_words : ℕ
set_words = vertex_limit / 64

-- a set's words, of 64 bits each
pub record Words (words : List ℕ) : Type 0 where
  pub many : length words ≡ set_words
  pub each : Below (2 ^ 64) words

-- v was added to the set
pub record Added (words words' : List ℕ) (v : ℕ) : Type 0 where
  pub still : Words words'
  pub members : (x : ℕ) → Member words' x ↔ (Member words x ⊎ (x ≡ v))

-- r is the number of the set's members, as the sum of each word's count of ones
pub record Size (words : List ℕ) (r : ℕ) : Type 0 where
  pub sum : r ≡ ones_of words
  pub number : Numbers (Member words) r
