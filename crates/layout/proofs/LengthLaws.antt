-- Laws of how many lengths an image has, by version and n. Assumes nothing.
use Prim.Native.Nat.{ℕ, ◌≤◌}
use mathlib.Core.Path.{◌≡◌, refl}
use mathlib.Core.Logic.{◌≢◌, if_pos, if_neg}
use native.Mathlib.Decide.{ℕ_discrete}
use native.Mathlib.Omega.{arith}
use Rattle.layout.specs.Lengths.{length_count}

-- version 2 has one a vertex
pub lengths_each : (version n : ℕ) → version ≡ 2 → length_count version n ≡ n
lengths_each version n two = if_pos (ℕ_discrete version 2) two n 0

pub lengths_two : (n : ℕ) → length_count 2 n ≡ n
lengths_two n = lengths_each 2 n refl

-- any other has none
pub lengths_none : (version n : ℕ) → version ≢ 2 → length_count version n ≡ 0
lengths_none version n other = if_neg (ℕ_discrete version 2) other n 0

pub lengths_one : (n : ℕ) → length_count 1 n ≡ 0
lengths_one n = lengths_none 1 n (λ e. omega arith)

-- never more than one a vertex
pub lengths_most : (version n : ℕ) → length_count version n ≤ n
lengths_most version n =
    elim (ℕ_discrete version 2) [
      | yes two ↦ omega (arith, lengths_each version n two)
      | no other ↦ omega (arith, lengths_none version n other)
    ]
