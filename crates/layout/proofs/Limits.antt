-- The lengths of docs/RULES.md, Image: the largest, and those of graph J. Assumes nothing.
use Prim.Native.Nat.{ℕ, ◌≤◌}
use mathlib.Core.Path.{◌≡◌}
use native.Mathlib.Omega.{arith}
use Rattle.table.specs.Limits.{vertex_limit, edge_limit}
use Rattle.layout.specs.Image.{image_length, largest_image}
use Rattle.layout.proofs.LengthLaws.{lengths_one, lengths_two, lengths_most}

-- the largest has 61,457 bytes
pub largest_is : largest_image ≡ 61457
largest_is = omega (arith, lengths_two vertex_limit)

-- no image of any version is longer
pub length_most : (version n m : ℕ) → n ≤ vertex_limit → m ≤ edge_limit → image_length version n m ≤ largest_image
length_most version n m h l = omega (arith, lengths_most version n, largest_is)

-- graph J has 7 vertices and 8 edges: without its lengths, and with them
pub length_of_J : image_length 1 7 8 ≡ 133
length_of_J = omega (arith, lengths_one 7)

pub length_of_J_with_lengths : image_length 2 7 8 ≡ 147
length_of_J_with_lengths = omega (arith, lengths_two 7)
