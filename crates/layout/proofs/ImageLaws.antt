-- Laws of the layout: how long the parts of an image are, and the image of a version that holds contents. Assumes nothing.
use Prim.Native.Nat.{ℕ, ◌+◌, ◌*◌}
use mathlib.Core.Path.{◌≡◌, ◌∙◌}
use mathlib.Core.List.{List, ◌++◌}
use native.Mathlib.Omega.{arith}
use lib.ListN.{length, drop, length-append}
use Rattle.table.specs.Table.{size, SoundTable}
use Rattle.layout.specs.Bytes.{spelled}
use Rattle.layout.specs.Lengths.{length_count}
use Rattle.layout.specs.Image.{
  Contents,
  image_length,
  header_of,
  image_of,
  version_of,
  vertices_of,
  edges_of,
  starts_of,
  targets_of,
  counts_of,
  lengths_of,
}
use Rattle.layout.proofs.ByteLaws.{numbers_length, spelled_length}

module _ (image : List ℕ) where
  -- what stands in an image is as long as the header says
  pub starts_long : length (starts_of image) ≡ vertices_of image + 1
  starts_long = numbers_length 4 (vertices_of image + 1) (drop 13 image)

  pub targets_long : length (targets_of image) ≡ edges_of image
  targets_long = numbers_length 4 (edges_of image) (drop (13 + 4 * (vertices_of image + 1)) image)

  pub counts_long : length (counts_of image) ≡ vertices_of image
  counts_long = numbers_length 8 (vertices_of image) (drop (13 + 4 * (vertices_of image + 1) + 4 * edges_of image) image)

  pub lengths_long : length (lengths_of image) ≡ length_count (version_of image) (vertices_of image)
  lengths_long =
      numbers_length 2 (length_count (version_of image) (vertices_of image))
      (drop (13 + 4 * (vertices_of image + 1) + 4 * edges_of image + 8 * vertices_of image) image)

module _ (version : ℕ) (contents : Contents) (sound : SoundTable contents.table) where
  open contents use {table, lengths}

  -- where the starts end, where the targets do, and where the counts do
  pub starts_end : length (header_of version (size table.rows) (length table.rows.targets) ++ spelled 4 table.rows.starts)
      ≡ 13 + 4 * (size table.rows + 1)
  starts_end =
      length-append (header_of version (size table.rows) (length table.rows.targets)) (spelled 4 table.rows.starts)
      ∙ omega (arith, spelled_length 4 table.rows.starts, sound.well_formed.some)

  pub targets_end :
      length (header_of version (size table.rows) (length table.rows.targets) ++ spelled 4 table.rows.starts ++ spelled 4 table.rows.targets)
      ≡ 13 + 4 * (size table.rows + 1) + 4 * length table.rows.targets
  targets_end =
      length-append (header_of version (size table.rows) (length table.rows.targets) ++ spelled 4 table.rows.starts) (spelled 4 table.rows.targets)
      ∙ omega (arith, starts_end, spelled_length 4 table.rows.targets)

  pub counts_end :
      length (header_of version (size table.rows) (length table.rows.targets) ++ spelled 4 table.rows.starts ++ spelled 4 table.rows.targets ++ spelled 8 table.counts)
      ≡ 13 + 4 * (size table.rows + 1) + 4 * length table.rows.targets + 8 * size table.rows
  counts_end =
      length-append (header_of version (size table.rows) (length table.rows.targets) ++ spelled 4 table.rows.starts ++ spelled 4 table.rows.targets) (spelled 8 table.counts)
      ∙ omega (arith, targets_end, spelled_length 8 table.counts, sound.count_each)

  -- the image is as long as its version, n and m say
  pub image_length_lem : length lengths ≡ length_count version (size table.rows)
      → length (image_of version contents) ≡ image_length version (size table.rows) (length table.rows.targets)
  image_length_lem each =
      length-append (header_of version (size table.rows) (length table.rows.targets) ++ spelled 4 table.rows.starts ++ spelled 4 table.rows.targets ++ spelled 8 table.counts)
      (spelled 2 lengths)
      ∙ omega (arith, counts_end, spelled_length 2 lengths)
