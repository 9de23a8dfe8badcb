-- The house image in the words of docs/RULES.md, Image: the bytes S B T; version, 16 bits, 1 or 2; n, 32 bits; m, 32 bits; starts; targets; counts; in version 2 then
-- lengths. Assumes nothing.
use Rattle.std.specs.Prelude.{ℕ, ◌+◌, ◌*◌, ◌≡◌, List, [], ◌∷◌, ◌++◌, length, take, drop}
use Rattle.table.specs.Limits.{vertex_limit, edge_limit}
use Rattle.table.specs.Table.{Below, Table, size, SoundTable}
use Rattle.layout.specs.Bytes.{value_of, bytes_of, numbers_of, spelled}
use Rattle.layout.specs.Lengths.{Known, length_count, Positive}

-- the bytes S B T
abbrev pub mark : List ℕ
mark = 83 ∷ 66 ∷ 84 ∷ []

-- what an image holds: a table with its counts, and the lengths of its vertices
pub record Contents : Type 0 where
  pub table : Table
  pub lengths : List ℕ

-- what an image of a version can hold: a well-formed table with its counts, and a length for each vertex, of 16 bits and never 0, or none in version 1
pub record SoundContents (version : ℕ) (contents : Contents) : Type 0 where
  pub known : Known version
  pub counted : SoundTable contents.table
  pub length_each : length contents.lengths ≡ length_count version (size contents.table.rows)
  pub positive : Positive contents.lengths
  pub sixteen_bits : Below 65536 contents.lengths

-- the length of an image by version, n and m
abbrev pub image_length : ℕ → ℕ → ℕ → ℕ
image_length version n m = 13 + 4 * (n + 1) + 4 * m + 8 * n + 2 * length_count version n

-- the length of the largest image
abbrev pub largest_image : ℕ
largest_image = image_length 2 vertex_limit edge_limit

-- the header by version, n and m: mark, version, n, m
abbrev pub header_of : ℕ → ℕ → ℕ → List ℕ
header_of version n m = mark ++ bytes_of 2 version ++ bytes_of 4 n ++ bytes_of 4 m

-- the image of a version that holds these contents
abbrev pub image_of : ℕ → Contents → List ℕ
image_of version contents =
    header_of version (size contents.table.rows) (length contents.table.rows.targets)
    ++ spelled 4 contents.table.rows.starts ++ spelled 4 contents.table.rows.targets ++ spelled 8 contents.table.counts ++ spelled 2 contents.lengths

-- what stands in an image: the version, n, m, the table and the lengths
abbrev pub version_of : List ℕ → ℕ
version_of image = value_of (take 2 (drop 3 image))

abbrev pub vertices_of : List ℕ → ℕ
vertices_of image = value_of (take 4 (drop 5 image))

abbrev pub edges_of : List ℕ → ℕ
edges_of image = value_of (take 4 (drop 9 image))

abbrev pub starts_of : List ℕ → List ℕ
starts_of image = numbers_of 4 (vertices_of image + 1) (drop 13 image)

abbrev pub targets_of : List ℕ → List ℕ
targets_of image = numbers_of 4 (edges_of image) (drop (13 + 4 * (vertices_of image + 1)) image)

abbrev pub counts_of : List ℕ → List ℕ
counts_of image = numbers_of 8 (vertices_of image) (drop (13 + 4 * (vertices_of image + 1) + 4 * edges_of image) image)

abbrev pub lengths_of : List ℕ → List ℕ
lengths_of image =
    numbers_of 2 (length_count (version_of image) (vertices_of image)) (drop (13 + 4 * (vertices_of image + 1) + 4 * edges_of image + 8 * vertices_of image) image)

-- the table that stands in an image, and with it the lengths
abbrev pub table_of : List ℕ → Table
table_of image = record { rows = record { starts = starts_of image; targets = targets_of image }; counts = counts_of image }

abbrev pub contents_of : List ℕ → Contents
contents_of image = record { table = table_of image; lengths = lengths_of image }
