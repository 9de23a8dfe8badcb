-- What it means that a table with its lengths, or an image, is given back. Assumes nothing.
use Rattle.std.specs.Prelude.{◌≡◌, List, ℕ, length, take}
use Rattle.table.specs.Table.{size}
use Rattle.layout.specs.Image.{Contents}
use Rattle.image.specs.Looking.{Seen, contents_fronts}
use Rattle.writing.specs.Writing.{Extent}

-- contents written as an image of a version and loaded are given back: what was loaded are the contents, with the version, n and m
pub record ContentsBack (version : ℕ) (contents after : Contents) (answer : Seen) : Type 0 where
  pub accepted_again : answer.number ≡ 0
  pub same_version : answer.version ≡ version
  pub same_n : answer.vertices ≡ size contents.table.rows
  pub same_m : answer.edges ≡ length contents.table.rows.targets
  pub same_contents : contents_fronts answer.version answer.vertices answer.edges after ≡ contents

-- an image loaded and written is given back: what was written is the image
pub record ImageBack (image out : List ℕ) (answer : Extent) : Type 0 where
  pub accepted_again : answer.number ≡ 0
  pub same_length : answer.length ≡ length image
  pub same_bytes : take answer.length out ≡ image
