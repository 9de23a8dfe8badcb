-- Bytes that are an image. Assumes nothing.
use Rattle.std.specs.Prelude.{ℕ, ◌≡◌, List}
use Rattle.layout.specs.Image.{Contents, SoundContents, image_of}

-- these bytes are the image, of version 1 or 2, of a well-formed table, in version 2 with its lengths
pub record GoodImage (image : List ℕ) : Type 0 where
  pub version : ℕ
  pub contents : Contents
  pub sound : SoundContents version contents
  pub bytes : image ≡ image_of version contents
