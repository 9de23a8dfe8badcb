-- What show prints of the bytes that it read. Assumes nothing.
use Rattle.std.specs.Prelude.{ℕ, ◌≡◌, List}
use Rattle.layout.specs.Image.{version_of, contents_of}
use Rattle.image.specs.Looking.{image_demands}
use Rattle.texts.specs.Text.{text, contents_lines}
use Rattle.printing.specs.Answered.{Told, Answered}

-- the text of what stands in an image, or of the refusal; and the buffer, before and after
abbrev pub ShowAnswer : List ℕ → List ℕ → List ℕ → Told → Type 0
ShowAnswer image = Answered (image_demands image) (λ printed. printed ≡ text (contents_lines (version_of image) (contents_of image)))
