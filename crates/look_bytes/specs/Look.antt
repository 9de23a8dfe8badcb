-- What look prints of the bytes that it read. Assumes nothing.
use Rattle.std.specs.Prelude.{ℕ, ◌≡◌, List}
use Rattle.layout.specs.Image.{version_of, vertices_of, edges_of}
use Rattle.image.specs.Looking.{image_demands}
use Rattle.texts.specs.Text.{text, look_lines}
use Rattle.printing.specs.Answered.{Told, Answered}

-- the line of the version, n and m that an image has, or of the refusal; and the buffer, before and after
abbrev pub LookAnswer : List ℕ → List ℕ → List ℕ → Told → Type 0
LookAnswer image = Answered (image_demands image) (λ printed. printed ≡ text (look_lines (version_of image) (vertices_of image) (edges_of image)))
