-- What list prints of the bytes that it read. Assumes nothing.
use Rattle.std.specs.Prelude.{ℕ, ◌≡◌, List}
use Rattle.table.specs.Table.{Rows, edges}
use Rattle.layout.specs.Image.{table_of}
use Rattle.image.specs.Looking.{image_demands}
use Rattle.bubble.specs.Superbubble.{Superbubble}
use Rattle.listing.specs.Listing.{Listed}
use Rattle.texts.specs.Text.{text, list_lines}
use Rattle.printing.specs.Answered.{Told, Answered}

-- the bytes are the text of the list of a table's superbubbles
pub record ListText (rows : Rows) (printed : List ℕ) : Type 0 where
  pub pairs : List ℕ
  pub found : ℕ
  pub listed : Listed (Superbubble (edges rows)) pairs found
  pub spelled : printed ≡ text (list_lines pairs found)

-- the text of the list of the table that stands in an image, or of the refusal; and the buffer, before and after
abbrev pub ListAnswer : List ℕ → List ℕ → List ℕ → Told → Type 0
ListAnswer image = Answered (image_demands image) (ListText (table_of image).rows)
