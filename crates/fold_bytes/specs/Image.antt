-- What fold prints, and what it writes to its second file, of the bytes that it read. Assumes nothing.
use Rattle.std.specs.Prelude.{ℕ, ◌≡◌, List, [], ◌++◌, length}
use Rattle.std.proofs.Math.Logic.{ite}
use Rattle.std.proofs.Math.Decide.{ℕ_discrete}
use Rattle.table.specs.Verdict.{Demand, Verdict}
use Rattle.table.specs.Table.{Table}
use Rattle.layout.specs.Image.{Contents, image_of, version_of, table_of, contents_of}
use Rattle.image.specs.Looking.{image_demands}
use Rattle.rule.specs.declared.Choosing.{Choosing}
use Rattle.rule.specs.declared.Choosing.TheVariants.{Sum, Weakest}
use Rattle.rule.specs.declared.Rings.{Rings}
use Rattle.rule.specs.Way.{Way, the_fold}
use Rattle.rule.specs.Tables.{TableFolded}
use Rattle.printing.specs.Answered.{number_given}
use Rattle.texts.specs.Text.{text, refusal_lines, fold_lines}
use Rattle.printing.specs.Put.{AtFront}
use Rattle.fold_bytes.specs.declared.Answers.{Answers}

-- an answer by its number, and how long the line and the new image are
pub record Delivered : Type 0 where
  pub number : ℕ
  pub line : ℕ
  pub image : ℕ

abbrev pub delivered_of : Answers → Delivered
delivered_of answers = record { number = number_given answers.refusal; line = answers.line; image = answers.image }

-- by which rule an image of a version is folded
abbrev pub choosing_of : ℕ → Choosing
choosing_of version = ite (ℕ_discrete version 2) Weakest Sum

-- the folds of docs/RULES.md, one for each version, with rings refused or taken
abbrev pub fold_of : Rings → ℕ → Way
fold_of rings version = the_fold (record { rings = rings; by = choosing_of version })

-- one table is the other folded by the budget: the bytes printed are the line of that fold, the bytes written the image, of the same version, of the new table with
-- the lengths as they were
pub record FoldBytes (way : Way) (version : ℕ) (contents : Contents) (budget : ℕ) (printed written : List ℕ) : Type 0 where
  pub result : Table
  pub folded : ℕ
  pub left : ℕ
  pub table_folded : TableFolded way.candidates way.rule contents.table budget result folded left
  pub spelled : printed ≡ text (fold_lines folded left (length result.rows.targets))
  pub image : written ≡ image_of version (record { table = result; lengths = contents.lengths })

-- the number is that of the first demand that is not met; the line of a fold and the image of the new table, or the line of a refusal and nothing, stand at the fronts of
-- the two buffers, before and after. Neither depends on whether the other can be written
pub record FoldDelivered (way : Way) (demands : List Demand) (version : ℕ) (contents : Contents) (budget : ℕ) (out out' new new' : List ℕ) (answers : Delivered)
    : Type 0 where
  pub printed : List ℕ
  pub written : List ℕ
  pub verdict : Verdict demands answers.number
  pub taken : answers.number ≡ 0 → FoldBytes way version contents budget printed written
  pub refused : (answers.number ≡ 0 → ⊥) → (printed ≡ text (refusal_lines answers.number)) × (written ≡ [])
  pub line_front : AtFront printed out out' answers.line
  pub image_front : AtFront written new new' answers.image

-- of what stands in an image, by the way of its version
abbrev pub FoldAnswer : (ℕ → Way) → List ℕ → ℕ → List ℕ → List ℕ → List ℕ → List ℕ → Delivered → Type 0
FoldAnswer ways image =
    FoldDelivered (ways (version_of image)) (image_demands image ++ (ways (version_of image)).asked (table_of image).rows) (version_of image) (contents_of image)

-- by the folds of docs/RULES.md
abbrev pub TheFoldAnswer : Rings → List ℕ → ℕ → List ℕ → List ℕ → List ℕ → List ℕ → Delivered → Type 0
TheFoldAnswer rings = FoldAnswer (fold_of rings)
