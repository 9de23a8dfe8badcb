-- Runs of the program fold as a user makes them: on a file, by the way of its version, and one after another, each on the file that the last one wrote. Assumes nothing.
use Rattle.std.specs.Prelude.{ℕ, ◌≡◌, List, [], ◌∷◌, take}
use Rattle.table.specs.Table.{Below}
use Rattle.rule.specs.Way.{Way}
use Rattle.fold_bytes.specs.Image.{Delivered, FoldAnswer}

-- a run that refuses nothing: from the bytes of IN by a budget to the bytes that are written to OUT
pub record FoldRun (ways : ℕ → Way) (image : List ℕ) (budget : ℕ) (image' : List ℕ) : Type 0 where
  pub bytes : Below 256 image
  pub out : List ℕ
  pub out' : List ℕ
  pub new : List ℕ
  pub new' : List ℕ
  pub answers : Delivered
  pub done : FoldAnswer ways image budget out out' new new' answers
  pub accepted : answers.number ≡ 0
  pub leaves : image' ≡ take answers.image new'

-- runs by one or more budgets in turn, each on what the last one wrote
pub data RunsInTurn (ways : ℕ → Way) : List ℕ → List ℕ → List ℕ → Type 0 where
  once : {image image' : List ℕ} {budget : ℕ} → FoldRun ways image budget image' → RunsInTurn ways image (budget ∷ []) image'
  then : {image image' image'' budgets : List ℕ} {budget : ℕ}
      → FoldRun ways image budget image' → RunsInTurn ways image' budgets image'' → RunsInTurn ways image (budget ∷ budgets) image''
