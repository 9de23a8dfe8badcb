-- What writing an image states: the number, the length, and the slice lent, on a refusal too. Assumes nothing.
use Rattle.std.specs.Prelude.{ℕ, ◌≤◌, ◌≡◌, List, [], ◌∷◌, ◌++◌, length, drop, Result, Ok, Err}
use Rattle.table.specs.declared.refusal.Refusal.{Refusal}
use Rattle.table.specs.Refusals.{number}
use Rattle.table.specs.Verdict.{Demand, Verdict}
use Rattle.table.specs.Table.{Rows, size}
use Rattle.table.specs.Numbers.{table_demands, sum_fits_demand}
use Rattle.layout.specs.Lengths.{length_count, no_zero}
use Rattle.layout.specs.Image.{Contents, image_length, image_of}

-- what writing an image answers, in the words of docs/RULES.md: the number, and the length
pub record Extent : Type 0 where
  pub number : ℕ
  pub length : ℕ

-- the length on success, and else the number of the refusal
abbrev pub extent_of : Result ℕ Refusal → Extent
extent_of (Ok long) = record { number = 0; length = long }
extent_of (Err refusal) = record { number = number refusal; length = 0 }

-- 6: the counts slice isn't n long, or the lengths slice isn't as long as the version asks
abbrev pub one_each : ℕ → Contents → Demand
one_each version contents =
    record {
      number = 6;
      met = (length contents.table.counts ≡ size contents.table.rows) × (length contents.lengths ≡ length_count version (size contents.table.rows));
    }

-- 8: the image slice below the length
abbrev pub image_room : ℕ → Rows → List ℕ → Demand
image_room version rows image = record { number = 8; met = image_length version (size rows) (length rows.targets) ≤ length image }

-- 1 to 7 and 20: what is asked of the contents
abbrev pub contents_demands : ℕ → Contents → List Demand
contents_demands version contents =
    table_demands contents.table.rows ++ one_each version contents ∷ sum_fits_demand contents.table ∷ no_zero contents.lengths ∷ []

-- what writing an image of a version states: number, length, and the image slice before and after
pub record Written (version : ℕ) (contents : Contents) (image image' : List ℕ) (answer : Extent) : Type 0 where
  pub verdict : Verdict (contents_demands version contents ++ image_room version contents.table.rows image ∷ []) answer.number
  pub taken :
      answer.number ≡ 0
      → (answer.length ≡ image_length version (size contents.table.rows) (length contents.table.rows.targets))
      × (image' ≡ image_of version contents ++ drop answer.length image)
  pub refused : (answer.number ≡ 0 → ⊥) → (answer.length ≡ 0) × (image' ≡ image)
