-- Demand 3 over files: it is safe to run fold twice. Of all that the contract of `fold_bytes` allows: take runs by one or more budgets in turn, each on the bytes that the last
-- one wrote, by the rule of their version. A run is one that refuses nothing: on a good image without a directed cycle every run is (`fold_answers_exactly`),
-- and where rings are taken on every good image (`rings_answers_exactly`). The theorems
-- hold for every list of budgets, so for those whose sum is within a single budget's range. Assumes nothing.
use Prim.Native.Nat.{ℕ, ◌≤◌}
use mathlib.Core.Path.{◌≡◌}
use mathlib.Core.List.{List}
use lib.ListN.{length}
use Rattle.table.specs.Table.{count_sum, edges}
use Rattle.table.proofs.RowLaws.{edges_below}
use Rattle.layout.specs.Image.{version_of, counts_of, lengths_of, table_of}
use Rattle.bubble.specs.Cycle.{Cyclic}
use Rattle.bubble.specs.Superbubble.{Interior, Superbubble}
use Rattle.rule.specs.Lists.{Listing}
use Rattle.rule.specs.Fold.{Candidate, Entrance, budgets_sum}
use Rattle.rule.specs.Way.{candidates_of}
use Rattle.rule.specs.Laws.{WayLaws}
use Rattle.rule.specs.declared.Rings.{Rings}
use Rattle.rule.specs.declared.Rings.TheVariants.{Refused}
use Rattle.rule.proofs.CandidatesListed.{candidates_listed}
use Rattle.rule.proofs.TableDemand.{no_candidate_left, no_interior_left}
use Rattle.rule.proofs.TheFold.{the_fold_lawful, folds_acyclic}
use Rattle.rule.proofs.BestLaws.{kept_shares_laws}
use Rattle.fold_bytes.specs.Image.{Delivered, choosing_of, fold_of, FoldAnswer}
use Rattle.promises.specs.Images.{GoodImage}
use Rattle.promises.specs.Runs.{FoldRun, RunsInTurn}
use Rattle.promises.proofs.AnyRun as any
use Rattle.promises.proofs.Decided.{edge_decided}

-- The folds of each version are lawful ways of folding.
pub fold_of_lawful : (rings : Rings) (version : ℕ) → WayLaws (fold_of rings version)
fold_of_lawful rings version = the_fold_lawful (record { rings = rings; by = choosing_of version })

module _ (rings : Rings) {image image' budgets : List ℕ} (runs : RunsInTurn (fold_of rings) image budgets image') where
  -- What they leave is a good image,
  pub runs_leave_good : GoodImage image'
  runs_leave_good = (any.runs_leave (fold_of_lawful rings) runs).0

  -- with the version and the lengths that the first one had,
  pub runs_keep_version : version_of image' ≡ version_of image
  runs_keep_version = (any.runs_keep (fold_of_lawful rings) runs).0

  pub runs_keep_lengths : lengths_of image' ≡ lengths_of image
  runs_keep_lengths = (any.runs_keep (fold_of_lawful rings) runs).1

  -- so that the next run refuses nothing, whatever its budget: one can always go on.
  pub next_run_accepted : {out out' new new' : List ℕ} {budget : ℕ} {answers : Delivered} → FoldAnswer (fold_of rings) image' budget out out' new new' answers
      → answers.number ≡ 0
  next_run_accepted = let (good, kind) = any.runs_leave (fold_of_lawful rings) runs in any.good_accepted (fold_of_lawful rings) good kind

  -- One run on the first image refuses nothing, either,
  pub one_run_accepted : {out out' new new' : List ℕ} {budget : ℕ} {answers : Delivered} → FoldAnswer (fold_of rings) image budget out out' new new' answers
      → answers.number ≡ 0
  one_run_accepted = any.first_accepted (fold_of_lawful rings) runs

  -- and by the sum of the budgets it ends in the same bytes.
  pub runs_as_one : {image'' : List ℕ} → FoldRun (fold_of rings) image (budgets_sum budgets) image'' → image' ≡ image''
  runs_as_one = any.runs_in_turn_as_one (fold_of_lawful rings) runs

  -- The total of the counts never moves.
  pub runs_keep_total : count_sum (counts_of image') ≡ count_sum (counts_of image)
  runs_keep_total = any.runs_total_stays (fold_of_lawful rings) runs

  -- The candidates of the first image's table, where rings are refused the outermost superbubbles with an interior, have a number;
  pub first_image_candidates : (candidates : List ℕ) × Listing (Entrance (candidates_of rings) (edges (table_of image).rows)) candidates
  first_image_candidates =
      let (sound, kind) = any.runs_begin (fold_of_lawful rings) runs in
      candidates_listed (edge_decided (table_of image).rows) (edges_below sound.well_formed) rings

  -- once the budgets reach it,
  module _ {candidates : List ℕ} (listed : Listing (Entrance (candidates_of rings) (edges (table_of image).rows)) candidates)
      (reached : length candidates ≤ budgets_sum budgets) where
    -- no candidate is left in the table that was written,
    pub runs_leave_no_candidate : (s t : ℕ) → candidates_of rings (edges (table_of image').rows) s t → ⊥
    runs_leave_no_candidate =
        let (sound, kind) = any.runs_begin (fold_of_lawful rings) runs in
        no_candidate_left (fold_of_lawful rings (version_of image)) kind (any.tables_of_runs (fold_of_lawful rings) runs) listed reached

    -- and a further run gives back its bytes.
    pub further_run : {budget : ℕ} {image'' : List ℕ} → FoldRun (fold_of rings) image' budget image'' → image'' ≡ image'
    further_run = any.further_run_gives_back (fold_of_lawful rings) runs listed reached

-- Where rings are refused,
module _ {image image' budgets : List ℕ} (runs : RunsInTurn (fold_of Refused) image budgets image') where
  -- what they leave has no directed cycle,
  pub runs_leave_acyclic : Cyclic (edges (table_of image').rows) → ⊥
  runs_leave_acyclic = folds_acyclic (any.runs_leave (fold_of_lawful Refused) runs).1

  -- and once the budgets reach the number of the outermost superbubbles with an interior, no superbubble with an interior is left in the table that was written.
  pub runs_leave_no_interior : {candidates : List ℕ} → Listing (Entrance Candidate (edges (table_of image).rows)) candidates → length candidates ≤ budgets_sum budgets
      → (s t : ℕ) → Superbubble (edges (table_of image').rows) s t → (v : ℕ) → Interior (edges (table_of image').rows) s t v → ⊥
  runs_leave_no_interior =
      let (sound, kind) = any.runs_begin (fold_of_lawful Refused) runs in
      no_interior_left (kept_shares_laws (choosing_of (version_of image))) sound kind (any.tables_of_runs (fold_of_lawful Refused) runs)
