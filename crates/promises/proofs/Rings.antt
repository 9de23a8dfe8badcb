-- The folds that take rings, sentence by sentence (docs/RULES.md, Rings). What they share with the other two is in the statements that take the mode of a fold, or whether
-- rings are refused or taken, as an argument: Demand1, Demand2, Shared, Versions, Printed, Runs, Coincide. Assumes nothing.
use Prim.Native.Nat.{ℕ, ◌≤◌}
use mathlib.Core.Path.{◌≡◌, refl}
use mathlib.Core.Logic.{◌≢◌, ◌↔◌, inl}
use mathlib.Core.List.{List, [], ◌∷◌, Memᴰ}
use native.Mathlib.Omega.{arith}
use lib.ListN.{length, get_or}
use Rattle.table.specs.Table.{count_sum, Table, edges, SoundTable}
use Rattle.table.proofs.RowLaws.{edges_below}
use Rattle.table.proofs.VerdictLaws.{met_is_passed}
use Rattle.layout.specs.Image.{table_of}
use Rattle.image.specs.Looking.{image_demands}
use Rattle.bubble.specs.Cycle.{Cyclic}
use Rattle.bubble.specs.Superbubble.{F, Interior}
use Rattle.rule.specs.Lists.{Graph, Counts, Listing}
use Rattle.rule.specs.Fold.{Rule, kept_shares, Entrance, Item, GraphFolded, budgets_sum}
use Rattle.rule.specs.Rings.{Skipped, RingCandidate}
use Rattle.rule.specs.Laws.{RuleLaws}
use Rattle.rule.specs.Tables.{count_of}
use Rattle.rule.specs.Way.{no_cycle_demand, fold_with, plain, ringed, the_fold}
use Rattle.rule.specs.declared.Choosing.{Choosing}
use Rattle.rule.specs.declared.Rings.TheVariants.{Refused, Taken}
use Rattle.rule.proofs.CandidatesListed.{candidates_listed}
use Rattle.rule.proofs.FoldExists as exists
use Rattle.rule.proofs.Skipped.{skipped_inside, skipped_counts}
use Rattle.rule.proofs.TableDemand.{no_candidate_left}
use Rattle.rule.proofs.TheFold.{acyclic_folds, fold_with_lawful, the_fold_lawful}
use Rattle.rule.proofs.WithoutCycle.{table_folded_ring}
use Rattle.folding.specs.Folding.{Outcome, fold_demands, FoldDone}
use Rattle.folding.proofs.Demand.{fold_determined}
use Rattle.folding.proofs.RingLaws.{done_without_cycle}
use Rattle.fold_bytes.specs.Image.{Delivered, fold_of, FoldAnswer}
use Rattle.promises.specs.Calls.{FoldCall, CallsInTurn}
use Rattle.promises.specs.InARow.{numbers}
use Rattle.promises.proofs.Decided.{edge_decided}
use Rattle.promises.proofs.LookAndLoad.{never}
use Rattle.promises.proofs.AnyWay.{turns, calls_as_one, total_stays, further_call}
use Rattle.promises.proofs.Demand2.{fold_accepted}
use Rattle.promises.proofs.Shared.{applied}
use Rattle.promises.proofs.Coincide.{fold_answers_coincide}

-- ---- Numbers: 1 to 7, then 8,
pub rings_order : (by : Choosing) (table lent : Table) → numbers (fold_demands (the_fold (ringed by)) table lent) ≡ 1 ∷ 2 ∷ 3 ∷ 4 ∷ 5 ∷ 6 ∷ 7 ∷ 8 ∷ []
rings_order by table lent = refl

-- and 9 is never given;
pub rings_never_nine : (by : Choosing) {table lent after : Table} {budget : ℕ} {answer : Outcome} → FoldDone (the_fold (ringed by)) table budget lent after answer
    → answer.number ≢ 9
rings_never_nine by {table} {lent} done =
    never 9 (fold_demands (the_fold (ringed by)) table lent) (λ e. omega arith) (
      inl (λ e. omega arith),
      (
        inl (λ e. omega arith),
        (
          inl (λ e. omega arith),
          (inl (λ e. omega arith), (inl (λ e. omega arith), (inl (λ e. omega arith), (inl (λ e. omega arith), (inl (λ e. omega arith), tt))))),
        ),
      ),
    )
    done.verdict

module _ (by : Choosing) {table table' : Table} {budget : ℕ} (ok : SoundTable table) (call : FoldCall (the_fold (ringed by)) table budget table') where
  -- any well-formed table, with room for the result, is folded.
  pub rings_accepted : call.answer.number ≡ 0
  rings_accepted = fold_accepted (ringed by) ok tt call

  -- ---- What is skipped is never itself folded,
  pub never_folded : (i : Item) → Memᴰ i (applied (ringed by) ok tt call).items → Skipped (edges table.rows) i.entrance i.exit → ⊥
  never_folded i m = ((applied (ringed by) ok tt call).fit i m).candidate.passable.not_skipped

  -- and unless a candidate around it or inside it is folded,
  module _ {x y : ℕ} (skipped : Skipped (edges table.rows) x y)
      (none-around : (i : Item) → Memᴰ i (applied (ringed by) ok tt call).items
      → ((v : ℕ) → F (edges table.rows) x y v → Interior (edges table.rows) i.entrance i.exit v) → ⊥)
      (none_inside : (i : Item) → Memᴰ i (applied (ringed by) ok tt call).items
      → ((v : ℕ) → F (edges table.rows) i.entrance i.exit v → Interior (edges table.rows) x y v) → ⊥) where
    -- it keeps its U,
    pub skipped_set_stays : (v : ℕ) → F (edges table.rows) x y v ↔ F (edges table'.rows) x y v
    skipped_set_stays = (skipped_inside (applied (ringed by) ok tt call) skipped none-around none_inside).set

    -- the edges inside it,
    pub skipped_edges_stay : (u v : ℕ) → F (edges table.rows) x y u → F (edges table.rows) x y v → edges table.rows u v ↔ edges table'.rows u v
    skipped_edges_stay = (skipped_inside (applied (ringed by) ok tt call) skipped none-around none_inside).edges

    -- and its interior counts.
    pub skipped_counts_stay : (v : ℕ) → Interior (edges table.rows) x y v → get_or table'.counts v 0 ≡ get_or table.counts v 0
    skipped_counts_stay = skipped_counts (applied (ringed by) ok tt call) skipped none-around none_inside

-- ---- Demand 3, over these candidates: they can be listed, so that they have a number.
pub first_ring_candidates : {table : Table} → SoundTable table → (candidates : List ℕ) × Listing (Entrance RingCandidate (edges table.rows)) candidates
first_ring_candidates {table} ok = candidates_listed (edge_decided table.rows) (edges_below ok.well_formed) Taken

-- For any rule that meets `RuleLaws`, both versions' among them, and any well-formed table:
module _ {R : Rule} (lawful : RuleLaws R) {table table' : Table} {budgets : List ℕ} (ok : SoundTable table) (calls : CallsInTurn (fold_with Taken R) table budgets table') where
  -- folding by one or more budgets in turn, each on the table the last one left, ends in the same table and counts as one fold with the sum.
  pub rings_in_turn_as_one : {table'' : Table} → FoldCall (fold_with Taken R) table (budgets_sum budgets) table'' → table' ≡ table''
  rings_in_turn_as_one = calls_as_one (fold_with_lawful Taken lawful) ok tt calls

  -- The total of the counts never moves.
  pub rings_total_never_moves : count_sum table'.counts ≡ count_sum table.counts
  rings_total_never_moves = total_stays (fold_with_lawful Taken lawful) ok tt calls

  -- Once the budgets reach the number of candidates in the first table,
  module _ {candidates : List ℕ} (listed : Listing (Entrance RingCandidate (edges table.rows)) candidates) (reached : length candidates ≤ budgets_sum budgets) where
    -- no candidate is left,
    pub no_ring_candidate : (s t : ℕ) → RingCandidate (edges table'.rows) s t → ⊥
    no_ring_candidate = no_candidate_left (fold_with_lawful Taken lawful) tt (turns (fold_with_lawful Taken lawful) ok tt calls) listed reached

    -- and a further fold gives back its input.
    pub further_ring_fold : {budget : ℕ} {table'' : Table} → FoldCall (fold_with Taken R) table' budget table'' → table'' ≡ table'
    further_ring_fold = further_call (fold_with_lawful Taken lawful) ok tt calls listed reached

-- The rules ask for nothing that cannot be: every well-formed table has a fold with every budget.
pub ring_fold_exists : (by : Choosing) {table : Table} → SoundTable table → (budget : ℕ)
    → (E' : Graph) × (c' : Counts) × (folded : ℕ) × (left : ℕ)
    × GraphFolded RingCandidate (kept_shares by) (edges table.rows) (count_of table.counts) budget E' c' folded left
ring_fold_exists by {table} ok = exists.fold_exists (edge_decided table.rows) (edges_below ok.well_formed) Taken tt (count_of table.counts) by

-- ---- On a table without a directed cycle the two folds give the same answer and the same slices, whatever else is wrong with it.
pub same_without_cycle : (by : Choosing) {table lent after₁ after₂ : Table} {budget : ℕ} {answer₁ answer₂ : Outcome} → (Cyclic (edges table.rows) → ⊥)
    → FoldDone (the_fold (plain by)) table budget lent after₁ answer₁ → FoldDone (the_fold (ringed by)) table budget lent after₂ answer₂
    → (answer₁ ≡ answer₂) × (after₁ ≡ after₂)
same_without_cycle by none fold rings = fold_determined (the_fold_lawful (ringed by)) (done_without_cycle none fold) rings

-- So do the programs: `fold` and `fold --rings` print and write the same bytes.
pub same_bytes_without_cycle : (image : List ℕ) {out out₁ out₂ new new₁ new₂ : List ℕ} {budget : ℕ} {answers₁ answers₂ : Delivered}
    → (Cyclic (edges (table_of image).rows) → ⊥) → FoldAnswer (fold_of Refused) image budget out out₁ new new₁ answers₁
    → FoldAnswer (fold_of Taken) image budget out out₂ new new₂ answers₂ → (answers₁ ≡ answers₂) × (out₁ ≡ out₂) × (new₁ ≡ new₂)
same_bytes_without_cycle image {out} {out₁} {new = new} {new₁ = new₁} {budget = budget} {answers₁ = answers₁} none fold rings =
    fold_answers_coincide Taken image taking rings
  where
    taking : FoldAnswer (fold_of Taken) image budget out out₁ new new₁ answers₁
    taking = record {
      printed = fold.printed;
      written = fold.written;
      verdict = met_is_passed (image_demands image) (no_cycle_demand (table_of image).rows) [] answers₁.number none fold.verdict;
      taken = λ e. let at = fold.taken e in record {
        result = at.result;
        folded = at.folded;
        left = at.left;
        table_folded = table_folded_ring (acyclic_folds none) at.table_folded;
        spelled = at.spelled;
        image = at.image;
      };
      refused = fold.refused;
      line_front = fold.line_front;
      image_front = fold.image_front;
    }
