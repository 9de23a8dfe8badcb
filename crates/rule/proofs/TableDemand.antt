-- Demand 3 for tables, for every lawful way of folding. Assumes nothing.
use Prim.Native.Nat.{ℕ, ◌≤◌}
use mathlib.Core.Path.{◌≡◌, refl, sym, ◌∙◌}
use mathlib.Core.List.{List}
use lib.ListN.{length}
use Rattle.bubble.specs.Superbubble.{Interior, Superbubble}
use Rattle.table.specs.Table.{count_sum, Table, size, edges, SoundTable}
use Rattle.table.proofs.RowLaws.{edges_below}
use Rattle.rule.specs.Lists.{CandidateSet, Listing, total, Same}
use Rattle.rule.specs.Fold.{Rule, NoCycle, Candidate, Entrance, InTurn, InTurn.once, InTurn.then, budgets_sum}
use Rattle.rule.specs.Way.{Way}
use Rattle.rule.specs.Laws.{RuleLaws, WayLaws}
use Rattle.rule.specs.Tables.{count_of, SameSize, TableFolded, TablesInTurn, TablesInTurn.once, TablesInTurn.then}
use Rattle.rule.proofs.Coincide.{folded_same}
use Rattle.rule.proofs.Demand.{as_once, total_stays, no_candidate, gives_back, none_with_interior}
use Rattle.rule.proofs.SameTable.{same_tables, total_of_counts}

-- tables of the same size as a third, with the same edges and counts, are the same
same_size_tables : {table table₁ table₂ : Table} → SameSize table table₁ → SameSize table table₂
    → Same (edges table₁.rows) (edges table₂.rows) (count_of table₁.counts) (count_of table₂.counts) → table₁ ≡ table₂
same_size_tables a b = same_tables a.well_formed b.well_formed (a.as_many_vertices ∙ sym b.as_many_vertices) (a.as_many_counts ∙ sym b.as_many_counts)

module _ {C : CandidateSet} {R : Rule} where
  turns_size : {table table' : Table} {budgets : List ℕ} → TablesInTurn C R table budgets table' → SameSize table table'
  turns_size (once f) = f.same_size
  turns_size (then f r) =
      let a = f.same_size in
      let b = turns_size r in
      record { well_formed = b.well_formed; as_many_vertices = b.as_many_vertices ∙ a.as_many_vertices; as_many_counts = b.as_many_counts ∙ a.as_many_counts }

  graphs_in_turn : {table table' : Table} {budgets : List ℕ} → TablesInTurn C R table budgets table'
      → InTurn C R (edges table.rows) (count_of table.counts) budgets (edges table'.rows) (count_of table'.counts)
  graphs_in_turn (once f) = once f.graph_folded
  graphs_in_turn (then f r) = then f.graph_folded (graphs_in_turn r)

module _ {way : Way} (laws : WayLaws way) where
  -- two folds of one table with one budget coincide: tables, counts and the numbers returned
  pub table_folds_coincide : {table table₁ table₂ : Table} {budget folded₁ left₁ folded₂ left₂ : ℕ} → way.Kind (edges table.rows)
      → TableFolded way.candidates way.rule table budget table₁ folded₁ left₁ → TableFolded way.candidates way.rule table budget table₂ folded₂ left₂
      → (table₁ ≡ table₂) × (folded₁ ≡ folded₂) × (left₁ ≡ left₂)
  table_folds_coincide g f h =
      let (same, q, r) = folded_same laws.candidates_lawful laws.rule_lawful g f.graph_folded h.graph_folded in
      (same_size_tables f.same_size h.same_size same, q, r)

  module _ {table table' : Table} {budgets : List ℕ} (kind : way.Kind (edges table.rows)) (turns : TablesInTurn way.candidates way.rule table budgets table') where
    -- For every list of one or more budgets, folding in turn, each on what the last left, gives the same starts, targets and counts as one fold with their sum.
    pub in_turn_as_once : {table'' : Table} {folded left : ℕ} → TableFolded way.candidates way.rule table (budgets_sum budgets) table'' folded left → table' ≡ table''
    in_turn_as_once f =
        same_size_tables (turns_size turns) f.same_size (as_once laws.candidates_lawful laws.rule_lawful kind (graphs_in_turn turns) f.graph_folded)

    -- The sum of the counts never moves.
    pub count_sum_stays : SoundTable table → count_sum table'.counts ≡ count_sum table.counts
    count_sum_stays ok =
        let n = length table.counts in
        let moved : total (count_of table'.counts) n ≡ total (count_of table.counts) n =
        rw ok.count_each (total_stays laws.candidates_lawful laws.rule_lawful kind (graphs_in_turn turns) (size table.rows) (edges_below ok.well_formed)) in
        sym (total_of_counts table'.counts) ∙ rw (turns_size turns).as_many_counts (moved ∙ total_of_counts table.counts)

    module _ {l : List ℕ} (listed : Listing (Entrance way.candidates (edges table.rows)) l) (enough : length l ≤ budgets_sum budgets) where
      -- Once the budgets reach the number of candidates of the first table, no candidate is left,
      pub no_candidate_left : (s t : ℕ) → way.candidates (edges table'.rows) s t → ⊥
      no_candidate_left = no_candidate laws.candidates_lawful laws.rule_lawful kind (graphs_in_turn turns) listed enough

      -- and a further fold with any budget gives back its input.
      pub further_fold_gives_back : {table'' : Table} {budget folded left : ℕ} → TableFolded way.candidates way.rule table' budget table'' folded left → table'' ≡ table'
      further_fold_gives_back f =
          let itself : SameSize table' table' = record { well_formed = (turns_size turns).well_formed; as_many_vertices = refl; as_many_counts = refl } in
          same_size_tables f.same_size itself
          (gives_back laws.candidates_lawful laws.rule_lawful kind (graphs_in_turn turns) listed enough f.graph_folded)

-- Of the candidates of docs/RULES.md, Fold: no superbubble with an interior is left.
pub no_interior_left : {R : Rule} → RuleLaws R → {table table' : Table} {budgets l : List ℕ} → SoundTable table → NoCycle (edges table.rows)
    → TablesInTurn Candidate R table budgets table' → Listing (Entrance Candidate (edges table.rows)) l → length l ≤ budgets_sum budgets
    → (s t : ℕ) → Superbubble (edges table'.rows) s t → (v : ℕ) → Interior (edges table'.rows) s t v → ⊥
no_interior_left lawful {table} ok acyclic turns = none_with_interior lawful (size table.rows) (edges_below ok.well_formed) acyclic (graphs_in_turn turns)
