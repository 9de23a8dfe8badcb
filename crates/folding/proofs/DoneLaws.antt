-- After the last entrance: the new table and counts are the table folded. For every lawful way. Assumes nothing.
use Rattle.std.proofs.Common.{ℕ, ◌+◌, ◌-◌, ◌≤◌, ◌<◌, ◌≡◌, refl, sym, ◌∙◌, List, ◌++◌, arith, length, get_or, drop, length-drop, length-take}
use Rattle.table.specs.Table.{Rows, Table, size, edges, Sound, SoundTable}
use Rattle.table.proofs.RowLaws.{edges_below}
use Rattle.bubble.proofs.Number.{Below}
use Rattle.rule.specs.Fold.{Applied}
use Rattle.rule.specs.Way.{Way}
use Rattle.rule.specs.Laws.{WayLaws}
use Rattle.rule.specs.Tables.{count_of, TableFolded}
use Rattle.rule.proofs.NewRows.{row_next}
use Rattle.rule.proofs.ByNumber.{numbered_edges}
use Rattle.rule.proofs.Remaining.{remaining_listed, items_number}
use Rattle.candidates.specs.Candidates.{entrances, entrances_below}
use Rattle.candidates.proofs.FoundLaws.{entrances_listed}
use Rattle.staying.specs.Staying.{EdgesStay, TableReady, TableWritten}
use Rattle.turns.specs.declared.Turned.{Turned}
use Rattle.turns.specs.Turns.{TurnDone}
use Rattle.entrances.proofs.TurnLaws.{folded_number}
use Rattle.folding.specs.Folding.{FoldedAt}

module _ {way : Way} (laws : WayLaws way) {table : Table} (ok : SoundTable table) (kind : way.Kind (edges table.rows)) {budget : ℕ} {next out : List ℕ} {answer : Turned}
    (done : TurnDone way table budget next out answer) where
  open table use {rows, counts}
  open done use {turns, exits}

  -- where one edge stays, it is an edge
  one_stays : (v : ℕ) → v < size rows → get_or next v 0 < size rows → edges rows v (get_or next v 0)
  one_stays v h l =
      let (i, m, f) = (turns.numbered v h).one l in
      ((row_next laws.candidates_lawful laws.rule_lawful kind turns.fit i m v (get_or next v 0) f (get_or next v 0)).1 refl).0

  -- so the new table can be written
  pub turned_writable : {lent : Rows} → size rows + 1 ≤ length lent.starts → length rows.targets ≤ length lent.targets → TableReady rows next lent
  turned_writable starts_room targets_room =
      record { well_formed = ok.well_formed; next_each = done.next_long; next_edge = one_stays; starts_room = starts_room; targets_room = targets_room }

  -- no more are folded than there are
  pub folded_most : answer.folded ≤ answer.found
  folded_most =
      let all : length (entrances_below exits (size rows)) ≡ answer.found = rw (← done.candidates.each) (sym done.number) in
      omega (arith, folded_number turns, length-take budget (entrances_below exits (size rows)))

  module _ {result : Rows} (well_formed : Sound result) (as_many : length result.starts ≡ length rows.starts) (edges_stay : EdgesStay rows next result) where
    applied : Applied way.candidates way.rule (edges rows) (count_of counts) budget (edges result) (count_of out)
    applied =
        let below₁ : Below (edges result) (size rows) = λ u v e. let (a, b) = edges_below well_formed u v e in (omega arith, omega arith) in
        record {
          candidates = entrances exits;
          listed = entrances_listed laws.candidates_lawful done.candidates;
          items = turns.items;
          first = rw done.candidates.each turns.first;
          fit = turns.fit;
          edges =
              numbered_edges laws.candidates_lawful laws.rule_lawful kind turns.fit (edges_below ok.well_formed) below₁ turns.numbered
              (λ u h. record { whole = edges_stay.whole u; one = edges_stay.one u h; none = edges_stay.none u });
          added = turns.added;
          emptied = turns.emptied;
          untouched = turns.untouched;
        }

    table_folded : TableFolded way.candidates way.rule table budget (record { rows = result; counts = out }) answer.folded (answer.found - answer.folded)
    unfolding applied
    table_folded =
        let many = items_number laws.candidates_lawful laws.rule_lawful kind applied in
        let all : length (drop budget (entrances exits)) ≡ length (entrances exits) - budget = length-drop budget (entrances exits) in
        record {
          same_size = record { well_formed = well_formed; as_many_vertices = as_many; as_many_counts = done.out_long ∙ sym ok.count_each };
          graph_folded =
              record {
                applied = applied;
                how_many = turns.how_many;
                remaining = (
                  drop budget (entrances exits),
                  remaining_listed laws.candidates_lawful laws.rule_lawful kind applied,
                  omega (arith, done.number, turns.how_many),
                );
              };
        }

  -- with the new table written, and a counts slice whose first n were lent
  pub folded_at : {lent : Table} {after : Rows} {m : ℕ} → TableWritten rows next lent.rows after m
      → FoldedAt way table budget lent (record { rows = after; counts = out ++ drop (size rows) lent.counts })
      (record { number = 0; folded = answer.folded; left = answer.found - answer.folded; edges = m })
  folded_at written =
      record {
        result = record { rows = written.result; counts = out };
        table_folded = table_folded written.well_formed written.as_many written.edges_stay;
        edge_count = sym written.edge_count;
        at_fronts = record { starts_front = written.starts_front; targets_front = written.targets_front; counts_front = refl };
      }
