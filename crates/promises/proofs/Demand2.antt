-- Demand 2: the list holds exactly the ordered pairs that meet the published definition, by rising entrance, for any well-formed directed table, cycles included;
-- and the fold changes exactly what its rule says (docs/RULES.md, Fold). Assumes nothing.
use Prim.Native.Nat.{ℕ, ◌+◌, ◌*◌, ◌≤◌, ◌<◌}
use mathlib.Core.Path.{◌≡◌, refl, sym, ap, ◌∙◌}
use mathlib.Core.Logic.{◌↔◌, inr}
use mathlib.Core.List.{List, [], ◌∷◌, ◌++◌}
use lib.ListN.{length, get_or, drop, length-map}
use Rattle.table.specs.Table.{Rows, Table, size, edges, Sound, SoundTable}
use Rattle.table.specs.Verdict.{AllMet}
use Rattle.table.specs.Numbers.{table_demands}
use Rattle.table.specs.Lent.{AtFronts}
use Rattle.table.proofs.VerdictLaws.{goes_on, verdict_unique}
use Rattle.table.proofs.Accepted.{table_met, well_formed_accepted}
use Rattle.table.proofs.RowLaws.{edges_below}
use Rattle.bubble.specs.Superbubble.{Superbubble}
use Rattle.bubble.proofs.Unique.{exit_unique}
use Rattle.listing.specs.Listing.{Found, Stands, Listed, ListDone}
use Rattle.listing.specs.Graphs.{Example, graphs, RightlyListed, AsPrinted, Each}
use Rattle.listing.proofs.ListLaws.{listed_determined}
use Rattle.listing.proofs.SoundList.{sound_accepted, front_is_list, front_listed, listed_most}
use Rattle.promises.proofs.TwelveGraphs.{twelve_graphs}
use Rattle.judging.specs.Judging.{Judgement, pair_inside, Judged, JudgeDone}
use Rattle.rule.specs.Fold.{NoCycle, Item, kept_shares}
use Rattle.rule.specs.Tables.{TableFolded}
use Rattle.rule.specs.Way.{kind_of, candidates_of, the_fold}
use Rattle.rule.specs.declared.Mode.{Mode}
use Rattle.rule.proofs.Ends.{budget_zero}
use Rattle.rule.proofs.SameTable.{same_tables}
use Rattle.rule.proofs.TheFold.{acyclic_folds, the_fold_lawful}
use Rattle.promises.specs.Lines.{lines}
use Rattle.promises.specs.Calls.{Foldable, FoldCall}
use Rattle.promises.proofs.AnyWay.{call_accepted, call_by_rule, call_edges, call_rest}

-- all that is asked of a well-formed table before its list or its judgement is met
asked_of_rows : {rows : Rows} → Sound rows → AllMet (table_demands rows)
asked_of_rows {rows} ok = table_met rows (well_formed_accepted rows ok)

module _ {rows : Rows} {out out' : List ℕ} {answer : Found} (ok : Sound rows) (room : 2 * size rows ≤ length out) (done : ListDone rows out out' answer) where
  -- Any well-formed table with room for its list gets its list:
  pub list_accepted : answer.number ≡ 0
  list_accepted = sound_accepted ok room done

  -- the front of the slice holds it,
  pub listed : Listed (Superbubble (edges rows)) (lines answer out') answer.found
  listed = front_listed (done.taken list_accepted)

  -- exactly the ordered pairs that meet the published definition,
  pub list_exact : (s t : ℕ) → Stands (lines answer out') answer.found s t ↔ Superbubble (edges rows) s t
  list_exact s t = (λ line. rw (← line.entrance, ← line.exit) (listed.sound line.line line.within), listed.whole s t)

  -- by rising entrance,
  pub list_rising : (i : ℕ) → i + 1 < answer.found → get_or (lines answer out') (2 * i) 0 < get_or (lines answer out') (2 * (i + 1)) 0
  list_rising = listed.rising

  -- at most n of them.
  pub list_most : answer.found ≤ size rows
  list_most = listed_most (edges_below ok) listed

  -- What stands behind the list is as it was.
  pub list_rest : out' ≡ lines answer out' ++ drop (2 * answer.found) out
  list_rest = (done.taken list_accepted).front ∙ ap (λ (l : List ℕ). l ++ drop (2 * answer.found) out) (sym (front_is_list (done.taken list_accepted)))

as_printed : (g : Example) → RightlyListed g → AsPrinted g
as_printed g (ok, printed) out out' answer room done =
    let accepted = list_accepted ok room done in
    let at = done.taken accepted in
    let (many, pairs) = listed_determined at.listed printed (λ s t u p q. exit_unique p q) in
    (accepted, many, front_is_list at ∙ pairs)

each_as_printed : (l : List Example) → Each RightlyListed l → Each AsPrinted l
each_as_printed [] all = tt
each_as_printed (g ∷ rest) all = (as_printed g all.0, each_as_printed rest all.1)

-- So it is for the twelve graphs: with room list accepts each, and writes the list that docs/RULES.md prints for it.
pub twelve_lists : Each AsPrinted graphs
twelve_lists = each_as_printed graphs twelve_graphs

-- A pair of vertices of any well-formed table is judged: yes exactly if it is a superbubble, and then the number of vertices in U.
pub judged : {rows : Rows} {s t : ℕ} {answer : Judgement} → Sound rows → s < size rows → t < size rows → JudgeDone rows s t answer
    → (answer.number ≡ 0) × Judged rows s t answer
judged {rows} {s} {t} {answer} ok entrance exit done =
    let accepted : answer.number ≡ 0
    = verdict_unique (table_demands rows ++ pair_inside rows s t ∷ []) answer.number 0 done.verdict
    (goes_on (table_demands rows) (pair_inside rows s t ∷ []) 0 (asked_of_rows ok) (inr ((entrance, exit), refl))) in
    (accepted, done.taken accepted)

-- a table without a directed cycle is of the kind that is folded where rings are refused
pub foldable_kind : {table : Table} → Foldable table → NoCycle (edges table.rows)
foldable_kind ok = acyclic_folds ok.acyclic

module _ (mode : Mode) {table table' : Table} {budget : ℕ} (ok : SoundTable table) (kind : kind_of mode.rings (edges table.rows))
    (call : FoldCall (the_fold mode) table budget table') where
  -- A well-formed table, where rings are refused one without a directed cycle, with room for the result, is folded by the call of either version:
  pub fold_accepted : call.answer.number ≡ 0
  fold_accepted = call_accepted (the_fold_lawful mode) ok kind call

  -- the table and counts at the fronts of the slices are those of the rule,
  pub fold_by_rule : TableFolded (candidates_of mode.rings) (kept_shares mode.by) table budget table' call.answer.folded call.answer.left
  fold_by_rule = call_by_rule (the_fold_lawful mode) ok kind call

  -- with as many edges as are returned,
  pub fold_edges : call.answer.edges ≡ length table'.rows.targets
  fold_edges = call_edges (the_fold_lawful mode) ok kind call

  -- and what stands behind them is as it was.
  pub fold_rest : AtFronts (size table.rows) call.answer.edges table' call.lent call.after
  fold_rest = call_rest (the_fold_lawful mode) ok kind call

-- Budget 0 gives back the input.
pub fold_by_zero : (mode : Mode) {table table' : Table} → SoundTable table → kind_of mode.rings (edges table.rows) → (call : FoldCall (the_fold mode) table 0 table')
    → (table' ≡ table) × (call.answer.folded ≡ 0)
fold_by_zero mode ok kind call =
    let folded = fold_by_rule mode ok kind call in
    let size-stays = folded.same_size in
    let items = folded.graph_folded.applied.items in (
      same_tables size-stays.well_formed ok.well_formed size-stays.as_many_vertices size-stays.as_many_counts (budget_zero folded.graph_folded.applied),
      folded.graph_folded.how_many ∙ sym (length-map items (λ (i : Item). i.entrance)) ∙ ap length folded.graph_folded.applied.first,
    )
