-- Of all that the contract of fold allows, in every lawful way: two results coincide, and what a fold leaves is accepted by the next one. With `TableDemand` of
-- `rule` this is demand 3. Assumes nothing.
use Rattle.std.proofs.Common.{ℕ, ◌+◌, ◌≡◌, sym, ap, ap₂, ◌∙◌, inr, ◌∷◌, ◌++◌, arith, length, drop}
use native.Mathlib.Decide.{ℕ_discrete}
use Rattle.table.specs.Table.{Table, size, edges, SoundTable}
use Rattle.table.specs.Numbers.{counted_demands}
use Rattle.table.specs.Verdict.{AllMet}
use Rattle.table.proofs.VerdictLaws.{accepted, accepts, goes_on, verdict_unique}
use Rattle.table.proofs.Accepted.{counted_meets}
use Rattle.rule.specs.Way.{Way}
use Rattle.rule.specs.Laws.{WayLaws}
use Rattle.rule.specs.Tables.{TableFolded, TablesInTurn.once}
use Rattle.rule.proofs.Budgets.{applied_kind}
use Rattle.rule.proofs.TableDemand.{table_folds_coincide, count_sum_stays}
use Rattle.folding.specs.Folding.{Outcome, fold_room, fold_demands, FoldDone}

module _ {way : Way} (laws : WayLaws way) {table : Table} {budget : ℕ} {lent : Table} where
  -- an accepted fold met all that was asked
  fold_met : {after : Table} {answer : Outcome} → FoldDone way table budget lent after answer → answer.number ≡ 0 → AllMet (fold_demands way table lent)
  fold_met done e =
      accepted (fold_demands way table lent) (
        (λ e. omega arith),
        (
          (λ e. omega arith),
          ((λ e. omega arith), ((λ e. omega arith), ((λ e. omega arith), ((λ e. omega arith), ((λ e. omega arith), ((λ e. omega arith), laws.never_zero table.rows)))))),
        ),
      )
      (rw e at done.verdict)

  fold_kind : {after : Table} {answer : Outcome} → FoldDone way table budget lent after answer → answer.number ≡ 0 → way.Kind (edges table.rows)
  fold_kind done e = laws.asked_kind table.rows (fold_met done e).1.1.1.1.1.1.1.1

  -- two folds of one table by one budget, into slices that held the same, coincide: number, fields and all memory lent
  pub fold_determined : {after₁ after₂ : Table} {answer₁ answer₂ : Outcome} → FoldDone way table budget lent after₁ answer₁ → FoldDone way table budget lent after₂ answer₂
      → (answer₁ ≡ answer₂) × (after₁ ≡ after₂)
  fold_determined {after₁} {after₂} {answer₁} {answer₂} p q =
      let number : answer₁.number ≡ answer₂.number =
      verdict_unique (fold_demands way table lent) answer₁.number answer₂.number p.verdict q.verdict in
      elim (ℕ_discrete answer₁.number 0) [
        | yes e ↦
            let x = p.taken e in
            let y = q.taken (sym number ∙ e) in
            let (same, folded, left) = table_folds_coincide laws (fold_kind p e) x.table_folded y.table_folded in
            let m : answer₁.edges ≡ answer₂.edges = x.edge_count ∙ ap (λ (t : Table). length t.rows.targets) same ∙ sym y.edge_count in
            let starts = x.at_fronts.starts_front ∙ ap (λ (t : Table). t.rows.starts ++ drop (size table.rows + 1) lent.rows.starts) same
            ∙ sym y.at_fronts.starts_front in
            let targets = x.at_fronts.targets_front ∙ ap₂ (λ (t : Table) (k : ℕ). t.rows.targets ++ drop k lent.rows.targets) same m
            ∙ sym y.at_fronts.targets_front in
            let counts = x.at_fronts.counts_front ∙ ap (λ (t : Table). t.counts ++ drop (size table.rows) lent.counts) same ∙ sym y.at_fronts.counts_front in (
              λ i. record { number = number i; folded = folded i; left = left i; edges = m i },
              λ i. record { rows = record { starts = starts i; targets = targets i }; counts = counts i },
            )
        | no refusal ↦
            let (folded, left, m, after) = p.refused refusal in
            let (folded', left', m', after') = q.refused (λ e. refusal (number ∙ e)) in
            let folded'' = folded ∙ sym folded' in
            let left'' = left ∙ sym left' in
            let m'' = m ∙ sym m' in
            (λ i. record { number = number i; folded = folded'' i; left = left'' i; edges = m'' i }, after ∙ sym after')
      ]

  -- a table with its counts that the way folds is folded, if there is room
  pub fold_accepts : {after : Table} {answer : Outcome} → SoundTable table → way.Kind (edges table.rows) → (fold_room table lent).met
      → FoldDone way table budget lent after answer → answer.number ≡ 0
  fold_accepts {answer = answer} ok kind room done =
      verdict_unique (fold_demands way table lent) answer.number 0 done.verdict
      (goes_on (counted_demands table) (fold_room table lent ∷ way.asked table.rows) 0 (counted_meets table ok)
      (inr (room, accepts (way.asked table.rows) (laws.kind_asked table.rows kind))))

-- what a fold leaves is a well-formed table with its counts that the way folds: with room, the next fold accepts it
pub left_accepted : {way : Way} → WayLaws way → {table result : Table} {budget folded left : ℕ} → SoundTable table → way.Kind (edges table.rows)
    → TableFolded way.candidates way.rule table budget result folded left → SoundTable result × way.Kind (edges result.rows)
left_accepted laws ok kind f =
    let size = f.same_size in (
      record {
        well_formed = size.well_formed;
        count_each = omega (arith, size.as_many_counts, size.as_many_vertices, ok.count_each);
        sum_fits = omega (arith, count_sum_stays laws kind (once f) ok, ok.sum_fits);
      },
      applied_kind laws.candidates_lawful laws.rule_lawful kind f.graph_folded.applied,
    )
