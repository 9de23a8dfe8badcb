-- A call answers with a Result, and the promises speak of the number and the fields that it stands for, as a C program is handed them. A Result is told by these, so two
-- results that a contract allows coincide as Results, too; and a program's answer is told by its number and lengths. Assumes nothing.
use Rattle.std.proofs.Common.{ℕ, ◌≡◌, List, Option, Result, arith}
use Rattle.table.specs.declared.refusal.Refusal.{Refusal}
use Rattle.table.specs.Verdict.{Demand, Verdict}
use Rattle.table.specs.Table.{Rows, Table, edges}
use Rattle.table.specs.Refusals.{numbered}
use Rattle.table.proofs.RefusalLaws.{number_not_zero, number_tells}
use Rattle.table.proofs.VerdictLaws.{verdict_unique}
use Rattle.layout.specs.Image.{Contents, table_of}
use Rattle.image.specs.declared.header.Sizes.{Sizes}
use Rattle.image.specs.Looking.{seen_of, Looked, Loaded}
use Rattle.writing.specs.Writing.{extent_of, Written}
use Rattle.listing.specs.Listing.{found_of, ListDone}
use Rattle.judging.specs.Judging.{judgement_of, JudgeDone}
use Rattle.rule.specs.declared.Mode.{Mode}
use Rattle.rule.specs.declared.Choosing.{Choosing}
use Rattle.rule.specs.declared.Rings.{Rings}
use Rattle.rule.specs.declared.Rings.TheVariants.{Refused, Taken}
use Rattle.bubble.specs.Cycle.{Cyclic}
use Rattle.rule.specs.Way.{the_fold, plain, ringed}
use Rattle.folding.specs.declared.folds.Folded.{Folded}
use Rattle.folding.specs.Folding.{outcome_of, FoldDone}
use Rattle.taking.specs.Taking.{TakenIn}
use Rattle.texts.specs.Text.{text, refusal_lines}
use Rattle.printing.specs.declared.Answer.{Answer}
use Rattle.printing.specs.Put.{AtFront}
use Rattle.printing.specs.Answered.{told_of}
use Rattle.look_bytes.specs.Look.{LookAnswer}
use Rattle.show_bytes.specs.Show.{ShowAnswer}
use Rattle.list_bytes.specs.Lines.{ListAnswer}
use Rattle.judge_bytes.specs.Line.{JudgeAnswer}
use Rattle.fold_bytes.specs.declared.Answers.{Answers}
use Rattle.fold_bytes.specs.Image.{delivered_of, fold_of, FoldAnswer}
use Rattle.promises.proofs.Coincide.{look_coincides, load_coincides, write_coincides, list_coincides, judge_coincides, fold_coincides, take_in_coincides}
use Rattle.promises.proofs.Coincide.{refusal_coincides, look_answers_coincide, show_answers_coincide, list_answers_coincide, judge_answers_coincide, fold_answers_coincide}
use Rattle.promises.proofs.Rings.{same_without_cycle, same_bytes_without_cycle}

-- ---- What a Result stands for tells which it is.

pub checked_tells : (r₁ r₂ : Result (Unit {0}) Refusal) → numbered r₁ ≡ numbered r₂ → r₁ ≡ r₂
checked_tells r₁ r₂ e = grind (arith, number_tells, number_not_zero)

pub seen_tells : (r₁ r₂ : Result Sizes Refusal) → seen_of r₁ ≡ seen_of r₂ → r₁ ≡ r₂
seen_tells r₁ r₂ e = grind (arith, number_tells, number_not_zero)

pub extent_tells : (r₁ r₂ : Result ℕ Refusal) → extent_of r₁ ≡ extent_of r₂ → r₁ ≡ r₂
extent_tells r₁ r₂ e = grind (arith, number_tells, number_not_zero)

pub found_tells : (r₁ r₂ : Result ℕ Refusal) → found_of r₁ ≡ found_of r₂ → r₁ ≡ r₂
found_tells r₁ r₂ e = grind (arith, number_tells, number_not_zero)

pub judgement_tells : (r₁ r₂ : Result (Option ℕ) Refusal) → judgement_of r₁ ≡ judgement_of r₂ → r₁ ≡ r₂
judgement_tells r₁ r₂ e = grind (arith, number_tells, number_not_zero)

pub outcome_tells : (r₁ r₂ : Result Folded Refusal) → outcome_of r₁ ≡ outcome_of r₂ → r₁ ≡ r₂
outcome_tells r₁ r₂ e = grind (arith, number_tells, number_not_zero)

-- What a program answers is told by its number and lengths.
pub told_tells : (a b : Answer) → told_of a ≡ told_of b → a ≡ b
told_tells a b e = grind (arith, number_tells, number_not_zero)

pub delivered_tells : (a b : Answers) → delivered_of a ≡ delivered_of b → a ≡ b
delivered_tells a b e = grind (arith, number_tells, number_not_zero)

-- ---- Two results of one call coincide.

-- `Rows::check`, `Table::check` and `in_place::check`: whatever is asked
pub check_results_coincide : (demands : List Demand) {r₁ r₂ : Result (Unit {0}) Refusal} → Verdict demands (numbered r₁) → Verdict demands (numbered r₂) → r₁ ≡ r₂
check_results_coincide demands {r₁} {r₂} a b = checked_tells r₁ r₂ (verdict_unique demands (numbered r₁) (numbered r₂) a b)

-- `image::look`
pub look_results_coincide : {image : List ℕ} {r₁ r₂ : Result Sizes Refusal} → Looked image (seen_of r₁) → Looked image (seen_of r₂) → r₁ ≡ r₂
look_results_coincide {r₁ = r₁} {r₂ = r₂} a b = seen_tells r₁ r₂ (look_coincides a b)

-- `image::load`
pub load_results_coincide : {image : List ℕ} {lent after₁ after₂ : Contents} {r₁ r₂ : Result Sizes Refusal} → Loaded image lent after₁ (seen_of r₁)
    → Loaded image lent after₂ (seen_of r₂) → (r₁ ≡ r₂) × (after₁ ≡ after₂)
load_results_coincide {r₁ = r₁} {r₂ = r₂} a b = let same = load_coincides a b in (seen_tells r₁ r₂ same.0, same.1)

-- `writing::write`, `write_lengths` and `write_version`
pub write_results_coincide : {version : ℕ} {contents : Contents} {image image₁ image₂ : List ℕ} {r₁ r₂ : Result ℕ Refusal}
    → Written version contents image image₁ (extent_of r₁) → Written version contents image image₂ (extent_of r₂) → (r₁ ≡ r₂) × (image₁ ≡ image₂)
write_results_coincide {r₁ = r₁} {r₂ = r₂} a b = let same = write_coincides a b in (extent_tells r₁ r₂ same.0, same.1)

-- `listing::list`
pub list_results_coincide : {rows : Rows} {out out₁ out₂ : List ℕ} {r₁ r₂ : Result ℕ Refusal} → ListDone rows out out₁ (found_of r₁)
    → ListDone rows out out₂ (found_of r₂) → (r₁ ≡ r₂) × (out₁ ≡ out₂)
list_results_coincide {r₁ = r₁} {r₂ = r₂} a b = let same = list_coincides a b in (found_tells r₁ r₂ same.0, same.1)

-- `judging::judge`
pub judge_results_coincide : {rows : Rows} {s t : ℕ} {r₁ r₂ : Result (Option ℕ) Refusal} → JudgeDone rows s t (judgement_of r₁)
    → JudgeDone rows s t (judgement_of r₂) → r₁ ≡ r₂
judge_results_coincide {r₁ = r₁} {r₂ = r₂} a b = judgement_tells r₁ r₂ (judge_coincides a b)

-- `folding::fold_by` and the four folds that are named
pub fold_results_coincide : (mode : Mode) {table lent after₁ after₂ : Table} {budget : ℕ} {r₁ r₂ : Result Folded Refusal}
    → FoldDone (the_fold mode) table budget lent after₁ (outcome_of r₁) → FoldDone (the_fold mode) table budget lent after₂ (outcome_of r₂)
    → (r₁ ≡ r₂) × (after₁ ≡ after₂)
fold_results_coincide mode {r₁ = r₁} {r₂ = r₂} a b = let same = fold_coincides mode a b in (outcome_tells r₁ r₂ same.0, same.1)

-- `taking::take_in`
pub take_in_results_coincide : {image : List ℕ} {lent after₁ after₂ : Contents} {r₁ r₂ : Result Sizes Refusal} → TakenIn image lent after₁ (seen_of r₁)
    → TakenIn image lent after₂ (seen_of r₂) → (r₁ ≡ r₂) × (after₁ ≡ after₂)
take_in_results_coincide {r₁ = r₁} {r₂ = r₂} a b = let same = take_in_coincides a b in (seen_tells r₁ r₂ same.0, same.1)

-- `printing::refusal`
pub refusal_told_coincide : {out out₁ out₂ : List ℕ} {number : ℕ} {a₁ a₂ : Answer}
    → ((told_of a₁).number ≡ number) × AtFront (text (refusal_lines number)) out out₁ (told_of a₁).length
    → ((told_of a₂).number ≡ number) × AtFront (text (refusal_lines number)) out out₂ (told_of a₂).length
    → (a₁ ≡ a₂) × (out₁ ≡ out₂)
refusal_told_coincide {a₁ = a₁} {a₂ = a₂} a b = let same = refusal_coincides a b in (told_tells a₁ a₂ same.0, same.1)

-- `look_bytes::answer`, `show_bytes::answer`, `list_bytes::answer`, `judge_bytes::answer`
pub look_told_coincide : (image : List ℕ) {out out₁ out₂ : List ℕ} {a₁ a₂ : Answer} → LookAnswer image out out₁ (told_of a₁) → LookAnswer image out out₂ (told_of a₂)
    → (a₁ ≡ a₂) × (out₁ ≡ out₂)
look_told_coincide image {a₁ = a₁} {a₂ = a₂} a b = let same = look_answers_coincide image a b in (told_tells a₁ a₂ same.0, same.1)

pub show_told_coincide : (image : List ℕ) {out out₁ out₂ : List ℕ} {a₁ a₂ : Answer} → ShowAnswer image out out₁ (told_of a₁) → ShowAnswer image out out₂ (told_of a₂)
    → (a₁ ≡ a₂) × (out₁ ≡ out₂)
show_told_coincide image {a₁ = a₁} {a₂ = a₂} a b = let same = show_answers_coincide image a b in (told_tells a₁ a₂ same.0, same.1)

pub list_told_coincide : (image : List ℕ) {out out₁ out₂ : List ℕ} {a₁ a₂ : Answer} → ListAnswer image out out₁ (told_of a₁) → ListAnswer image out out₂ (told_of a₂)
    → (a₁ ≡ a₂) × (out₁ ≡ out₂)
list_told_coincide image {a₁ = a₁} {a₂ = a₂} a b = let same = list_answers_coincide image a b in (told_tells a₁ a₂ same.0, same.1)

pub judge_told_coincide : (image : List ℕ) {s t : ℕ} {out out₁ out₂ : List ℕ} {a₁ a₂ : Answer} → JudgeAnswer image s t out out₁ (told_of a₁)
    → JudgeAnswer image s t out out₂ (told_of a₂) → (a₁ ≡ a₂) × (out₁ ≡ out₂)
judge_told_coincide image {a₁ = a₁} {a₂ = a₂} a b = let same = judge_answers_coincide image a b in (told_tells a₁ a₂ same.0, same.1)

-- `fold_bytes::answer`
pub fold_delivered_coincide : (rings : Rings) (image : List ℕ) {out out₁ out₂ new new₁ new₂ : List ℕ} {budget : ℕ} {a₁ a₂ : Answers}
    → FoldAnswer (fold_of rings) image budget out out₁ new new₁ (delivered_of a₁) → FoldAnswer (fold_of rings) image budget out out₂ new new₂ (delivered_of a₂)
    → (a₁ ≡ a₂) × (out₁ ≡ out₂) × (new₁ ≡ new₂)
fold_delivered_coincide rings image {a₁ = a₁} {a₂ = a₂} a b =
    let (same, outs, news) = fold_answers_coincide rings image a b in (delivered_tells a₁ a₂ same, outs, news)

-- ---- Where there is no directed cycle the two folds of a version, and the programs `fold` and `fold --rings`, answer the same.

pub same_results_without_cycle : (by : Choosing) {table lent after₁ after₂ : Table} {budget : ℕ} {r₁ r₂ : Result Folded Refusal} → (Cyclic (edges table.rows) → ⊥)
    → FoldDone (the_fold (plain by)) table budget lent after₁ (outcome_of r₁) → FoldDone (the_fold (ringed by)) table budget lent after₂ (outcome_of r₂)
    → (r₁ ≡ r₂) × (after₁ ≡ after₂)
same_results_without_cycle by {r₁ = r₁} {r₂ = r₂} none a b = let same = same_without_cycle by none a b in (outcome_tells r₁ r₂ same.0, same.1)

pub same_delivered_without_cycle : (image : List ℕ) {out out₁ out₂ new new₁ new₂ : List ℕ} {budget : ℕ} {a₁ a₂ : Answers}
    → (Cyclic (edges (table_of image).rows) → ⊥) → FoldAnswer (fold_of Refused) image budget out out₁ new new₁ (delivered_of a₁)
    → FoldAnswer (fold_of Taken) image budget out out₂ new new₂ (delivered_of a₂) → (a₁ ≡ a₂) × (out₁ ≡ out₂) × (new₁ ≡ new₂)
same_delivered_without_cycle image {a₁ = a₁} {a₂ = a₂} none a b =
    let (same, outs, news) = same_bytes_without_cycle image none a b in (delivered_tells a₁ a₂ same, outs, news)
