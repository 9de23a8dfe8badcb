-- Two results that a contract allows coincide, for each public function of the library, and of those from bytes to bytes: number, fields and all memory lent. What escapes
-- is in docs/CONTRACTS.md.
-- Working room is left open: the order of a search, the colours and the path of the cycle test, the best sums of a kept path. No result depends on what stood in it: two calls with
-- different working room coincide. Assumes nothing.
use Prim.Native.Nat.{ℕ, ◌<◌, ◌≤◌}
use mathlib.Core.Path.{◌≡◌, refl, sym, ◌∙◌}
use mathlib.Core.Bool.{Bool}
use mathlib.Core.List.{List}
use Rattle.std.proofs.Common.{Option}
use lib.ListN.{length, get_or}
use Rattle.table.specs.Limits.{read_limit}
use Rattle.table.specs.Verdict.{Verdict, Says}
use Rattle.table.specs.Table.{In, Rises, count_sum, Rows, Table, edges}
use Rattle.table.specs.Numbers.{table_demands, counted_demands}
use Rattle.table.proofs.VerdictLaws.{says_unique, verdict_unique}
use Rattle.layout.specs.Image.{Contents}
use Rattle.in_place.specs.InPlace.{contents_in, placed_demands}
use Rattle.image.specs.Looking.{Seen, Looked, Loaded}
use Rattle.image.proofs.Determined.{look_determined, load_determined}
use Rattle.writing.specs.Writing.{Extent, Written}
use Rattle.writing.proofs.Determined.{write_determined}
use Rattle.vertices.specs.Vertices.{Added, Size}
use Rattle.vertices.proofs.Determined.{put_determined}
use Rattle.parents.specs.Parents.{Parents, Zeros, Tallied}
use Rattle.parents.proofs.TallyLaws.{zeros_same, tallied_same, parents_same}
use Rattle.walking.specs.Walking.{Walked}
use Rattle.walking.proofs.Determined.{walk_determined}
use Rattle.search.specs.declared.Exit.{Exit}
use Rattle.search.specs.Search.{Visited, Sought}
use Rattle.search.proofs.AnswerLaws.{shown, answer_unique}
use Rattle.bubble.specs.Superbubble.{Reaches}
use Rattle.bubble.specs.Cycle.{Cyclic}
use Rattle.visiting.specs.declared.Turn.{Turn}
use Rattle.visiting.specs.Visits.{Followed, Visitable, VisitAnswer}
use Rattle.visiting.proofs.AnswerLaws.{visit_answer_unique}
use Rattle.listing.specs.Listing.{Found, ListDone}
use Rattle.listing.proofs.Determined.{superbubbles_determined, list_determined}
use Rattle.judging.specs.Judging.{Judgement, JudgeDone}
use Rattle.judging.proofs.Determined.{judged_determined, judge_determined}
use Rattle.candidates.specs.Candidates.{FindDone}
use Rattle.candidates.proofs.FoundLaws.{found_determined}
use Rattle.children.specs.declared.Choice.{Choice}
use Rattle.children.specs.Children.{Chosen}
use Rattle.children.proofs.Determined.{choice_determined}
use Rattle.sharing.specs.Sharing.{Shared}
use Rattle.sharing.proofs.Determined.{shared_determined}
use Rattle.kept.specs.Keeping.{KeptDone}
use Rattle.kept.proofs.DoneLaws.{kept_coincide}
use Rattle.turns.specs.declared.Turned.{Turned}
use Rattle.turns.specs.Turns.{TurnDone}
use Rattle.turns.proofs.Determined.{turn_determined}
use Rattle.staying.specs.Staying.{TableWritten}
use Rattle.staying.proofs.Determined.{write_table_determined}
use Rattle.rule.specs.declared.Choosing.{Choosing}
use Rattle.rule.specs.declared.Mode.{Mode}
use Rattle.rule.specs.declared.Rings.{Rings}
use Rattle.rule.specs.Fold.{kept_shares}
use Rattle.rule.specs.Way.{candidates_of, the_fold}
use Rattle.rule.proofs.TheFold.{candidates_lawful, the_fold_lawful}
use Rattle.skipping.specs.Skipping.{Admitted}
use Rattle.skipping.proofs.SkipLaws.{admitted_determined}
use Rattle.folding.specs.Folding.{Outcome, FoldDone}
use Rattle.folding.proofs.Demand.{fold_determined}
use Rattle.texts.specs.Text.{text, refusal_lines, list_lines, judgement_lines}
use Rattle.printing.specs.Answered.{Told}
use Rattle.printing.specs.Put.{AtFront, Put}
use Rattle.printing.proofs.Determined.{bytes_put_determined, front_determined, answered_determined}
use Rattle.taking.specs.Taking.{TakenIn}
use Rattle.taking.proofs.Determined.{taken_in_determined}
use Rattle.look_bytes.specs.Look.{LookAnswer}
use Rattle.show_bytes.specs.Show.{ShowAnswer}
use Rattle.list_bytes.specs.Lines.{ListAnswer}
use Rattle.judge_bytes.specs.Line.{JudgeAnswer}
use Rattle.fold_bytes.specs.Image.{Delivered, fold_of, FoldAnswer}
use Rattle.promises.proofs.AnyRun.{answers_determined}
use Rattle.promises.proofs.Runs.{fold_of_lawful}

-- Where the contract is an equation: `table::row` and `Rows::row`, `table::stated_limits`, `layout::Header::length`, `lengths`, `largest` and `put`, all that `layout` reads and puts of
-- bytes, and `parents::copy`.
pub equation_coincides : {A : Type 0} {stated result₁ result₂ : A} → result₁ ≡ stated → result₂ ≡ stated → result₁ ≡ result₂
equation_coincides a b = a ∙ sym b

-- `Rows::check` of `table`
pub check_coincides : (rows : Rows) (r₁ r₂ : ℕ) → Verdict (table_demands rows) r₁ → Verdict (table_demands rows) r₂ → r₁ ≡ r₂
check_coincides rows = verdict_unique (table_demands rows)

-- `Table::check` of `table`
pub check_counted_coincides : (table : Table) (r₁ r₂ : ℕ) → Verdict (counted_demands table) r₁ → Verdict (counted_demands table) r₂ → r₁ ≡ r₂
check_counted_coincides table = verdict_unique (counted_demands table)

-- `table::sum_fits` and `numbers_sum_fits`
pub sum_fits_coincides : (counts : List ℕ) (r₁ r₂ : Bool) → Says r₁ (count_sum counts ≤ read_limit) → Says r₂ (count_sum counts ≤ read_limit) → r₁ ≡ r₂
sum_fits_coincides counts = says_unique (count_sum counts ≤ read_limit)

-- `table::rises` and `numbers_rise`
pub rises_coincides : (list : List ℕ) (r₁ r₂ : Bool) → Says r₁ (Rises list) → Says r₂ (Rises list) → r₁ ≡ r₂
rises_coincides list = says_unique (Rises list)

-- `table::holds`
pub holds_coincides : (list : List ℕ) (v : ℕ) (r₁ r₂ : Bool) → Says r₁ (In v list) → Says r₂ (In v list) → r₁ ≡ r₂
holds_coincides list v = says_unique (In v list)

-- `in_place::check`
pub check_in_place_coincides : (image : List ℕ) (version n m r₁ r₂ : ℕ) → Verdict (placed_demands (contents_in image version n m)) r₁
    → Verdict (placed_demands (contents_in image version n m)) r₂ → r₁ ≡ r₂
check_in_place_coincides image version n m = verdict_unique (placed_demands (contents_in image version n m))

-- `image::look`
pub look_coincides : {image : List ℕ} {answer₁ answer₂ : Seen} → Looked image answer₁ → Looked image answer₂ → answer₁ ≡ answer₂
look_coincides = look_determined

-- `image::load`
pub load_coincides : {image : List ℕ} {lent after₁ after₂ : Contents} {answer₁ answer₂ : Seen} → Loaded image lent after₁ answer₁ → Loaded image lent after₂ answer₂
    → (answer₁ ≡ answer₂) × (after₁ ≡ after₂)
load_coincides = load_determined

-- `image::write` and `write_lengths`, and `writing::write_version` below them
pub write_coincides : {version : ℕ} {contents : Contents} {image image₁ image₂ : List ℕ} {answer₁ answer₂ : Extent} → Written version contents image image₁ answer₁
    → Written version contents image image₂ answer₂ → (answer₁ ≡ answer₂) × (image₁ ≡ image₂)
write_coincides = write_determined

-- `vertices::put`
pub put_coincides : {words words₁ words₂ : List ℕ} {v : ℕ} → Added words words₁ v → Added words words₂ v → words₁ ≡ words₂
put_coincides = put_determined

-- `vertices::size`
pub size_coincides : {words : List ℕ} {r₁ r₂ : ℕ} → Size words r₁ → Size words r₂ → r₁ ≡ r₂
size_coincides a b = a.sum ∙ sym b.sum

-- the counts filled with zeros by `parents::count_parents`
pub clear_coincides : {counts counts₁ counts₂ : List ℕ} → Zeros counts counts₁ → Zeros counts counts₂ → counts₁ ≡ counts₂
clear_coincides = zeros_same

-- `parents::tally`
pub tally_coincides : {numbers counts counts₁ counts₂ : List ℕ} → Tallied numbers counts counts₁ → Tallied numbers counts counts₂ → counts₁ ≡ counts₂
tally_coincides = tallied_same

-- `parents::count_parents`
pub parents_coincide : {n : ℕ} {targets parents₁ parents₂ : List ℕ} → Parents n targets parents₁ → Parents n targets parents₂ → parents₁ ≡ parents₂
parents_coincide = parents_same

-- `walking::walk`: all but the order
pub walk_coincides : {row parents pending order pending₁ order₁ pending₂ order₂ : List ℕ} {tail k tail₁ waiting₁ tail₂ waiting₂ : ℕ}
    → Walked row parents pending order tail k pending₁ order₁ tail₁ waiting₁ → Walked row parents pending order tail k pending₂ order₂ tail₂ waiting₂
    → (pending₁ ≡ pending₂) × (tail₁ ≡ tail₂) × (waiting₁ ≡ waiting₂)
walk_coincides = walk_determined

-- `search::search`, whatever stood in the order: the exit and the pending parents. Of the order the vertices that it shows,
pub search_coincides : (starts targets pending order order' pending₁ order₁ pending₂ order₂ : List ℕ) (s : ℕ) (exit₁ exit₂ : Option Exit)
    → Sought starts targets pending order pending₁ order₁ s exit₁ → Sought starts targets pending order' pending₂ order₂ s exit₂
    → (exit₁ ≡ exit₂) × (pending₁ ≡ pending₂)
search_coincides starts targets pending order order' pending₁ order₁ pending₂ order₂ s exit₁ exit₂ a b =
    (answer_unique starts targets order₁ order₂ s exit₁ exit₂ a.searched b.searched, a.whole ∙ sym b.whole)

-- which one order has where the other has them
pub order_shows_same : {starts targets order₁ order₂ : List ℕ} {s t k₁ k₂ : ℕ} → Visited starts targets order₁ s t k₁ → Visited starts targets order₂ s t k₂
    → (i : ℕ) → i < k₁ → (j : ℕ) × (j < k₂) × (get_or order₂ j 0 ≡ get_or order₁ i 0)
order_shows_same = shown

-- `visiting::visit`: the answer
pub visit_coincides : {starts targets colours : List ℕ} {path : List Turn} {root : ℕ} → Visitable starts targets colours path root → (from to : ℕ)
    (colours₁ : List ℕ) (path₁ : List Turn) (colours₂ : List ℕ) (path₂ : List Turn) (r₁ r₂ : Bool) → VisitAnswer r₁ starts targets colours from to root colours₁ path₁
    → VisitAnswer r₂ starts targets colours from to root colours₂ path₂ → r₁ ≡ r₂
visit_coincides = visit_answer_unique

-- `cycle::has_cycle_within`: the answer
pub has_cycle_within_coincides : (rows : Rows) (colours : List ℕ) (from to : ℕ) (r₁ r₂ : Bool) → Says r₁ (Cyclic (Followed rows.starts rows.targets colours from to))
    → Says r₂ (Cyclic (Followed rows.starts rows.targets colours from to)) → r₁ ≡ r₂
has_cycle_within_coincides rows colours from to = says_unique (Cyclic (Followed rows.starts rows.targets colours from to))

-- `cycle::has_cycle`: the answer
pub has_cycle_coincides : (rows : Rows) (r₁ r₂ : Bool) → Says r₁ (Cyclic (edges rows)) → Says r₂ (Cyclic (edges rows)) → r₁ ≡ r₂
has_cycle_coincides rows = says_unique (Cyclic (edges rows))

-- `listing::list`
pub list_coincides : {rows : Rows} {out out₁ out₂ : List ℕ} {answer₁ answer₂ : Found} → ListDone rows out out₁ answer₁ → ListDone rows out out₂ answer₂
    → (answer₁ ≡ answer₂) × (out₁ ≡ out₂)
list_coincides = list_determined

-- `judging::judge`
pub judge_coincides : {rows : Rows} {s t : ℕ} {answer₁ answer₂ : Judgement} → JudgeDone rows s t answer₁ → JudgeDone rows s t answer₂ → answer₁ ≡ answer₂
judge_coincides = judge_determined

-- `reaching::reaches`
pub reaches_coincides : (rows : Rows) (from to : ℕ) (r₁ r₂ : Bool) → Says r₁ (Reaches (edges rows) from to) → Says r₂ (Reaches (edges rows) from to) → r₁ ≡ r₂
reaches_coincides rows from to = says_unique (Reaches (edges rows) from to)

-- `skipping::admit`
pub admit_coincides : {rows : Rows} {s : ℕ} {rings : Rings} {exit r₁ r₂ : Option Exit} → Admitted (edges rows) s rings exit r₁ → Admitted (edges rows) s rings exit r₂ → r₁ ≡ r₂
admit_coincides = admitted_determined

-- `candidates::find`: all but the order
pub find_coincides : (rings : Rings) {rows : Rows} {parents₁ pending₁ order₁ exits₁ parents₂ pending₂ order₂ exits₂ : List ℕ} {found₁ found₂ : ℕ}
    → FindDone (candidates_of rings) rows parents₁ pending₁ order₁ exits₁ found₁ → FindDone (candidates_of rings) rows parents₂ pending₂ order₂ exits₂ found₂
    → (parents₁ ≡ parents₂) × (pending₁ ≡ pending₂) × (exits₁ ≡ exits₂) × (found₁ ≡ found₂)
find_coincides rings = found_determined (candidates_lawful rings)

-- `children::choose`
pub choose_coincides : {by : Choosing} {row counts best : List ℕ} {t end : ℕ} {choice₁ choice₂ : Choice}
    → Chosen by row counts best t end (length row) choice₁.child choice₁.gain → Chosen by row counts best t end (length row) choice₂.child choice₂.gain
    → choice₁ ≡ choice₂
choose_coincides = choice_determined

-- `sharing::share`
pub share_coincides : {counts next out out₁ out₂ : List ℕ} {s k d : ℕ} → Shared counts next out s k d k out₁ → Shared counts next out s k d k out₂ → out₁ ≡ out₂
share_coincides = shared_determined

-- `kept::keep`, whatever stood in the best sums: all but these
pub keep_coincides : (mode : Mode) {table : Table} {best best' next out best₁ next₁ out₁ best₂ next₂ out₂ : List ℕ} {s t : ℕ}
    → KeptDone (candidates_of mode.rings) (kept_shares mode.by) table s t best next out best₁ next₁ out₁
    → KeptDone (candidates_of mode.rings) (kept_shares mode.by) table s t best' next out best₂ next₂ out₂ → (next₁ ≡ next₂) × (out₁ ≡ out₂)
keep_coincides mode = kept_coincide (the_fold_lawful mode).candidates_lawful (the_fold_lawful mode).rule_lawful

-- `turns::turn`: all but the number of a dropped vertex, of which it is stated that it says so
pub turn_coincides : (mode : Mode) {table : Table} {budget : ℕ} {next₁ out₁ next₂ out₂ : List ℕ} {answer₁ answer₂ : Turned}
    → TurnDone (the_fold mode) table budget next₁ out₁ answer₁ → TurnDone (the_fold mode) table budget next₂ out₂ answer₂ → (answer₁ ≡ answer₂) × (out₁ ≡ out₂)
turn_coincides mode = turn_determined (the_fold_lawful mode)

-- `staying::write_table`
pub write_table_coincides : {rows lent after₁ after₂ : Rows} {next : List ℕ} {r₁ r₂ : ℕ} → TableWritten rows next lent after₁ r₁ → TableWritten rows next lent after₂ r₂
    → (after₁ ≡ after₂) × (r₁ ≡ r₂)
write_table_coincides = write_table_determined

-- `folding::fold`, `fold_weakest`, `fold_rings` and `fold_rings_weakest`, and `fold_by` below them
pub fold_coincides : (mode : Mode) {table lent after₁ after₂ : Table} {budget : ℕ} {answer₁ answer₂ : Outcome}
    → FoldDone (the_fold mode) table budget lent after₁ answer₁ → FoldDone (the_fold mode) table budget lent after₂ answer₂ → (answer₁ ≡ answer₂) × (after₁ ≡ after₂)
fold_coincides mode = fold_determined (the_fold_lawful mode)

-- `printing::word`, `number`, `next_number` and `end_line`
pub bytes_put_coincide : {before bytes after₁ after₂ : List ℕ} {at end₁ end₂ : ℕ} → Put before at bytes after₁ end₁ → Put before at bytes after₂ end₂
    → (end₁ ≡ end₂) × (after₁ ≡ after₂)
bytes_put_coincide = bytes_put_determined

-- `printing::refusal`
pub refusal_coincides : {out out₁ out₂ : List ℕ} {number : ℕ} {answer₁ answer₂ : Told}
    → (answer₁.number ≡ number) × AtFront (text (refusal_lines number)) out out₁ answer₁.length
    → (answer₂.number ≡ number) × AtFront (text (refusal_lines number)) out out₂ answer₂.length
    → (answer₁ ≡ answer₂) × (out₁ ≡ out₂)
refusal_coincides (number₁, at₁) (number₂, at₂) =
    let numbers = number₁ ∙ sym number₂ in
    let (ends, outs) = front_determined refl at₁ at₂ in
    (λ i. record { number = numbers i; length = ends i }, outs)

-- `taking::take_in`
pub take_in_coincides : {image : List ℕ} {lent after₁ after₂ : Contents} {answer₁ answer₂ : Seen} → TakenIn image lent after₁ answer₁ → TakenIn image lent after₂ answer₂
    → (answer₁ ≡ answer₂) × (after₁ ≡ after₂)
take_in_coincides = taken_in_determined

-- `look_bytes::answer`
pub look_answers_coincide : (image : List ℕ) {out out₁ out₂ : List ℕ} {answer₁ answer₂ : Told} → LookAnswer image out out₁ answer₁ → LookAnswer image out out₂ answer₂
    → (answer₁ ≡ answer₂) × (out₁ ≡ out₂)
look_answers_coincide image = answered_determined (λ printed₁ printed₂ a b. a ∙ sym b)

-- `show_bytes::answer`
pub show_answers_coincide : (image : List ℕ) {out out₁ out₂ : List ℕ} {answer₁ answer₂ : Told} → ShowAnswer image out out₁ answer₁ → ShowAnswer image out out₂ answer₂
    → (answer₁ ≡ answer₂) × (out₁ ≡ out₂)
show_answers_coincide image = answered_determined (λ printed₁ printed₂ a b. a ∙ sym b)

-- `list_bytes::answer`
pub list_answers_coincide : (image : List ℕ) {out out₁ out₂ : List ℕ} {answer₁ answer₂ : Told} → ListAnswer image out out₁ answer₁ → ListAnswer image out out₂ answer₂
    → (answer₁ ≡ answer₂) × (out₁ ≡ out₂)
list_answers_coincide image =
    answered_determined
    (λ printed₁ printed₂ a b. let (many, pairs) = superbubbles_determined a.listed b.listed in
    a.spelled ∙ (λ i. text (list_lines (pairs i) (many i))) ∙ sym b.spelled)

-- `judge_bytes::answer`
pub judge_answers_coincide : (image : List ℕ) {s t : ℕ} {out out₁ out₂ : List ℕ} {answer₁ answer₂ : Told} → JudgeAnswer image s t out out₁ answer₁
    → JudgeAnswer image s t out out₂ answer₂ → (answer₁ ≡ answer₂) × (out₁ ≡ out₂)
judge_answers_coincide image =
    answered_determined
    (λ printed₁ printed₂ a b. let (answers, sizes) = judged_determined a.judged b.judged in
    a.spelled ∙ (λ i. text (judgement_lines (answers i) (sizes i))) ∙ sym b.spelled)

-- `fold_bytes::answer`
pub fold_answers_coincide : (rings : Rings) (image : List ℕ) {out out₁ out₂ new new₁ new₂ : List ℕ} {budget : ℕ} {answers₁ answers₂ : Delivered}
    → FoldAnswer (fold_of rings) image budget out out₁ new new₁ answers₁ → FoldAnswer (fold_of rings) image budget out out₂ new new₂ answers₂
    → (answers₁ ≡ answers₂) × (out₁ ≡ out₂) × (new₁ ≡ new₂)
fold_answers_coincide rings = answers_determined (fold_of_lawful rings)
