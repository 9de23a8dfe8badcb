-- What the contract of `fold_bytes` gives where each version has a lawful way of folding: it prints and writes what a call of fold returns and leaves; what a run leaves is a good image,
-- which the next run accepts; and runs in turn end in the same bytes as one run with the sum. `Printed` and `Runs` say it of the folds of today. Assumes nothing.
use Prim.Native.Nat.{ℕ, ◌-◌, ◌≤◌}
use mathlib.Core.Path.{◌≡◌, sym, subst, ap, ◌∙◌}
use mathlib.Core.List.{List, ◌++◌}
use native.Mathlib.Decide.{ℕ_discrete}
use lib.ListN.{length, take}
use Rattle.table.specs.Verdict.{Verdict}
use Rattle.table.specs.Table.{Below, count_sum, Table, edges, SoundTable}
use Rattle.table.proofs.VerdictLaws.{accepts, verdict_unique}
use Rattle.layout.specs.Lengths.{length_count}
use Rattle.layout.specs.Image.{Contents, SoundContents, image_of, version_of, counts_of, lengths_of, table_of, contents_of}
use Rattle.image.specs.Looking.{image_demands}
use Rattle.rule.specs.Lists.{Listing}
use Rattle.rule.specs.Fold.{Entrance, budgets_sum}
use Rattle.rule.specs.Tables.{TableFolded, TablesInTurn, TablesInTurn.once, TablesInTurn.then}
use Rattle.rule.specs.Way.{Way}
use Rattle.rule.specs.Laws.{WayLaws}
use Rattle.rule.proofs.TableDemand as demand
use Rattle.folding.proofs.Demand.{left_accepted}
use Rattle.texts.specs.Text.{text, refusal_lines, fold_lines}
use Rattle.printing.proofs.PutLaws.{front_bytes}
use Rattle.printing.proofs.Determined.{front_determined}
use Rattle.fold_bytes.specs.Image.{Delivered, FoldBytes, FoldAnswer}
use Rattle.promises.specs.Images.{GoodImage}
use Rattle.promises.specs.Calls.{FoldCall}
use Rattle.promises.specs.Runs.{FoldRun, RunsInTurn, RunsInTurn.once, RunsInTurn.then}
use Rattle.promises.proofs.ContentsBack.{version_back, contents_back}
use Rattle.promises.proofs.GoodImages.{passed_sound, passed_contents, rest_passed, good_decides, same_bytes}
use Rattle.promises.proofs.AnyWay.{call_by_rule, call_edges}

module _ {ways : ℕ → Way} (laws : (version : ℕ) → WayLaws (ways version)) where
  -- the way by which an image is folded
  abbrev way : List ℕ → Way
  way image = ways (version_of image)

  lawful : (image : List ℕ) → WayLaws (way image)
  lawful image = laws (version_of image)

  -- a good image of its way's kind is accepted
  pub good_accepted : {image out out' new new' : List ℕ} {budget : ℕ} {answers : Delivered} → GoodImage image → (way image).Kind (edges (table_of image).rows)
      → FoldAnswer ways image budget out out' new new' answers → answers.number ≡ 0
  good_accepted {image} good kind done =
      let asked = (way image).asked (table_of image).rows in
      good_decides good asked (accepts asked ((lawful image).kind_asked (table_of image).rows kind)) done.verdict

  module _ (image : List ℕ) {out out' new new' : List ℕ} {budget : ℕ} {answers : Delivered} (done : FoldAnswer ways image budget out out' new new' answers)
      (e : answers.number ≡ 0) where
    passed : Verdict (image_demands image ++ (way image).asked (table_of image).rows) 0
    passed = rw e at done.verdict

    -- an image that is accepted has a well-formed table, of its way's kind
    pub accepted_sound : SoundTable (table_of image)
    accepted_sound = passed_sound image ((way image).asked (table_of image).rows) passed

    pub accepted_kind : (way image).Kind (edges (table_of image).rows)
    accepted_kind =
        (lawful image).asked_kind (table_of image).rows
        (rest_passed image ((way image).asked (table_of image).rows) passed ((lawful image).never_zero (table_of image).rows))

    at : FoldBytes (way image) (version_of image) (contents_of image) budget done.printed done.written
    at = done.taken e

    left : SoundTable at.result × (way image).Kind (edges at.result.rows)
    left = left_accepted (lawful image) accepted_sound accepted_kind at.table_folded

    -- the new table with the lengths as they were
    abbrev new_contents : Contents
    new_contents = record { table = at.result; lengths = lengths_of image }

    written_is : take answers.image new' ≡ image_of (version_of image) new_contents
    written_is = front_bytes done.image_front ∙ at.image

    module _ (bytes : Below 256 image) where
      new_sound : SoundContents (version_of image) new_contents
      new_sound =
          let old = passed_contents image ((way image).asked (table_of image).rows) passed bytes in
          record {
            known = old.known;
            counted = left.0;
            length_each = old.length_each ∙ ap (λ (k : ℕ). length_count (version_of image) (k - 1)) (sym at.table_folded.same_size.as_many_vertices);
            positive = old.positive;
            sixteen_bits = old.sixteen_bits;
          }

      -- what is written has the version and the lengths of what was read,
      pub writes_version : version_of (take answers.image new') ≡ version_of image
      writes_version = ap version_of written_is ∙ version_back (version_of image) new_contents new_sound

      contents_left : contents_of (take answers.image new') ≡ new_contents
      contents_left = ap contents_of written_is ∙ contents_back (version_of image) new_contents new_sound

      table_left : table_of (take answers.image new') ≡ at.result
      table_left = ap (λ (c : Contents). c.table) contents_left

      pub writes_lengths : lengths_of (take answers.image new') ≡ lengths_of image
      writes_lengths = ap (λ (c : Contents). c.lengths) contents_left

      -- it is a good image, of the way's kind,
      pub writes_good : GoodImage (take answers.image new')
      writes_good = record { version = version_of image; contents = new_contents; sound = new_sound; bytes = written_is }

      pub writes_kind : (way image).Kind (edges (table_of (take answers.image new')).rows)
      writes_kind = subst (λ (t : Table). (way image).Kind (edges t.rows)) (sym table_left) left.1

      -- and its table is the first one folded by the rule
      pub writes_by_rule : (folded : ℕ) × (left : ℕ)
          × TableFolded (way image).candidates (way image).rule (table_of image) budget (table_of (take answers.image new')) folded left
      writes_by_rule = (at.folded, at.left, rw table_left at.table_folded)

    module _ {table' : Table} (call : FoldCall (way image) (table_of image) budget table') where
      as_called : (at.result ≡ table') × (at.folded ≡ call.answer.folded) × (at.left ≡ call.answer.left)
      as_called = demand.table_folds_coincide (lawful image) accepted_kind at.table_folded (call_by_rule (lawful image) accepted_sound accepted_kind call)

      -- the line is that of the numbers which a call of fold returns,
      pub prints_as_called : take answers.line out' ≡ text (fold_lines call.answer.folded call.answer.left call.answer.edges)
      prints_as_called =
          let (same, folded, left) = as_called in
          let m = ap (λ (t : Table). length t.rows.targets) same ∙ sym (call_edges (lawful image) accepted_sound accepted_kind call) in
          front_bytes done.line_front ∙ at.spelled ∙ (λ i. text (fold_lines (folded i) (left i) (m i)))

      -- and the image that of the table which it leaves, with the lengths as they were
      pub writes_as_called : take answers.image new' ≡ image_of (version_of image) (record { table = table'; lengths = lengths_of image })
      writes_as_called = written_is ∙ ap (λ (t : Table). image_of (version_of image) (record { table = t; lengths = lengths_of image })) as_called.0

  -- two answers to one image by one budget, in buffers that held the same, coincide
  pub answers_determined : (image : List ℕ) {out out₁ out₂ new new₁ new₂ : List ℕ} {budget : ℕ} {answers₁ answers₂ : Delivered}
      → FoldAnswer ways image budget out out₁ new new₁ answers₁ → FoldAnswer ways image budget out out₂ new new₂ answers₂
      → (answers₁ ≡ answers₂) × (out₁ ≡ out₂) × (new₁ ≡ new₂)
  answers_determined image {answers₁ = answers₁} {answers₂ = answers₂} a b =
      let number : answers₁.number ≡ answers₂.number
      = verdict_unique (image_demands image ++ (way image).asked (table_of image).rows) answers₁.number answers₂.number a.verdict b.verdict in
      let same : (a.printed ≡ b.printed) × (a.written ≡ b.written)
      = elim (ℕ_discrete answers₁.number 0) [
        | yes e ↦
            let x = a.taken e in
            let y = b.taken (sym number ∙ e) in
            let (table, folded, left) = demand.table_folds_coincide (lawful image) (accepted_kind image a e) x.table_folded y.table_folded in
            let m = ap (λ (t : Table). length t.rows.targets) table in (
              x.spelled ∙ (λ i. text (fold_lines (folded i) (left i) (m i))) ∙ sym y.spelled,
              x.image ∙ ap (λ (t : Table). image_of (version_of image) (record { table = t; lengths = lengths_of image })) table ∙ sym y.image,
            )
        | no refusal ↦
            let x = a.refused refusal in
            let y = b.refused (λ e. refusal (number ∙ e)) in
            (x.0 ∙ ap (λ (r : ℕ). text (refusal_lines r)) number ∙ sym y.0, x.1 ∙ sym y.1)
      ] in
      let (line, outs) = front_determined same.0 a.line_front b.line_front in
      let (written, news) = front_determined same.1 a.image_front b.image_front in
      (λ i. record { number = number i; line = line i; image = written i }, outs, news)

  module _ {image image' : List ℕ} {budget : ℕ} (run : FoldRun ways image budget image') where
    -- a run keeps the version and the lengths,
    pub run_keeps : (version_of image' ≡ version_of image) × (lengths_of image' ≡ lengths_of image)
    run_keeps = rw run.leaves (writes_version image run.done run.accepted run.bytes, writes_lengths image run.done run.accepted run.bytes)

    -- leaves a good image of its way's kind,
    pub run_leaves : GoodImage image' × (way image).Kind (edges (table_of image').rows)
    run_leaves = rw run.leaves (writes_good image run.done run.accepted run.bytes, writes_kind image run.done run.accepted run.bytes)

    -- whose table is the first one folded by the rule
    pub run_by_rule : (folded : ℕ) × (left : ℕ)
        × TableFolded (way image).candidates (way image).rule (table_of image) budget (table_of image') folded left
    run_by_rule = rw run.leaves (writes_by_rule image run.done run.accepted run.bytes)

    -- its own image has a well-formed table of the way's kind
    pub run_begins : SoundTable (table_of image) × (way image).Kind (edges (table_of image).rows)
    run_begins = (accepted_sound image run.done run.accepted, accepted_kind image run.done run.accepted)

  -- the first of runs in turn
  first_run : {image image' budgets : List ℕ} → RunsInTurn ways image budgets image' → (budget : ℕ) × (image'' : List ℕ) × FoldRun ways image budget image''
  first_run (once {image' = image'} {budget = budget} run) = (budget, image', run)
  first_run (then {image' = image'} {budget = budget} run runs) = (budget, image', run)

  -- runs in turn begin with a well-formed table of the way's kind,
  pub runs_begin : {image image' budgets : List ℕ} → RunsInTurn ways image budgets image' → SoundTable (table_of image) × (way image).Kind (edges (table_of image).rows)
  runs_begin runs = run_begins (first_run runs).2

  -- keep the version and the lengths,
  pub runs_keep : {image image' budgets : List ℕ} → RunsInTurn ways image budgets image' → (version_of image' ≡ version_of image) × (lengths_of image' ≡ lengths_of image)
  runs_keep (once run) = run_keeps run
  runs_keep (then run runs) = let (version, lengths) = runs_keep runs in (version ∙ (run_keeps run).0, lengths ∙ (run_keeps run).1)

  -- and leave a good image of its way's kind
  pub runs_leave : {image image' budgets : List ℕ} → RunsInTurn ways image budgets image' → GoodImage image' × (way image').Kind (edges (table_of image').rows)
  runs_leave (once {image' = image'} run) =
      let (good, kind) = run_leaves run in
      (good, subst (λ (version : ℕ). (ways version).Kind (edges (table_of image').rows)) (sym (run_keeps run).0) kind)
  runs_leave (then run runs) = runs_leave runs

  -- runs in turn are folds in turn of the tables
  pub tables_of_runs : {image image' budgets : List ℕ} → RunsInTurn ways image budgets image'
      → TablesInTurn (way image).candidates (way image).rule (table_of image) budgets (table_of image')
  tables_of_runs (once run) = once (run_by_rule run).2
  tables_of_runs (then {image' = image'} {image'' = image''} {budgets = budgets} run runs) =
      then (run_by_rule run).2
      (subst (λ (version : ℕ). TablesInTurn (ways version).candidates (ways version).rule (table_of image') budgets (table_of image'')) (run_keeps run).0 (tables_of_runs runs))

  -- good images of one version with the same table and lengths are the same bytes
  same_image : {image image' : List ℕ} → GoodImage image → GoodImage image' → version_of image ≡ version_of image' → table_of image ≡ table_of image'
      → lengths_of image ≡ lengths_of image' → image ≡ image'
  same_image good good' version table lengths = same_bytes good good' version (λ i. record { table = table i; lengths = lengths i })

  module _ {image image' budgets : List ℕ} (runs : RunsInTurn ways image budgets image') where
    -- the first image is accepted, whatever the budget
    pub first_accepted : {out out' new new' : List ℕ} {budget : ℕ} {answers : Delivered} → FoldAnswer ways image budget out out' new new' answers → answers.number ≡ 0
    first_accepted {answers = answers} done =
        let run = (first_run runs).2 in
        verdict_unique (image_demands image ++ (way image).asked (table_of image).rows) answers.number 0 done.verdict (rw run.accepted at run.done.verdict)

    -- runs in turn end in the same bytes as one run with the sum
    pub runs_in_turn_as_one : {image'' : List ℕ} → FoldRun ways image (budgets_sum budgets) image'' → image' ≡ image''
    runs_in_turn_as_one one =
        let (version, lengths) = runs_keep runs in
        let (version₁, lengths₁) = run_keeps one in
        same_image (runs_leave runs).0 (run_leaves one).0 (version ∙ sym version₁)
        (demand.in_turn_as_once (lawful image) (runs_begin runs).1 (tables_of_runs runs) (run_by_rule one).2) (lengths ∙ sym lengths₁)

    -- the total of the counts does not move
    pub runs_total_stays : count_sum (counts_of image') ≡ count_sum (counts_of image)
    runs_total_stays = let (sound, kind) = runs_begin runs in demand.count_sum_stays (lawful image) kind (tables_of_runs runs) sound

    -- once the budgets reach the number of the candidates, a further run gives back its bytes
    pub further_run_gives_back : {candidates : List ℕ} → Listing (Entrance (way image).candidates (edges (table_of image).rows)) candidates
        → length candidates ≤ budgets_sum budgets → {budget : ℕ} {image'' : List ℕ} → FoldRun ways image' budget image'' → image'' ≡ image'
    further_run_gives_back listed reached {budget} {image''} run =
        let (folded, left, by_rule) = run_by_rule run in
        let same = subst (λ (version : ℕ). TableFolded (ways version).candidates (ways version).rule (table_of image') budget (table_of image'') folded left) (runs_keep runs).0 by_rule in
        same_image (run_leaves run).0 (runs_leave runs).0 (run_keeps run).0
        (demand.further_fold_gives_back (lawful image) (runs_begin runs).1 (tables_of_runs runs) listed reached same) (run_keeps run).1
