-- What the programs print and write is what the library's contracts settle. Of all that the contracts of `look_bytes`, `show_bytes`, `list_bytes`, `judge_bytes`
-- and `fold_bytes` allow, from the bytes read to the bytes printed and written: these are the front of a buffer, as many as the answer says. Assumes nothing.
use Prim.Native.Nat.{ℕ, ◌*◌, ◌≤◌, ◌<◌}
use mathlib.Core.Path.{◌≡◌, refl, sym, ap, ◌∙◌}
use mathlib.Core.Logic.{◌↔◌, ◌≢◌, inl}
use mathlib.Core.List.{List, [], ◌∷◌, ◌++◌, append-nil}
use native.Mathlib.Decide.{ℕ_discrete, dec_lt}
use native.Mathlib.Omega.{arith}
use lib.ListN.{length, take, drop}
use Rattle.table.specs.Verdict.{Demand, Verdict}
use Rattle.table.specs.Table.{Below, Table, size, edges}
use Rattle.table.proofs.VerdictLaws.{verdict_unique}
use Rattle.layout.specs.Image.{image_of, version_of, vertices_of, edges_of, lengths_of, table_of, contents_of}
use Rattle.layout.proofs.ImageLaws.{starts_long, targets_long}
use Rattle.image.specs.Looking.{Seen, image_demands, Looked}
use Rattle.image.proofs.LookLaws.{table_sound}
use Rattle.bubble.specs.Cycle.{Cyclic}
use Rattle.listing.specs.Listing.{Found, ListDone}
use Rattle.listing.proofs.Determined.{superbubbles_determined}
use Rattle.judging.specs.Judging.{Judgement, pair_inside, JudgeDone}
use Rattle.judging.proofs.Determined.{judged_determined}
use Rattle.rule.specs.Fold.{kept_shares}
use Rattle.rule.specs.Way.{candidates_of}
use Rattle.rule.specs.declared.Rings.{Rings}
use Rattle.rule.specs.declared.Rings.TheVariants.{Refused, Taken}
use Rattle.rule.specs.Tables.{TableFolded}
use Rattle.texts.specs.Text.{line, text, each, refusal_lines, sizes_line, look_lines, vertex_line, contents_lines, list_lines, judgement_lines, fold_lines}
use Rattle.texts.proofs.FirstWord.{refusal_no_look, refusal_no_contents, refusal_no_list, refusal_no_judgement, refusal_no_fold}
use Rattle.texts.proofs.Determined.{refusal_determines, contents_determines}
use Rattle.printing.specs.Answered.{Told, Answered}
use Rattle.printing.proofs.PutLaws.{front_bytes, behind_front}
use Rattle.look_bytes.specs.Look.{LookAnswer}
use Rattle.show_bytes.specs.Show.{ShowAnswer}
use Rattle.list_bytes.specs.Lines.{ListAnswer}
use Rattle.judge_bytes.specs.Line.{JudgeAnswer}
use Rattle.fold_bytes.specs.Image.{Delivered, choosing_of, fold_of, FoldBytes, FoldAnswer}
use Rattle.promises.specs.Images.{GoodImage}
use Rattle.promises.specs.Lines.{lines}
use Rattle.promises.specs.Calls.{FoldCall}
use Rattle.promises.proofs.Decided.{gives_number, decided_then, both, image_decided, rings_decided}
use Rattle.promises.proofs.GoodImages.{passed_sound, passed_contents, rest_passed, good_decides, same_bytes, passed_exactly}
use Rattle.promises.proofs.AnyRun.{writes_version, writes_lengths, prints_as_called, writes_as_called}
use Rattle.promises.proofs.Demand2.{listed, judged}
use Rattle.promises.proofs.Runs.{fold_of_lawful}

-- ---- What is printed and written where nothing is refused.

-- the text of an answer stands at the front of its buffer
right_text : {demands : List Demand} {Right : List ℕ → Type 0} {out out' : List ℕ} {answer : Told} → (done : Answered demands Right out out' answer)
    → take answer.length out' ≡ done.printed
right_text done = front_bytes done.at_front

-- Look prints the version, n and m that a call of look answers,
pub look_prints : (image : List ℕ) {out out' : List ℕ} {answer : Told} → LookAnswer image out out' answer → answer.number ≡ 0
    → {looked : Seen} → Looked image looked → take answer.length out' ≡ text (look_lines looked.version looked.vertices looked.edges)
look_prints image {answer = answer} done e {looked} sees =
    let zero : looked.number ≡ 0 = verdict_unique (image_demands image) looked.number 0 sees.verdict (rw e at done.verdict) in
    let is = sees.taken zero in
    right_text done ∙ done.taken e ∙ (λ i. text (look_lines (sym is.same_version i) (sym is.same_n i) (sym is.same_m i)))

-- show the table that stands in the image, in version 2 with its lengths,
pub show_prints : (image : List ℕ) {out out' : List ℕ} {answer : Told} → ShowAnswer image out out' answer → answer.number ≡ 0
    → take answer.length out' ≡ text (contents_lines (version_of image) (contents_of image))
show_prints image done e = right_text done ∙ done.taken e

-- whose first line is the one that look prints,
pub show_begins_with_look : (image : List ℕ) {out out' seen seen' : List ℕ} {answer shown : Told} → LookAnswer image out out' answer → ShowAnswer image seen seen' shown
    → answer.number ≡ 0 → (rest : List ℕ) × (take shown.length seen' ≡ take answer.length out' ++ rest)
show_begins_with_look image {answer = answer} {shown = shown} looks shows e =
    let rows = (table_of image).rows in
    let zero : shown.number ≡ 0 = verdict_unique (image_demands image) shown.number answer.number shows.verdict looks.verdict ∙ e in
    let n_is : size rows ≡ vertices_of image = omega (arith, starts_long image) in
    let rest = text (each (vertex_line (version_of image) (contents_of image)) (size rows)) in (
      rest,
      show_prints image shows zero
          ∙ (λ i. line (sizes_line (version_of image) (n_is i) (targets_long image i)) ++ rest)
          ∙ ap (λ (front : List ℕ). front ++ rest)
          (sym (right_text looks ∙ looks.taken e ∙ append-nil (line (sizes_line (version_of image) (vertices_of image) (edges_of image))))),
    )

-- and which determines the image, lengths included: two images that are shown by the same text are the same bytes,
pub show_determines_image : (image image' : List ℕ) {out out₁ out' out₂ : List ℕ} {answer answer' : Told} → Below 256 image → Below 256 image'
    → ShowAnswer image out out₁ answer → answer.number ≡ 0 → ShowAnswer image' out' out₂ answer' → answer'.number ≡ 0
    → take answer.length out₁ ≡ take answer'.length out₂ → image ≡ image'
show_determines_image image image' bytes bytes' done e done' e' same =
    let passed = rw e at done.verdict in
    let passed' = rw e' at done'.verdict in
    let (version, contents) =
    contents_determines (version_of image) (version_of image') (contents_of image) (contents_of image')
    (passed_contents image [] passed bytes) (passed_contents image' [] passed' bytes')
    (sym (show_prints image done e) ∙ same ∙ show_prints image' done' e') in
    same_bytes ((passed_exactly {image = image} [] tt bytes done.verdict).0 e).0 ((passed_exactly {image = image'} [] tt bytes' done'.verdict).0 e').0 version contents

-- list the list that a call of list on this table leaves, wherever there is room for it: the one that demand 2 speaks of,
pub list_prints : (image : List ℕ) {out out' : List ℕ} {answer : Told} → ListAnswer image out out' answer → answer.number ≡ 0
    → {slice slice' : List ℕ} {found : Found} → 2 * size (table_of image).rows ≤ length slice → ListDone (table_of image).rows slice slice' found
    → take answer.length out' ≡ text (list_lines (lines found slice') found.found)
list_prints image done e {slice' = slice'} {found = found} room call =
    let at = done.taken e in
    let sound = (passed_sound image [] (rw e at done.verdict)).well_formed in
    let (many, pairs) = superbubbles_determined at.listed (listed sound room call) in
    right_text done ∙ at.spelled ∙ (λ i. text (list_lines (pairs i) (many i)))

-- judge what a call of judge answers,
pub judge_prints : (image : List ℕ) {s t : ℕ} {out out' : List ℕ} {answer : Told} → JudgeAnswer image s t out out' answer → answer.number ≡ 0
    → {judgement : Judgement} → JudgeDone (table_of image).rows s t judgement
    → take answer.length out' ≡ text (judgement_lines judgement.yes judgement.size)
judge_prints image {s} {t} done e call =
    let at = done.taken e in
    let asked = pair_inside (table_of image).rows s t ∷ [] in
    let passed = rw e at done.verdict in
    let inside = (rest_passed image asked passed ((λ z. omega arith), tt)).0 in
    let (yes-same, size_same) = judged_determined at.judged (judged (passed_sound image asked passed).well_formed inside.0 inside.1 call).1 in
    right_text done ∙ at.spelled ∙ (λ i. text (judgement_lines (yes-same i) (size_same i)))

module _ (rings : Rings) (image : List ℕ) {out out' new new' : List ℕ} {budget : ℕ} {answers : Delivered}
    (done : FoldAnswer (fold_of rings) image budget out out' new new' answers) where
  -- and fold writes the image of the table that the rule of its version gives, of that version and with the lengths as they were, and prints how many it folded and left
  -- and how many edges that table has.
  pub fold_delivers : answers.number ≡ 0
      → (table' : Table) × (folded : ℕ) × (left : ℕ)
      × TableFolded (candidates_of rings) (kept_shares (choosing_of (version_of image))) (table_of image) budget table' folded left
      × (take answers.image new' ≡ image_of (version_of image) (record { table = table'; lengths = lengths_of image }))
      × (take answers.line out' ≡ text (fold_lines folded left (length table'.rows.targets)))
  fold_delivers e =
      let at = done.taken e in
      (at.result, at.folded, at.left, at.table_folded, front_bytes done.image_front ∙ at.image, front_bytes done.line_front ∙ at.spelled)

  module _ (e : answers.number ≡ 0) {table' : Table} (call : FoldCall (fold_of rings (version_of image)) (table_of image) budget table') where
    -- It prints the numbers that a call of fold returns,
    pub fold_prints : take answers.line out' ≡ text (fold_lines call.answer.folded call.answer.left call.answer.edges)
    fold_prints = prints_as_called (fold_of_lawful rings) image done e call

    -- and writes the image of the table that this call leaves.
    pub fold_writes : take answers.image new' ≡ image_of (version_of image) (record { table = table'; lengths = lengths_of image })
    fold_writes = writes_as_called (fold_of_lawful rings) image done e call

  -- What stands in that image has the version and the lengths of the one that was read.
  pub fold_keeps_version : answers.number ≡ 0 → Below 256 image → version_of (take answers.image new') ≡ version_of image
  fold_keeps_version e bytes = writes_version (fold_of_lawful rings) image done e bytes

  pub fold_keeps_lengths : answers.number ≡ 0 → Below 256 image → lengths_of (take answers.image new') ≡ lengths_of image
  fold_keeps_lengths e bytes = writes_lengths (fold_of_lawful rings) image done e bytes

  -- Where fold refuses it writes nothing.
  pub fold_writes_nothing : answers.number ≢ 0 → (answers.image ≡ 0) × (new' ≡ new)
  fold_writes_nothing refusal =
      let none = (done.refused refusal).1 in
      let empty : answers.image ≡ 0 = done.image_front.long ∙ ap length none in
      (empty, done.image_front.whole ∙ ap (λ (bytes : List ℕ). bytes ++ drop answers.image new) none ∙ ap (λ (k : ℕ). drop k new) empty)

-- ---- Who is answered.

-- Bytes of any content get a number: from look, show and list,
pub bytes_get_number : (image : List ℕ) → (number : ℕ) × Verdict (image_demands image) number
bytes_get_number image = gives_number (image_demands image) (image_decided image)

-- from judge,
pub bytes_and_pair_get_number : (image : List ℕ) (s t : ℕ) → (number : ℕ) × Verdict (image_demands image ++ pair_inside (table_of image).rows s t ∷ []) number
bytes_and_pair_get_number image s t =
    let rows = (table_of image).rows in
    gives_number (image_demands image ++ pair_inside rows s t ∷ [])
    (decided_then (image_demands image) (pair_inside rows s t ∷ []) (image_decided image) (λ _. (both (dec_lt s (size rows)) (dec_lt t (size rows)), λ _. tt)))

-- and from fold.
pub bytes_to_fold_get_number : (rings : Rings) (image : List ℕ)
    → (number : ℕ) × Verdict (image_demands image ++ (fold_of rings (version_of image)).asked (table_of image).rows) number
bytes_to_fold_get_number rings image =
    let rows = (table_of image).rows in
    let asked = (fold_of rings (version_of image)).asked rows in
    gives_number (image_demands image ++ asked) (decided_then (image_demands image) asked (image_decided image) (λ met. rings_decided rings rows (table_sound image met).well_formed))

-- where nothing is asked but a good image
image_alone : (image : List ℕ) {number : ℕ} → Below 256 image → Verdict (image_demands image) number → (number ≡ 0) ↔ GoodImage image
image_alone image bytes v = let (there, back) = passed_exactly {image = image} [] tt bytes v in (λ e. (there e).0, λ good. back (good, tt))

-- They are answered, and not refused, exactly if they are a good image: by look,
pub look_answers_exactly : (image : List ℕ) {out out' : List ℕ} {answer : Told} → Below 256 image → LookAnswer image out out' answer
    → (answer.number ≡ 0) ↔ GoodImage image
look_answers_exactly image bytes done = image_alone image bytes done.verdict

-- by show,
pub show_answers_exactly : (image : List ℕ) {out out' : List ℕ} {answer : Told} → Below 256 image → ShowAnswer image out out' answer
    → (answer.number ≡ 0) ↔ GoodImage image
show_answers_exactly image bytes done = image_alone image bytes done.verdict

-- by list,
pub list_answers_exactly : (image : List ℕ) {out out' : List ℕ} {answer : Told} → Below 256 image → ListAnswer image out out' answer
    → (answer.number ≡ 0) ↔ GoodImage image
list_answers_exactly image bytes done = image_alone image bytes done.verdict

-- by judge if both vertices are below n,
pub judge_answers_exactly : (image : List ℕ) {s t : ℕ} {out out' : List ℕ} {answer : Told} → Below 256 image → JudgeAnswer image s t out out' answer
    → (answer.number ≡ 0) ↔ (GoodImage image × ((s < size (table_of image).rows) × (t < size (table_of image).rows)))
judge_answers_exactly image {s} {t} bytes done =
    let (there, back) = passed_exactly {image = image} (pair_inside (table_of image).rows s t ∷ []) ((λ z. omega arith), tt) bytes done.verdict in
    (λ e. ((there e).0, (there e).1.0), λ h. back (h.0, (h.1, tt)))

-- by fold if there is no directed cycle,
pub fold_answers_exactly : (image : List ℕ) {out out' new new' : List ℕ} {budget : ℕ} {answers : Delivered} → Below 256 image
    → FoldAnswer (fold_of Refused) image budget out out' new new' answers
    → (answers.number ≡ 0) ↔ (GoodImage image × (Cyclic (edges (table_of image).rows) → ⊥))
fold_answers_exactly image bytes done =
    let (there, back) = passed_exactly {image = image} ((fold_of Refused (version_of image)).asked (table_of image).rows) ((λ z. omega arith), tt) bytes done.verdict in
    (λ e. ((there e).0, (there e).1.0), λ h. back (h.0, (h.1, tt)))

-- and by fold --rings whatever its table.
pub rings_answers_exactly : (image : List ℕ) {out out' new new' : List ℕ} {budget : ℕ} {answers : Delivered} → Below 256 image
    → FoldAnswer (fold_of Taken) image budget out out' new new' answers → (answers.number ≡ 0) ↔ GoodImage image
rings_answers_exactly image bytes done =
    let (there, back) = passed_exactly {image = image} ((fold_of Taken (version_of image)).asked (table_of image).rows) tt bytes done.verdict in
    (λ e. (there e).0, λ good. back (good, tt))

-- Of a good image judge refuses any other pair with 13,
pub judge_refuses_outside : (image : List ℕ) {s t : ℕ} {out out' : List ℕ} {answer : Told} → GoodImage image
    → (((s < size (table_of image).rows) × (t < size (table_of image).rows)) → ⊥) → JudgeAnswer image s t out out' answer → answer.number ≡ 13
judge_refuses_outside image {s} {t} good outside done = good_decides good (pair_inside (table_of image).rows s t ∷ []) (inl (outside, refl)) done.verdict

-- and fold one with a cycle with 9.
pub fold_refuses_cyclic : (image : List ℕ) {out out' new new' : List ℕ} {budget : ℕ} {answers : Delivered} → GoodImage image → Cyclic (edges (table_of image).rows)
    → FoldAnswer (fold_of Refused) image budget out out' new new' answers → answers.number ≡ 9
fold_refuses_cyclic image good cycle done = good_decides good ((fold_of Refused (version_of image)).asked (table_of image).rows) (inl ((λ none. none cycle), refl)) done.verdict

-- ---- What is printed where something is refused.

module _ {demands : List Demand} {Right : List ℕ → Type 0} {out out' : List ℕ} {answer : Told} (done : Answered demands Right out out' answer) where
  -- Where look, show, list or judge refuses by N, the whole text is the line `refused N`;
  pub refusal_prints : answer.number ≢ 0 → take answer.length out' ≡ text (refusal_lines answer.number)
  refusal_prints refusal = right_text done ∙ done.refused refusal

  -- behind a text, of a refusal or not, the buffer is as it was.
  pub behind_text : drop answer.length out' ≡ drop answer.length out
  behind_text = behind_front done.at_front

  -- where no right text is the line of a refusal, what was printed tells the number of the refusal
  tells : ((printed : List ℕ) → Right printed → (r : ℕ) → text (refusal_lines r) ≢ printed)
      → (r : ℕ) → (take answer.length out' ≡ text (refusal_lines r)) ↔ ((answer.number ≡ r) × (r ≢ 0))
  tells other r = (
    λ said. elim (ℕ_discrete answer.number 0) [
      | yes e ↦ absurd (other done.printed (done.taken e) r (sym said ∙ right_text done))
      | no refusal ↦ let same = refusal_determines answer.number r (sym (refusal_prints refusal) ∙ said) in (same, λ z. refusal (same ∙ z))
    ],
    λ h. refusal_prints (λ z. h.1 (sym h.0 ∙ z)) ∙ ap (λ (k : ℕ). text (refusal_lines k)) h.0,
  )

-- the line of a fold, with some image beside it
abbrev FoldLine : Rings → List ℕ → ℕ → List ℕ → Type 0
FoldLine rings image budget printed = (written : List ℕ) × FoldBytes (fold_of rings (version_of image)) (version_of image) (contents_of image) budget printed written

module _ (rings : Rings) (image : List ℕ) {out out' new new' : List ℕ} {budget : ℕ} {answers : Delivered}
    (done : FoldAnswer (fold_of rings) image budget out out' new new' answers) where
  -- what fold prints is an answer like those of the others
  line_answered : Answered (image_demands image ++ (fold_of rings (version_of image)).asked (table_of image).rows) (FoldLine rings image budget) out out'
      (record { number = answers.number; length = answers.line })
  line_answered =
      record {
        printed = done.printed;
        verdict = done.verdict;
        taken = λ e. (done.written, done.taken e);
        refused = λ refusal. (done.refused refusal).0;
        at_front = done.line_front;
      }

  -- So it is with fold,
  pub fold_refusal_prints : answers.number ≢ 0 → take answers.line out' ≡ text (refusal_lines answers.number)
  fold_refusal_prints = refusal_prints line_answered

  -- and with both its buffers.
  pub fold_behind : (drop answers.line out' ≡ drop answers.line out) × (drop answers.image new' ≡ drop answers.image new)
  fold_behind = (behind_front done.line_front, behind_front done.image_front)

-- The line of a refusal is the text of no look, show, list, judgement or fold, and it says its number alone. So the user can tell from it which case she has: she reads
-- `refused N` exactly if the number is N, and not 0. From look,
pub look_tells : (image : List ℕ) {out out' : List ℕ} {answer : Told} → LookAnswer image out out' answer
    → (r : ℕ) → (take answer.length out' ≡ text (refusal_lines r)) ↔ ((answer.number ≡ r) × (r ≢ 0))
look_tells image done = tells done (λ printed right r same. refusal_no_look r (version_of image) (vertices_of image) (edges_of image) (same ∙ right))

-- from show,
pub show_tells : (image : List ℕ) {out out' : List ℕ} {answer : Told} → ShowAnswer image out out' answer
    → (r : ℕ) → (take answer.length out' ≡ text (refusal_lines r)) ↔ ((answer.number ≡ r) × (r ≢ 0))
show_tells image done = tells done (λ printed right r same. refusal_no_contents r (version_of image) (contents_of image) (same ∙ right))

-- from list,
pub list_tells : (image : List ℕ) {out out' : List ℕ} {answer : Told} → ListAnswer image out out' answer
    → (r : ℕ) → (take answer.length out' ≡ text (refusal_lines r)) ↔ ((answer.number ≡ r) × (r ≢ 0))
list_tells image done = tells done (λ printed right r same. refusal_no_list r right.pairs right.found (same ∙ right.spelled))

-- from judge,
pub judge_tells : (image : List ℕ) {s t : ℕ} {out out' : List ℕ} {answer : Told} → JudgeAnswer image s t out out' answer
    → (r : ℕ) → (take answer.length out' ≡ text (refusal_lines r)) ↔ ((answer.number ≡ r) × (r ≢ 0))
judge_tells image done = tells done (λ printed right r same. refusal_no_judgement r right.judgement.yes right.judgement.size (same ∙ right.spelled))

-- and from fold.
pub fold_tells : (rings : Rings) (image : List ℕ) {out out' new new' : List ℕ} {budget : ℕ} {answers : Delivered}
    → FoldAnswer (fold_of rings) image budget out out' new new' answers
    → (r : ℕ) → (take answers.line out' ≡ text (refusal_lines r)) ↔ ((answers.number ≡ r) × (r ≢ 0))
fold_tells rings image done =
    tells (line_answered rings image done)
    (λ printed right r same. let at = right.1 in refusal_no_fold r at.folded at.left (length at.result.rows.targets) (same ∙ at.spelled))
