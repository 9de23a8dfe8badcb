-- Demand 1: a table or image of any content gets an answer; bad ones are refused by number, on the tool's own checking; and a refusal changes no buffer. Assumes nothing.
use Prim.Native.Nat.{ℕ, ◌*◌}
use mathlib.Core.Path.{◌≡◌, refl, sym, ◌∙◌}
use mathlib.Core.Logic.{inl, inr}
use mathlib.Core.Bool.{false}
use mathlib.Core.List.{List, [], ◌∷◌, ◌++◌}
use native.Mathlib.Decide.{dec_le, dec_lt}
use lib.ListN.{length}
use Rattle.table.specs.Verdict.{Demand, Verdict}
use Rattle.table.specs.Table.{Below, Rows, Table, size, edges, Sound, SoundTable}
use Rattle.table.specs.Numbers.{table_demands, count_demands, counted_demands}
use Rattle.table.proofs.VerdictLaws.{goes_on, stops, verdict_unique}
use Rattle.table.proofs.Accepted.{well_formed, counted, met_counted, counted_meets}
use Rattle.layout.specs.Lengths.{Known}
use Rattle.layout.specs.Image.{Contents, SoundContents, image_length, version_of, vertices_of, edges_of}
use Rattle.image.specs.Looking.{Seen, image_demands, contents_room, NoSizes, Looked, Loaded}
use Rattle.image.proofs.LookLaws.{looked_met}
use Rattle.image.proofs.LoadLaws.{loaded_met}
use Rattle.writing.specs.Writing.{Extent, contents_demands, image_room, Written}
use Rattle.writing.proofs.WriteLaws.{written_sound}
use Rattle.bubble.specs.Cycle.{Cyclic}
use Rattle.listing.specs.Listing.{Found, list_room, ListDone}
use Rattle.judging.specs.Judging.{Judgement, pair_inside, JudgeDone}
use Rattle.rule.specs.Way.{no_cycle_demand, asked_of, plain, the_fold}
use Rattle.rule.specs.declared.Choosing.{Choosing}
use Rattle.rule.specs.declared.Mode.{Mode}
use Rattle.folding.specs.Folding.{Outcome, fold_room, fold_demands, FoldDone}
use Rattle.promises.specs.Images.{GoodImage}
use Rattle.promises.proofs.Decided.{
  DecidedInTurn,
  gives_number,
  decided_then,
  both,
  table_decided,
  counts_decided,
  contents_decided,
  image_decided,
  room_decided,
  contents_room_decided,
  rings_decided,
}
use Rattle.promises.proofs.GoodImages.{met_good}

-- A table of any content gets an answer: the check has a number for it, without counts and with them,
pub check_answers : (rows : Rows) → (number : ℕ) × Verdict (table_demands rows) number
check_answers rows = gives_number (table_demands rows) (table_decided rows)

counted_decided : (table : Table) → DecidedInTurn (counted_demands table)
counted_decided table = decided_then (table_demands table.rows) (count_demands table) (table_decided table.rows) (λ _. counts_decided table)

pub check_counted_answers : (table : Table) → (number : ℕ) × Verdict (counted_demands table) number
check_counted_answers table = gives_number (counted_demands table) (counted_decided table)

-- and so have list,
pub list_answers : (rows : Rows) (out : List ℕ) → (number : ℕ) × Verdict (table_demands rows ++ list_room rows out ∷ []) number
list_answers rows out =
    gives_number (table_demands rows ++ list_room rows out ∷ [])
    (decided_then (table_demands rows) (list_room rows out ∷ []) (table_decided rows) (λ _. (dec_le (2 * size rows) (length out), λ _. tt)))

-- judge,
pub judge_answers : (rows : Rows) (s t : ℕ) → (number : ℕ) × Verdict (table_demands rows ++ pair_inside rows s t ∷ []) number
judge_answers rows s t =
    gives_number (table_demands rows ++ pair_inside rows s t ∷ [])
    (decided_then (table_demands rows) (pair_inside rows s t ∷ []) (table_decided rows) (λ _. (both (dec_lt s (size rows)) (dec_lt t (size rows)), λ _. tt)))

-- each fold,
pub fold_answers : (mode : Mode) (table lent : Table) → (number : ℕ) × Verdict (fold_demands (the_fold mode) table lent) number
fold_answers mode table lent =
    gives_number (fold_demands (the_fold mode) table lent)
    (decided_then (counted_demands table) (fold_room table lent ∷ asked_of mode.rings table.rows) (counted_decided table)
    (λ met. (
      room_decided (size table.rows) (length table.rows.targets) lent,
      λ _. rings_decided mode.rings table.rows (met_counted table met).well_formed,
    )))

-- and the writing of an image, of either version.
pub write_answers : (version : ℕ) (contents : Contents) (image : List ℕ)
    → (number : ℕ) × Verdict (contents_demands version contents ++ image_room version contents.table.rows image ∷ []) number
write_answers version contents image =
    let room = image_room version contents.table.rows image in
    gives_number (contents_demands version contents ++ room ∷ [])
    (decided_then (contents_demands version contents) (room ∷ []) (contents_decided version contents)
    (λ _. (dec_le (image_length version (size contents.table.rows) (length contents.table.rows.targets)) (length image), λ _. tt)))

-- An image of any content gets an answer: from look,
pub look_answers : (image : List ℕ) → (number : ℕ) × Verdict (image_demands image) number
look_answers image = gives_number (image_demands image) (image_decided image)

-- and from load.
pub load_answers : (image : List ℕ) (lent : Contents)
    → (number : ℕ) × Verdict (image_demands image ++ contents_room (version_of image) (vertices_of image) (edges_of image) lent ∷ []) number
load_answers image lent =
    let room = contents_room (version_of image) (vertices_of image) (edges_of image) lent in
    gives_number (image_demands image ++ room ∷ [])
    (decided_then (image_demands image) (room ∷ []) (image_decided image)
    (λ _. (contents_room_decided (version_of image) (vertices_of image) (edges_of image) lent, λ _. tt)))

-- Bad ones are refused by number: a table that is not well-formed, without its counts and with them, by the checks
pub bad_table_refused : (rows : Rows) (number : ℕ) → (Sound rows → ⊥) → Verdict (table_demands rows) number → number ≡ 0 → ⊥
bad_table_refused rows number bad v e = bad (well_formed rows (rw e at v))

pub bad_counts_refused : (table : Table) (number : ℕ) → (SoundTable table → ⊥) → Verdict (counted_demands table) number → number ≡ 0 → ⊥
bad_counts_refused table number bad v e = bad (counted table (rw e at v))

-- a demand that is not met is not passed: where the first demands refuse, so do all
still_refused : (first rest : List Demand) (number : ℕ) → ((r : ℕ) → Verdict first r → r ≡ 0 → ⊥) → ((r : ℕ) × Verdict first r)
    → Verdict (first ++ rest) number → number ≡ 0 → ⊥
still_refused first rest number bad (r, v) w e = bad r v (sym (verdict_unique (first ++ rest) number r w (stops first rest r (bad r v) v)) ∙ e)

-- and by list,
pub list_refuses_bad : {rows : Rows} {out out' : List ℕ} {answer : Found} → (Sound rows → ⊥) → ListDone rows out out' answer → answer.number ≡ 0 → ⊥
list_refuses_bad {rows} {out} {out'} {answer} bad done =
    still_refused (table_demands rows) (list_room rows out ∷ []) answer.number (λ r. bad_table_refused rows r bad) (check_answers rows) done.verdict

-- judge,
pub judge_refuses_bad : {rows : Rows} {s t : ℕ} {answer : Judgement} → (Sound rows → ⊥) → JudgeDone rows s t answer → answer.number ≡ 0 → ⊥
judge_refuses_bad {rows} {s} {t} {answer} bad done =
    still_refused (table_demands rows) (pair_inside rows s t ∷ []) answer.number (λ r. bad_table_refused rows r bad) (check_answers rows) done.verdict

-- each fold,
pub fold_refuses_bad : (mode : Mode) {table lent after : Table} {budget : ℕ} {answer : Outcome} → (SoundTable table → ⊥)
    → FoldDone (the_fold mode) table budget lent after answer → answer.number ≡ 0 → ⊥
fold_refuses_bad mode {table} {lent} {answer = answer} bad done =
    still_refused (counted_demands table) (fold_room table lent ∷ asked_of mode.rings table.rows) answer.number
    (λ r. bad_counts_refused table r bad) (check_counted_answers table) done.verdict

-- which, where rings are refused, refuses a table with a directed cycle, too: by 9, where there is room,
pub fold_refuses_cycle : (by : Choosing) {table lent after : Table} {budget : ℕ} {answer : Outcome} → SoundTable table
    → (fold_room table lent).met → Cyclic (edges table.rows)
    → FoldDone (the_fold (plain by)) table budget lent after answer → answer.number ≡ 9
fold_refuses_cycle by {table} {lent} {answer = answer} ok room cycle done =
    verdict_unique (fold_demands (the_fold (plain by)) table lent) answer.number 9 done.verdict
    (goes_on (counted_demands table) (fold_room table lent ∷ no_cycle_demand table.rows ∷ []) 9 (counted_meets table ok)
    (inr (room, inl ((λ none. none cycle), refl))))

-- and the writing of an image: contents that no image of its version can hold;
pub write_refuses_bad : {version : ℕ} {contents : Contents} {image image' : List ℕ} {answer : Extent} → Known version → Below 65536 contents.lengths
    → (SoundContents version contents → ⊥) → Written version contents image image' answer → answer.number ≡ 0 → ⊥
write_refuses_bad known sixteen bad done e = bad (written_sound done e known sixteen)

-- and bytes that are the image of no well-formed table, by look
pub look_refuses_bad : {image : List ℕ} {answer : Seen} → Below 256 image → (GoodImage image → ⊥) → Looked image answer → answer.number ≡ 0 → ⊥
look_refuses_bad bytes bad looks e = bad (met_good bytes (looked_met looks e))

-- and by load.
pub load_refuses_bad : {image : List ℕ} {lent after : Contents} {answer : Seen} → Below 256 image → (GoodImage image → ⊥) → Loaded image lent after answer
    → answer.number ≡ 0 → ⊥
load_refuses_bad bytes bad loads e = bad (met_good bytes (loaded_met loads e))

-- A refusal changes no buffer she has lent, and returns 0 in every other field: list,
pub list_refusal : {rows : Rows} {out out' : List ℕ} {answer : Found} → ListDone rows out out' answer → (answer.number ≡ 0 → ⊥) → (out' ≡ out) × (answer.found ≡ 0)
list_refusal done refusal = let (found, same) = done.refused refusal in (same, found)

-- judge, which is lent nothing that it could change,
pub judge_refusal : {rows : Rows} {s t : ℕ} {answer : Judgement} → JudgeDone rows s t answer → (answer.number ≡ 0 → ⊥) → (answer.yes ≡ false) × (answer.size ≡ 0)
judge_refusal done = done.refused

-- each fold,
pub fold_refusal : (mode : Mode) {table lent after : Table} {budget : ℕ} {answer : Outcome} → FoldDone (the_fold mode) table budget lent after answer → (answer.number ≡ 0 → ⊥)
    → (after ≡ lent) × ((answer.folded ≡ 0) × (answer.left ≡ 0) × (answer.edges ≡ 0))
fold_refusal mode done refusal = let (folded, left, edges, same) = done.refused refusal in (same, (folded, left, edges))

-- look, which is lent nothing that it could change,
pub look_refusal : {image : List ℕ} {answer : Seen} → Looked image answer → (answer.number ≡ 0 → ⊥) → NoSizes answer
look_refusal done = done.refused

-- load,
pub load_refusal : {image : List ℕ} {lent after : Contents} {answer : Seen} → Loaded image lent after answer → (answer.number ≡ 0 → ⊥)
    → (after ≡ lent) × NoSizes answer
load_refusal done refusal = let (sizes, same) = done.refused refusal in (same, sizes)

-- and write.
pub write_refusal : {version : ℕ} {contents : Contents} {image image' : List ℕ} {answer : Extent} → Written version contents image image' answer
    → (answer.number ≡ 0 → ⊥) → (image' ≡ image) × (answer.length ≡ 0)
write_refusal done refusal = let (size, same) = done.refused refusal in (same, size)
