-- The line of a fold put word by word, and what fold delivers: of a well-formed table with its lengths, and of what an image holds, in every lawful way. Assumes nothing.
use Rattle.std.proofs.Common.{ℕ, ◌+◌, ◌-◌, ◌≤◌, ◌≡◌, refl, sym, ap, subst, ◌∙◌, List, [], ◌∷◌, arith, length, drop, length-append, length-take-le}
use Rattle.table.specs.Verdict.{Demand, Verdict}
use Rattle.table.specs.Table.{Table, size, SoundTable}
use Rattle.table.specs.Numbers.{counted_demands}
use Rattle.table.specs.Lent.{fronts}
use Rattle.table.proofs.VerdictLaws.{accepted, goes_on, stops, met_is_passed, met_are_passed}
use Rattle.table.proofs.Accepted.{counted_meets}
use Rattle.table.proofs.FrontLaws.{fronts_are}
use Rattle.layout.specs.Lengths.{length_count}
use Rattle.layout.specs.Image.{Contents, SoundContents, largest_image, image_of, version_of, table_of, contents_of}
use Rattle.layout.proofs.ImageLaws.{image_length_lem}
use Rattle.layout.proofs.Limits.{length_most}
use Rattle.image.specs.Looking.{Seen, image_demands, Looked}
use Rattle.image.proofs.LookLaws.{looked_met}
use Rattle.writing.specs.Writing.{Extent, Written}
use Rattle.writing.proofs.WriteLaws.{contents_written}
use Rattle.rule.specs.Way.{Way}
use Rattle.rule.specs.Laws.{WayLaws}
use Rattle.rule.specs.Tables.{TableFolded}
use Rattle.folding.specs.Folding.{Outcome, fold_room, FoldDone}
use Rattle.folding.proofs.Demand.{left_accepted}
use Rattle.texts.specs.Text.{Line, bytes, decimal, text, refusal_lines, fold_lines}
use Rattle.printing.specs.Put.{AtFront, Put}
use Rattle.printing.proofs.PutLaws.{put_nothing, put_first, put_next, put_then, put_text, at_front}
use Rattle.fold_bytes.specs.Image.{Delivered, FoldDelivered, FoldAnswer}

-- ---- The line.

-- `folded F left L edges M`
pub put_folded : (folded left edges : ℕ) {a b c d e f g h : List ℕ} {i j k l m n o : ℕ} → Put a 0 (bytes "folded") b i → Put b i (32 ∷ decimal folded) c j
    → Put c j (bytes " left") d k → Put d k (32 ∷ decimal left) e l → Put e l (bytes " edges") f m → Put f m (32 ∷ decimal edges) g n
    → Put g n (10 ∷ []) h o → AtFront (text (fold_lines folded left edges)) a h o
put_folded folded left edges word number word-left number-left word-edges number-edges feed =
    let f = decimal folded in
    let l = decimal left in
    let m = decimal edges in
    let begins : List (List ℕ) → Line = λ words. record { first = bytes "folded"; others = words } in
    at_front
    (put_text [] (begins (f ∷ bytes "left" ∷ l ∷ bytes "edges" ∷ m ∷ [])) put_nothing
    (put_then
    (put_next (begins (f ∷ bytes "left" ∷ l ∷ bytes "edges" ∷ [])) m
    (put_next (begins (f ∷ bytes "left" ∷ l ∷ [])) (bytes "edges")
    (put_next (begins (f ∷ bytes "left" ∷ [])) l
    (put_next (begins (f ∷ [])) (bytes "left")
    (put_next (begins []) f (put_first word) number) word-left) number-left) word-edges) number-edges)
    feed))

-- ---- A refusal.

-- the line of a refusal, and nothing is written
pub refusal_delivers : {way : Way} {demands : List Demand} {version : ℕ} {contents : Contents} {budget : ℕ} {out out' new : List ℕ} {answers : Delivered} {number : ℕ}
    → (number ≡ 0 → ⊥) → Verdict demands number
    → (answers.number ≡ number) × (answers.image ≡ 0) × AtFront (text (refusal_lines number)) out out' answers.line
    → FoldDelivered way demands version contents budget out out' new new answers
refusal_delivers {new = new} {number = number} refusal verdict (same, none, at) =
    record {
      printed = text (refusal_lines number);
      written = [];
      verdict = rw same verdict;
      taken = λ e. absurd (refusal (sym same ∙ e));
      refused = λ _. (ap (λ (k : ℕ). text (refusal_lines k)) (sym same), refl);
      line_front = at;
      image_front = record { long = none; whole = ap (λ (k : ℕ). drop k new) (sym none) };
    }

-- ---- The fold of a well-formed table.

-- with room, only what the way asks can refuse it
pub way_decides : {way : Way} {table : Table} {budget : ℕ} {lent after : Table} {answer : Outcome} → SoundTable table → (fold_room table lent).met
    → FoldDone way table budget lent after answer → Verdict (way.asked table.rows) answer.number
way_decides {way} {table} {lent = lent} {answer = answer} ok room done =
    let asked = way.asked table.rows in
    met_is_passed [] (fold_room table lent) asked answer.number room
    (met_are_passed (counted_demands table) (fold_room table lent ∷ asked) answer.number (counted_meets table ok) done.verdict)

-- the arrays that an accepted fold was written to: the new table stands at their fronts, well-formed
pub record LeftTable (way : Way) (table : Table) (budget : ℕ) (after : Table) (answer : Outcome) : Type 0 where
  pub verdict : Verdict (way.asked table.rows) 0
  pub starts_within : size table.rows + 1 ≤ length after.rows.starts
  pub targets_within : answer.edges ≤ length after.rows.targets
  pub counts_within : size table.rows ≤ length after.counts
  pub table_folded : TableFolded way.candidates way.rule table budget (fronts (size table.rows) answer.edges after) answer.folded answer.left
  pub sound : SoundTable (fronts (size table.rows) answer.edges after)

-- an accepted fold leaves them so
pub fold_leaves : {way : Way} {table : Table} {budget : ℕ} {lent after : Table} {answer : Outcome} → WayLaws way → SoundTable table → (fold_room table lent).met
    → FoldDone way table budget lent after answer → answer.number ≡ 0 → LeftTable way table budget after answer
fold_leaves {way} {table} {budget} {lent} {after} {answer} laws ok room done e =
    let n = size table.rows in
    let m = answer.edges in
    let left = done.taken e in
    let at = left.at_fronts in
    let result = left.result in
    let stays = left.table_folded.same_size in
    let verdict : Verdict (way.asked table.rows) 0 = rw e at (way_decides ok room done) in
    let kind = laws.asked_kind table.rows (accepted (way.asked table.rows) (laws.never_zero table.rows) verdict) in
    let same : fronts n m after ≡ result =
    fronts_are at (omega (arith, stays.as_many_vertices, ok.well_formed)) (sym left.edge_count) (omega (arith, stays.as_many_counts, ok.count_each)) in
    record {
      verdict = verdict;
      starts_within =
          omega (arith, ok.well_formed, ap length at.starts_front, length-append result.rows.starts (drop (n + 1) lent.rows.starts), stays.as_many_vertices);
      targets_within = omega (arith, ap length at.targets_front, length-append result.rows.targets (drop m lent.rows.targets), left.edge_count);
      counts_within =
          omega (arith, ap length at.counts_front, length-append result.counts (drop n lent.counts), stays.as_many_counts, ok.count_each);
      table_folded =
          subst (λ (t : Table). TableFolded way.candidates way.rule table budget t answer.folded answer.left) (sym same) left.table_folded;
      sound = subst SoundTable (sym same) (left_accepted laws ok kind left.table_folded).0;
    }

-- ---- The line and the image of the new table.

-- the new table with the lengths as they were
abbrev pub new_contents : Contents → Table → Outcome → Contents
new_contents contents after answer = record { table = fronts (size contents.table.rows) answer.edges after; lengths = contents.lengths }

-- the same by another n, and by other lengths, that are theirs
pub same_contents : (contents : Contents) (after : Table) (answer : Outcome) {n : ℕ} {lengths : List ℕ} → n ≡ size contents.table.rows → lengths ≡ contents.lengths
    → record { table = fronts n answer.edges after; lengths = lengths } ≡ new_contents contents after answer
same_contents contents after answer same_n same_lengths = λ i. record { table = fronts (same_n i) answer.edges after; lengths = same_lengths i }

-- they are sound
pub new_sound : {way : Way} {version : ℕ} {contents : Contents} {budget : ℕ} {after : Table} {answer : Outcome} → SoundContents version contents
    → LeftTable way contents.table budget after answer → SoundContents version (new_contents contents after answer)
new_sound {version = version} sound left =
    record {
      known = sound.known;
      counted = left.sound;
      length_each = sound.length_each ∙ ap (λ (k : ℕ). length_count version (k - 1)) (sym left.table_folded.same_size.as_many_vertices);
      positive = sound.positive;
      sixteen_bits = sound.sixteen_bits;
    }

-- with room for the largest image, the image of sound contents stands at the front
pub image_at_front : {version : ℕ} {contents : Contents} {new new' : List ℕ} {extent : Extent} → SoundContents version contents → length new ≡ largest_image
    → Written version contents new new' extent → AtFront (image_of version contents) new new' extent.length
image_at_front {version} {contents} {new} {extent = extent} sound long written =
    let rows = sound.counted.well_formed in
    let table = contents.table in
    let most = length_most version (size table.rows) (length table.rows.targets) (omega (arith, rows)) rows.most_edges in
    let (length-is, whole) = written.taken (contents_written sound (omega (arith, most, long)) written) in
    record { long = length-is ∙ sym (image_length_lem version contents sound.counted sound.length_each); whole = whole }

-- what an accepted fold delivers
pub fold_delivers : {way : Way} {version : ℕ} {contents : Contents} {budget : ℕ} {after : Table} {answer : Outcome} {out out' new new' : List ℕ} {answers : Delivered}
    → LeftTable way contents.table budget after answer → answers.number ≡ 0
    → AtFront (text (fold_lines answer.folded answer.left answer.edges)) out out' answers.line
    → AtFront (image_of version (new_contents contents after answer)) new new' answers.image
    → FoldDelivered way (way.asked contents.table.rows) version contents budget out out' new new' answers
fold_delivers {version = version} {contents} {after = after} {answer} left none line_front image_front =
    record {
      printed = text (fold_lines answer.folded answer.left answer.edges);
      written = image_of version (new_contents contents after answer);
      verdict = rw none left.verdict;
      taken = λ _. record {
        result = (new_contents contents after answer).table;
        folded = answer.folded;
        left = answer.left;
        table_folded = left.table_folded;
        spelled =
            ap (λ (m : ℕ). text (fold_lines answer.folded answer.left m))
            (sym (length-take-le answer.edges after.rows.targets left.targets_within));
        image = refl;
      };
      refused = λ refusal. absurd (refusal none);
      line_front = line_front;
      image_front = image_front;
    }

-- ---- From the bytes of an image.

-- the line of the refusal of an image
pub image_refused : (ways : ℕ → Way) {image : List ℕ} {budget : ℕ} {sizes : Seen} {out out' new : List ℕ} {answers : Delivered} → Looked image sizes
    → (sizes.number ≡ 0 → ⊥)
    → (answers.number ≡ sizes.number) × (answers.image ≡ 0) × AtFront (text (refusal_lines sizes.number)) out out' answers.line
    → FoldAnswer ways image budget out out' new new answers
image_refused ways {image} {sizes = sizes} looked refusal =
    refusal_delivers refusal (stops (image_demands image) ((ways (version_of image)).asked (table_of image).rows) sizes.number refusal looked.verdict)

-- what is delivered of the contents of an image that look accepts
pub image_folded : (ways : ℕ → Way) {image : List ℕ} {sizes : Seen} {version : ℕ} (contents : Contents) {budget : ℕ} {out out' new new' : List ℕ} {answers : Delivered}
    → Looked image sizes → sizes.number ≡ 0 → version ≡ version_of image → contents ≡ contents_of image
    → FoldDelivered (ways version) ((ways version).asked contents.table.rows) version contents budget out out' new new' answers
    → FoldAnswer ways image budget out out' new new' answers
image_folded ways {image} contents {budget = budget} {out} {out'} {new} {new'} {answers} looked e same_version same done =
    let moved-version =
    subst (λ (v : ℕ). FoldDelivered (ways v) ((ways v).asked contents.table.rows) v contents budget out out' new new' answers) same_version done in
    let moved =
    subst (λ (c : Contents). FoldDelivered (ways (version_of image)) ((ways (version_of image)).asked c.table.rows) (version_of image) c budget out out' new new' answers)
    same moved-version in
    record {
      printed = moved.printed;
      written = moved.written;
      verdict = goes_on (image_demands image) ((ways (version_of image)).asked (table_of image).rows) answers.number (looked_met looked e) moved.verdict;
      taken = moved.taken;
      refused = moved.refused;
      line_front = moved.line_front;
      image_front = moved.image_front;
    }
