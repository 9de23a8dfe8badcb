-- Nothing is lost in print: the text of an answer determines the answer. Assumes nothing.
use Prim.Native.Nat.{ℕ, ◌+◌, ◌*◌, ◌/◌, ◌%◌, ◌<◌}
use Prim.Native.String.{String}
use mathlib.Core.Path.{◌≡◌, refl, sym, ap, ◌∙◌}
use mathlib.Core.Logic.{◌↔◌, inl, inr}
use mathlib.Core.Bool.{Bool, true, false, false≢true}
use mathlib.Core.List.{List, [], ◌∷◌, ◌++◌, map, head-eq_of_cons-eq, tail-eq_of_cons-eq, nil≢cons, cons≢nil}
use native.Mathlib.Decide.{ℕ_discrete}
use native.Mathlib.Omega.{arith}
use lib.ListN.{length, get_or}
use lib.Seq.{ext_get_or}
use Rattle.table.specs.Table.{size, row}
use Rattle.table.proofs.SameRows.{same_by_row}
use Rattle.layout.specs.Lengths.{Known, length_count}
use Rattle.layout.specs.Image.{Contents, SoundContents}
use Rattle.layout.proofs.LengthLaws.{lengths_each, lengths_none}
use Rattle.texts.specs.Text.{
  decimal,
  Line,
  named,
  numbered,
  each,
  text,
  refusal_lines,
  sizes_line,
  look_lines,
  length_at,
  vertex_line,
  contents_lines,
  pair_line,
  list_lines,
  judgement_lines,
  fold_lines,
}
use Rattle.texts.proofs.EachLaws.{each_determines}
use Rattle.texts.proofs.Decimal.{decimal_injective}
use Rattle.texts.proofs.VersionLaws.{word_tells, length_parts}
use Rattle.texts.proofs.Plain.{plain_refusal, plain_look, plain_contents, plain_list, plain_judgement, plain_fold}
use Rattle.texts.proofs.Splitting.{text_determines}
use Rattle.texts.proofs.FirstWord.{texts_differ}

-- ---- The numbers of a line.

decimals_injective : (xs ys : List ℕ) → map decimal xs ≡ map decimal ys → xs ≡ ys
decimals_injective [] [] same = refl
decimals_injective [] (y ∷ ys) same = absurd (nil≢cons same)
decimals_injective (x ∷ xs) [] same = absurd (cons≢nil same)
decimals_injective (x ∷ xs) (y ∷ ys) same =
    let q = decimal_injective x y (head-eq_of_cons-eq same) in
    let qs = decimals_injective xs ys (tail-eq_of_cons-eq same) in
    λ i. q i ∷ qs i

numbered_determines : (x y : ℕ) (xs ys : List ℕ) → numbered x xs ≡ numbered y ys → (x ≡ y) × (xs ≡ ys)
numbered_determines x y xs ys same =
    (decimal_injective x y (ap (λ (l : Line). l.first) same), decimals_injective xs ys (ap (λ (l : Line). l.others) same))

-- a first line with a name and numbers, and the rest
headed_determines : (name : String) (xs ys : List ℕ) (rest rest' : List Line) → ◌≡◌ {A = List Line} (named name xs ∷ rest) (named name ys ∷ rest')
    → (xs ≡ ys) × (rest ≡ rest')
headed_determines name xs ys rest rest' same =
    (decimals_injective xs ys (ap (λ (l : Line). l.others) (head-eq_of_cons-eq same)), tail-eq_of_cons-eq same)

-- ---- Each answer.

pub refusal_determines : (r r' : ℕ) → text (refusal_lines r) ≡ text (refusal_lines r') → r ≡ r'
refusal_determines r r' same =
    let lines = text_determines (plain_refusal r) (plain_refusal r') same in
    head-eq_of_cons-eq (headed_determines "refused" (r ∷ []) (r' ∷ []) [] [] lines).0

-- the first line of a look or of contents says whether the version is 2, and n and m
sizes_determines : (version version' n n' m m' : ℕ) → sizes_line version n m ≡ sizes_line version' n' m'
    → ((version ≡ 2) ↔ (version' ≡ 2)) × (n ≡ n') × (m ≡ m')
sizes_determines version version' n n' m m' same =
    let words = ap (λ (l : Line). l.others) same in
    let behind = tail-eq_of_cons-eq words in
    let last = tail-eq_of_cons-eq behind in (
      (word_tells version version' last, word_tells version' version (sym last)),
      decimal_injective n n' (head-eq_of_cons-eq words),
      decimal_injective m m' (head-eq_of_cons-eq behind),
    )

pub look_determines : (version version' n n' m m' : ℕ) → text (look_lines version n m) ≡ text (look_lines version' n' m')
    → ((version ≡ 2) ↔ (version' ≡ 2)) × (n ≡ n') × (m ≡ m')
look_determines version version' n n' m m' same =
    sizes_determines version version' n n' m m' (head-eq_of_cons-eq (text_determines (plain_look version n m) (plain_look version' n' m') same))

-- of the versions that there are, 2 or not 2 says all
known_determined : (version version' : ℕ) → Known version → Known version' → (version ≡ 2) ↔ (version' ≡ 2) → version ≡ version'
known_determined version version' (inl one) (inl one') both = one ∙ sym one'
known_determined version version' (inl one) (inr two') both = both.1 two' ∙ sym two'
known_determined version version' (inr two) known' both = two ∙ sym (both.0 two)

-- the line of a vertex determines its count, its length where there is one, and its row
vertex_determines : (version : ℕ) (contents contents' : Contents) (v : ℕ) → vertex_line version contents v ≡ vertex_line version contents' v
    → (get_or contents.table.counts v 0 ≡ get_or contents'.table.counts v 0)
    × (version ≡ 2 → get_or contents.lengths v 0 ≡ get_or contents'.lengths v 0)
    × (row contents.table.rows.starts contents.table.rows.targets v ≡ row contents'.table.rows.starts contents'.table.rows.targets v)
vertex_determines version contents contents' v same =
    let record { table = table; lengths = lengths } = contents in
    let record { table = table'; lengths = lengths' } = contents' in
    let successors = row table.rows.starts table.rows.targets v in
    let successors' = row table'.rows.starts table'.rows.targets v in
    let numbers = (numbered_determines v v (get_or table.counts v 0 ∷ length_at version lengths v ++ successors)
    (get_or table'.counts v 0 ∷ length_at version lengths' v ++ successors') same).1 in
    let (length-same, row_same) = length_parts version lengths lengths' successors successors' v (tail-eq_of_cons-eq numbers) in
    (head-eq_of_cons-eq numbers, length-same, row_same)

-- within one version
contents_of_version : (version : ℕ) (contents contents' : Contents) → SoundContents version contents → SoundContents version contents'
    → size contents.table.rows ≡ size contents'.table.rows
    → ((v : ℕ) → v < size contents.table.rows → vertex_line version contents v ≡ vertex_line version contents' v) → contents ≡ contents'
contents_of_version version contents contents' ok ok' as_many vertex =
    let record { table = table; lengths = lengths } = contents in
    let record { table = table'; lengths = lengths' } = contents' in
    let each-count = ok.counted.count_each in
    let rows = same_by_row ok.counted.well_formed ok'.counted.well_formed
    (omega (arith, ok.counted.well_formed.some, ok'.counted.well_formed.some))
    (λ v h. (vertex_determines version contents contents' v (vertex v h)).2) in
    let counts = ext_get_or 0 table.counts table'.counts (omega (arith, each-count, ok'.counted.count_each))
    (λ v h. (vertex_determines version contents contents' v (vertex v (omega (arith, each-count)))).0) in
    let long = ok.length_each ∙ ap (length_count version) as_many ∙ sym ok'.length_each in
    let measures = ext_get_or 0 lengths lengths' long
    (λ v h. elim (ℕ_discrete version 2) [
      | yes two ↦ (vertex_determines version contents contents' v (vertex v (omega (arith, ok.length_each, lengths_each version (size table.rows) two)))).1 two
      | no other ↦ absurd (omega (arith, ok.length_each, lengths_none version (size table.rows) other))
    ]) in
    λ i. record { table = record { rows = rows i; counts = counts i }; lengths = measures i }

-- so the text of contents determines their version and them
pub contents_determines : (version version' : ℕ) (contents contents' : Contents) → SoundContents version contents → SoundContents version' contents'
    → text (contents_lines version contents) ≡ text (contents_lines version' contents') → (version ≡ version') × (contents ≡ contents')
contents_determines version version' contents contents' ok ok' same =
    let rows = contents.table.rows in
    let rows' = contents'.table.rows in
    let lines = text_determines (plain_contents version contents) (plain_contents version' contents') same in
    let (two, as_many, edges) =
    sizes_determines version version' (size rows) (size rows') (length rows.targets) (length rows'.targets) (head-eq_of_cons-eq lines) in
    let one = known_determined version version' ok.known ok'.known two in
    let rest : each (vertex_line version contents) (size rows) ≡ each (vertex_line version contents') (size rows) =
    tail-eq_of_cons-eq lines ∙ (λ i. each (vertex_line (sym one i) contents') (sym as_many i)) in (
      one,
      contents_of_version version contents contents' ok (rw (← one) at ok') as_many
          (each_determines (vertex_line version contents) (vertex_line version contents') (size rows) rest),
    )

-- a line of a list determines its pair
pair_determines : (pairs pairs' : List ℕ) (k : ℕ) → pair_line pairs k ≡ pair_line pairs' k
    → (get_or pairs (2 * k) 0 ≡ get_or pairs' (2 * k) 0) × (get_or pairs (2 * k + 1) 0 ≡ get_or pairs' (2 * k + 1) 0)
pair_determines pairs pairs' k same =
    let (first, others) =
    numbered_determines (get_or pairs (2 * k) 0) (get_or pairs' (2 * k) 0) (get_or pairs (2 * k + 1) 0 ∷ []) (get_or pairs' (2 * k + 1) 0 ∷ []) same in
    (first, head-eq_of_cons-eq others)

-- k pairs, each the same
same_by_pair : (xs ys : List ℕ) (k : ℕ) → length xs ≡ 2 * k → length ys ≡ 2 * k
    → ((i : ℕ) → i < k → (get_or xs (2 * i) 0 ≡ get_or ys (2 * i) 0) × (get_or xs (2 * i + 1) 0 ≡ get_or ys (2 * i + 1) 0)) → xs ≡ ys
same_by_pair xs ys k long long' same =
    ext_get_or 0 xs ys (omega arith)
    (λ i h. elim (ℕ_discrete (i % 2) 0) [
      | yes even ↦ let here : i ≡ 2 * (i / 2) = omega arith in rw here (same (i / 2) (omega arith)).0
      | no odd ↦ let here : i ≡ 2 * (i / 2) + 1 = omega arith in rw here (same (i / 2) (omega arith)).1
    ])

pub list_determines : (pairs pairs' : List ℕ) (found found' : ℕ) → length pairs ≡ 2 * found → length pairs' ≡ 2 * found'
    → text (list_lines pairs found) ≡ text (list_lines pairs' found') → (found ≡ found') × (pairs ≡ pairs')
list_determines pairs pairs' found found' long long' same =
    let lines = text_determines (plain_list pairs found) (plain_list pairs' found') same in
    let (heads, rest) = headed_determines "superbubbles" (found ∷ []) (found' ∷ []) (each (pair_line pairs) found) (each (pair_line pairs') found') lines in
    let as_many : found ≡ found' = head-eq_of_cons-eq heads in
    let pair = each_determines (pair_line pairs) (pair_line pairs') found (rest ∙ ap (each (pair_line pairs')) (sym as_many)) in
    (as_many, same_by_pair pairs pairs' found long (omega arith) (λ k h. pair_determines pairs pairs' k (pair k h)))

pub judgement_determines : (answer answer' : Bool) (k k' : ℕ) → text (judgement_lines answer k) ≡ text (judgement_lines answer' k')
    → (answer ≡ answer') × (answer ≡ true → k ≡ k')
judgement_determines true true k k' same =
    let lines = text_determines (plain_judgement true k) (plain_judgement true k') same in
    (refl, λ e. head-eq_of_cons-eq (headed_determines "superbubble" (k ∷ []) (k' ∷ []) [] [] lines).0)
judgement_determines true false k k' same =
    absurd (texts_differ (plain_judgement true k) (plain_judgement false k') (omega arith) same)
judgement_determines false true k k' same =
    absurd (texts_differ (plain_judgement false k) (plain_judgement true k') (omega arith) same)
judgement_determines false false k k' same = (refl, λ e. absurd (false≢true e))

pub fold_determines : (folded left edges folded' left' edges' : ℕ) → text (fold_lines folded left edges) ≡ text (fold_lines folded' left' edges')
    → (folded ≡ folded') × (left ≡ left') × (edges ≡ edges')
fold_determines folded left edges folded' left' edges' same =
    let lines = text_determines (plain_fold folded left edges) (plain_fold folded' left' edges') same in
    let words = ap (λ (l : Line). l.others) (head-eq_of_cons-eq lines) in (
      decimal_injective folded folded' (ap (λ (ws : List (List ℕ)). get_or ws 0 []) words),
      decimal_injective left left' (ap (λ (ws : List (List ℕ)). get_or ws 2 []) words),
      decimal_injective edges edges' (ap (λ (ws : List (List ℕ)). get_or ws 4 []) words),
    )
