-- The text of what an image holds put piece by piece: a row by its successors, the line of a vertex by its words, the vertices by their lines; and what show answers.
-- Assumes nothing.
use Rattle.std.proofs.Common.{ℕ, ◌+◌, ◌<◌, ◌≡◌, sym, List, [], ◌∷◌, map, length, get_or, take}
use mathlib.Core.List.{map-append}
use Rattle.table.specs.Table.{row, size}
use Rattle.layout.specs.Image.{Contents, contents_of}
use Rattle.texts.specs.Text.{decimal, following, line, text, numbered, each, length_at, sizes_line, vertex_line, contents_lines}
use Rattle.texts.proofs.EachLaws.{each_next}
use Rattle.image.specs.Looking.{Seen, image_demands, Looked}
use Rattle.image.proofs.LookLaws.{looked_met}
use Rattle.table.proofs.VerdictLaws.{accepts}
use Rattle.printing.specs.Answered.{Told}
use Rattle.show_bytes.specs.Show.{ShowAnswer}
use Rattle.printing.specs.Put.{AtFront, Put}
use Rattle.printing.proofs.PutLaws.{put_same, put_then, put_first, put_words, put_next, at_front}
use Rattle.printing.proofs.AnsweredLaws.{text_answers}
use Rattle.show_bytes.proofs.Long.{successors_next}

-- ---- The text.

module _ (row : List ℕ) (k : ℕ) {a b : List ℕ} {at place : ℕ} (put : Put a at (following (map decimal (take k row))) b place) where
  -- one successor more
  pub put_successor : {c : List ℕ} {end : ℕ} → k < length row → Put b place (32 ∷ decimal (get_or row k 0)) c end
      → Put a at (following (map decimal (take (k + 1) row))) c end
  put_successor h next = put_same (sym (successors_next row k h)) (put_then put next)

-- the line of a vertex, by its words: its number, its count, its length or nothing, its successors
pub put_vertex_line : (version : ℕ) (contents : Contents) (v : ℕ) {count : ℕ} {own successors : List ℕ} → count ≡ get_or contents.table.counts v 0
    → own ≡ length_at version contents.lengths v → successors ≡ row contents.table.rows.starts contents.table.rows.targets v
    → {a b c d e f : List ℕ} {at i j k l end : ℕ} → Put a at (decimal v) b i → Put b i (32 ∷ decimal count) c j → Put c j (following (map decimal own)) d k
    → Put d k (following (map decimal successors)) e l → Put e l (10 ∷ []) f end → Put a at (line (vertex_line version contents v)) f end
put_vertex_line version contents v {count} {own} {successors} same_count same_own same_row {a} {at = at} {end = end} number next said rest feed =
    let counted = put_next (numbered v []) (decimal count) (put_first number) next in
    let words = put_words (numbered v (count ∷ own)) (map decimal successors) (put_words (numbered v (count ∷ [])) (map decimal own) counted said) rest in
    let whole = put_then (rw (← map-append decimal own successors) at words) feed in
    rw (← same_count, ← same_own, ← same_row) whole

-- one vertex more
pub put_next_vertex : (version : ℕ) (contents : Contents) (v : ℕ) {a b c : List ℕ} {at place end : ℕ} → Put a at (text (each (vertex_line version contents) v)) b place
    → Put b place (line (vertex_line version contents v)) c end → Put a at (text (each (vertex_line version contents) (v + 1))) c end
put_next_vertex version contents v put next = put_same (sym (each_next (vertex_line version contents) v)) (put_then put next)

-- `table N M`, in version 2 `table N M lengths`, and the vertices
pub put_contents_text : (version : ℕ) (contents : Contents) {n m : ℕ} → n ≡ size contents.table.rows → m ≡ length contents.table.rows.targets
    → {a b c : List ℕ} {place end : ℕ} → Put a 0 (line (sizes_line version n m)) b place
    → Put b place (text (each (vertex_line version contents) (size contents.table.rows))) c end → AtFront (text (contents_lines version contents)) a c end
put_contents_text version contents same_n same_m heading lines = at_front (put_then (rw (same_n, same_m) at heading) lines)

-- ---- What is answered.

-- of an image that look accepts the text of what it holds is the answer
pub contents_answers : {image : List ℕ} {looked : Seen} {contents : Contents} {out out' : List ℕ} {answer : Told} → Looked image looked
    → (e : looked.number ≡ 0) → contents ≡ contents_of image → answer.number ≡ 0
    → AtFront (text (contents_lines looked.version contents)) out out' answer.length → ShowAnswer image out out' answer
contents_answers {image} {looked} sees e same none =
    text_answers none (accepts (image_demands image) (looked_met sees e))
    (λ i. text (contents_lines ((sees.taken e).same_version i) (same i)))
