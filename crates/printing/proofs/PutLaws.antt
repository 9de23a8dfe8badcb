-- Bytes put one behind the other: words to a line, lines to a text, a text at the front of a buffer. Assumes nothing.
use Rattle.std.proofs.Common.{ℕ, ◌+◌, ◌≤◌, ◌<◌, ◌≡◌, refl, sym, ap, ◌∙◌, List, [], ◌∷◌, ◌++◌, append_assoc, append-nil, arith, add-one, length, get_or, take, drop, set, length-set}
use Rattle.std.proofs.Common.{length-append, take-append-drop, take_all, take-suc, take-suc-set, drop-set-lt, drop-drop, length-take-le, take_at, drop_at}
use Rattle.io.specs.Counts.{IsPrefixLen}
use Rattle.texts.specs.Text.{Line, following, begun, line, text}
use Rattle.texts.proofs.LineLaws.{begun_first, begun_append, text_next}
use Rattle.printing.specs.Put.{AtFront, Put}

-- no byte
pub put_nothing : {buffer : List ℕ} {at : ℕ} → Put buffer at [] buffer at
put_nothing {buffer} {at} = record { ends = omega arith; front = sym (append-nil (take at buffer)); rest = refl; as_long = refl }

-- the same bytes by another name
pub put_same : {before bytes bytes' after : List ℕ} {at end : ℕ} → bytes ≡ bytes' → Put before at bytes after end → Put before at bytes' after end
put_same {before} {at = at} same put =
    record {
      ends = put.ends ∙ ap (λ (b : List ℕ). at + length b) same;
      front = put.front ∙ ap (λ (b : List ℕ). take at before ++ b) same;
      rest = put.rest;
      as_long = put.as_long;
    }

-- bytes behind bytes
pub put_then : {a b c s t : List ℕ} {i j k : ℕ} → Put a i s b j → Put b j t c k → Put a i (s ++ t) c k
put_then {a} {b} {c} {s} {t} {i} {j} {k} p q =
    let behind : k ≡ j + length t = q.ends in
    record {
      ends = omega (arith, p.ends, q.ends, length-append s t);
      front = q.front ∙ ap (λ (front : List ℕ). front ++ t) p.front ∙ append_assoc (take i a) s t;
      rest = q.rest ∙ rw behind (sym (drop-drop (length t) j b) ∙ ap (drop (length t)) p.rest ∙ drop-drop (length t) j a);
      as_long = q.as_long ∙ p.as_long;
    }

-- one byte
pub put_byte : (buffer : List ℕ) (at byte : ℕ) → at < length buffer → Put buffer at (byte ∷ []) (set buffer at byte) (at + 1)
put_byte buffer at byte h =
    record {
      ends = refl;
      front = rw (add-one at) (take-suc-set buffer at byte h);
      rest = drop-set-lt (at + 1) buffer at byte (omega arith);
      as_long = length-set buffer at byte;
    }

-- no byte of a word
pub put_none : {buffer : List ℕ} {at : ℕ} → Put buffer at [] buffer (at + 0)
put_none {buffer} {at} = let same : at + 0 ≡ at = omega arith in rw same put_nothing

-- one byte more of a word
pub put_more : (word : List ℕ) (k : ℕ) {a b : List ℕ} {at : ℕ} → k < length word → at + k < length b → Put a at (take k word) b (at + k)
    → Put a at (take (k + 1) word) (set b (at + k) (get_or word k 0)) (at + (k + 1))
put_more word k {a} {b} {at} h room put =
    let more = put_then put (put_byte b (at + k) (get_or word k 0) room) in
    let front : take k word ++ get_or word k 0 ∷ [] ≡ take (k + 1) word = rw (add-one k) (sym (take-suc word k 0 h)) in
    let end : at + (k + 1) ≡ at + k + 1 = omega arith in
    rw end (put_same front more)

-- all bytes of a word
pub put_all : (word : List ℕ) (k : ℕ) {a b : List ℕ} {at : ℕ} → k ≡ length word → Put a at (take k word) b (at + k) → Put a at word b (at + length word)
put_all word k e put = rw e at (put_same (take_all k word (omega (arith, e))) put)

-- the first word of a line
pub put_first : {a b word : List ℕ} {i j : ℕ} → Put a i word b j → Put a i (begun (record { first = word; others = [] })) b j
put_first {word = word} = put_same (sym (begun_first word))

-- the next words of a line
pub put_words : (l : Line) (words : List (List ℕ)) {a b c : List ℕ} {i j k : ℕ} → Put a i (begun l) b j → Put b j (following words) c k
    → Put a i (begun (record { first = l.first; others = l.others ++ words })) c k
put_words l words p q = put_same (sym (begun_append l.first l.others words)) (put_then p q)

-- the next word
pub put_next : (l : Line) (word : List ℕ) {a b c : List ℕ} {i j k : ℕ} → Put a i (begun l) b j → Put b j (32 ∷ word) c k
    → Put a i (begun (record { first = l.first; others = l.others ++ word ∷ [] })) c k
put_next l word p q = put_words l (word ∷ []) p (put_same (sym (append-nil (32 ∷ word))) q)

-- the next line of a text
pub put_text : (lines : List Line) (l : Line) {a b c : List ℕ} {i j k : ℕ} → Put a i (text lines) b j → Put b j (line l) c k → Put a i (text (lines ++ l ∷ [])) c k
put_text lines l p q = put_same (sym (text_next lines l)) (put_then p q)

-- the buffer in which bytes were put, whole
pub put_whole : {before bytes after : List ℕ} {at end : ℕ} → Put before at bytes after end → after ≡ take at before ++ bytes ++ drop end before
put_whole {before} {bytes} {after} {at} {end} put =
    sym (take-append-drop end after)
    ∙ ap (λ (front : List ℕ). front ++ drop end after) put.front
    ∙ ap (λ (rest : List ℕ). take at before ++ bytes ++ rest) put.rest

-- what was put at the place 0 stands at the front
pub at_front : {before bytes after : List ℕ} {end : ℕ} → Put before 0 bytes after end → AtFront bytes before after end
at_front put = record { long = omega (arith, put.ends); whole = put_whole put }

-- and its end lies within the buffer
pub front_counts : {bytes before after : List ℕ} {end : ℕ} → AtFront bytes before after end → IsPrefixLen end after
front_counts {bytes} {before} {after} {end} at =
    let within : end ≤ length after = omega (arith, at.long, ap length at.whole, length-append bytes (drop end before)) in
    (within, sym (length-take-le end after within))

-- the bytes are what one finds at the front, and behind them stands what stood there
pub front_bytes : {bytes before after : List ℕ} {end : ℕ} → AtFront bytes before after end → take end after ≡ bytes
front_bytes {bytes} {before} {after} {end} at = ap (take end) at.whole ∙ take_at bytes (drop end before) end (sym at.long)

pub behind_front : {bytes before after : List ℕ} {end : ℕ} → AtFront bytes before after end → drop end after ≡ drop end before
behind_front {bytes} {before} {after} {end} at = ap (drop end) at.whole ∙ drop_at bytes (drop end before) end (sym at.long)
