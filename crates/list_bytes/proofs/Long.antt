-- The text of a list: how long it is, that there is room for each line, and that each line that is put makes it one longer. Assumes nothing.
use Rattle.std.proofs.Common.{ℕ, ◌+◌, ◌*◌, ◌/◌, ◌≤◌, ◌<◌, ◌≡◌, sym, ap, ◌∙◌, List, [], ◌∷◌, ◌++◌, add-one, arith, length, get_or, drop, length-append, length-drop, get_or-drop}
use Rattle.std.proofs.Common.{drop-drop, drop_at}
use Rattle.std.proofs.lemmas.List.{get_or_append_left}
use Rattle.table.specs.Limits.{vertex_limit}
use Rattle.table.specs.Table.{Below}
use Rattle.texts.specs.Text.{bytes, decimal, line, text, each, pair_line}
use Rattle.texts.proofs.Decimal.{decimal_long}
use Rattle.texts.proofs.EachLaws.{each_within, each_text_most}
use Rattle.printing.specs.Put.{Put}
use Rattle.printing.proofs.PutLaws.{put_then, put_first, put_next, put_text}

-- a number of at most 2,048 has at most four digits
digits_long : (x : ℕ) → x ≤ vertex_limit → length (decimal x) ≤ 4
digits_long x small = decimal_long 4 x (omega arith) (omega arith)

-- a line of two words
two_words_long : (first second : List ℕ) → length (line (record { first = first; others = second ∷ [] })) ≡ length first + length (32 ∷ second) + 1
two_words_long first second = simp length-append (omega arith)

-- how long line k is: entrance, exit and line feed
abbrev pub pair_length : List ℕ → ℕ → ℕ
pair_length pairs k = length (decimal (get_or pairs (2 * k) 0)) + length (32 ∷ decimal (get_or pairs (2 * k + 1) 0)) + 1

-- the pair behind the first k of them, and those that are left behind it
pub record NextPair (pairs pair : List ℕ) (k : ℕ) (rest : List ℕ) : Type 0 where
  pub inside : k < length pairs / 2
  pub one_less : length pairs / 2 ≡ k + 1 + length rest / 2
  pub entrance : get_or pair 0 0 ≡ get_or pairs (2 * k) 0
  pub exit : get_or pair 1 0 ≡ get_or pairs (2 * k + 1) 0
  pub left : drop (2 * (k + 1)) pairs ≡ rest

pub next_pair : (pairs pair : List ℕ) (k : ℕ) {before rest : List ℕ} → drop (2 * k) pairs ≡ before → before ≡ pair ++ rest → length pair ≡ 2
    → NextPair pairs pair k rest
next_pair pairs pair k {rest = rest} there cut two =
    let stands : drop (2 * k) pairs ≡ pair ++ rest = there ∙ cut in
    let number : (i : ℕ) → i < 2 → get_or pair i 0 ≡ get_or pairs (2 * k + i) 0
    = λ i h. sym (get_or_append_left pair rest 0 i (omega (arith, two))) ∙ ap (λ (xs : List ℕ). get_or xs i 0) (sym stands) ∙ get_or-drop (2 * k) pairs i 0 in
    let long : length pairs ≡ 2 * k + 2 + length rest = omega (arith, two, ap length stands, length-append pair rest, length-drop (2 * k) pairs) in
    record {
      inside = omega (arith, long);
      one_less = omega (arith, long);
      entrance = number 0 (omega arith) ∙ ap (λ (i : ℕ). get_or pairs i 0) (omega arith);
      exit = number 1 (omega arith);
      left = ap (λ (i : ℕ). drop i pairs) (omega arith) ∙ sym (drop-drop 2 (2 * k) pairs) ∙ ap (drop 2) stands ∙ drop_at pair rest 2 two;
    }

module _ (pairs : List ℕ) where
  pair_line_long : (k : ℕ) → length (line (pair_line pairs k)) ≡ pair_length pairs k
  pair_line_long k = two_words_long (decimal (get_or pairs (2 * k) 0)) (decimal (get_or pairs (2 * k + 1) 0))

  -- behind the lines before it there is room for line k
  pub pair_room : (found k : ℕ) {before after : List ℕ} {at place : ℕ} → k < found → at + length (text (each (pair_line pairs) found)) ≤ length before
      → Put before at (text (each (pair_line pairs) k)) after place → place + pair_length pairs k ≤ length after
  pair_room found k k-in room put = omega (arith, pair_line_long k, each_within (pair_line pairs) k found k-in, put.ends, put.as_long)

  -- with line k the text is one line longer
  pub put_pair : (k : ℕ) {before there entered left after : List ℕ} {at place entrance exit end : ℕ} → Put before at (text (each (pair_line pairs) k)) there place
      → Put there place (decimal (get_or pairs (2 * k) 0)) entered entrance
      → Put entered entrance (32 ∷ decimal (get_or pairs (2 * k + 1) 0)) left exit → Put left exit (10 ∷ []) after end
      → Put before at (text (each (pair_line pairs) (k + 1))) after end
  put_pair k lines entrance exit feed =
      rw (add-one k) (put_text (each (pair_line pairs) k) (pair_line pairs k) lines
      (put_then (put_next (record { first = decimal (get_or pairs (2 * k) 0); others = [] }) (decimal (get_or pairs (2 * k + 1) 0)) (put_first entrance) exit) feed))

  -- a line of at most 18 bytes for the number of superbubbles, and at most 10 for each of them
  pub list_long : (found : ℕ) → 2 * found ≤ length pairs → found ≤ vertex_limit → Below vertex_limit pairs
      → length (bytes "superbubbles") + length (32 ∷ decimal found) + 1 + length (text (each (pair_line pairs) found)) ≤ 20498
  list_long found long few below =
      let first = digits_long found few in
      let lines = each_text_most (pair_line pairs) 10 found (λ k k-in. omega (
        arith,
        pair_line_long k,
        digits_long (get_or pairs (2 * k) 0) (omega (arith, below (2 * k) (omega arith))),
        digits_long (get_or pairs (2 * k + 1) 0) (omega (arith, below (2 * k + 1) (omega arith))),
      )) in
      omega arith
