-- How long the text of what an image holds is: at most 92,184 bytes; how the text of a row grows with each successor, and what is said of a length.
-- Assumes nothing.
use Rattle.std.proofs.Common.{ℕ, zero, suc, ◌+◌, ◌*◌, ◌≤◌, ◌<◌, zero-le, ◌≡◌, ap, ◌∙◌, ◌≢◌, List, [], ◌∷◌, ◌++◌, map, append-nil, add-one, arith, length, get_or, take}
use Rattle.std.proofs.Common.{length-append, take-suc}
use mathlib.Core.List.{map-append}
use native.Mathlib.Decide.{ℕ_discrete}
use Rattle.table.specs.Limits.{vertex_limit}
use Rattle.table.specs.Table.{Below, row, size}
use Rattle.table.proofs.RowLaws.{next_start, row_below}
use Rattle.table.proofs.SumLaws.{count_most}
use Rattle.layout.specs.Lengths.{length_count}
use Rattle.layout.specs.Image.{Contents, SoundContents}
use Rattle.layout.proofs.LengthLaws.{lengths_each, lengths_none}
use Rattle.texts.specs.Text.{decimal, following, line, text, numbered, each, sizes_line, length_at, vertex_line, contents_lines}
use Rattle.texts.proofs.Decimal.{decimal_long}
use Rattle.texts.proofs.LineLaws.{following_append, text_next, sizes_line_most}
use Rattle.texts.proofs.VersionLaws.{length_said, length_left_out}

-- ---- Numbers, one behind the other.

-- the numbers that follow, and more of them
numbers_append : (numbers more : List ℕ) → following (map decimal (numbers ++ more)) ≡ following (map decimal numbers) ++ following (map decimal more)
numbers_append numbers more = rw (map-append decimal numbers more) (following_append (map decimal numbers) (map decimal more))

-- a number alone
number_alone : (number : ℕ) → following (map decimal (number ∷ [])) ≡ 32 ∷ decimal number
number_alone number = append-nil (32 ∷ decimal number)

-- one successor more
pub successors_next : (row : List ℕ) (k : ℕ) → k < length row
    → following (map decimal (take (k + 1) row)) ≡ following (map decimal (take k row)) ++ (32 ∷ decimal (get_or row k 0))
successors_next row k h =
    rw (add-one k, take-suc row k 0 h)
    (numbers_append (take k row) (get_or row k 0 ∷ []) ∙ ap (λ (last : List ℕ). following (map decimal (take k row)) ++ last) (number_alone (get_or row k 0)))

-- the first successors and one more are no longer than all of them
pub successors_within : (row : List ℕ) (k : ℕ) → k < length row
    → length (following (map decimal (take k row))) + length (32 ∷ decimal (get_or row k 0)) ≤ length (following (map decimal row))
successors_within [] k h = omega arith
successors_within (x ∷ xs) zero h = rw (length-append (32 ∷ decimal x) (following (map decimal xs))) (omega arith)
successors_within (x ∷ xs) (suc k) h =
    rw (length-append (32 ∷ decimal x) (following (map decimal xs)), length-append (32 ∷ decimal x) (following (map decimal (take k xs))))
    (omega (arith, successors_within xs k (omega arith)))

-- ---- The length of a vertex, which version 2 has.

module _ (version : ℕ) (lengths : List ℕ) (v : ℕ) where
  -- a blank and the length
  pub length_put : version ≡ 2 → following (map decimal (length_at version lengths v)) ≡ 32 ∷ decimal (get_or lengths v 0)
  length_put two = rw (length_said version lengths v two) (number_alone (get_or lengths v 0))

  -- or nothing
  pub no_length_put : version ≢ 2 → following (map decimal (length_at version lengths v)) ≡ []
  no_length_put other = ap (λ (numbers : List ℕ). following (map decimal numbers)) (length_left_out version lengths v other)

-- ---- How long.

-- vertices take at most 4 digits, and a blank before each
successors_long : (n : ℕ) (vertices : List ℕ) → n ≤ vertex_limit → Below n vertices → length (following (map decimal vertices)) ≤ 5 * length vertices
successors_long n [] most below = zero-le
successors_long n (v ∷ rest) most below =
    rw (length-append (32 ∷ decimal v) (following (map decimal rest)))
    (omega (
      arith,
      decimal_long 4 v (omega arith) (omega (arith, below 0 (omega arith))),
      successors_long n rest most (λ k h. below (suc k) (omega arith)),
    ))

-- the line of a vertex by its words, a blank before each but the first, and the line feed; `own` is its length, or nothing
pub vertex_line_long : (v count : ℕ) (own row : List ℕ)
    → length (line (numbered v (count ∷ own ++ row)))
    ≡ length (decimal v) + (1 + length (decimal count)) + length (following (map decimal own)) + length (following (map decimal row)) + 1
vertex_line_long v count own row =
    simp length-append (omega (arith, ap length (numbers_append own row), length-append (following (map decimal own)) (following (map decimal row))))

module _ {version : ℕ} {contents : Contents} (ok : SoundContents version contents) where
  -- there is a length for each vertex, where the version has lengths
  pub length_inside : (v : ℕ) → v < size contents.table.rows → length_count version (v + 1) ≤ length contents.lengths
  length_inside v h =
      let n = size contents.table.rows in
      elim (ℕ_discrete version 2) [
        | yes two ↦ omega (arith, ok.length_each, lengths_each version n two, lengths_each version (v + 1) two)
        | no other ↦ omega (arith, lengths_none version (v + 1) other)
      ]

  -- it takes at most 5 digits, and a blank before it
  length_long : (v : ℕ) → v < size contents.table.rows → length (following (map decimal (length_at version contents.lengths v))) ≤ 6
  length_long v h =
      let lengths = contents.lengths in
      elim (ℕ_discrete version 2) [
        | yes two ↦
            let inside : v < length lengths = omega (arith, length_inside v h, lengths_each version (v + 1) two) in
            rw (length_put version lengths v two) (omega (arith, decimal_long 5 (get_or lengths v 0) (omega arith) (omega (arith, ok.sixteen_bits v inside))))
        | no other ↦ rw (no_length_put version lengths v other) zero-le
      ]

  -- the line of a vertex: its number takes at most 4 digits, its count 13
  vertex_long : (v : ℕ) → v < size contents.table.rows
      → length (line (vertex_line version contents v)) ≤ 25 + 5 * length (row contents.table.rows.starts contents.table.rows.targets v)
  vertex_long v h =
      let counted = ok.counted in
      let whole = counted.well_formed in
      let counts = contents.table.counts in
      let starts = contents.table.rows.starts in
      let targets = contents.table.rows.targets in
      omega (
        arith,
        vertex_line_long v (get_or counts v 0) (length_at version contents.lengths v) (row starts targets v),
        decimal_long 4 v (omega arith) (omega (arith, whole.most_vertices)),
        decimal_long 13 (get_or counts v 0) (omega arith) (omega (arith, counted.sum_fits, count_most counts v (omega (arith, counted.count_each)))),
        length_long v h,
        successors_long (size contents.table.rows) (row starts targets v) (omega (arith, whole.most_vertices))
            (row_below starts targets whole.targets_below v),
      )

  -- the lines of the first k vertices
  vertices_long : (k : ℕ) → k ≤ size contents.table.rows
      → length (text (each (vertex_line version contents) k)) ≤ 25 * k + 5 * get_or contents.table.rows.starts k 0
  vertices_long zero h = zero-le
  vertices_long (suc k) h =
      let vertex = vertex_line version contents in
      let starts = contents.table.rows.starts in
      let next : get_or starts (k + 1) 0 ≡ get_or starts (suc k) 0 = rw (add-one k) in
      rw (text_next (each vertex k) (vertex k), length-append (text (each vertex k)) (line (vertex k)))
      (omega (
        arith,
        vertices_long k (omega arith),
        vertex_long k (omega arith),
        next_start ok.counted.well_formed k (omega arith),
      ))

  -- the line `table N M`, in version 2 `table N M lengths`
  pub heading_long : length (line (sizes_line version (size contents.table.rows) (length contents.table.rows.targets))) ≤ 24
  heading_long =
      let whole = ok.counted.well_formed in
      sizes_line_most version (size contents.table.rows) (length contents.table.rows.targets) (omega (arith, whole.most_vertices)) whole.most_edges

  -- the text: that line, and the lines of the vertices
  pub contents_by_lines :
      length (text (contents_lines version contents))
      ≡ length (line (sizes_line version (size contents.table.rows) (length contents.table.rows.targets)))
      + length (text (each (vertex_line version contents) (size contents.table.rows)))
  contents_by_lines =
      let n = size contents.table.rows in
      length-append (line (sizes_line version n (length contents.table.rows.targets))) (text (each (vertex_line version contents) n))

  -- and how long it is
  pub contents_long : length (text (contents_lines version contents)) ≤ 92184
  contents_long =
      let whole = ok.counted.well_formed in
      omega (
        arith,
        contents_by_lines,
        heading_long,
        vertices_long (size contents.table.rows) (omega arith),
        whole.starts_fit.ends,
        whole.most_vertices,
        whole.most_edges,
      )
