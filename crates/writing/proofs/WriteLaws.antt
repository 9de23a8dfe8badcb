-- Laws of writing: header, starts, targets, counts and lengths written one after the other are the image of the contents. Assumes nothing.
use Prim.Native.Nat.{ℕ, ◌+◌, ◌*◌, ◌≤◌}
use mathlib.Core.Path.{◌≡◌, refl, ap, ◌∙◌}
use mathlib.Core.Logic.{inr}
use mathlib.Core.List.{List, [], ◌∷◌, ◌++◌}
use native.Mathlib.Omega.{arith}
use lib.ListN.{length, drop, length-append}
use Rattle.table.specs.Verdict.{Verdict, AllMet}
use Rattle.table.specs.Table.{Below, Rows, size, SoundTable}
use Rattle.table.specs.Numbers.{table_demands, sum_fits_demand}
use Rattle.table.proofs.VerdictLaws.{accepted, goes_on, stops, first_met, verdict_unique}
use Rattle.table.proofs.Accepted.{table_met, met_counted, counted_meets}
use Rattle.layout.specs.Bytes.{spelled, over}
use Rattle.layout.specs.Lengths.{Known, length_count, no_zero}
use Rattle.layout.specs.Image.{Contents, SoundContents, header_of, image_length, image_of}
use Rattle.layout.proofs.ByteLaws.{spelled_length, over_over}
use Rattle.layout.proofs.ImageLaws.{starts_end, targets_end, counts_end, image_length_lem}
use Rattle.writing.specs.Writing.{Extent}
use Rattle.writing.specs.Writing.{one_each, image_room, contents_demands, Written}

module _ (version : ℕ) (contents : Contents) where
  -- 0 of `contents_demands`: 1 to 7 and 20 are met
  pub contents_met : Verdict (contents_demands version contents) 0 → AllMet (contents_demands version contents)
  contents_met v =
      accepted (contents_demands version contents) (
        (λ e. omega arith),
        (
          (λ e. omega arith),
          (
            (λ e. omega arith),
            (
              (λ e. omega arith),
              ((λ e. omega arith), ((λ e. omega arith), ((λ e. omega arith), ((λ e. omega arith), tt)))),
            ),
          ),
        ),
      )
      v

  -- contents that meet them have a well-formed table,
  pub met_table : AllMet (contents_demands version contents) → SoundTable contents.table
  met_table met =
      met_counted contents.table
      (met.0, (met.1.0, (met.1.1.0, (met.1.1.1.0, (met.1.1.1.1.0, (met.1.1.1.1.1.0.0, (met.1.1.1.1.1.1.0, tt)))))))

  -- and as many lengths as the version has
  pub met_lengths : AllMet (contents_demands version contents) → length contents.lengths ≡ length_count version (size contents.table.rows)
  met_lengths met = met.1.1.1.1.1.0.1

  -- a table that is refused is the first of the reasons,
  pub refused_by_rows : {rows : Rows} → rows ≡ contents.table.rows → (number : ℕ) → (number ≡ 0 → ⊥) → Verdict (table_demands rows) number
      → Verdict (contents_demands version contents) number
  refused_by_rows same number refusal v =
      stops (table_demands contents.table.rows) (one_each version contents ∷ sum_fits_demand contents.table ∷ no_zero contents.lengths ∷ []) number refusal
      (rw same at v)

  -- and after one that is not, 6, 7 and 20 decide
  pub after_rows : {rows : Rows} → rows ≡ contents.table.rows → (number : ℕ) → Verdict (table_demands rows) 0
      → Verdict (one_each version contents ∷ sum_fits_demand contents.table ∷ no_zero contents.lengths ∷ []) number
      → Verdict (contents_demands version contents) number
  after_rows same number v =
      goes_on (table_demands contents.table.rows) (one_each version contents ∷ sum_fits_demand contents.table ∷ no_zero contents.lengths ∷ []) number
      (table_met contents.table.rows (rw same at v))

  -- sound contents meet them
  sound_meets : SoundContents version contents → AllMet (contents_demands version contents)
  sound_meets sound =
      let met = counted_meets contents.table sound.counted in (
        met.0,
        (
          met.1.0,
          (
            met.1.1.0,
            (
              met.1.1.1.0,
              (met.1.1.1.1.0, ((sound.counted.count_each, sound.length_each), (sound.counted.sum_fits, (sound.positive, tt)))),
            ),
          ),
        ),
      )

  -- of contents that meet them the room decides
  by_room : (image : List ℕ) (number : ℕ) → AllMet (contents_demands version contents) → Verdict (image_room version contents.table.rows image ∷ []) number
      → Verdict (contents_demands version contents ++ image_room version contents.table.rows image ∷ []) number
  by_room image number = goes_on (contents_demands version contents) (image_room version contents.table.rows image ∷ []) number

-- header, starts, targets, counts and lengths, one after the other, are the image
pub image_whole : (version : ℕ) (contents : Contents) (image : List ℕ) {headed started targeted counted whole : List ℕ} → SoundTable contents.table
    → length contents.lengths ≡ length_count version (size contents.table.rows) → (image_room version contents.table.rows image).met
    → headed ≡ over image 0 (header_of version (size contents.table.rows) (length contents.table.rows.targets))
    → started ≡ over headed 13 (spelled 4 contents.table.rows.starts)
    → targeted ≡ over started (13 + 4 * (size contents.table.rows + 1)) (spelled 4 contents.table.rows.targets)
    → counted ≡ over targeted (13 + 4 * (size contents.table.rows + 1) + 4 * length contents.table.rows.targets) (spelled 8 contents.table.counts)
    → whole
    ≡ over counted (13 + 4 * (size contents.table.rows + 1) + 4 * length contents.table.rows.targets + 8 * size contents.table.rows)
    (spelled 2 contents.lengths)
    → whole ≡ image_of version contents ++ drop (image_length version (size contents.table.rows) (length contents.table.rows.targets)) image
image_whole version contents image {headed} {started} {targeted} {counted} {whole} sound each room put-header put-starts put-targets put-counts put-lengths =
    let table = contents.table in
    let n = size table.rows in
    let m = length table.rows.targets in
    let header = header_of version n m in
    let starts = spelled 4 table.rows.starts in
    let targets = spelled 4 table.rows.targets in
    let counts = spelled 8 table.counts in
    let lengths = spelled 2 contents.lengths in
    let starts_long = spelled_length 4 table.rows.starts in
    let targets_long = spelled_length 4 table.rows.targets in
    let counts_long = spelled_length 8 table.counts in
    let lengths_long = spelled_length 2 contents.lengths in
    let first : started ≡ over image 0 (header ++ starts)
    = rw put-header at put-starts ∙ over_over image 0 13 header starts refl (omega (arith, sound)) in
    let second : targeted ≡ over image 0 (header ++ starts ++ targets)
    = rw first at put-targets
    ∙ over_over image 0 (13 + 4 * (n + 1)) (header ++ starts) targets (omega (arith, starts_end version contents sound)) (omega (arith, sound)) in
    let third : counted ≡ over image 0 (header ++ starts ++ targets ++ counts)
    = rw second at put-counts
    ∙ over_over image 0 (13 + 4 * (n + 1) + 4 * m) (header ++ starts ++ targets) counts (omega (arith, targets_end version contents sound)) (omega (arith, sound)) in
    let fourth : whole ≡ over image 0 (image_of version contents)
    = rw third at put-lengths
    ∙ over_over image 0 (13 + 4 * (n + 1) + 4 * m + 8 * n) (header ++ starts ++ targets ++ counts) lengths (omega (arith, counts_end version contents sound)) (omega (arith, sound)) in
    let all : 0 + length (image_of version contents) ≡ image_length version n m = omega (arith, image_length_lem version contents sound each) in
    fourth ∙ ap (λ (k : ℕ). image_of version contents ++ drop k image) all

module _ {version : ℕ} {contents : Contents} {image : List ℕ} {answer : Extent} where
  -- a slice with room takes the image at its front
  pub write_taken : {image' : List ℕ} → answer.number ≡ 0 → Verdict (contents_demands version contents) 0 → (image_room version contents.table.rows image).met
      → answer.length ≡ image_length version (size contents.table.rows) (length contents.table.rows.targets)
      → image' ≡ image_of version contents ++ drop (image_length version (size contents.table.rows) (length contents.table.rows.targets)) image
      → Written version contents image image' answer
  write_taken zero v room long whole =
      record {
        verdict = rw zero (by_room version contents image 0 (contents_met version contents v) (inr (room, refl)));
        taken = λ _. (long, rw long whole);
        refused = λ wrong. absurd (wrong zero);
      }

-- sound contents are written, with room
pub contents_written : {version : ℕ} {contents : Contents} {image image' : List ℕ} {answer : Extent} → SoundContents version contents
    → image_length version (size contents.table.rows) (length contents.table.rows.targets) ≤ length image
    → Written version contents image image' answer → answer.number ≡ 0
contents_written {version} {contents} {image} {answer = answer} sound room written =
    verdict_unique (contents_demands version contents ++ image_room version contents.table.rows image ∷ []) answer.number 0 written.verdict
    (by_room version contents image 0 (sound_meets version contents sound) (inr (room, refl)))

module _ {version : ℕ} {contents : Contents} {image image' : List ℕ} {answer : Extent} (written : Written version contents image image' answer)
    (e : answer.number ≡ 0) where
  -- contents that were written met all that is asked of them
  written_met : AllMet (contents_demands version contents)
  written_met =
      first_met (contents_demands version contents) (image_room version contents.table.rows image ∷ [])
      (accepted (contents_demands version contents ++ image_room version contents.table.rows image ∷ []) (
        (λ e. omega arith),
        (
          (λ e. omega arith),
          (
            (λ e. omega arith),
            (
              (λ e. omega arith),
              ((λ e. omega arith), ((λ e. omega arith), ((λ e. omega arith), ((λ e. omega arith), ((λ e. omega arith), tt))))),
            ),
          ),
        ),
      ) (rw e at written.verdict))

  -- they are sound, where the version is known and the lengths are of 16 bits
  pub written_sound : Known version → Below 65536 contents.lengths → SoundContents version contents
  written_sound known narrow =
      record {
        known = known;
        counted = met_table version contents written_met;
        length_each = met_lengths version contents written_met;
        positive = written_met.1.1.1.1.1.1.1.0;
        sixteen_bits = narrow;
      }

  -- the image that was written lies within the slice
  pub written_within : answer.length ≤ length image'
  written_within =
      let taken = written.taken e in
      omega (
        arith,
        taken.0,
        ap length taken.1,
        length-append (image_of version contents) (drop answer.length image),
        image_length_lem version contents (met_table version contents written_met) (met_lengths version contents written_met),
      )
