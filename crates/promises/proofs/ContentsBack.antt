-- What stands in the image of sound contents are the contents, and reading accepts it. Assumes nothing.
use Prim.Native.Nat.{ℕ, ◌+◌, ◌*◌, ◌^◌}
use mathlib.Core.Path.{◌≡◌, refl, sym, subst, ap, ap₂, ◌∙◌}
use mathlib.Core.Logic.{⊎_elim}
use mathlib.Core.List.{List, [], ◌++◌, append_assoc, append-nil}
use native.Mathlib.Omega.{arith}
use lib.ListN.{length, drop}
use lib.Seq.{drop_at, drop-drop}
use Rattle.table.specs.Table.{Below, size, SoundTable}
use Rattle.table.specs.Verdict.{AllMet}
use Rattle.table.proofs.RowLaws.{start_most}
use Rattle.table.proofs.SumLaws.{count_most}
use Rattle.layout.specs.Bytes.{numbers_of, spelled}
use Rattle.layout.specs.Lengths.{Known, length_count, Positive}
use Rattle.layout.specs.Image.{Contents, SoundContents, image_length, image_of, version_of, vertices_of, edges_of, starts_of, targets_of, counts_of, lengths_of, table_of, contents_of}
use Rattle.layout.proofs.ByteLaws.{spelled_length}
use Rattle.layout.proofs.ImageLaws.{image_length_lem}
use Rattle.image.specs.Looking.{header_demands, body_demands}
use Rattle.promises.proofs.BackAndForth.{value_of_bytes, numbers_of_spelled}

-- numbers that stand spelled from a place on are read as themselves, and behind them is what follows
part_back : (bytes : List ℕ) (k at : ℕ) (xs rest : List ℕ) → drop at bytes ≡ spelled k xs ++ rest → Below (256 ^ k) xs
    → (numbers_of k (length xs) (drop at bytes) ≡ xs) × (drop (at + k * length xs) bytes ≡ rest)
part_back bytes k at xs rest e below = (
  ap (numbers_of k (length xs)) e ∙ numbers_of_spelled k xs rest below,
  sym (drop-drop (k * length xs) at bytes) ∙ ap (drop (k * length xs)) e ∙ drop_at (spelled k xs) rest (k * length xs) (spelled_length k xs),
)

module _ (version : ℕ) (contents : Contents) (sound : SoundContents version contents) where
  open contents use {table, lengths}
  open table use {rows, counts}

  abbrev image : List ℕ
  image = image_of version contents

  -- version, n and m
  pub version_back : version_of image ≡ version
  version_back = value_of_bytes 2 version (⊎_elim (λ one. omega (arith, one)) (λ two. omega (arith, two)) sound.known)

  pub vertices_back : vertices_of image ≡ size rows
  vertices_back = value_of_bytes 4 (size rows) (omega (arith, sound.counted.well_formed))

  pub edges_back : edges_of image ≡ length rows.targets
  edges_back = value_of_bytes 4 (length rows.targets) (omega (arith, sound.counted.well_formed))

  -- how many numbers there are of each kind
  starts_number : vertices_of image + 1 ≡ length rows.starts
  starts_number = omega (arith, vertices_back, sound.counted.well_formed.some)

  counts_number : vertices_of image ≡ length counts
  counts_number = vertices_back ∙ sym sound.counted.count_each

  lengths_number : length_count (version_of image) (vertices_of image) ≡ length lengths
  lengths_number = ap₂ length_count version_back vertices_back ∙ sym sound.length_each

  -- one part behind the other
  parts : drop 13 image ≡ spelled 4 rows.starts ++ (spelled 4 rows.targets ++ (spelled 8 counts ++ spelled 2 lengths))
  parts =
      append_assoc (spelled 4 rows.starts ++ spelled 4 rows.targets) (spelled 8 counts) (spelled 2 lengths)
      ∙ append_assoc (spelled 4 rows.starts) (spelled 4 rows.targets) (spelled 8 counts ++ spelled 2 lengths)

  starts_part_back : (numbers_of 4 (length rows.starts) (drop 13 image) ≡ rows.starts)
      × (drop (13 + 4 * length rows.starts) image ≡ spelled 4 rows.targets ++ (spelled 8 counts ++ spelled 2 lengths))
  starts_part_back =
      part_back image 4 13 rows.starts (spelled 4 rows.targets ++ (spelled 8 counts ++ spelled 2 lengths)) parts
      (λ v h. omega (arith, start_most rows.starts (length rows.targets) sound.counted.well_formed.starts_fit v h, sound.counted.well_formed.most_edges))

  targets_part_back : (numbers_of 4 (length rows.targets) (drop (13 + 4 * length rows.starts) image) ≡ rows.targets)
      × (drop (13 + 4 * length rows.starts + 4 * length rows.targets) image ≡ spelled 8 counts ++ spelled 2 lengths)
  targets_part_back =
      part_back image 4 (13 + 4 * length rows.starts) rows.targets (spelled 8 counts ++ spelled 2 lengths) starts_part_back.1
      (λ k h. omega (arith, sound.counted.well_formed.targets_below k h, sound.counted.well_formed.most_vertices))

  counts_part_back : (numbers_of 8 (length counts) (drop (13 + 4 * length rows.starts + 4 * length rows.targets) image) ≡ counts)
      × (drop (13 + 4 * length rows.starts + 4 * length rows.targets + 8 * length counts) image ≡ spelled 2 lengths)
  counts_part_back =
      part_back image 8 (13 + 4 * length rows.starts + 4 * length rows.targets) counts (spelled 2 lengths) targets_part_back.1
      (λ v h. omega (arith, count_most counts v h, sound.counted.sum_fits))

  lengths_part_back : numbers_of 2 (length lengths) (drop (13 + 4 * length rows.starts + 4 * length rows.targets + 8 * length counts) image) ≡ lengths
  lengths_part_back =
      (part_back image 2 (13 + 4 * length rows.starts + 4 * length rows.targets + 8 * length counts) lengths [] (counts_part_back.1 ∙ sym (append-nil (spelled 2 lengths)))
      sound.sixteen_bits).0

  -- what stands in the image of contents are the contents
  starts_back : starts_of image ≡ rows.starts
  starts_back = ap (λ (k : ℕ). numbers_of 4 k (drop 13 image)) starts_number ∙ starts_part_back.0

  targets_back : targets_of image ≡ rows.targets
  targets_back = ap₂ (λ (k n : ℕ). numbers_of 4 k (drop (13 + 4 * n) image)) edges_back starts_number ∙ targets_part_back.0

  counts_back : counts_of image ≡ counts
  counts_back =
      ap (λ (k : ℕ). numbers_of 8 k (drop (13 + 4 * (vertices_of image + 1) + 4 * edges_of image) image)) counts_number
      ∙ ap₂ (λ (n m : ℕ). numbers_of 8 (length counts) (drop (13 + 4 * n + 4 * m) image)) starts_number edges_back
      ∙ counts_part_back.0

  lengths_back : lengths_of image ≡ lengths
  lengths_back =
      ap (λ (k : ℕ). numbers_of 2 k (drop (13 + 4 * (vertices_of image + 1) + 4 * edges_of image + 8 * vertices_of image) image)) lengths_number
      ∙ ap₂ (λ (n m : ℕ). numbers_of 2 (length lengths) (drop (13 + 4 * n + 4 * m + 8 * vertices_of image) image)) starts_number edges_back
      ∙ ap (λ (n : ℕ). numbers_of 2 (length lengths) (drop (13 + 4 * length rows.starts + 4 * length rows.targets + 8 * n) image)) counts_number
      ∙ lengths_part_back

  pub table_back : table_of image ≡ table
  table_back = λ i. record { rows = record { starts = starts_back i; targets = targets_back i }; counts = counts_back i }

  pub contents_back : contents_of image ≡ contents
  contents_back = λ i. record { table = table_back i; lengths = lengths_back i }

  -- the image of sound contents meets all that reading asks
  pub image_met : AllMet (header_demands image ++ body_demands image)
  image_met =
      let long : length image ≡ image_length version (size rows) (length rows.targets) = image_length_lem version contents sound.counted sound.length_each in
      let again : SoundTable (table_of image) = subst SoundTable (sym table_back) sound.counted in
      let sized : length image ≡ image_length (version_of image) (vertices_of image) (edges_of image)
      = long ∙ (λ i. image_length (sym version_back i) (sym vertices_back i) (sym edges_back i)) in (
        (omega (arith, long), refl),
        (
          subst Known (sym version_back) sound.known,
          (
            omega (arith, vertices_back, sound.counted.well_formed),
            (
              omega (arith, edges_back, sound.counted.well_formed),
              (
                sized,
                (
                  again.well_formed.starts_fit,
                  (again.well_formed.targets_below, (again.well_formed.rows_rise, (again.sum_fits, (subst Positive (sym lengths_back) sound.positive, tt)))),
                ),
              ),
            ),
          ),
        ),
      )
