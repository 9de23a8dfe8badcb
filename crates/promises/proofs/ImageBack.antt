-- The image of the contents that stand in an accepted image is that image. Assumes nothing.
use Prim.Native.Nat.{ℕ, ◌+◌, ◌*◌, ◌-◌, ◌≤◌}
use mathlib.Core.Path.{◌≡◌, sym, ap, ◌∙◌}
use mathlib.Core.List.{List, ◌++◌}
use native.Mathlib.Omega.{arith}
use lib.ListN.{length, take, drop, length-drop}
use lib.Seq.{take-add, take_all}
use Rattle.table.specs.Table.{Below, size}
use Rattle.table.specs.Verdict.{AllMet}
use Rattle.layout.specs.Bytes.{bytes_of, numbers_of, spelled}
use Rattle.layout.specs.Lengths.{length_count}
use Rattle.layout.specs.Image.{image_length, header_of, image_of, version_of, vertices_of, edges_of, starts_of, targets_of, counts_of, lengths_of, table_of, contents_of}
use Rattle.layout.proofs.ImageLaws.{starts_long, targets_long}
use Rattle.image.specs.Looking.{header_demands, body_demands}
use Rattle.promises.proofs.BackAndForth.{rest_below, bytes_of_front, spelled_of_numbers}

module _ (image : List ℕ) (met : AllMet (header_demands image ++ body_demands image)) (bytes : Below 256 image) where
  -- a front, and the bytes right behind it
  joined : (at k : ℕ) (bs : List ℕ) → bs ≡ take k (drop at image) → take at image ++ bs ≡ take (at + k) image
  joined at k bs e = ap (λ (l : List ℕ). take at image ++ l) e ∙ sym (take-add at k image)

  header_back : header_of (version_of image) (vertices_of image) (edges_of image) ≡ take 13 image
  header_back =
      let long = met.1.1.1.1.0 in
      let version : bytes_of 2 (version_of image) ≡ take 2 (drop 3 image)
      = bytes_of_front 2 (drop 3 image) (omega (arith, length-drop 3 image)) (rest_below 256 3 image bytes) in
      let n : bytes_of 4 (vertices_of image) ≡ take 4 (drop 5 image)
      = bytes_of_front 4 (drop 5 image) (omega (arith, length-drop 5 image)) (rest_below 256 5 image bytes) in
      let m : bytes_of 4 (edges_of image) ≡ take 4 (drop 9 image)
      = bytes_of_front 4 (drop 9 image) (omega (arith, length-drop 9 image)) (rest_below 256 9 image bytes) in
      ap (λ (l : List ℕ). l ++ bytes_of 2 (version_of image) ++ bytes_of 4 (vertices_of image) ++ bytes_of 4 (edges_of image)) (sym met.0.1)
      ∙ ap (λ (l : List ℕ). l ++ bytes_of 4 (vertices_of image) ++ bytes_of 4 (edges_of image)) (joined 3 2 (bytes_of 2 (version_of image)) version)
      ∙ ap (λ (l : List ℕ). l ++ bytes_of 4 (edges_of image)) (joined 5 4 (bytes_of 4 (vertices_of image)) n)
      ∙ joined 9 4 (bytes_of 4 (edges_of image)) m

  -- a run of numbers right behind a front
  run_back : (k count at : ℕ) → at + k * count ≤ length image → take at image ++ spelled k (numbers_of k count (drop at image)) ≡ take (at + k * count) image
  run_back k count at h =
      joined at (k * count) (spelled k (numbers_of k count (drop at image)))
      (spelled_of_numbers k count (drop at image) (omega (arith, length-drop at image)) (rest_below 256 at image bytes))

  -- the image of the contents is the image
  pub image_back : image_of (version_of image) (contents_of image) ≡ image
  image_back =
      let version = version_of image in
      let n = vertices_of image in
      let m = edges_of image in
      let k = length_count version n in
      let long : length image ≡ image_length version n m = met.1.1.1.1.0 in
      let sizes : header_of version (size (table_of image).rows) (length (targets_of image)) ≡ header_of version n m
      = ap (λ (k : ℕ). header_of version (k - 1) (length (targets_of image))) (starts_long image)
      ∙ ap (λ (k : ℕ). header_of version k (length (targets_of image))) (omega arith)
      ∙ ap (header_of version n) (targets_long image) in
      ap (λ (l : List ℕ). l ++ spelled 4 (starts_of image) ++ spelled 4 (targets_of image) ++ spelled 8 (counts_of image) ++ spelled 2 (lengths_of image)) (sizes ∙ header_back)
      ∙ ap (λ (l : List ℕ). l ++ spelled 4 (targets_of image) ++ spelled 8 (counts_of image) ++ spelled 2 (lengths_of image)) (run_back 4 (n + 1) 13 (omega arith))
      ∙ ap (λ (l : List ℕ). l ++ spelled 8 (counts_of image) ++ spelled 2 (lengths_of image)) (run_back 4 m (13 + 4 * (n + 1)) (omega arith))
      ∙ ap (λ (l : List ℕ). l ++ spelled 2 (lengths_of image)) (run_back 8 n (13 + 4 * (n + 1) + 4 * m) (omega arith))
      ∙ run_back 2 k (13 + 4 * (n + 1) + 4 * m + 8 * n) (omega arith)
      ∙ take_all (13 + 4 * (n + 1) + 4 * m + 8 * n + 2 * k) image (omega arith)
