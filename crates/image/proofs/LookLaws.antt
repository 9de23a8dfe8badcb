-- Laws of looking at an image: what an accepted header says, and how the check of the contents gives 3, 4, 5, 7 and 20 of an image. Assumes nothing.
use Rattle.std.proofs.Common.{ℕ, ◌+◌, ◌*◌, ◌<◌, ◌≡◌, refl, ap, ◌∙◌, List, ◌++◌, arith, get_or, take, drop, Err}
use Rattle.std.proofs.lemmas.List.{drop-drop}
use Rattle.table.specs.declared.refusal.Refusal.{Refusal}
use Rattle.table.specs.Refusals.{number as number_of}
use Rattle.table.specs.Verdict.{Verdict, AllMet}
use Rattle.table.specs.Table.{Below, size, SoundTable}
use Rattle.table.proofs.RefusalLaws.{number_not_zero}
use Rattle.table.proofs.VerdictLaws.{accepted, goes_on, first_met}
use Rattle.layout.specs.Bytes.{value_of}
use Rattle.layout.specs.Lengths.{length_count}
use Rattle.layout.specs.Image.{SoundContents, version_of, vertices_of, edges_of, lengths_of, table_of, contents_of}
use Rattle.layout.proofs.ByteLaws.{half_at}
use Rattle.layout.proofs.ImageLaws.{starts_long, targets_long, counts_long, lengths_long}
use Rattle.in_place.specs.InPlace.{Sized, contents_in, placed_demands}
use Rattle.layout.proofs.ByteLaws.{number_at}
use Rattle.image.specs.Looking.{Seen, header_demands, body_demands, image_demands, SizesOf, HeaderJudged, Looked, seen_of}

-- what an accepted header says of its image
pub record HeaderSays (image : List ℕ) (answer : Seen) : Type 0 where
  pub version : answer.version ≡ version_of image
  pub vertices : answer.vertices ≡ vertices_of image
  pub edges : answer.edges ≡ edges_of image
  pub sized : Sized image answer.version answer.vertices answer.edges

says : {image : List ℕ} {answer : Seen} → AllMet (header_demands image) → SizesOf image answer → HeaderSays image answer
says met sizes =
    record {
      version = sizes.same_version;
      vertices = sizes.same_n;
      edges = sizes.same_m;
      sized =
          record {
            few_vertices = rw sizes.same_n met.1.1.0;
            few_edges = rw sizes.same_m met.1.1.1.0;
            long = rw (sizes.same_version, sizes.same_n, sizes.same_m) met.1.1.1.1.0;
          };
    }

module _ {image : List ℕ} {answer : Seen} (judged : HeaderJudged image answer) (e : answer.number ≡ 0) where
  -- a header that is accepted meets all that is asked of it
  header_met : AllMet (header_demands image)
  header_met =
      accepted (header_demands image)
      ((λ e. omega arith), ((λ e. omega arith), ((λ e. omega arith), ((λ e. omega arith), ((λ e. omega arith), tt))))) (rw e at judged.verdict)

module _ {image : List ℕ} {answer : Seen} where
  module _ (h : HeaderJudged image answer) (e : answer.number ≡ 0) {number : ℕ}
      (v : Verdict (placed_demands (contents_in image answer.version answer.vertices answer.edges)) number) where
    -- behind an accepted header the contents decide
    by_contents : Verdict (image_demands image) number
    by_contents =
        let sizes = h.taken e in
        goes_on (header_demands image) (body_demands image) number (header_met h e) (rw (← sizes.same_version, ← sizes.same_n, ← sizes.same_m) v)

    -- contents that are refused are the image's refusal
    pub looked_by_contents : (refusal : Refusal) → number ≡ number_of refusal → Looked image (seen_of (Err refusal))
    looked_by_contents refusal same =
        record {
          verdict = rw same at by_contents;
          taken = λ zero. absurd (number_not_zero refusal zero);
          refused = λ _. record { no_version = refl; no_n = refl; no_m = refl };
        }

module _ {image : List ℕ} {answer : Seen} (looked : Looked image answer) (e : answer.number ≡ 0) where
  -- an image that is accepted meets all that is asked of it
  pub looked_met : AllMet (header_demands image ++ body_demands image)
  looked_met =
      accepted (header_demands image ++ body_demands image) (
        (λ e. omega arith),
        (
          (λ e. omega arith),
          (
            (λ e. omega arith),
            (
              (λ e. omega arith),
              (
                (λ e. omega arith),
                ((λ e. omega arith), ((λ e. omega arith), ((λ e. omega arith), ((λ e. omega arith), ((λ e. omega arith), tt))))),
              ),
            ),
          ),
        ),
      )
      (rw e at looked.verdict)

  pub looked_says : HeaderSays image answer
  looked_says = says (first_met (header_demands image) (body_demands image) looked_met) (looked.taken e)

-- the table that stands in an image which meets all that is asked of it is well-formed
pub table_sound : (image : List ℕ) → AllMet (header_demands image ++ body_demands image) → SoundTable (table_of image)
table_sound image met =
    record {
      well_formed =
          record {
            some = omega (arith, starts_long image);
            most_vertices = omega (arith, starts_long image, met.1.1.0);
            most_edges = omega (arith, targets_long image, met.1.1.1.0);
            starts_fit = met.1.1.1.1.1.0;
            targets_below = met.1.1.1.1.1.1.0;
            rows_rise = met.1.1.1.1.1.1.1.0;
          };
      count_each = omega (arith, starts_long image, counts_long image);
      sum_fits = met.1.1.1.1.1.1.1.1.0;
    }

module _ (image : List ℕ) (bytes : Below 256 image) (met : AllMet (header_demands image ++ body_demands image)) where
  -- the lengths that stand in it, of two bytes each, are of 16 bits,
  lengths_narrow : Below 65536 (lengths_of image)
  lengths_narrow k inside =
      let count = length_count (version_of image) (vertices_of image) in
      let at = 13 + 4 * (vertices_of image + 1) + 4 * edges_of image + 8 * vertices_of image in
      let place = at + 2 * k in
      let long = met.1.1.1.1.0 in
      let fits : k < count = omega (arith, inside, lengths_long image) in
      let value : get_or (lengths_of image) k 0 ≡ get_or image place 0 + 256 * get_or image (place + 1) 0
      = number_at 2 count (drop at image) k fits
      ∙ ap (λ (l : List ℕ). value_of (take 2 l)) (drop-drop (2 * k) at image)
      ∙ half_at image place (omega (arith, fits, long)) in
      omega (arith, value, bytes place (omega (arith, fits, long)), bytes (place + 1) (omega (arith, fits, long)))

  -- and its contents are sound
  pub contents_sound : SoundContents (version_of image) (contents_of image)
  contents_sound =
      let n_is : vertices_of image ≡ size (table_of image).rows = omega (arith, starts_long image) in
      record {
        known = met.1.0;
        counted = table_sound image met;
        length_each = lengths_long image ∙ ap (length_count (version_of image)) n_is;
        positive = met.1.1.1.1.1.1.1.1.1.0;
        sixteen_bits = lengths_narrow;
      }
