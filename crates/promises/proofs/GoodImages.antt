-- What every program asks of the bytes that it read (`image_demands`) is met by a good image, and by no other bytes. Assumes nothing.
use Prim.Native.Nat.{ℕ}
use mathlib.Core.Path.{◌≡◌, refl, sym, subst, ap, ◌∙◌}
use mathlib.Core.Logic.{◌↔◌, inl, inr}
use mathlib.Core.List.{List, [], ◌∷◌, ◌++◌}
use Rattle.table.specs.Verdict.{Demand, Verdict, AllMet, NeverZero}
use Rattle.table.specs.Table.{Below, SoundTable}
use Rattle.table.proofs.VerdictLaws.{accepted, accepts, goes_on, met_are_passed, verdict_unique}
use Rattle.layout.specs.Image.{SoundContents, image_of, version_of, vertices_of, edges_of, table_of, contents_of}
use Rattle.image.specs.Looking.{image_demands}
use Rattle.image.proofs.LookLaws.{looked_met, table_sound, contents_sound}
use Rattle.promises.specs.Images.{GoodImage}
use Rattle.promises.proofs.ContentsBack.{version_back, contents_back, image_met}
use Rattle.promises.proofs.ImageBack.{image_back}

-- where all demands are passed, so are the first
first_passed : (first rest : List Demand) → Verdict (first ++ rest) 0 → Verdict first 0
first_passed [] rest v = refl
first_passed (d ∷ first) rest (inl v) = inl v
first_passed (d ∷ first) rest (inr v) = inr (v.0, first_passed first rest v.1)

module _ (image : List ℕ) (rest : List Demand) (passed : Verdict (image_demands image ++ rest) 0) where
  -- bytes that are given 0 meet these demands,
  pub image_passed : AllMet (image_demands image)
  image_passed =
      looked_met {image = image} {answer = record { number = 0; version = version_of image; vertices = vertices_of image; edges = edges_of image }}
      (record {
        verdict = first_passed (image_demands image) rest passed;
        taken = λ _. record { same_version = refl; same_n = refl; same_m = refl };
        refused = λ refusal. absurd (refusal refl);
      }) refl

  -- and those that stand behind them;
  pub rest_passed : NeverZero rest → AllMet rest
  rest_passed never = accepted rest never (met_are_passed (image_demands image) rest 0 image_passed passed)

  -- their table is well-formed
  pub passed_sound : SoundTable (table_of image)
  passed_sound = table_sound image image_passed

  -- and so are their contents, where they are bytes
  pub passed_contents : Below 256 image → SoundContents (version_of image) (contents_of image)
  passed_contents bytes = contents_sound image bytes image_passed

module _ {image : List ℕ} (good : GoodImage image) where
  -- a good image meets them,
  pub good_met : AllMet (image_demands image)
  good_met = subst (λ (bytes : List ℕ). AllMet (image_demands bytes)) (sym good.bytes) (image_met good.version good.contents good.sound)

  -- so that what is asked behind them decides;
  pub good_decides : (rest : List Demand) {number r : ℕ} → Verdict rest r → Verdict (image_demands image ++ rest) number → number ≡ r
  good_decides rest {number} {r} decided v = verdict_unique (image_demands image ++ rest) number r v (goes_on (image_demands image) rest r good_met decided)

  -- it has the version and the contents that it is the image of
  good_version : good.version ≡ version_of image
  good_version = sym (ap version_of good.bytes ∙ version_back good.version good.contents good.sound)

  good_contents : good.contents ≡ contents_of image
  good_contents = sym (ap contents_of good.bytes ∙ contents_back good.version good.contents good.sound)

  -- so that it is the image of what stands in it
  pub good_bytes : image ≡ image_of (version_of image) (contents_of image)
  good_bytes = good.bytes ∙ (λ i. image_of (good_version i) (good_contents i))

-- good images of one version with the same contents are the same bytes
pub same_bytes : {image image' : List ℕ} → GoodImage image → GoodImage image' → version_of image ≡ version_of image' → contents_of image ≡ contents_of image' → image ≡ image'
same_bytes good good' version contents = good_bytes good ∙ (λ i. image_of (version i) (contents i)) ∙ sym (good_bytes good')

-- bytes that meet the demands are a good image
pub met_good : {image : List ℕ} → Below 256 image → AllMet (image_demands image) → GoodImage image
met_good {image} bytes met =
    record { version = version_of image; contents = contents_of image; sound = contents_sound image bytes met; bytes = sym (image_back image met bytes) }

-- bytes are given 0 exactly if they are a good image that meets what is asked behind it
pub passed_exactly : {image : List ℕ} (rest : List Demand) {number : ℕ} → NeverZero rest → Below 256 image → Verdict (image_demands image ++ rest) number
    → (number ≡ 0) ↔ (GoodImage image × AllMet rest)
passed_exactly {image} rest never bytes v = (
  λ e. let passed = rw e at v in (met_good bytes (image_passed image rest passed), rest_passed image rest passed never),
  λ h. good_decides h.0 rest (accepts rest h.1) v,
)
