-- The two sentences of docs/RULES.md, Image, on writing and loading, of all that the contracts of both allow. Assumes nothing.
use Prim.Native.Nat.{ℕ, ◌≤◌}
use mathlib.Core.Path.{◌≡◌, refl, sym, subst, ap, ◌∙◌}
use mathlib.Core.Logic.{inr}
use mathlib.Core.List.{List, [], ◌∷◌, ◌++◌}
use native.Mathlib.Omega.{arith}
use lib.ListN.{length, take, drop}
use lib.Seq.{take_at}
use Rattle.table.specs.Table.{Below, size}
use Rattle.table.specs.Verdict.{AllMet}
use Rattle.table.proofs.VerdictLaws.{accepts, goes_on, verdict_unique}
use Rattle.layout.specs.Lengths.{Known}
use Rattle.layout.specs.Image.{Contents, SoundContents, image_length, image_of, version_of, vertices_of, edges_of, contents_of}
use Rattle.layout.proofs.ImageLaws.{image_length_lem}
use Rattle.image.specs.Looking.{Seen, image_demands, contents_room, contents_fronts, Looked, Loaded}
use Rattle.image.proofs.LookLaws.{contents_sound}
use Rattle.image.proofs.LoadLaws.{loaded_met, loaded_contents}
use Rattle.writing.specs.Writing.{Extent, Written}
use Rattle.writing.proofs.WriteLaws.{contents_written, written_sound}
use Rattle.promises.specs.RoundTrip.{ContentsBack, ImageBack}
use Rattle.promises.proofs.ContentsBack.{version_back, vertices_back, edges_back, contents_back, image_met}
use Rattle.promises.proofs.ImageBack.{image_back}

-- the image of sound contents is accepted by look,
pub image_seen : {version : ℕ} {contents : Contents} {answer : Seen} → SoundContents version contents → Looked (image_of version contents) answer → answer.number ≡ 0
image_seen {version} {contents} {answer} sound sees =
    let image = image_of version contents in
    verdict_unique (image_demands image) answer.number 0 sees.verdict (accepts (image_demands image) (image_met version contents sound))

-- and loaded, with room
pub image_loaded : {version : ℕ} {contents lent after : Contents} {answer : Seen} → SoundContents version contents
    → (contents_room version (size contents.table.rows) (length contents.table.rows.targets) lent).met
    → Loaded (image_of version contents) lent after answer → answer.number ≡ 0
image_loaded {version} {contents} {lent} {after} {answer} sound room loads =
    let image = image_of version contents in
    let asked = contents_room (version_of image) (vertices_of image) (edges_of image) lent in
    let room-asked : asked.met
    = rw (version_back version contents sound, vertices_back version contents sound, edges_back version contents sound) room in
    verdict_unique (image_demands image ++ asked ∷ []) answer.number 0 loads.verdict
    (goes_on (image_demands image) (asked ∷ []) 0 (image_met version contents sound) (inr (room-asked, refl)))

-- writing accepted contents, in either version, and loading them, with room, gives them back
pub written_then_loaded : {version : ℕ} {contents : Contents} {slice image : List ℕ} {written : Extent} → Known version → Below 65536 contents.lengths
    → Written version contents slice image written → written.number ≡ 0
    → {lent after : Contents} {answer : Seen} → (contents_room version (size contents.table.rows) (length contents.table.rows.targets) lent).met
    → Loaded (take written.length image) lent after answer → ContentsBack version contents after answer
written_then_loaded {version} {contents} {slice} {image} {written} known narrow w e {lent} {after} {answer} room l =
    let sound : SoundContents version contents = written_sound w e known narrow in
    let whole = image_of version contents in
    let long : length whole ≡ written.length = image_length_lem version contents sound.counted sound.length_each ∙ sym (w.taken e).0 in
    let front : take written.length image ≡ whole
    = ap (take written.length) (w.taken e).1 ∙ take_at whole (drop written.length slice) written.length long in
    let loads : Loaded whole lent after answer = subst (λ (x : List ℕ). Loaded x lent after answer) front l in
    let zero = image_loaded sound room loads in
    let is = (loads.taken zero).0 in
    record {
      accepted_again = zero;
      same_version = is.same_version ∙ version_back version contents sound;
      same_n = is.same_n ∙ vertices_back version contents sound;
      same_m = is.same_m ∙ edges_back version contents sound;
      same_contents = loaded_contents loads zero ∙ contents_back version contents sound;
    }

-- an accepted image, loaded and written in its version, with room, gives the same bytes
pub loaded_then_written : {image : List ℕ} {lent after : Contents} {loaded : Seen} → Below 256 image → Loaded image lent after loaded → loaded.number ≡ 0
    → {slice out : List ℕ} {answer : Extent} → length image ≤ length slice
    → Written loaded.version (contents_fronts loaded.version loaded.vertices loaded.edges after) slice out answer
    → ImageBack image out answer
loaded_then_written {image} {lent} {after} {loaded} bytes l e {slice} {out} {answer} room w =
    let met : AllMet (image_demands image) = loaded_met l e in
    let version = version_of image in
    let contents = contents_of image in
    let sound : SoundContents version contents = contents_sound image bytes met in
    let same_version = (l.taken e).0.same_version in
    let written : Written version contents slice out answer
    = subst (λ (c : Contents). Written version c slice out answer) (loaded_contents l e)
    (subst (λ (v : ℕ). Written v (contents_fronts loaded.version loaded.vertices loaded.edges after) slice out answer) same_version w) in
    let back : image_of version contents ≡ image = image_back image met bytes in
    let long : length image ≡ image_length version (size contents.table.rows) (length contents.table.rows.targets)
    = ap length (sym back) ∙ image_length_lem version contents sound.counted sound.length_each in
    let zero = contents_written sound (omega (arith, long)) written in
    let fit : answer.length ≡ length image = (written.taken zero).0 ∙ sym long in
    record {
      accepted_again = zero;
      same_length = fit;
      same_bytes =
          ap (take answer.length) (written.taken zero).1
          ∙ take_at (image_of version contents) (drop answer.length slice) answer.length (ap length back ∙ sym fit)
          ∙ back;
    }
