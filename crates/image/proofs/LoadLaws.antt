-- Laws of loading an image: how its number follows from look's and the room, and what stands in the slices. Assumes nothing.
use Rattle.std.proofs.Common.{ℕ, ◌+◌, ◌≡◌, ap₂, inr, refl, sym, ap, ◌∙◌, List, [], ◌∷◌, ◌++◌, arith, length, take, drop, Err}
use Rattle.std.proofs.lemmas.List.{append-nil, take_at, length-take-le, drop_all}
use Rattle.table.specs.Limits.{vertex_limit, edge_limit}
use Rattle.table.specs.declared.refusal.Refusal.{Refusal}
use Rattle.table.specs.Refusals.{number as number_of}
use Rattle.table.specs.Verdict.{Demand, Verdict, AllMet}
use Rattle.table.specs.Table.{SoundTable}
use Rattle.table.specs.Lent.{fronts}
use Rattle.table.proofs.FrontLaws.{fronts_are}
use Rattle.table.proofs.RefusalLaws.{number_not_zero}
use Rattle.table.proofs.VerdictLaws.{accepted, goes_on, stops, first_met, verdict_unique}
use Rattle.layout.specs.Lengths.{length_count}
use Rattle.layout.specs.Image.{Contents, version_of, vertices_of, edges_of, starts_of, targets_of, counts_of, lengths_of, table_of, contents_of}
use Rattle.layout.proofs.LengthLaws.{lengths_two, lengths_most}
use Rattle.layout.proofs.ImageLaws.{starts_long, targets_long, counts_long, lengths_long}
use Rattle.image.specs.Looking.{Seen, image_demands, contents_room, ExactRoom, ContentsAtFronts, contents_fronts, LaidInRoom, SizesOf, Looked, Loaded, seen_of}
use Rattle.image.proofs.LookLaws.{looked_met, looked_says, table_sound}

-- the room that an image asks of slices
abbrev image_room : List ℕ → Contents → Demand
image_room image = contents_room (version_of image) (vertices_of image) (edges_of image)

-- an image that is refused leaves every slice as it was
pub load_refused_by_image : {image : List ℕ} {lent : Contents} (refusal : Refusal) → Looked image (seen_of (Err refusal)) → Loaded image lent lent (seen_of (Err refusal))
load_refused_by_image {image} {lent} refusal sees =
    record {
      verdict = stops (image_demands image) (image_room image lent ∷ []) (number_of refusal) (number_not_zero refusal) sees.verdict;
      taken = λ zero. absurd (number_not_zero refusal zero);
      refused = λ wrong. (sees.refused wrong, refl);
    }

module _ {image : List ℕ} {looked : Seen} (sees : Looked image looked) (e : looked.number ≡ 0) {lent after : Contents} {number : ℕ}
    (laid : LaidInRoom image looked.version looked.vertices looked.edges lent after number) where
  -- of an accepted image the room decides
  by_room : Verdict (image_demands image ++ image_room image lent ∷ []) number
  by_room =
      let says = looked_says sees e in
      goes_on (image_demands image) (image_room image lent ∷ []) number (looked_met sees e)
      (rw (← says.version, ← says.vertices, ← says.edges) laid.verdict)

  -- slices without room are left as they were
  pub load_refused_by_room : (refusal : Refusal) → number ≡ number_of refusal → Loaded image lent after (seen_of (Err refusal))
  load_refused_by_room refusal same =
      record {
        verdict = rw same at by_room;
        taken = λ zero. absurd (number_not_zero refusal zero);
        refused = λ wrong. (record { no_version = refl; no_n = refl; no_m = refl }, laid.refused (λ zero. wrong (sym same ∙ zero)));
      }

-- slices with the contents of an image at their fronts have them there
pub fronts_hold : {image : List ℕ} {lent after : Contents} {answer : Seen} → SizesOf image answer
    → ContentsAtFronts answer.version answer.vertices answer.edges (contents_of image) lent after
    → contents_fronts answer.version answer.vertices answer.edges after ≡ contents_of image
fronts_hold {image} {lent} {after} {answer} sizes at =
    let n_is = sizes.same_n in
    let count = length_count answer.version answer.vertices in
    let count-is : length_count (version_of image) (vertices_of image) ≡ count = ap₂ length_count (sym sizes.same_version) (sym n_is) in
    let table_is : fronts answer.vertices answer.edges after.table ≡ table_of image
    = fronts_are at.table_fronts (starts_long image ∙ ap (λ (n : ℕ). n + 1) (sym n_is)) (targets_long image ∙ sym sizes.same_m) (counts_long image ∙ sym n_is) in
    let lengths-are : take count after.lengths ≡ lengths_of image
    = ap (take count) at.lengths_front ∙ take_at (lengths_of image) (drop count lent.lengths) count (lengths_long image ∙ count-is) in
    λ i. record { table = table_is i; lengths = lengths-are i }

module _ {image : List ℕ} {lent after : Contents} {answer : Seen} (loaded : Loaded image lent after answer) (e : answer.number ≡ 0) where
  -- an image that was loaded met all that is asked of it
  pub loaded_met : AllMet (image_demands image)
  loaded_met =
      first_met (image_demands image) (image_room image lent ∷ [])
      (accepted (image_demands image ++ image_room image lent ∷ []) (
        (λ e. omega arith),
        (
          (λ e. omega arith),
          (
            (λ e. omega arith),
            (
              (λ e. omega arith),
              (
                (λ e. omega arith),
                (
                  (λ e. omega arith),
                  ((λ e. omega arith), ((λ e. omega arith), ((λ e. omega arith), ((λ e. omega arith), ((λ e. omega arith), tt))))),
                ),
              ),
            ),
          ),
        ),
      )
      (rw e at loaded.verdict))

  -- and the fronts of the slices are its contents
  pub loaded_contents : contents_fronts answer.version answer.vertices answer.edges after ≡ contents_of image
  loaded_contents = let (sizes, at) = loaded.taken e in fronts_hold sizes at

-- nothing stands behind what fills a slice
nothing_behind : (front list : List ℕ) (k : ℕ) → length list ≡ k → front ++ drop k list ≡ front
nothing_behind front list k long = ap (λ (j : ℕ). front ++ drop j list) (sym long) ∙ ap (λ (rest : List ℕ). front ++ rest) (drop_all (length list) list (omega arith)) ∙ append-nil front

module _ {image : List ℕ} {looked : Seen} (sees : Looked image looked) (e : looked.number ≡ 0) where
  -- an image that look accepts has a well-formed table,
  pub looked_table : SoundTable (table_of image)
  looked_table = table_sound image (looked_met sees e)

  -- has its n + 1, m and n, and its lengths, at the fronts of slices with room for any contents,
  pub fronts_exact : (slices : Contents) → (contents_room 2 vertex_limit edge_limit slices).met
      → ExactRoom looked.version looked.vertices looked.edges (contents_fronts looked.version looked.vertices looked.edges slices)
  fronts_exact slices room =
      let few = (looked_says sees e).sized in
      let count = length_count looked.version looked.vertices in
      record {
        starts_exact = length-take-le (looked.vertices + 1) slices.table.rows.starts (omega arith);
        targets_exact = length-take-le looked.edges slices.table.rows.targets (omega arith);
        counts_exact = length-take-le looked.vertices slices.table.counts (omega arith);
        lengths_exact = length-take-le count slices.lengths (omega (arith, few, room, lengths_two vertex_limit, lengths_most looked.version looked.vertices));
      }

  module _ {lent after : Contents} {answer : Seen} (exact : ExactRoom looked.version looked.vertices looked.edges lent)
      (loads : Loaded image lent after answer) where
    -- is loaded into slices of exactly that many,
    exact_loaded : answer.number ≡ 0
    exact_loaded =
        let says = looked_says sees e in
        let room : (contents_room looked.version looked.vertices looked.edges lent).met = (omega (arith, exact), omega (arith, exact)) in
        verdict_unique (image_demands image ++ image_room image lent ∷ []) answer.number 0 loads.verdict
        (goes_on (image_demands image) (image_room image lent ∷ []) 0 (looked_met sees e)
        (inr (rw (← says.version, ← says.vertices, ← says.edges) room, refl)))

    -- and then these are its contents
    pub exact_contents : after ≡ contents_of image
    exact_contents =
        let (sizes, at) = loads.taken exact_loaded in
        let says = looked_says sees e in
        let n-same = says.vertices ∙ sym sizes.same_n in
        let count_same = ap₂ length_count (says.version ∙ sym sizes.same_version) n-same in
        let starts_are = at.table_fronts.starts_front ∙ nothing_behind (starts_of image) lent.table.rows.starts (answer.vertices + 1) (omega (arith, exact, n-same)) in
        let targets_are = at.table_fronts.targets_front ∙ nothing_behind (targets_of image) lent.table.rows.targets answer.edges (omega (arith, exact, says, sizes)) in
        let counts-are = at.table_fronts.counts_front ∙ nothing_behind (counts_of image) lent.table.counts answer.vertices (exact.counts_exact ∙ n-same) in
        let lengths-are = at.lengths_front
        ∙ nothing_behind (lengths_of image) lent.lengths (length_count answer.version answer.vertices) (exact.lengths_exact ∙ count_same) in
        λ i. record { table = record { rows = record { starts = starts_are i; targets = targets_are i }; counts = counts-are i }; lengths = lengths-are i }
