-- What looking at an image and loading it state: the number, every field, and all memory lent, on a refusal too. Assumes nothing.
use Rattle.std.specs.Prelude.{ℕ, ◌+◌, ◌≤◌, ◌≡◌, List, [], ◌∷◌, ◌++◌, length, take, drop, Result, Ok, Err}
use Rattle.table.specs.Limits.{vertex_limit, edge_limit}
use Rattle.table.specs.declared.refusal.Refusal.{Refusal}
use Rattle.table.specs.Refusals.{number}
use Rattle.table.specs.Verdict.{Demand, Verdict}
use Rattle.table.specs.Numbers.{room_for}
use Rattle.table.specs.Lent.{AtFronts, fronts}
use Rattle.layout.specs.Lengths.{Known, length_count}
use Rattle.layout.specs.Image.{mark, Contents, image_length, version_of, vertices_of, edges_of, contents_of}
use Rattle.in_place.specs.InPlace.{Sized, contents_in, placed_demands}
use Rattle.image.specs.declared.header.Sizes.{Sizes}

-- what looking at an image and loading it answer, in the words of docs/RULES.md: the number, the version, n and m
pub record Seen : Type 0 where
  pub number : ℕ
  pub version : ℕ
  pub vertices : ℕ
  pub edges : ℕ

-- the sizes on success, and else the number of the refusal and 0 in every other field
abbrev pub seen_of : Result Sizes Refusal → Seen
seen_of (Ok sizes) = record { number = 0; version = sizes.version; vertices = sizes.vertices; edges = sizes.edges }
seen_of (Err refusal) = record { number = number refusal; version = 0; vertices = 0; edges = 0 }

-- 10: shorter than 13 bytes, or wrong mark
abbrev pub marked : List ℕ → Demand
marked image = record { number = 10; met = (13 ≤ length image) × (take 3 image ≡ mark) }

-- 11: a version other than 1 and 2
abbrev pub known_version : List ℕ → Demand
known_version image = record { number = 11; met = Known (version_of image) }

-- 1: n above 2,048
abbrev pub few_vertices_demand : List ℕ → Demand
few_vertices_demand image = record { number = 1; met = vertices_of image ≤ vertex_limit }

-- 2: m above 8,192
abbrev pub few_edges_demand : List ℕ → Demand
few_edges_demand image = record { number = 2; met = edges_of image ≤ edge_limit }

-- 12: longer or shorter than the header says
abbrev pub as_long_demand : List ℕ → Demand
as_long_demand image = record { number = 12; met = length image ≡ image_length (version_of image) (vertices_of image) (edges_of image) }

-- 10, 11, 1, 2, 12: what is asked of the header
abbrev pub header_demands : List ℕ → List Demand
header_demands image = marked image ∷ known_version image ∷ few_vertices_demand image ∷ few_edges_demand image ∷ as_long_demand image ∷ []

-- 3, 4, 5, 7, 20: what is asked of the contents that stand in the image
abbrev pub body_demands : List ℕ → List Demand
body_demands image = placed_demands (contents_of image)

-- 10, 11, 1, 2, 12, 3, 4, 5, 7, 20: what is asked of an image
abbrev pub image_demands : List ℕ → List Demand
image_demands image = header_demands image ++ body_demands image

-- 8: starts, targets, counts below n+1, m, n, or in version 2 lengths below n
abbrev pub contents_room : ℕ → ℕ → ℕ → Contents → Demand
contents_room version n m lent = record { number = 8; met = (room_for n m lent.table).met × (length_count version n ≤ length lent.lengths) }

-- an image of a version, n and m, and slices with room for its contents
pub record LayRoom (image : List ℕ) (version n m : ℕ) (lent : Contents) : Type 0 where
  pub sized : Sized image version n m
  pub room : (contents_room version n m lent).met

-- slices of exactly n + 1, m and n, and of as many lengths as the version has
pub record ExactRoom (version n m : ℕ) (lent : Contents) : Type 0 where
  pub starts_exact : length lent.table.rows.starts ≡ n + 1
  pub targets_exact : length lent.table.rows.targets ≡ m
  pub counts_exact : length lent.table.counts ≡ n
  pub lengths_exact : length lent.lengths ≡ length_count version n

-- contents of a version, n and m stand at the fronts of the slices, and what stood behind them is as it was: of the lengths slice in version 1 all
pub record ContentsAtFronts (version n m : ℕ) (contents lent after : Contents) : Type 0 where
  pub table_fronts : AtFronts n m contents.table lent.table after.table
  pub lengths_front : after.lengths ≡ contents.lengths ++ drop (length_count version n) lent.lengths

-- the fronts of the slices that contents of a version, n and m take
abbrev pub contents_fronts : ℕ → ℕ → ℕ → Contents → Contents
contents_fronts version n m slices = record { table = fronts n m slices.table; lengths = take (length_count version n) slices.lengths }

-- the slices, before and after, with the contents of an image of a version, n and m at their fronts
abbrev pub Laid : List ℕ → ℕ → ℕ → ℕ → Contents → Contents → Type 0
Laid image version n m = ContentsAtFronts version n m (contents_in image version n m)

-- where an image was accepted: 8 where the slices have no room for its contents, and then they are as they were; else 0, and the contents at their fronts
pub record LaidInRoom (image : List ℕ) (version n m : ℕ) (lent after : Contents) (number : ℕ) : Type 0 where
  pub verdict : Verdict (contents_room version n m lent ∷ []) number
  pub taken : number ≡ 0 → Laid image version n m lent after
  pub refused : (number ≡ 0 → ⊥) → after ≡ lent

-- the answer has the version, n and m of the image
pub record SizesOf (image : List ℕ) (answer : Seen) : Type 0 where
  pub same_version : answer.version ≡ version_of image
  pub same_n : answer.vertices ≡ vertices_of image
  pub same_m : answer.edges ≡ edges_of image

-- version, n and m are 0, as on every refusal
pub record NoSizes (answer : Seen) : Type 0 where
  pub no_version : answer.version ≡ 0
  pub no_n : answer.vertices ≡ 0
  pub no_m : answer.edges ≡ 0

-- what judging a header states: number, version, n and m
pub record HeaderJudged (image : List ℕ) (answer : Seen) : Type 0 where
  pub verdict : Verdict (header_demands image) answer.number
  pub taken : answer.number ≡ 0 → SizesOf image answer
  pub refused : (answer.number ≡ 0 → ⊥) → NoSizes answer

-- what looking at an image states: number, version, n and m
pub record Looked (image : List ℕ) (answer : Seen) : Type 0 where
  pub verdict : Verdict (image_demands image) answer.number
  pub taken : answer.number ≡ 0 → SizesOf image answer
  pub refused : (answer.number ≡ 0 → ⊥) → NoSizes answer

-- what loading an image states: number, version, n and m, and the four slices before and after
pub record Loaded (image : List ℕ) (lent after : Contents) (answer : Seen) : Type 0 where
  pub verdict : Verdict (image_demands image ++ contents_room (version_of image) (vertices_of image) (edges_of image) lent ∷ []) answer.number
  pub taken :
      answer.number ≡ 0 → SizesOf image answer × ContentsAtFronts answer.version answer.vertices answer.edges (contents_of image) lent after
  pub refused : (answer.number ≡ 0 → ⊥) → NoSizes answer × (after ≡ lent)
