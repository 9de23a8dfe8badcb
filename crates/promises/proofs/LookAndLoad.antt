-- Look and load of one image, in a row: each sentence of docs/changes/01-look.md, of all that the contracts of both allow. Assumes nothing.
use Prim.Native.Nat.{ℕ, zero, suc, ◌+◌, ◌*◌}
use mathlib.Core.Path.{◌≡◌, refl, sym, ap, ap₂, ◌∙◌}
use mathlib.Core.Logic.{◌↔◌, ◌≢◌, ◌⊎◌, inl, inr, ⊎_elim}
use mathlib.Core.List.{List, [], ◌∷◌, ◌++◌}
use native.Mathlib.Decide.{ℕ_discrete}
use native.Mathlib.Omega.{arith}
use lib.ListN.{length, drop}
use Rattle.table.specs.Verdict.{Demand, Verdict}
use Rattle.table.specs.Table.{Below, size}
use Rattle.table.proofs.VerdictLaws.{goes_on, stops, verdict_unique}
use Rattle.layout.specs.Bytes.{numbers_of}
use Rattle.layout.specs.Lengths.{length_count}
use Rattle.layout.specs.Image.{Contents, version_of, vertices_of, edges_of, table_of, contents_of}
use Rattle.layout.proofs.LengthLaws.{lengths_one}
use Rattle.layout.proofs.ImageLaws.{starts_long, targets_long}
use Rattle.image.specs.Looking.{Seen, body_demands, image_demands, contents_room, ExactRoom, Looked, Loaded}
use Rattle.image.proofs.LookLaws.{looked_met}
use Rattle.image.proofs.LoadLaws.{exact_contents}
use Rattle.promises.specs.Images.{GoodImage}
use Rattle.promises.specs.InARow.{first_refusal, numbers}
use Rattle.promises.proofs.Decided.{contents_room_decided}
use Rattle.promises.proofs.GoodImages.{passed_exactly}

-- ---- What look says.

-- The numbers that look gives, in the order in which their demands are asked;
pub look_order : (image : List ℕ) → numbers (image_demands image) ≡ 10 ∷ 11 ∷ 1 ∷ 2 ∷ 12 ∷ 3 ∷ 4 ∷ 5 ∷ 7 ∷ 20 ∷ []
look_order image = refl

-- each demand has another number than k, or is met
abbrev pub Others : ℕ → List Demand → Type 0
Others k [] = Unit {0}
Others k (d ∷ rest) = ((d.number ≢ k) ⊎ d.met) × Others k rest

-- then k is not given
pub never : (k : ℕ) (demands : List Demand) {r : ℕ} → k ≢ 0 → Others k demands → Verdict demands r → r ≢ k
never k [] some others v e = some (sym e ∙ v)
never k (d ∷ rest) some others (inl v) e = ⊎_elim (λ other. other (sym v.1 ∙ e)) (λ met. v.0 met) others.0
never k (d ∷ rest) some others (inr v) e = never k rest some others.1 v.1 e

-- 8 is never among them.
pub look_never_eight : {image : List ℕ} {looked : Seen} → Looked image looked → looked.number ≢ 8
look_never_eight {image} sees =
    let body : Others 8 (body_demands image)
    = (inl (λ e. omega arith), (inl (λ e. omega arith), (inl (λ e. omega arith), (inl (λ e. omega arith), (inl (λ e. omega arith), tt))))) in
    let all : Others 8 (image_demands image)
    = (inl (λ e. omega arith), (inl (λ e. omega arith), (inl (λ e. omega arith), (inl (λ e. omega arith), (inl (λ e. omega arith), body))))) in
    never 8 (image_demands image) (λ e. omega arith) all sees.verdict

-- An image is sound, and look gives 0, exactly if it is the image of a well-formed table, in version 2 with its lengths;
pub look_exactly : {image : List ℕ} {looked : Seen} → Below 256 image → Looked image looked → (looked.number ≡ 0) ↔ GoodImage image
look_exactly {image} bytes sees = let (there, back) = passed_exactly {image = image} [] tt bytes sees.verdict in (λ e. (there e).0, λ good. back (good, tt))

-- then the version is its own, and n and m are how big this table is.
pub look_sizes : {image : List ℕ} {looked : Seen} → Looked image looked → looked.number ≡ 0
    → (looked.version ≡ version_of image) × (looked.vertices ≡ size (table_of image).rows) × (looked.edges ≡ length (table_of image).rows.targets)
look_sizes {image} sees e =
    let is = sees.taken e in
    (is.same_version, omega (arith, is.same_n, starts_long image), is.same_m ∙ sym (targets_long image))

-- ---- Look, and then load.

-- answers with the same fields are the same
same_sizes : {a b : Seen} → a.number ≡ b.number → a.version ≡ b.version → a.vertices ≡ b.vertices → a.edges ≡ b.edges → a ≡ b
same_sizes number version n m = λ i. record { number = number i; version = version i; vertices = n i; edges = m i }

-- Where look refuses with r, load refuses with r, whatever is lent: the same number, version, n and m, and the slices as they were.
pub look_refuses_load_refuses : {image : List ℕ} {looked loaded : Seen} {lent after : Contents} → Looked image looked → looked.number ≢ 0
    → Loaded image lent after loaded → (loaded ≡ looked) × (after ≡ lent)
look_refuses_load_refuses {image} {looked} {loaded} {lent} sees refusal loads =
    let room = contents_room (version_of image) (vertices_of image) (edges_of image) lent in
    let same : loaded.number ≡ looked.number
    = verdict_unique (image_demands image ++ room ∷ []) loaded.number looked.number loads.verdict
    (stops (image_demands image) (room ∷ []) looked.number refusal sees.verdict) in
    let (none, kept) = loads.refused (λ e. refusal (sym same ∙ e)) in
    let none_seen = sees.refused refusal in
    (same_sizes same (none.no_version ∙ sym none_seen.no_version) (none.no_n ∙ sym none_seen.no_n) (none.no_m ∙ sym none_seen.no_m), kept)

module _ {image : List ℕ} {version n m : ℕ} (sees : Looked image (record { number = 0; version = version; vertices = n; edges = m }))
    {lent after : Contents} {loaded : Seen} (loads : Loaded image lent after loaded) where
  -- where look accepts, the room decides
  decides : (number : ℕ) → Verdict (contents_room version n m lent ∷ []) number → loaded.number ≡ number
  decides number v =
      let is = sees.taken refl in
      let room = contents_room (version_of image) (vertices_of image) (edges_of image) lent in
      verdict_unique (image_demands image ++ room ∷ []) loaded.number number loads.verdict
      (goes_on (image_demands image) (room ∷ []) number (looked_met sees refl) (rw (← is.same_version, ← is.same_n, ← is.same_m) v))

  with_room : (contents_room version n m lent).met → loaded ≡ record { number = 0; version = version; vertices = n; edges = m }
  with_room room =
      let zero = decides 0 (inr (room, refl)) in
      let is = sees.taken refl in
      let (loaded-is, at) = loads.taken zero in
      same_sizes zero (loaded-is.same_version ∙ sym is.same_version) (loaded-is.same_n ∙ sym is.same_n) (loaded-is.same_m ∙ sym is.same_m)

  -- Where look gives 0, version, n and m, load gives 8 if the slices do not hold n + 1, m and n, and in version 2 n lengths,
  pub look_accepts_load_eight : ((contents_room version n m lent).met → ⊥) → loaded ≡ record { number = 8; version = 0; vertices = 0; edges = 0 }
  look_accepts_load_eight none =
      let eight = decides 8 (inl (none, refl)) in
      let (none_said, kept) = loads.refused (λ e. let no : ⊥ = omega (arith, eight, e) in no) in
      same_sizes eight none_said.no_version none_said.no_n none_said.no_m

  -- and 0, version, n and m exactly if they do.
  pub look_accepts_load_accepts : (loaded ≡ record { number = 0; version = version; vertices = n; edges = m }) ↔ (contents_room version n m lent).met
  look_accepts_load_accepts = (
    λ same. elim (contents_room_decided version n m lent) [
      | yes room ↦ room
      | no none ↦
          let zero = ap (λ (s : Seen). s.number) same in
          let eight = decides 8 (inl (none, refl)) in
          absurd (let no : ⊥ = omega (arith, zero, eight) in no)
    ],
    with_room,
  )

  -- Slices of exactly that many then are the contents that stand in the image.
  pub look_then_exact : ExactRoom version n m lent → (loaded ≡ record { number = 0; version = version; vertices = n; edges = m }) × (after ≡ contents_of image)
  look_then_exact exact =
      let room : (contents_room version n m lent).met
      = (omega (arith, exact), omega (arith, exact)) in
      (with_room room, exact_contents sees refl exact loads)

-- In version 1 nothing is asked of the lengths slice, and nothing is stored there.
pub version_1_leaves_lengths : {image : List ℕ} {lent after : Contents} {loaded : Seen} → Loaded image lent after loaded → version_of image ≡ 1 → after.lengths ≡ lent.lengths
version_1_leaves_lengths {image} {lent} {after} {loaded} loads one =
    elim (ℕ_discrete loaded.number 0) [
      | yes e ↦
          let (is, at) = loads.taken e in
          let version : loaded.version ≡ 1 = is.same_version ∙ one in
          at.lengths_front
          ∙ ap₂ (λ (k j : ℕ). numbers_of 2 k (drop (13 + 4 * (vertices_of image + 1) + 4 * edges_of image + 8 * vertices_of image) image) ++ drop j lent.lengths)
          (ap (λ (v : ℕ). length_count v (vertices_of image)) one ∙ lengths_one (vertices_of image))
          (ap (λ (v : ℕ). length_count v loaded.vertices) version ∙ lengths_one loaded.vertices)
      | no refusal ↦ ap (λ (c : Contents). c.lengths) (loads.refused refusal).1
    ]

-- the first number other than 0 of two, if load's is look's where look refuses
first_is : (first second : ℕ) → (first ≢ 0 → second ≡ first) → first_refusal first second ≡ second
first_is zero second same = refl
first_is (suc r) second same = sym (same (λ e. omega arith))

-- Of the two in a row, the first number other than 0 is the verdict of docs/RULES.md's order,
pub in_a_row : {image : List ℕ} {looked loaded : Seen} {lent after : Contents} → Looked image looked → Loaded image lent after loaded
    → Verdict (image_demands image ++ contents_room (version_of image) (vertices_of image) (edges_of image) lent ∷ []) (first_refusal looked.number loaded.number)
in_a_row {image} {looked} {loaded} sees loads =
    let same : first_refusal looked.number loaded.number ≡ loaded.number
    = first_is looked.number loaded.number (λ refusal. ap (λ (s : Seen). s.number) (look_refuses_load_refuses sees refusal loads).0) in
    rw same loads.verdict

-- which is that of its numbers here.
pub in_a_row_order : (image : List ℕ) (lent : Contents) → numbers (image_demands image ++ contents_room (version_of image) (vertices_of image) (edges_of image) lent ∷ [])
    ≡ 10 ∷ 11 ∷ 1 ∷ 2 ∷ 12 ∷ 3 ∷ 4 ∷ 5 ∷ 7 ∷ 20 ∷ 8 ∷ []
in_a_row_order image lent = refl
