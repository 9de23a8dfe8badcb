-- Each demand behind a number is decided on any content, so that every table, image and room is given a number. Assumes nothing.
use Prim.Native.Nat.{ℕ, zero, suc, ◌+◌, ◌-◌, ◌≤◌, ◌<◌}
use mathlib.Core.Path.{◌≡◌, refl, ap, ap₂}
use mathlib.Core.Logic.{◌⊎◌, inl, inr, ⊎_elim}
use mathlib.Core.List.{List, [], ◌∷◌, ◌++◌}
use native.Mathlib.Omega.{arith}
use native.Mathlib.Decide.{ℕ_discrete, dec_le, dec_lt, map_dec}
use lib.ListN.{length, get_or, take, drop}
use Rattle.table.specs.Verdict.{Demand, Verdict, AllMet}
use Rattle.table.specs.Limits.{vertex_limit, start_limit, edge_limit, read_limit}
use Rattle.table.specs.Table.{vertices, row, Rises, Below, StartsFit, RowsRise, count_sum, Rows, Table, size, edges, Sound}
use Rattle.table.specs.Numbers.{sum_fits_demand, table_demands, count_demands, room_for}
use Rattle.table.proofs.RowLaws.{edges_below}
use Rattle.layout.specs.Lengths.{length_count, Positive, no_zero}
use Rattle.layout.specs.Image.{mark, Contents, image_length, version_of, vertices_of, edges_of, lengths_of, table_of}
use Rattle.image.specs.Looking.{header_demands, body_demands, image_demands, contents_room}
use Rattle.writing.specs.Writing.{one_each, contents_demands}
use Rattle.bubble.proofs.Reflect.{decided, decides_test}
use Rattle.bubble.proofs.Closure.{decides_closure}
use Rattle.bubble.proofs.Walks.{walk_first}
use Rattle.rule.specs.Way.{asked_of}
use Rattle.rule.specs.declared.Rings.{Rings}
use Rattle.rule.specs.declared.Rings.TheVariants.{Refused, Taken}
use Rattle.rule.proofs.CandidatesListed.{some_decided}
use Rattle.bubble.specs.Cycle.{Anywhere, Cyclic}
use Rattle.bubble.specs.Superbubble.{Walk}
use Rattle.parents.proofs.OccurrenceLaws.{in_decided}

-- each demand is decided where those before it are met
abbrev pub DecidedInTurn : List Demand → Type 0
DecidedInTurn [] = Unit {0}
DecidedInTurn (d ∷ rest) = Dec d.met × (d.met → DecidedInTurn rest)

-- such demands give a number
pub gives_number : (demands : List Demand) → DecidedInTurn demands → (r : ℕ) × Verdict demands r
gives_number [] d = (0, refl)
gives_number (demand ∷ rest) d =
    elim d.0 [
      | yes met ↦ let (r, v) = gives_number rest (d.1 met) in (r, inr (met, v))
      | no unmet ↦ (demand.number, inl (unmet, refl))
    ]

-- demands and further ones
pub decided_then : (first rest : List Demand) → DecidedInTurn first → (AllMet first → DecidedInTurn rest) → DecidedInTurn (first ++ rest)
decided_then [] rest d later = later tt
decided_then (demand ∷ first) rest d later = (d.0, λ met. decided_then first rest (d.1 met) (λ all. later (met, all)))

pub both : {P Q : Type 0} → Dec P → Dec Q → Dec (P × Q)
both (yes p) (yes q) = yes (p, q)
both (yes p) (no n) = no (λ h. n h.1)
both (no n) d = no (λ h. n h.0)

either : {P Q : Type 0} → Dec P → Dec Q → Dec (P ⊎ Q)
either (yes p) d = yes (inl p)
either (no n) (yes q) = yes (inr q)
either (no n) (no m) = no (⊎_elim n m)

not_decided : {P : Type 0} → Dec P → Dec (P → ⊥)
not_decided (yes p) = no (λ n. n p)
not_decided (no n) = yes n

-- what is decided of each number is decided of all below n
every_below : {P : ℕ → Type 0} → ((k : ℕ) → Dec (P k)) → (n : ℕ) → Dec ((k : ℕ) → k < n → P k)
every_below d zero = yes (λ k h. absurd (let no : ⊥ = omega arith in no))
every_below {P} d (suc n) =
    elim (both (every_below d n) (d n)) [
      | yes h ↦ yes (λ k l. elim (ℕ_discrete k n) [ yes q ↦ rw q h.1 | no other ↦ h.0 k (omega arith) ])
      | no h ↦ no (λ all. h (λ k l. all k (omega arith), all n (omega arith)))
    ]

below_decided : (n : ℕ) (xs : List ℕ) → Dec (Below n xs)
below_decided n xs = every_below (λ k. dec_lt (get_or xs k 0) n) (length xs)

rises_decided : (xs : List ℕ) → Dec (Rises xs)
rises_decided xs =
    map_dec (λ h k l. h k (omega arith)) (λ h k l. h k (omega arith)) (every_below (λ k. dec_lt (get_or xs k 0) (get_or xs (k + 1) 0)) (length xs - 1))

starts_decided : (starts : List ℕ) (m : ℕ) → Dec (StartsFit starts m)
starts_decided starts m =
    let climbs = every_below (λ v. dec_le (get_or starts v 0) (get_or starts (v + 1) 0)) (length starts - 1) in
    map_dec (λ h. record { begins = h.0; climbs = λ v l. h.1.0 v (omega arith); ends = h.1.1 }) (λ h. (h.begins, (λ v l. h.climbs v (omega arith), h.ends)))
    (both (ℕ_discrete (get_or starts 0 0) 0) (both climbs (ℕ_discrete (get_or starts (vertices starts) 0) m)))

rows_decided : (starts targets : List ℕ) → Dec (RowsRise starts targets)
rows_decided starts targets = every_below (λ v. rises_decided (row starts targets v)) (vertices starts)

same_decided : (xs ys : List ℕ) → Dec (xs ≡ ys)
same_decided [] [] = yes refl
same_decided [] (y ∷ ys) = no (λ q. omega (arith, ap length q))
same_decided (x ∷ xs) [] = no (λ q. omega (arith, ap length q))
same_decided (x ∷ xs) (y ∷ ys) =
    map_dec (λ h. ap₂ {C = List ℕ} (λ a b. a ∷ b) h.0 h.1) (λ q. (ap (λ (l : List ℕ). get_or l 0 0) q, ap (drop 1) q)) (both (ℕ_discrete x y) (same_decided xs ys))

pub edge_decided : (rows : Rows) (u v : ℕ) → Dec (edges rows u v)
edge_decided rows u v =
    map_dec (λ h. record { vertex = h.0; listed = h.1 }) (λ e. (e.vertex, e.listed))
    (both (dec_lt u (size rows)) (in_decided v (row rows.starts rows.targets u)))

-- whether a well-formed table has a directed cycle
cycle_decided : (rows : Rows) → Sound rows → Dec (Cyclic (edges rows))
cycle_decided rows ok =
    let back : (v : ℕ) → Dec (Walk (edges rows) Anywhere v v)
    = λ v. decided (decides_closure (λ x y. decides_test (edge_decided rows x y)) (size rows) (λ x y e. (edges_below ok x y e).1) v v) in
    map_dec (λ h. record { vertex = h.0; back = h.1 }) (λ c. (c.vertex, c.back)) (some_decided (size rows) back (λ v w. (walk_first w).1.vertex))

-- 3, 4 and 5,
fit_decided : (rows : Rows) → Dec (StartsFit rows.starts (length rows.targets))
fit_decided rows = starts_decided rows.starts (length rows.targets)

targets_decided : (rows : Rows) → Dec (Below (size rows) rows.targets)
targets_decided rows = below_decided (size rows) rows.targets

-- 1 to 5,
pub table_decided : (rows : Rows) → DecidedInTurn (table_demands rows)
table_decided rows = (
  both (dec_lt 0 (length rows.starts)) (dec_le (length rows.starts) start_limit),
  λ _. (
    dec_le (length rows.targets) edge_limit,
    λ _. (fit_decided rows, λ _. (targets_decided rows, λ _. (rows_decided rows.starts rows.targets, λ _. tt))),
  ),
)

-- 7 and 20,
sum_decided : (counts : List ℕ) → Dec (count_sum counts ≤ read_limit)
sum_decided counts = dec_le (count_sum counts) read_limit

positive_decided : (lengths : List ℕ) → Dec (Positive lengths)
positive_decided lengths = every_below (λ k. dec_lt 0 (get_or lengths k 0)) (length lengths)

-- 6 and 7,
pub counts_decided : (table : Table) → DecidedInTurn (count_demands table)
counts_decided table = (ℕ_discrete (length table.counts) (size table.rows), λ _. (sum_decided table.counts, λ _. tt))

-- 10, 11, 1, 2, 12,
header_decided : (image : List ℕ) → DecidedInTurn (header_demands image)
header_decided image = (
  both (dec_le 13 (length image)) (same_decided (take 3 image) mark),
  λ _. (
    either (ℕ_discrete (version_of image) 1) (ℕ_discrete (version_of image) 2),
    λ _. (
      dec_le (vertices_of image) vertex_limit,
      λ _. (dec_le (edges_of image) edge_limit, λ _. (ℕ_discrete (length image) (image_length (version_of image) (vertices_of image) (edges_of image)), λ _. tt)),
    ),
  ),
)

-- 3, 4, 5, 7, 20 of the contents of an image,
body_decided : (image : List ℕ) → DecidedInTurn (body_demands image)
body_decided image =
    let rows = (table_of image).rows in (
      fit_decided rows,
      λ _. (
        targets_decided rows,
        λ _. (
          rows_decided rows.starts rows.targets,
          λ _. (sum_decided (table_of image).counts, λ _. (positive_decided (lengths_of image), λ _. tt)),
        ),
      ),
    )

-- 1 to 7 and 20 of contents that are to be written,
pub contents_decided : (version : ℕ) (contents : Contents) → DecidedInTurn (contents_demands version contents)
contents_decided version contents =
    let table = contents.table in
    decided_then (table_demands table.rows) (one_each version contents ∷ sum_fits_demand table ∷ no_zero contents.lengths ∷ []) (table_decided table.rows) (λ _. (
      both (ℕ_discrete (length table.counts) (size table.rows)) (ℕ_discrete (length contents.lengths) (length_count version (size table.rows))),
      λ _. (sum_decided table.counts, λ _. (positive_decided contents.lengths, λ _. tt)),
    ))

-- and so all that is asked of an image,
pub image_decided : (image : List ℕ) → DecidedInTurn (image_demands image)
image_decided image = decided_then (header_demands image) (body_demands image) (header_decided image) (λ _. body_decided image)

-- 8, of the three slices that a table is written to,
pub room_decided : (n m : ℕ) (lent : Table) → Dec (room_for n m lent).met
room_decided n m lent =
    map_dec (λ h. (h.0, h.1.0, h.1.1)) (λ h. (h.0, (h.1, h.2)))
    (both (dec_le (n + 1) (length lent.rows.starts)) (both (dec_le m (length lent.rows.targets)) (dec_le n (length lent.counts))))

-- and of those that contents are loaded into,
pub contents_room_decided : (version n m : ℕ) (lent : Contents) → Dec (contents_room version n m lent).met
contents_room_decided version n m lent = both (room_decided n m lent.table) (dec_le (length_count version n) (length lent.lengths))

-- and 9, where rings are refused
pub rings_decided : (rings : Rings) (rows : Rows) → Sound rows → DecidedInTurn (asked_of rings rows)
rings_decided Refused rows ok = (not_decided (cycle_decided rows ok), λ _. tt)
rings_decided Taken rows ok = tt
