-- What sets version 2 apart, sentence by sentence (docs/RULES.md, Fold and Image): which path its fold keeps, and what its images have more. That nothing else differs is
-- in the statements that hold for both: each takes the version or the way of choosing as an argument. Assumes nothing.
use Prim.Native.Nat.{ℕ, ◌+◌, ◌*◌, ◌≤◌}
use mathlib.Core.Path.{◌≡◌, refl, sym, ap, ◌∙◌}
use mathlib.Core.Logic.{◌≢◌, inl, inr}
use mathlib.Core.List.Memᴰ
use mathlib.Core.List.{List, [], ◌∷◌, ◌++◌, Memᴰ, append-nil}
use native.Mathlib.Decide.{dec_lt}
use native.Mathlib.Omega.{arith}
use lib.ListN.{length}
use Rattle.table.specs.Limits.{vertex_limit}
use Rattle.table.specs.Table.{Table, size, edges, SoundTable}
use Rattle.table.specs.Numbers.{room_for}
use Rattle.layout.specs.Bytes.{spelled}
use Rattle.layout.specs.Image.{Contents, image_length, largest_image, header_of, image_of}
use Rattle.layout.proofs.LengthLaws.{lengths_one, lengths_two}
use Rattle.image.specs.Looking.{contents_room}
use Rattle.writing.specs.Writing.{Extent, image_room, contents_demands, Written}
use Rattle.rule.specs.declared.Choosing.TheVariants.{Sum, Weakest}
use Rattle.rule.specs.declared.Mode.{Mode}
use Rattle.rule.specs.declared.Rings.{Rings}
use Rattle.rule.specs.Lists.{Graph, Counts, sum}
use Rattle.rule.specs.Kept.{Arm, Earlier, least, weakest, Best}
use Rattle.rule.specs.Fold.{kept_shares, Item, Fits}
use Rattle.rule.specs.Tables.{count_of}
use Rattle.rule.specs.Way.{kind_of, candidates_of, the_fold}
use Rattle.rule.proofs.BestLaws.{weakest_never_bare}
use Rattle.rule.proofs.TheFold.{candidates_lawful}
use Rattle.promises.specs.Calls.{FoldCall}
use Rattle.promises.specs.Weakest.{Smallest}
use Rattle.promises.specs.InARow.{numbers}
use Rattle.promises.proofs.LookAndLoad.{never}
use Rattle.promises.proofs.Shared.{applied}

-- ---- The kept path.

-- a listed vertex has a smallest count, and one more than it is what the path scores
least_smallest : (c : Counts) (v : ℕ) (l : List ℕ) → Smallest c (v ∷ l) (least c v l)
least_smallest c v [] =
    record { weak = v; listed = Memᴰ.head refl; its_count = refl; none_less = λ w m. alone m }
  where
    alone : {w : ℕ} → Memᴰ w (v ∷ []) → c v ≤ c w
    alone (Memᴰ.head q) = rw q (omega arith)
    alone (Memᴰ.tail m) = absurd (Memᴰ.not-nil m)
least_smallest c v (u ∷ l) =
    let rest = least_smallest c u l in
    elim (dec_lt (c v) (least c u l)) [
      | yes h ↦ record { weak = v; listed = Memᴰ.head refl; its_count = omega arith; none_less = λ w m. none_less rest m }
      | no h ↦ record { weak = rest.weak; listed = Memᴰ.tail rest.listed; its_count = omega (arith, rest.its_count); none_less = λ w m. none_less rest m }
    ]
  where
    none_less : Smallest c (u ∷ l) (least c u l) → {w : ℕ} → Memᴰ w (v ∷ u ∷ l) → least c v (u ∷ l) ≤ c w
    none_less rest (Memᴰ.head q) = rw q (omega arith)
    none_less rest {w} (Memᴰ.tail m) = omega (arith, rest.none_less w m)

smallest_scores : (c : Counts) (l : List ℕ) {k : ℕ} → Smallest c l k → weakest c l ≡ 1 + k
smallest_scores c [] s = absurd (Memᴰ.not-nil s.listed)
smallest_scores c (v ∷ l) s =
    let t = least_smallest c v l in
    omega (arith, s.its_count, t.its_count, s.none_less t.weak t.listed, t.none_less s.weak s.listed)

module _ {score : Counts → List ℕ → ℕ} {E : Graph} {c : Counts} {s t : ℕ} {arm : List ℕ} (kept : Best score E c s t arm) where
  -- no path scores more than the kept one
  most : (l : List ℕ) → Arm E s t l → score c l ≤ score c arm
  most l path = elim (dec_lt (score c arm) (score c l)) [ yes h ↦ absurd (kept.unbeaten l path (inl h)) | no h ↦ omega arith ]

-- the folds of version 1, and those of version 2
abbrev version_1 : Rings → Mode
version_1 rings = record { rings = rings; by = Sum }

abbrev version_2 : Rings → Mode
version_2 rings = record { rings = rings; by = Weakest }

module _ (rings : Rings) {table table' : Table} {budget : ℕ} (ok : SoundTable table) (kind : kind_of rings (edges table.rows)) where
  -- Of each superbubble that the fold of version 2 folds, with rings refused or taken,
  module _ (call : FoldCall (the_fold (version_2 rings)) table budget table') (i : Item) (m : Memᴰ i (applied (version_2 rings) ok kind call).items) where
    fits : Fits (candidates_of rings) (kept_shares Weakest) (edges table.rows) (count_of table.counts) i
    fits = (applied (version_2 rings) ok kind call).fit i m

    -- the bare edge is never kept:
    pub bare_edge_never_kept : i.arm ≢ []
    bare_edge_never_kept none =
        let (v, inside) = (candidates_lawful rings).interior fits.candidate in
        weakest_never_bare ((candidates_lawful rings).superbubble fits.candidate) inside (rw none at fits.kept)

    -- the inner vertices of the kept path have a smallest count,
    pub kept_smallest : (k : ℕ) × Smallest (count_of table.counts) i.arm k
    kept_smallest = of i.arm bare_edge_never_kept
      where
        of : (l : List ℕ) → l ≢ [] → (k : ℕ) × Smallest (count_of table.counts) l k
        of [] some = absurd (some refl)
        of (v ∷ l) some = (least (count_of table.counts) v l, least_smallest (count_of table.counts) v l)

    module _ {k : ℕ} (smallest : Smallest (count_of table.counts) i.arm k) {l : List ℕ} (path : Arm (edges table.rows) i.entrance i.exit l)
        {j : ℕ} (other : Smallest (count_of table.counts) l j) where
      -- no other path from the entrance to the exit has a larger one,
      pub kept_largest_smallest : j ≤ k
      kept_largest_smallest = omega (
        arith,
        most fits.kept l path,
        smallest_scores (count_of table.counts) i.arm smallest,
        smallest_scores (count_of table.counts) l other,
      )

      -- and where one has the same, the kept path has the smaller vertex at the first place where the two differ.
      pub kept_first_of_equals : j ≡ k → Earlier (l ++ (i.exit ∷ [])) (i.arm ++ (i.exit ∷ [])) → ⊥
      kept_first_of_equals same earlier =
          let equal : weakest (count_of table.counts) l ≡ weakest (count_of table.counts) i.arm
          = smallest_scores (count_of table.counts) l other ∙ ap (λ (x : ℕ). 1 + x) same ∙ sym (smallest_scores (count_of table.counts) i.arm smallest) in
          fits.kept.unbeaten l path (inr (equal, earlier))

  -- Version 1 keeps the sum: no path has a larger one than the kept path.
  pub kept_largest_sum : (call : FoldCall (the_fold (version_1 rings)) table budget table') (i : Item) → Memᴰ i (applied (version_1 rings) ok kind call).items
      → (l : List ℕ) → Arm (edges table.rows) i.entrance i.exit l → sum (count_of table.counts) l ≤ sum (count_of table.counts) i.arm
  kept_largest_sum call i m = most ((applied (version_1 rings) ok kind call).fit i m).kept

-- ---- The image.

-- An image of version 1 is byte for byte as before: header, starts, targets, counts,
pub version_1_bytes : (table : Table) → image_of 1 (record { table = table; lengths = [] })
    ≡ header_of 1 (size table.rows) (length table.rows.targets) ++ spelled 4 table.rows.starts ++ spelled 4 table.rows.targets ++ spelled 8 table.counts
version_1_bytes table =
    append-nil (header_of 1 (size table.rows) (length table.rows.targets) ++ spelled 4 table.rows.starts ++ spelled 4 table.rows.targets ++ spelled 8 table.counts)

pub version_1_length : (n m : ℕ) → image_length 1 n m ≡ 13 + 4 * (n + 1) + 4 * m + 8 * n
version_1_length n m = omega (arith, lengths_one n)

-- and one of version 2 is longer by 2n bytes,
pub version_2_length : (n m : ℕ) → image_length 2 n m ≡ 13 + 4 * (n + 1) + 4 * m + 8 * n + 2 * n
version_2_length n m = omega (arith, lengths_two n)

-- at most 61,457 in all.
pub largest_length : largest_image ≡ 61457
largest_length = omega (arith, lengths_two vertex_limit)

-- Of the lengths slice load asks nothing in version 1 (and stores nothing there, `version_1_leaves_lengths` of LookAndLoad),
pub version_1_asks_no_lengths : (n m : ℕ) (lent : Contents) → (room_for n m lent.table).met → (contents_room 1 n m lent).met
version_1_asks_no_lengths n m lent room = (room, omega (arith, lengths_one n))

-- and n in version 2.
pub version_2_asks_n_lengths : (n m : ℕ) (lent : Contents) → (contents_room 2 n m lent).met → n ≤ length lent.lengths
version_2_asks_n_lengths n m lent room = omega (arith, lengths_two n, room.1)

-- Writing asks in this order, in both versions,
pub write_order : (version : ℕ) (contents : Contents) (image : List ℕ)
    → numbers (contents_demands version contents ++ image_room version contents.table.rows image ∷ []) ≡ 1 ∷ 2 ∷ 3 ∷ 4 ∷ 5 ∷ 6 ∷ 7 ∷ 20 ∷ 8 ∷ []
write_order version contents image = refl

-- and in version 1, which has no lengths, it never gives 20.
pub version_1_never_twenty : {table : Table} {image image' : List ℕ} {answer : Extent} → Written 1 (record { table = table; lengths = [] }) image image' answer
    → answer.number ≢ 20
version_1_never_twenty {table} {image} done =
    let contents : Contents = record { table = table; lengths = [] } in
    never 20 (contents_demands 1 contents ++ image_room 1 table.rows image ∷ []) (λ e. omega arith) (
      inl (λ e. omega arith),
      (
        inl (λ e. omega arith),
        (
          inl (λ e. omega arith),
          (
            inl (λ e. omega arith),
            (
              inl (λ e. omega arith),
              (inl (λ e. omega arith), (inl (λ e. omega arith), (inr (λ k h. absurd (let no : ⊥ = omega arith in no)), (inl (λ e. omega arith), tt)))),
            ),
          ),
        ),
      ),
    )
    done.verdict
