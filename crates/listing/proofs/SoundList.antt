-- The list of a well-formed table: where there is room nothing is refused, there are at most n superbubbles, and each is of two vertices. Assumes nothing.
use Rattle.std.proofs.Common.{ℕ, zero, suc, ◌+◌, ◌*◌, ◌/◌, ◌%◌, ◌≤◌, ◌<◌, ◌≡◌, refl, ap, ◌∙◌, inr, List, [], ◌∷◌, ◌++◌, add-one, arith, length, get_or, take, drop, take_at}
use native.Mathlib.Decide.{ℕ_discrete}
use Rattle.table.specs.Table.{Rows, size, Sound}
use Rattle.table.specs.Table.{Below as NumbersBelow}
use Rattle.table.specs.Numbers.{table_demands}
use Rattle.table.proofs.VerdictLaws.{goes_on, verdict_unique}
use Rattle.table.proofs.Accepted.{table_met, well_formed_accepted}
use Rattle.bubble.specs.Superbubble.{Superbubble}
use Rattle.bubble.proofs.Number.{Below, entrance_below, exit_below}
use Rattle.listing.specs.Listing.{Found, Listed, list_room, ListedAt, ListDone}

-- a well-formed table with room for its list is accepted
pub sound_accepted : {rows : Rows} {out out' : List ℕ} {answer : Found} → Sound rows → 2 * size rows ≤ length out → ListDone rows out out' answer
    → answer.number ≡ 0
sound_accepted {rows} {out} {answer = answer} ok room done =
    verdict_unique (table_demands rows ++ list_room rows out ∷ []) answer.number 0 done.verdict
    (goes_on (table_demands rows) (list_room rows out ∷ []) 0 (table_met rows (well_formed_accepted rows ok)) (inr (room, refl)))

module _ {P : ℕ → ℕ → Type 0} {out out' : List ℕ} {found : ℕ} (at : ListedAt P out out' found) where
  -- the front of the slice is the list
  pub front_is_list : take (2 * found) out' ≡ at.pairs
  front_is_list = ap (take (2 * found)) at.front ∙ take_at at.pairs (drop (2 * found) out) (2 * found) at.listed.long

  pub front_listed : Listed P (take (2 * found) out') found
  front_listed = rw front_is_list at.listed

module _ {E : ℕ → ℕ → Type 0} {n found : ℕ} {pairs : List ℕ} (below : Below E n) (listed : Listed (Superbubble E) pairs found) where
  -- the entrances rise, so that entrance i is at least i
  entrance_late : (i : ℕ) → i < found → i ≤ get_or pairs (2 * i) 0
  entrance_late zero h = omega arith
  entrance_late (suc i) h = rw (← add-one i) (let before = entrance_late i (omega arith) in let rise = listed.rising i (omega arith) in omega arith)

  -- at most n superbubbles
  pub listed_most : found ≤ n
  listed_most = most found refl
    where
      most : (k : ℕ) → k ≡ found → k ≤ n
      most zero e = omega arith
      most (suc i) e =
          let late = entrance_late i (omega arith) in
          let entrance = entrance_below below (listed.sound i (omega arith)).bubbloid in
          omega arith

  -- each entrance and each exit is below n
  pub listed_below : NumbersBelow n pairs
  listed_below k k-in =
      let i = k / 2 in
      let bubble = (listed.sound i (omega (arith, listed.long))).bubbloid in
      elim (ℕ_discrete (k % 2) 0) [
        | yes even ↦ let at : k ≡ 2 * i = omega arith in rw at (entrance_below below bubble)
        | no odd ↦ let at : k ≡ 2 * i + 1 = omega arith in rw at (exit_below below bubble)
      ]
