-- Facts of items that fit a graph: arm and dropped are the interior, and no two items share a vertex of it. Assumes nothing.
use Prim.Native.Nat.{ℕ}
use mathlib.Core.Path.{◌≡◌, subst}
use mathlib.Core.Logic.{◌⊎◌, ⊎_elim}
use mathlib.Core.List.Memᴰ
use mathlib.Core.List.{◌++◌, Memᴰ}
use native.Mathlib.Decide.{ℕ_discrete}
use Rattle.bubble.specs.Superbubble.{F.start, Interior, Superbubble}
use Rattle.bubble.proofs.Facts.{exit_inside}
use Rattle.bubble.proofs.Unique.{exit_unique}
use Rattle.bubble.specs.Distinct.{Distinct}
use Rattle.bubble.proofs.Pigeonhole.{distinct_append}
use Rattle.bubble.proofs.Reflect.{decided, decides_member}
use Rattle.rule.specs.Lists.{Graph, CandidateSet, Counts}
use Rattle.rule.specs.Kept.{Arm}
use Rattle.rule.specs.Fold.{Rule, Item, Fits}
use Rattle.rule.specs.Laws.{RuleLaws, CandidateLaws}
use Rattle.rule.proofs.Arms.{inner_distinct}
use Rattle.rule.proofs.Listings.{listing_unique, rising_distinct}

module _ {G : Graph → Type 0} {C : CandidateSet} {R : Rule} (L : CandidateLaws G C) (M : RuleLaws R) {E : Graph} {c : Counts} where
  module _ {i : Item} (f : Fits C R E c i) where
    pub item_superbubble : Superbubble E i.entrance i.exit
    item_superbubble = L.superbubble f.candidate

    pub item_arm : Arm E i.entrance i.exit i.arm
    item_arm = M.path item_superbubble f.kept

    pub dropped_inner : {v : ℕ} → Memᴰ v i.dropped → Interior E i.entrance i.exit v
    dropped_inner {v} m = ((f.rest.holds v).0 m).0

    pub listed_interior : {v : ℕ} → Memᴰ v (i.arm ++ i.dropped) → Interior E i.entrance i.exit v
    listed_interior {v} m = ⊎_elim (item_arm.inner v) dropped_inner (Memᴰ.append_cases i.arm m)

    pub interior_listed : {v : ℕ} → Interior E i.entrance i.exit v → Memᴰ v (i.arm ++ i.dropped)
    interior_listed {v} h =
        elim (decided (decides_member v i.arm)) [
          | yes m ↦ Memᴰ.append_left i.dropped m
          | no n ↦ Memᴰ.append_right i.arm ((f.rest.holds v).1 (h, n))
        ]

    pub arm_distinct_inner : Distinct i.arm
    arm_distinct_inner = inner_distinct i.arm item_superbubble item_arm

    pub interior_distinct : Distinct (i.arm ++ i.dropped)
    interior_distinct = distinct_append arm_distinct_inner (rising_distinct f.rest.rising) (λ v m k. ((f.rest.holds v).0 k).1 m)

  -- the entrance determines the item
  pub item_unique : {i j : Item} → Fits C R E c i → Fits C R E c j → i.entrance ≡ j.entrance → i ≡ j
  item_unique {i} {j} f h p =
      let q : i.exit ≡ j.exit = exit_unique (item_superbubble f) (rw p (item_superbubble h)) in
      let r : i.arm ≡ j.arm = M.one (item_superbubble f) f.kept (rw (p, q) h.kept) in
      let d : i.dropped ≡ j.dropped = listing_unique f.rest (rw (p, q, r) h.rest) in
      λ k. record { entrance = p k; exit = q k; arm = r k; dropped = d k }

  -- so does an interior vertex
  pub one_item : {i j : Item} {v : ℕ} → G E → Fits C R E c i → Fits C R E c j → Interior E i.entrance i.exit v → Interior E j.entrance j.exit v → i ≡ j
  one_item {i} {j} g f h a b =
      elim (ℕ_discrete i.entrance j.entrance) [
        | yes q ↦ item_unique f h q
        | no n ↦ absurd (L.apart g f.candidate h.candidate n a b.inside)
      ]

  -- neither end of an item is interior to one
  pub ends_outside : {i j : Item} {v : ℕ} → G E → Fits C R E c i → Fits C R E c j → (v ≡ i.entrance) ⊎ (v ≡ i.exit) → Interior E j.entrance j.exit v → ⊥
  ends_outside {i} {j} {v} g f h end inner =
      elim (ℕ_discrete j.entrance i.entrance) [
        | yes q ↦
            let same : j ≡ i = item_unique h f q in
            let own : Interior E i.entrance i.exit v = subst (λ (x : Item). Interior E x.entrance x.exit v) same inner in
            ⊎_elim own.not_entrance own.not_exit end
        | no n ↦ L.apart g h.candidate f.candidate n inner (⊎_elim (λ q. rw q start) (λ q. rw q (exit_inside (item_superbubble f).bubbloid)) end)
      ]
