-- A superbubble apart from a folded one is clear of it, and looks the same from inside after. Assumes nothing.
use Prim.Native.Nat.{ℕ}
use mathlib.Core.Path.{refl, sym}
use mathlib.Core.Logic.{◌≢◌}
use native.Mathlib.Decide.{ℕ_discrete}
use Rattle.bubble.specs.Superbubble.{F, F.start, F.on, Superbubble, Interior}
use Rattle.bubble.proofs.Facts.{exit_inside, no_edge_from_exit}
use Rattle.bubble.proofs.Unique.{entrance_unique}
use Rattle.bubble.proofs.Nesting.{Apart}
use Rattle.rule.specs.Lists.{Graph}
use Rattle.rule.specs.Laws.{SameInside}
use Rattle.bubble.proofs.Fewer.{F-fewer}
use Rattle.rule.proofs.Thread.{Thread, Clear}
use Rattle.rule.proofs.Carry.{fewer, carried_outside}

-- an entrance with an interior has an edge into it
interior_child : {E : Graph} {s t v : ℕ} → F E s t v → v ≢ s → v ≢ t → (w : ℕ) × Interior E s t w × E s w
interior_child start n m = absurd (n refl)
interior_child {s = s} (on {u = u} {v = v} f l e) n m =
    elim (ℕ_discrete u s) [
      | yes q ↦ (v, record { inside = on f l e; not_entrance = n; not_exit = m }, rw q at e)
      | no k ↦ interior_child f k l
    ]

pub apart_clear : {E : Graph} {s t x y : ℕ} → Superbubble E s t → Superbubble E x y → s ≢ x → Apart E s t x y → Clear E s t x y
apart_clear {s = s} {t = t} {x = x} {y = y} p q n a = record {
  start = λ f m. a x (record { inside = f; not_entrance = λ e. n (sym e); not_exit = m }) start;
  stop = λ f m.
      elim (ℕ_discrete y t) [
        | yes e ↦ n (entrance_unique p (rw e at q))
        | no k ↦ a y (record { inside = f; not_entrance = m; not_exit = k }) (exit_inside q.bubbloid)
      ];
}

-- no edge inside x, y has both its ends in the U of a superbubble with an interior that is apart from it
pub no_common_edge : {E : Graph} {s t x y : ℕ} → Superbubble E s t → (v : ℕ) × Interior E s t v → Superbubble E x y → Apart E s t x y
    → (u v : ℕ) → F E x y u → F E x y v → F E s t u → F E s t v → E u v → ⊥
no_common_edge {s = s} {t = t} {y = y} o (w, i) q a u v f g p r e =
    elim (ℕ_discrete u t) [
      | yes m ↦ no_edge_from_exit o.bubbloid r (rw m at e)
      | no m ↦
          elim (ℕ_discrete u s) [
            | no l ↦ a u (record { inside = p; not_entrance = l; not_exit = m }) f
            | yes l ↦
                elim (ℕ_discrete u y) [
                  | yes j ↦ no_edge_from_exit q.bubbloid g (rw j at e)
                  | no j ↦ let (z, h, d) = interior_child i.inside i.not_entrance i.not_exit in a z h (on f j (rw l d))
                ]
          ]
    ]

pub apart_inside : {E E' : Graph} {s t x y : ℕ} {N : Graph} → Thread E E' s t N → (v : ℕ) × Interior E s t v → Superbubble E x y → s ≢ x
    → Apart E s t x y → SameInside E E' x y
apart_inside {E} {E'} {s} {t} {x} {y} k inner q n a = record {
  set = λ v. (λ f. carried_outside k (apart_clear k.superbubble q n a) f (λ j. a v j f), F-fewer (fewer k));
  edges = λ u v f g. (λ e. (k.edges u v).1 (e, λ p r. absurd (no_common_edge k.superbubble inner q a u v f g p r e)), fewer k u v);
}
