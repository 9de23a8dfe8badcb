-- What a fold does to a superbubble that is skipped: it looks the same from inside, with the same counts, unless a candidate around it or inside it is folded. Over any graph
-- and for any rule. Assumes nothing.
use Prim.Native.Nat.{ℕ}
use mathlib.Core.Path.{◌≡◌}
use mathlib.Core.Logic.{◌≢◌, ⊎_elim}
use mathlib.Core.List.{Memᴰ}
use Rattle.bubble.specs.Superbubble.{F, F.start, F.on, Interior, Superbubble}
use Rattle.bubble.proofs.Fewer.{F-fewer}
use Rattle.bubble.proofs.Unique.{exit_unique}
use Rattle.bubble.proofs.Nesting.{Nested, Apart, meets_nested}
use Rattle.rule.specs.Lists.{Graph, Counts}
use Rattle.rule.specs.Fold.{Rule, Item, Applied}
use Rattle.rule.specs.Rings.{Skipped, RingCandidate}
use Rattle.rule.specs.Laws.{SameInside}
use Rattle.rule.proofs.Others.{no_common_edge}

module _ {R : Rule} {E E' : Graph} {c c' : Counts} {b : ℕ} (a : Applied RingCandidate R E c b E' c') {x y : ℕ} (skipped : Skipped E x y)
    (around : (i : Item) → Memᴰ i a.items → Nested E x y i.entrance i.exit → ⊥)
    (within : (i : Item) → Memᴰ i a.items → Nested E i.entrance i.exit x y → ⊥) where
  module _ (i : Item) (m : Memᴰ i a.items) where
    folded : Superbubble E i.entrance i.exit
    folded = (a.fit i m).candidate.passable.superbubble

    -- a folded one is another
    differs : i.entrance ≢ x
    differs q =
        let t : i.exit ≡ y = exit_unique (rw q at folded) skipped.superbubble in
        (a.fit i m).candidate.passable.not_skipped (rw (q, t) skipped)

    -- and apart
    apart : Apart E i.entrance i.exit x y
    apart v inner f = ⊎_elim (within i m) (around i m) (meets_nested folded skipped.superbubble differs inner f)

  stays : (u v : ℕ) → F E x y u → F E x y v → E u v → E' u v
  stays u v f g e =
      (a.edges u v).1 (e, λ i m p r. absurd (no_common_edge (folded i m) (a.fit i m).candidate.passable.interior skipped.superbubble (apart i m) u v f g p r e))

  whole : {v : ℕ} → F E x y v → F E' x y v
  whole start = start
  whole (on {u = u} {v = v} f n e) = on (whole f) n (stays u v f (on f n e) e)

  -- the same U, with the same edges inside it,
  pub skipped_inside : SameInside E E' x y
  skipped_inside = record {
    set = λ v. (whole, F-fewer (λ u w e. ((a.edges u w).0 e).0));
    edges = λ u v f g. (stays u v f g, λ e. ((a.edges u v).0 e).0);
  }

  -- and the same counts of its interior
  pub skipped_counts : (v : ℕ) → Interior E x y v → c' v ≡ c v
  skipped_counts v inner = a.untouched v (λ i m h. apart i m v h inner.inside)
