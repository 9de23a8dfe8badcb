-- One exit for each entrance and one entrance for each exit; a superbubble turned round is a superbubble. Assumes nothing.
use Prim.Native.Nat.{ℕ}
use mathlib.Core.Path.{◌≡◌, sym}
use mathlib.Core.Logic.{◌≢◌, ◌↔◌}
use native.Mathlib.Decide.{ℕ_discrete}
use Rattle.bubble.specs.Superbubble.{F, Bubbloid, Superbubble}
use Rattle.bubble.proofs.Walks.{F-within}
use Rattle.bubble.proofs.Reversal.{reversed, inside_reversed, bubbloid_reversed}
use Rattle.bubble.proofs.Facts.{exit_inside}
use Rattle.bubble.proofs.Pairs.{front_pair, rest_pair}

-- no exit in U other than t serves s
abbrev pub MinimalByExit : (ℕ → ℕ → Type 0) → ℕ → ℕ → Type 0
MinimalByExit E s t = (x : ℕ) → F E s t x → x ≢ t → Bubbloid E s x → ⊥

-- no entrance in U other than s serves t
abbrev pub MinimalByEntrance : (ℕ → ℕ → Type 0) → ℕ → ℕ → Type 0
MinimalByEntrance E s t = (x : ℕ) → F E s t x → x ≢ s → Bubbloid E x t → ⊥

-- minimality by varying the exit and by varying the entrance choose the same pairs
pub minimality_either : {E : ℕ → ℕ → Type 0} {s t : ℕ} → Bubbloid E s t → MinimalByExit E s t ↔ MinimalByEntrance E s t
minimality_either b = (λ m x f n c. m x f c.distinct (front_pair b c f n), λ m x f n c. m x f (λ q. c.distinct (sym q)) (rest_pair b c f n))

turned : {E : ℕ → ℕ → Type 0} {s t : ℕ} → Superbubble E s t → Superbubble (reversed E) t s
turned p =
    let b = p.bubbloid in
    record {
      bubbloid = bubbloid_reversed.0 b;
      minimality = λ x f n c. (minimality_either b).0 p.minimality x ((inside_reversed b).1 f) n (bubbloid_reversed.1 c);
    }

pub superbubble_reversed : {E : ℕ → ℕ → Type 0} {s t : ℕ} → Superbubble E s t ↔ Superbubble (reversed E) t s
superbubble_reversed = (turned, turned)

pub exit_unique : {E : ℕ → ℕ → Type 0} {s t t' : ℕ} → Superbubble E s t → Superbubble E s t' → t ≡ t'
exit_unique {E} {s} {t} {t'} p q =
    elim (ℕ_discrete t t') [
      | yes e ↦ e
      | no n ↦
          let outside : F E s t' t → ⊥ = λ f. q.minimality t f n p.bubbloid in
          absurd (p.minimality t' (F-within outside (exit_inside q.bubbloid)) (λ e. n (sym e)) q.bubbloid)
    ]

pub entrance_unique : {E : ℕ → ℕ → Type 0} {s s' t : ℕ} → Superbubble E s t → Superbubble E s' t → s ≡ s'
entrance_unique p q = exit_unique (superbubble_reversed.0 p) (superbubble_reversed.0 q)
