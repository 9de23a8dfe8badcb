-- One folded superbubble s, t without its list: N u v says that v follows u on the kept path. All that is asked of it is the same in the graph turned round. Assumes nothing.
use Prim.Native.Nat.{ℕ}
use mathlib.Core.Path.{◌≡◌}
use mathlib.Core.Logic.{◌≢◌, ◌↔◌}
use Rattle.bubble.specs.Superbubble.{F, Reaches, Bubbloid, Superbubble}
use Rattle.bubble.proofs.Reversal.{reversed, reaches_reversed, inside_reversed}
use Rattle.bubble.proofs.Unique.{superbubble_reversed}
use Rattle.rule.specs.Lists.{Graph}

-- E' is E with, of the edges inside U, only those of the thread N that leads from s to t
pub record Thread (E E' : Graph) (s t : ℕ) (N : Graph) : Type 0 where
  pub superbubble : Superbubble E s t
  pub edges : (u v : ℕ) → E' u v ↔ (E u v × (F E s t u → F E s t v → N u v))
  pub joined : {u v : ℕ} → N u v → E u v
  pub tail_inside : {u v : ℕ} → N u v → F E s t u
  pub head_inside : {u v : ℕ} → N u v → F E s t v
  pub one_after : {u v w : ℕ} → N u v → N u w → v ≡ w
  pub one_before : {u v w : ℕ} → N v u → N w u → v ≡ w
  pub from_entrance : {u v : ℕ} → N u v → Reaches N s u
  pub to_exit : {u v : ℕ} → N u v → Reaches N v t
  pub whole : Reaches N s t
  pub passed_once : E s t → Reaches E t s → ⊥

pub thread_reversed : {E E' : Graph} {s t : ℕ} {N : Graph} → Thread E E' s t N → Thread (reversed E) (reversed E') t s (reversed N)
thread_reversed {E} {E'} {s} {t} {N} k =
    let b = k.superbubble.bubbloid in
    record {
      superbubble = superbubble_reversed.0 k.superbubble;
      edges = λ u v. (
        λ e. let (a, h) = (k.edges v u).0 e in (a, λ f g. h ((inside_reversed b).1 g) ((inside_reversed b).1 f)),
        λ h. (k.edges v u).1 (h.0, λ f g. h.1 ((inside_reversed b).0 g) ((inside_reversed b).0 f)),
      );
      joined = k.joined;
      tail_inside = λ n. (inside_reversed b).0 (k.head_inside n);
      head_inside = λ n. (inside_reversed b).0 (k.tail_inside n);
      one_after = k.one_before;
      one_before = k.one_after;
      from_entrance = λ n. reaches_reversed (k.to_exit n);
      to_exit = λ n. reaches_reversed (k.from_entrance n);
      whole = reaches_reversed k.whole;
      passed_once = λ e r. k.passed_once e (reaches_reversed r);
    }

-- the pair x, y may have t for its entrance and s for its exit, and no other vertex of U
pub record Clear (E : Graph) (s t x y : ℕ) : Type 0 where
  pub start : F E s t x → x ≢ t → ⊥
  pub stop : F E s t y → y ≢ s → ⊥

pub clear_reversed : {E : Graph} {s t x y : ℕ} → Bubbloid E s t → Clear E s t x y → Clear (reversed E) t s y x
clear_reversed b o = record { start = λ f. o.stop ((inside_reversed b).1 f); stop = λ f. o.start ((inside_reversed b).1 f) }
