-- Two superbubbles are nested or apart, in any graph. Assumes nothing.
use Prim.Native.Nat.{ℕ}
use mathlib.Core.Path.{sym}
use mathlib.Core.Logic.{◌≢◌, ◌↔◌, ◌⊎◌, inl, inr, ⊎_elim, ⊎_map}
use native.Mathlib.Decide.{ℕ_discrete}
use Rattle.bubble.specs.Superbubble.{F, F.start, F.on, Bubbloid, Superbubble, Interior, Outermost}
use Rattle.bubble.proofs.Facts.{last_edge, closed_backward, no_edge_to_entrance, no_edge_from_exit}
use Rattle.bubble.proofs.Pairs.{cross}
use Rattle.bubble.proofs.Unique.{entrance_unique}

-- U of s, t lies in the interior of x, y
abbrev pub Nested : (ℕ → ℕ → Type 0) → ℕ → ℕ → ℕ → ℕ → Type 0
Nested E s t x y = (v : ℕ) → F E s t v → Interior E x y v

-- no vertex interior to s, t is in U of x, y
abbrev pub Apart : (ℕ → ℕ → Type 0) → ℕ → ℕ → ℕ → ℕ → Type 0
Apart E s t x y = (v : ℕ) → Interior E s t v → F E x y v → ⊥

pub interior_decided : {E : ℕ → ℕ → Type 0} {s t v : ℕ} → Dec (F E s t v) → Dec (Interior E s t v)
interior_decided (no n) = no (λ i. n i.inside)
interior_decided {s = s} {t = t} {v = v} (yes f) =
    elim (ℕ_discrete v s) [
      | yes q ↦ no (λ i. i.not_entrance q)
      | no n ↦ elim (ℕ_discrete v t) [ yes q ↦ no (λ i. i.not_exit q) | no m ↦ yes (record { inside = f; not_entrance = n; not_exit = m }) ]
    ]

module _ {E : ℕ → ℕ → Type 0} {s t x y : ℕ} where
  -- a superbubble whose entrance is interior to another is nested in it
  pub nest : Superbubble E s t → Superbubble E x y → Interior E x y s → Nested E s t x y
  nest p q i v f =
      record {
        inside = along f;
        not_entrance = λ e. no_entrance (rw e at f);
        not_exit = λ e. no_exit (rw e at f);
      }
    where
      no_exit : F E s t y → ⊥
      no_exit g =
          elim (ℕ_discrete y t) [
            | yes e ↦ i.not_entrance (entrance_unique (rw (← e) at p) q)
            | no n ↦ p.minimality y g n (cross p.bubbloid q.bubbloid i.inside g i.not_exit)
          ]

      along : {v : ℕ} → F E s t v → F E x y v
      along start = i.inside
      along (on g n e) = on (along g) (λ k. no_exit (rw k at g)) e

      no_entrance : F E s t x → ⊥
      no_entrance g = let (u, h, n, e) = last_edge g (λ k. i.not_entrance (sym k)) in no_edge_to_entrance q.bubbloid (along h) e

  -- the path to a vertex interior to s, t from another entrance passes s, or begins inside
  pub passes : {v : ℕ} → Bubbloid E s t → Interior E s t v → F E x y v → (F E x y s × (s ≢ y)) ⊎ (F E s t x × (x ≢ t))
  passes b i start = inr (i.inside, i.not_exit)
  passes b i (on {u = u} g n e) =
      let h : F E s t u = closed_backward b i.inside i.not_entrance e in
      elim (ℕ_discrete u s) [
        | yes q ↦ inl (rw q at g, rw q at n)
        | no k ↦ passes b (record { inside = h; not_entrance = k; not_exit = λ q. no_edge_from_exit b i.inside (rw q at e) }) g
      ]

module _ {E : ℕ → ℕ → Type 0} {s t x y : ℕ} (p : Superbubble E s t) (q : Superbubble E x y) (different : s ≢ x) where
  -- where a vertex is interior to one and in the other, an entrance is interior to the other one
  meets : {v : ℕ} → Interior E s t v → F E x y v → Interior E x y s ⊎ Interior E s t x
  meets i f = ⊎_map one other (passes p.bubbloid i f)
    where
      one : F E x y s × (s ≢ y) → Interior E x y s
      one h = record { inside = h.0; not_entrance = different; not_exit = h.1 }

      other : F E s t x × (x ≢ t) → Interior E s t x
      other h = record { inside = h.0; not_entrance = λ e. different (sym e); not_exit = h.1 }

  -- of two different superbubbles with a vertex interior to one and in the other, one lies in the interior of the other
  pub meets_nested : {v : ℕ} → Interior E s t v → F E x y v → Nested E s t x y ⊎ Nested E x y s t
  meets_nested i f = ⊎_map (nest p q) (nest q p) (meets i f)

-- a superbubble is outermost exactly if its entrance is interior to no other
pub outermost_by_entrance : {E : ℕ → ℕ → Type 0} {s t : ℕ} → Outermost E s t ↔ (Superbubble E s t × ((x y : ℕ) → Superbubble E x y → Interior E x y s → ⊥))
outermost_by_entrance {s = s} = (
  λ o. (o.superbubble, λ x y q i. o.in_no_other x y q (nest o.superbubble q i)),
  λ h. record { superbubble = h.0; in_no_other = λ x y q n. h.1 x y q (n s start) },
)

-- two different superbubbles are nested one way, or the other, or apart; only whether each entrance lies in the other's U has to be known
pub nested_or_apart : {E : ℕ → ℕ → Type 0} {s t x y : ℕ} → Superbubble E s t → Superbubble E x y → s ≢ x → Dec (F E x y s) → Dec (F E s t x)
    → Nested E s t x y ⊎ Nested E x y s t ⊎ (Apart E s t x y × Apart E x y s t)
nested_or_apart p q n c d =
    elim (interior_decided c) [
      | yes i ↦ inl (nest p q i)
      | no h ↦
          elim (interior_decided d) [
            | yes j ↦ inr (inl (nest q p j))
            | no k ↦ inr (inr (λ v i f. ⊎_elim h k (meets p q n i f), λ v i f. ⊎_elim k h (meets q p (λ e. n (sym e)) i f)))
          ]
    ]
