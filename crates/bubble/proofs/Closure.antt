-- All that the steps of a relation lead to, computed, for a relation whose steps end below n. Assumes nothing.
use Prim.Native.Nat.{ℕ, zero, suc, ◌+◌, ◌≤◌, ◌<◌}
use mathlib.Core.Path.{refl}
use mathlib.Core.Logic.{◌⊎◌, inl, inr, ⊎_elim}
use mathlib.Core.Bool.{Bool, not, ◌&&◌}
use mathlib.Core.List.Memᴰ
use mathlib.Core.List.{List, [], ◌∷◌, ◌++◌, append-nil, Memᴰ}
use native.Mathlib.Omega.{arith}
use lib.ListN.{length, length-append}
use Rattle.bubble.specs.Superbubble.{Walk, Walk.edge, Walk.more}
use Rattle.bubble.specs.Distinct.{Distinct}
use Rattle.bubble.proofs.Pigeonhole.{distinct_below, distinct_append, upto, distinct_upto, in_upto}
use Rattle.bubble.proofs.Reflect.{Decides, decided, decides_if, decides_not, decides_and, member, decides_member, sift, in_sift, of_sift, distinct_sift}

-- the steps from u that are not in seen
unfoldable unseen : (ℕ → ℕ → Bool) → ℕ → ℕ → List ℕ → List ℕ
unfolding sift member upto
unseen r n u seen = sift (λ v. r u v && not (member v seen)) (upto n)

-- follow at most k vertices of todo; seen is what todo was met with, and grows
unfoldable explore : (ℕ → ℕ → Bool) → ℕ → ℕ → List ℕ → List ℕ → List ℕ
unfolding unseen
explore r n zero todo seen = seen
explore r n (suc k) [] seen = seen
explore r n (suc k) (u ∷ todo) seen = let new = unseen r n u seen in explore r n k (new ++ todo) (new ++ seen)

-- what one step or more lead to from u
unfoldable pub closure : (ℕ → ℕ → Bool) → ℕ → ℕ → List ℕ
unfolding explore
closure r n u = let first = unseen r n u [] in explore r n n first first

length_positive : {v : ℕ} {l : List ℕ} → Memᴰ v l → 0 < length l
length_positive (Memᴰ.head q) = omega arith
length_positive (Memᴰ.tail m) = omega arith

-- every number
abbrev pub Any : ℕ → Type 0
Any v = Unit {0}

module _ {R : ℕ → ℕ → Type 0} {r : ℕ → ℕ → Bool} (d : (u v : ℕ) → Decides (R u v) (r u v)) (n : ℕ) (below : (u v : ℕ) → R u v → v < n) where
  -- whether v is a step from u that is not in seen
  decides_unseen : (u : ℕ) (seen : List ℕ) (v : ℕ) → Decides (R u v × (Memᴰ v seen → ⊥)) (r u v && not (member v seen))
  decides_unseen u seen v = decides_and (d u v) (decides_not (decides_member v seen))

  of_unseen : {v : ℕ} (u : ℕ) (seen : List ℕ) → Memᴰ v (unseen r n u seen) → R u v × (Memᴰ v seen → ⊥)
  unfolding unseen
  of_unseen u seen m = (of_sift (decides_unseen u seen) (upto n) m).1

  in_unseen : {v : ℕ} (u : ℕ) (seen : List ℕ) → R u v → Memᴰ v (unseen r n u seen ++ seen)
  unfolding unseen
  in_unseen {v} u seen e =
      elim (decided (decides_member v seen)) [
        | yes m ↦ Memᴰ.append_right (unseen r n u seen) m
        | no k ↦ Memᴰ.append_left seen (in_sift (decides_unseen u seen) (upto n) (in_upto n (below u v e)) (e, k))
      ]

  distinct_unseen : (u : ℕ) (seen : List ℕ) → Distinct (unseen r n u seen)
  unfolding unseen
  distinct_unseen u seen = distinct_sift (decides_unseen u seen) (distinct_upto n)

  -- what exploring keeps: each seen vertex waits in todo or has its steps in seen, and the turns left are enough
  record Exploring (k : ℕ) (todo seen : List ℕ) : Type 0 where
    distinct : Distinct seen
    bounded : (v : ℕ) → Memᴰ v seen → v < n
    settled : (u : ℕ) → Memᴰ u seen → Memᴰ u todo ⊎ ((v : ℕ) → R u v → Memᴰ v seen)
    enough : length todo + n ≤ k + length seen

  exploring_on : {k u : ℕ} {todo seen : List ℕ} → Exploring (suc k) (u ∷ todo) seen → Exploring k (unseen r n u seen ++ todo) (unseen r n u seen ++ seen)
  exploring_on {k} {u} {todo} {seen} c =
      let new = unseen r n u seen in
      record {
        distinct = distinct_append (distinct_unseen u seen) c.distinct (λ v i. (of_unseen u seen i).1);
        bounded = λ v m. ⊎_elim (λ i. below u v (of_unseen u seen i).0) (c.bounded v) (Memᴰ.append_cases new m);
        settled = λ v m. ⊎_elim (λ i. inl (Memᴰ.append_left todo i)) (seen_settled v) (Memᴰ.append_cases new m);
        enough = omega (arith, c.enough, length-append new todo, length-append new seen);
      }
    where
      seen_settled : (v : ℕ) → Memᴰ v seen → Memᴰ v (unseen r n u seen ++ todo) ⊎ ((w : ℕ) → R v w → Memᴰ w (unseen r n u seen ++ seen))
      seen_settled v i = ⊎_elim waiting (λ h. inr (λ w e. Memᴰ.append_right (unseen r n u seen) (h w e))) (c.settled v i)
        where
          waiting : Memᴰ v (u ∷ todo) → Memᴰ v (unseen r n u seen ++ todo) ⊎ ((w : ℕ) → R v w → Memᴰ w (unseen r n u seen ++ seen))
          waiting j = ⊎_elim (λ q. inr (λ w e. in_unseen u seen (rw q at e))) (λ k. inl (Memᴰ.append_right (unseen r n u seen) k)) (Memᴰ.cases_cons j)

  nothing_waits : {u : ℕ} {todo seen : List ℕ} → Exploring zero todo seen → Memᴰ u todo → ⊥
  nothing_waits c m = omega (arith, c.enough, distinct_below n c.distinct c.bounded, length_positive m)

  -- what exploring ends with has its own steps
  explore_closed : (k : ℕ) (todo seen : List ℕ) → Exploring k todo seen → (u v : ℕ) → Memᴰ u (explore r n k todo seen) → R u v → Memᴰ v (explore r n k todo seen)
  unfolding explore
  explore_closed zero todo seen c u v m e = ⊎_elim (λ i. absurd (nothing_waits c i)) (λ h. h v e) (c.settled u m)
  explore_closed (suc k) [] seen c u v m e = ⊎_elim (λ i. absurd (Memᴰ.not-nil i)) (λ h. h v e) (c.settled u m)
  explore_closed (suc k) (x ∷ todo) seen c u v m e = explore_closed k (unseen r n x seen ++ todo) (unseen r n x seen ++ seen) (exploring_on c) u v m e

  explore_keeps : {v : ℕ} (k : ℕ) (todo seen : List ℕ) → Memᴰ v seen → Memᴰ v (explore r n k todo seen)
  unfolding explore
  explore_keeps zero todo seen m = m
  explore_keeps (suc k) [] seen m = m
  explore_keeps (suc k) (x ∷ todo) seen m = explore_keeps k (unseen r n x seen ++ todo) (unseen r n x seen ++ seen) (Memᴰ.append_right (unseen r n x seen) m)

  -- what exploring ends with is led to
  explore_sound : {s v : ℕ} (k : ℕ) (todo seen : List ℕ) → ((w : ℕ) → Memᴰ w todo → Walk R Any s w) → ((w : ℕ) → Memᴰ w seen → Walk R Any s w)
      → Memᴰ v (explore r n k todo seen) → Walk R Any s v
  unfolding explore
  explore_sound {v = v} zero todo seen f g m = g v m
  explore_sound {v = v} (suc k) [] seen f g m = g v m
  explore_sound {s} (suc k) (x ∷ todo) seen f g m =
      let new = unseen r n x seen in
      let h : (w : ℕ) → Memᴰ w new → Walk R Any s w = λ w i. more (f x (Memᴰ.head refl)) (of_unseen x seen i).0 tt in
      let waiting : (w : ℕ) → Memᴰ w (new ++ todo) → Walk R Any s w = λ w i. ⊎_elim (h w) (λ j. f w (Memᴰ.tail j)) (Memᴰ.append_cases new i) in
      let met : (w : ℕ) → Memᴰ w (new ++ seen) → Walk R Any s w = λ w i. ⊎_elim (h w) (g w) (Memᴰ.append_cases new i) in
      explore_sound k (new ++ todo) (new ++ seen) waiting met m

  -- the closure of u holds what one step or more lead to, and nothing else
  pub decides_closure : (u v : ℕ) → Decides (Walk R Any u v) (member v (closure r n u))
  unfolding closure
  decides_closure u v = decides_if (sound, complete) (decides_member v (closure r n u))
    where
      first : List ℕ
      first = unseen r n u []

      ready : Exploring n first first
      ready = record {
        distinct = distinct_unseen u [];
        bounded = λ w m. below u w (of_unseen u [] m).0;
        settled = λ w m. inl m;
        enough = omega arith;
      }

      reached : (w : ℕ) → Memᴰ w first → Walk R Any u w
      reached w m = edge tt (of_unseen u [] m).0 tt

      sound : Memᴰ v (explore r n n first first) → Walk R Any u v
      sound = explore_sound n first first reached reached

      complete : {w : ℕ} → Walk R Any u w → Memᴰ w (explore r n n first first)
      complete (edge a e b) = explore_keeps n first first (rw append-nil at (in_unseen u [] e))
      complete {w} (more {v = x} p e b) = explore_closed n first first ready x w (complete p) e
