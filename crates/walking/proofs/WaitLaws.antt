-- Laws of which vertex waits: some but not all of its parents are visited. Assumes nothing.
use Rattle.std.proofs.Common.{ℕ, ◌≤◌, ◌<◌, ◌≡◌, ◌≢◌, arith, eq-eqb, ne_eqb, lt-ltb, le-ltb}
use native.Mathlib.Decide.{ℕ_discrete, dec_lt}
use Rattle.walking.specs.Walking.{ready, waits}

pub ready_yes : (pending : ℕ) → pending ≡ 1 → ready pending ≡ 1
unfolding ready
ready_yes pending q = rw (eq-eqb pending 1 q)

pub ready_no : (pending : ℕ) → pending ≢ 1 → ready pending ≡ 0
unfolding ready
ready_no pending n = rw (ne_eqb pending 1 n)

pub ready_most : (pending : ℕ) → ready pending ≤ 1
ready_most pending = elim (ℕ_discrete pending 1) [ yes q ↦ omega (arith, ready_yes pending q) | no n ↦ omega (arith, ready_no pending n) ]

pub waits_yes : (pending parents : ℕ) → 0 < pending → pending < parents → waits pending parents ≡ 1
unfolding waits
waits_yes pending parents h l = rw (ne_eqb pending 0 (λ q. omega arith), lt-ltb pending parents l)

pub waits_none : (pending parents : ℕ) → pending ≡ 0 → waits pending parents ≡ 0
unfolding waits
waits_none pending parents q = rw (eq-eqb pending 0 q)

pub waits_all : (pending parents : ℕ) → parents ≤ pending → waits pending parents ≡ 0
unfolding waits
waits_all pending parents l =
    elim (ℕ_discrete pending 0) [ yes q ↦ waits_none pending parents q | no n ↦ rw (ne_eqb pending 0 n, le-ltb pending parents l) ]

pub waits_most : (pending parents : ℕ) → waits pending parents ≤ 1
waits_most pending parents =
    elim (ℕ_discrete pending 0) [
      | yes q ↦ omega (arith, waits_none pending parents q)
      | no n ↦ elim (dec_lt pending parents) [
        | yes l ↦ omega (arith, waits_yes pending parents (omega arith) l)
        | no m ↦ omega (arith, waits_all pending parents (omega arith))
      ]
    ]

-- a vertex that does not wait, with a parent visited, has none pending
pub none_waits : (pending parents : ℕ) → waits pending parents ≡ 0 → pending < parents → pending ≡ 0
none_waits pending parents q l = elim (ℕ_discrete pending 0) [ yes e ↦ e | no n ↦ absurd (omega (arith, waits_yes pending parents (omega arith) l)) ]
