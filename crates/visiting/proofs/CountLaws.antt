-- The number of unvisited vertices, which falls with each vertex that is put on the path and never rises. Assumes nothing.
use Rattle.std.proofs.Common.{ℕ, zero, suc, ◌+◌, ◌≤◌, ◌<◌, ◌≡◌, List, arith, length, get_or, set, get_or-set_same, get_or-set_other}
use native.Mathlib.Decide.{ℕ_discrete}

-- 1 for the colour 0, else 0
abbrev one : ℕ → ℕ
one zero = 1
one (suc colour) = 0

-- how many of the vertices below n are unvisited
unfoldable pub unvisited : ℕ → List ℕ → ℕ
unvisited zero colours = 0
unvisited (suc n) colours = unvisited n colours + one (get_or colours n 0)

one_most : (colour : ℕ) → one colour ≤ 1
one_most zero = omega arith
one_most (suc colour) = omega arith

-- where no vertex becomes unvisited, the number does not rise
fewer : (n : ℕ) (colours colours' : List ℕ) → ((v : ℕ) → one (get_or colours' v 0) ≤ one (get_or colours v 0)) → unvisited n colours' ≤ unvisited n colours
unfolding unvisited
fewer zero colours colours' h = omega arith
fewer (suc n) colours colours' h = omega (arith, fewer n colours colours' h, h n)

-- and where one of them is visited, it falls
falls : (n : ℕ) (colours colours' : List ℕ) (v : ℕ) → v < n → one (get_or colours' v 0) < one (get_or colours v 0)
    → ((u : ℕ) → one (get_or colours' u 0) ≤ one (get_or colours u 0)) → unvisited n colours' < unvisited n colours
unfolding unvisited
falls zero colours colours' v l s h = absurd (omega arith)
falls (suc n) colours colours' v l s h =
    elim (ℕ_discrete v n) [
      | yes q ↦ omega (arith, rw q at s, fewer n colours colours' h)
      | no k ↦ omega (arith, falls n colours colours' v (omega arith) s h, h n)
    ]

-- there are no more of them than vertices
pub unvisited_most : (n : ℕ) (colours : List ℕ) → unvisited n colours ≤ n
unfolding unvisited
unvisited_most zero colours = omega arith
unvisited_most (suc n) colours = omega (arith, unvisited_most n colours, one_most (get_or colours n 0))

-- a vertex is put on the path
pub enter_unvisited : (n : ℕ) (colours : List ℕ) (v : ℕ) → v < n → v < length colours → get_or colours v 0 ≡ 0 → unvisited n (set colours v 1) < unvisited n colours
enter_unvisited n colours v l i q =
    let here : one (get_or (set colours v 1) v 0) < one (get_or colours v 0) = rw (get_or-set_same colours v 1 0 i, q) (omega arith) in
    falls n colours (set colours v 1) v l here
    (λ u. elim (ℕ_discrete u v) [ yes e ↦ rw e (omega arith) | no k ↦ rw (get_or-set_other colours v u 1 0 k) (omega arith) ])

-- a vertex is done
pub leave_unvisited : (n : ℕ) (colours : List ℕ) (v : ℕ) → v < length colours → unvisited n (set colours v 2) ≤ unvisited n colours
leave_unvisited n colours v i =
    fewer n colours (set colours v 2)
    (λ u. elim (ℕ_discrete u v) [ yes e ↦ rw (e, get_or-set_same colours v 2 0 i) (omega arith) | no k ↦ rw (get_or-set_other colours v u 2 0 k) (omega arith) ])
