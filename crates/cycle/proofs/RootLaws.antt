-- Laws of the visits from one vertex after another: what holds once the first v of them are done. Assumes nothing.
use Rattle.std.proofs.Common.{ℕ, ◌+◌, ◌≤◌, ◌<◌, ◌≡◌, ◌⊎◌, inl, inr, ⊎_elim, List, get_or, arith}
use native.Mathlib.Decide.{ℕ_discrete}
use Rattle.table.specs.Table.{vertices}
use Rattle.table.proofs.RowLaws.{edges_below}
use Rattle.bubble.specs.Cycle.{Cyclic}
use Rattle.visiting.specs.declared.Turn.{Turn}
use Rattle.visiting.specs.Visits.{Followed, Prepared, Safe, RootDone, LeadsToCycle}
use Rattle.visiting.proofs.SafeLaws.{safe_no_cycle, safe_beyond, cyclic_fewer, leads_cyclic}

-- the first v vertices are done, and all that became done since the walk began is safe; what was done stays so, and none is on the path
pub record FirstDone (starts targets before : List ℕ) (from to : ℕ) (colours : List ℕ) (path : List Turn) (v : ℕ) : Type 0 where
  pub prepared : Prepared starts targets colours path
  pub stays : (u : ℕ) → 2 ≤ get_or before u 0 → 2 ≤ get_or colours u 0
  pub done : (u : ℕ) → u < v → 2 ≤ get_or colours u 0
  pub done_safe : (u : ℕ) → u < vertices starts → get_or before u 0 ≡ 0 → 2 ≤ get_or colours u 0 → Safe (Followed starts targets before from to) u

module _ {starts targets before : List ℕ} {from to : ℕ} (can : (u : ℕ) → u < vertices starts → (get_or before u 0 ≡ 0) ⊎ (2 ≤ get_or before u 0))
    {colours : List ℕ} {path : List Turn} {v : ℕ} (first : FirstDone starts targets before from to colours path v) where
  -- a vertex that is unvisited was so before
  was_unvisited : (u : ℕ) → u < vertices starts → get_or colours u 0 ≡ 0 → get_or before u 0 ≡ 0
  was_unvisited u l q = ⊎_elim (λ z. z) (λ d. absurd (omega (arith, q, first.stays u d))) (can u l)

  -- an edge that is followed now is followed from the beginning
  followed_before : (u w : ℕ) → Followed starts targets colours from to u w → Followed starts targets before from to u w
  followed_before u w e =
      let (l, m) = edges_below first.prepared.well_formed u w e.edge in
      record { edge = e.edge; leaves = was_unvisited u l e.leaves; enters = was_unvisited w m e.enters; other = e.other }

  -- so a cycle that a visit finds is one
  pub cycle_found : LeadsToCycle (Followed starts targets colours from to) v → Cyclic (Followed starts targets before from to)
  cycle_found met = cyclic_fewer followed_before (leads_cyclic met)

  -- an edge from an unvisited vertex leads to another one, or to one that is safe
  leads_on : (u w : ℕ) → get_or colours u 0 ≡ 0 → Followed starts targets before from to u w
      → (Followed starts targets colours from to u w × (get_or colours w 0 ≡ 0)) ⊎ Safe (Followed starts targets before from to) w
  leads_on u w q e =
      let (l, m) = edges_below first.prepared.well_formed u w e.edge in
      ⊎_elim (λ z. inl (record { edge = e.edge; leaves = q; enters = z; other = e.other }, z)) (λ h. inr (first.done_safe w m e.enters h))
      (first.prepared.none_on_path w m)

  -- so what a visit leaves safe is safe, and v is done, too
  pub visited_too : {colours' : List ℕ} {path' : List Turn} → RootDone starts targets colours from to v colours' path'
      → FirstDone starts targets before from to colours' path' (v + 1)
  visited_too was =
      record {
        prepared = was.prepared;
        stays = λ u d. was.stays u (first.stays u d);
        done = λ u l. elim (ℕ_discrete u v) [ yes q ↦ rw q was.done | no n ↦ was.stays u (first.done u (omega (arith, l, n))) ];
        done_safe = λ u l z d.
            ⊎_elim (λ q. safe_beyond {P = λ x. get_or colours x 0 ≡ 0} leads_on q (was.done_safe u l q d)) (λ h. first.done_safe u l z h) (first.prepared.none_on_path u l);
      }

  -- where all are done, there is no cycle
  pub none_closes : vertices starts ≤ v → Cyclic (Followed starts targets before from to) → ⊥
  none_closes l = safe_no_cycle (λ u w e. first.done_safe u e.edge.vertex e.leaves (first.done u (omega (arith, l, e.edge.vertex))))
