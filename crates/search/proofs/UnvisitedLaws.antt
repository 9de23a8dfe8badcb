-- Laws of how many edges lead to a vertex from vertices that are not visited. Assumes nothing.
use Rattle.std.proofs.Common.{ℕ, zero, suc, ◌+◌, ◌≤◌, ◌<◌, ◌≡◌, refl, sym, ◌∙◌, ap, ◌≢◌, List, [], add-one, arith, length, get_or, take}
use native.Mathlib.Decide.{dec_lt}
use lib.Seq.{take-length}
use Rattle.table.specs.Table.{vertices, row, In, Edge, WellFormed}
use Rattle.table.proofs.RowLaws.{targets_to_next}
use Rattle.parents.specs.Parents.{occurrences}
use Rattle.parents.proofs.OccurrenceLaws.{same_yes, same_no, occurrences_append, occurrences_more, in_occurs, occurs_in}
use Rattle.walking.specs.Walking.{sum_below}
use Rattle.walking.proofs.SumLaws.{sum_change, sum_term, sum_least, sum_some, sum_less, less_sum}
use Rattle.search.specs.Steps.{unless, unvisited}

unless_none : (x y : ℕ) → x ≡ 0 → unless x y ≡ y
unless_none zero y q = refl
unless_none (suc x) y q = absurd (omega arith)

unless_some : (x y : ℕ) → 0 < x → unless x y ≡ 0
unless_some zero y h = absurd (omega arith)
unless_some (suc x) y h = refl

unless_least : (x y : ℕ) → unless x y ≤ y
unless_least zero y = omega arith
unless_least (suc x) y = omega arith

module _ (starts targets : List ℕ) where
  edge_occurs : {u v : ℕ} → Edge starts targets u v → 0 < occurrences v (row starts targets u)
  edge_occurs e = in_occurs e.listed

  occurs_edge : {u v : ℕ} → u < vertices starts → 0 < occurrences v (row starts targets u) → Edge starts targets u v
  occurs_edge {u} {v} l h = record { vertex = l; listed = occurs_in v (row starts targets u) h }

  -- where no edge comes from outside, each parent is visited
  pub none_unvisited : (visited : List ℕ) {u v : ℕ} → unvisited starts targets visited v ≡ 0 → Edge starts targets u v → In u visited
  none_unvisited visited {u} {v} q e =
      elim (dec_lt 0 (occurrences u visited)) [
        | yes h ↦ occurs_in u visited h
        | no n ↦
            let term : ℕ → ℕ = λ x. unless (occurrences x visited) (occurrences v (row starts targets x)) in
            let here : term u ≡ occurrences v (row starts targets u) = unless_none (occurrences u visited) (occurrences v (row starts targets u)) (omega arith) in
            absurd (omega (arith, sum_term (vertices starts) term u e.vertex, edge_occurs e))
      ]

  -- where some edge comes from outside, there is a parent that is not visited
  pub unvisited_parent : (visited : List ℕ) {v : ℕ} → 0 < unvisited starts targets visited v → (u : ℕ) × Edge starts targets u v × (In u visited → ⊥)
  unvisited_parent visited {v} h =
      let term : ℕ → ℕ = λ x. unless (occurrences x visited) (occurrences v (row starts targets x)) in
      let (u, l, m) = sum_some (vertices starts) term h in (
        u,
        occurs_edge l (omega (arith, unless_least (occurrences u visited) (occurrences v (row starts targets u)))),
        λ i. omega (arith, unless_some (occurrences u visited) (occurrences v (row starts targets u)) (in_occurs i)),
      )

  pub unvisited_least : (visited : List ℕ) (v : ℕ) → unvisited starts targets visited v ≤ unvisited starts targets [] v
  unvisited_least visited v =
      sum_least (vertices starts) (λ x. unless (occurrences x visited) (occurrences v (row starts targets x))) (λ x. occurrences v (row starts targets x))
      (λ x. unless_least (occurrences x visited) (occurrences v (row starts targets x)))

  -- a visited parent makes a difference
  pub visited_less : (visited : List ℕ) {u v : ℕ} → In u visited → Edge starts targets u v → unvisited starts targets visited v < unvisited starts targets [] v
  visited_less visited {u} {v} i e =
      less_sum (vertices starts) (λ x. unless (occurrences x visited) (occurrences v (row starts targets x))) (λ x. occurrences v (row starts targets x)) u e.vertex
      (λ x. unless_least (occurrences x visited) (occurrences v (row starts targets x)))
      (omega (arith, unless_some (occurrences u visited) (occurrences v (row starts targets u)) (in_occurs i), edge_occurs e))

  -- a difference is made by a visited parent
  pub less_visited : (visited : List ℕ) {v : ℕ} → unvisited starts targets visited v < unvisited starts targets [] v → (u : ℕ) × In u visited × Edge starts targets u v
  less_visited visited {v} h =
      let (u, l, m) = sum_less (vertices starts) (λ x. unless (occurrences x visited) (occurrences v (row starts targets x))) (λ x. occurrences v (row starts targets x)) h in
      elim (dec_lt 0 (occurrences u visited)) [
        | yes k ↦ (u, occurs_in u visited k, occurs_edge l (omega arith))
        | no n ↦ absurd (omega (arith, unless_none (occurrences u visited) (occurrences v (row starts targets u)) (omega arith)))
      ]

  -- one vertex more is visited
  pub visit_more : (order : List ℕ) (k : ℕ) → k < length order → get_or order k 0 < vertices starts → occurrences (get_or order k 0) (take k order) ≡ 0 → (v : ℕ)
      → unvisited starts targets (take (k + 1) order) v + occurrences v (row starts targets (get_or order k 0)) ≡ unvisited starts targets (take k order) v
  visit_more order k h l q v =
      let u = get_or order k 0 in
      let term : List ℕ → ℕ → ℕ = λ visited x. unless (occurrences x visited) (occurrences v (row starts targets x)) in
      let others : (x : ℕ) → x ≢ u → term (take (k + 1) order) x ≡ term (take k order) x =
      λ x n.
      let o : occurrences x (take (k + 1) order) ≡ occurrences x (take k order) = omega (arith, occurrences_more x order k h, same_no u x (λ e. n (sym e))) in
      ap (λ y. unless y (occurrences v (row starts targets x))) o in
      let before : term (take k order) u ≡ occurrences v (row starts targets u) = unless_none (occurrences u (take k order)) (occurrences v (row starts targets u)) q in
      let after : term (take (k + 1) order) u ≡ 0 =
      unless_some (occurrences u (take (k + 1) order)) (occurrences v (row starts targets u)) (omega (arith, occurrences_more u order k h, same_yes u u refl)) in
      omega (arith, sum_change (vertices starts) (term (take (k + 1) order)) (term (take k order)) u l others)

  module _ (well : WellFormed starts targets) where
    -- the rows of the first k vertices are the targets up to start k
    rows_sum : (v k : ℕ) → k ≤ vertices starts → sum_below k (λ u. occurrences v (row starts targets u)) ≡ occurrences v (take (get_or starts k 0) targets)
    rows_sum v zero h = rw well.starts_fit.begins
    rows_sum v (suc k) h =
        let here : k < vertices starts = omega arith in
        let parts : occurrences v (take (get_or starts (k + 1) 0) targets) ≡ occurrences v (take (get_or starts k 0) targets) + occurrences v (row starts targets k) =
        ap (occurrences v) (targets_to_next well k here) ∙ occurrences_append v (take (get_or starts k 0) targets) (row starts targets k) in
        rw (← add-one k) (omega (arith, rows_sum v k (omega arith), parts))

    -- where nothing is visited, all edges count
    pub unvisited_all : (v : ℕ) → unvisited starts targets [] v ≡ occurrences v targets
    unvisited_all v = rows_sum v (vertices starts) (omega arith) ∙ rw well.starts_fit.ends (ap (occurrences v) (take-length targets))
