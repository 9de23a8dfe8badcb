-- The vertices of U in a set: added one after the other, and counted. Assumes nothing.
use Rattle.std.proofs.Common.{ℕ, ◌+◌, ◌<◌, ◌≡◌, refl, sym, ◌∙◌, ◌⊎◌, inl, inr, List, arith, length, get_or, take, replicate}
use native.Mathlib.Decide.{ℕ_discrete}
use Rattle.table.specs.Limits.{vertex_limit}
use Rattle.table.specs.Table.{vertices, In, Edge, Below, WellFormed}
use Rattle.table.proofs.RowLaws.{edges_below}
use Rattle.bubble.specs.Superbubble.{F}
use Rattle.bubble.proofs.Facts.{exit_inside}
use Rattle.bubble.proofs.Number.{inside_below}
use Rattle.vertices.specs.Vertices.{Member, Numbers, Added, Size}
use Rattle.vertices.proofs.SetLaws.{empty}
use Rattle.vertices.proofs.NumberLaws.{numbers_same}
use Rattle.parents.proofs.PlaceLaws.{in_take, take_in}
use Rattle.search.specs.Search.{Visited}
use Rattle.judging.specs.Steps.{AllAdded}

-- one of the vertices more was added
pub added_more : {words words' words'' : List ℕ} (vertices : List ℕ) (k : ℕ) → k < length vertices → AllAdded words words' (take k vertices)
    → Added words' words'' (get_or vertices k 0) → AllAdded words words'' (take (k + 1) vertices)
added_more {words} {words'} {words''} vertices k h before one =
    record { still = one.still; members = λ x. (there x, back x) }
  where
    longer : (x : ℕ) → In x (take k vertices) → In x (take (k + 1) vertices)
    longer x i =
        let (j, l, e) = take_in x vertices k (omega arith) i in
        rw e at (in_take vertices (k + 1) j (omega arith) (omega arith))

    there_from : (x : ℕ) → Member words' x ⊎ (x ≡ get_or vertices k 0) → Member words x ⊎ In x (take (k + 1) vertices)
    there_from x (inl m) = elim ((before.members x).0 m) [ inl old ↦ inl old | inr i ↦ inr (longer x i) ]
    there_from x (inr e) = inr (rw e (in_take vertices (k + 1) k (omega arith) (omega arith)))

    there : (x : ℕ) → Member words'' x → Member words x ⊎ In x (take (k + 1) vertices)
    there x m = there_from x ((one.members x).0 m)

    placed : (x j : ℕ) → j < k + 1 → get_or vertices j 0 ≡ x → Member words' x ⊎ (x ≡ get_or vertices k 0)
    placed x j l e =
        elim (ℕ_discrete j k) [
          | yes q ↦ inr (sym e ∙ rw q refl)
          | no n ↦ inl ((before.members x).1 (inr (rw e at (in_take vertices k j (omega arith) (omega arith)))))
        ]

    back : (x : ℕ) → Member words x ⊎ In x (take (k + 1) vertices) → Member words'' x
    back x (inl m) = (one.members x).1 (inl ((before.members x).1 (inl m)))
    back x (inr i) =
        let (j, l, e) = take_in x vertices (k + 1) (omega arith) i in
        (one.members x).1 (placed x j l e)

-- a set that held nothing, and then the visited and the exit, has as many members as there are
pub counted_all : (n : ℕ) {words words' visited : List ℕ} {exit r : ℕ} → AllAdded (replicate n 0) words visited → Added words words' exit → Size words' r
    → Numbers (λ v. In v visited ⊎ (v ≡ exit)) r
counted_all n {words} {words'} {visited} {exit} all one size = numbers_same size.number (λ v. (there v, back v))
  where
    there_from : (v : ℕ) → Member words v ⊎ (v ≡ exit) → In v visited ⊎ (v ≡ exit)
    there_from v (inl m) = elim ((all.members v).0 m) [ inl old ↦ absurd (empty n v old) | inr i ↦ inl i ]
    there_from v (inr e) = inr e

    there : (v : ℕ) → Member words' v → In v visited ⊎ (v ≡ exit)
    there v m = there_from v ((one.members v).0 m)

    back : (v : ℕ) → In v visited ⊎ (v ≡ exit) → Member words' v
    back v (inl i) = (one.members v).1 (inl ((all.members v).1 (inr i)))
    back v (inr e) = (one.members v).1 (inr e)

module _ {starts targets order : List ℕ} {s t k : ℕ} (visited : Visited starts targets order s t k) where
  -- the visited and the exit are U
  pub visited_numbers : {r : ℕ} → Numbers (λ v. In v (take k order) ⊎ (v ≡ t)) r → Numbers (F (Edge starts targets) s t) r
  visited_numbers n = numbers_same n (λ v. (there v, back v))
    where
      there : (v : ℕ) → In v (take k order) ⊎ (v ≡ t) → F (Edge starts targets) s t v
      there v (inl i) = ((visited.whole v).0 i).0
      there v (inr e) = rw e (exit_inside visited.superbubble.bubbloid)

      back : (v : ℕ) → F (Edge starts targets) s t v → In v (take k order) ⊎ (v ≡ t)
      back v f = elim (ℕ_discrete v t) [ yes e ↦ inr e | no other ↦ inl ((visited.whole v).1 (f, other)) ]

  -- the visited fit the set
  pub visited_below : WellFormed starts targets → s < vertices starts → Below vertex_limit (take k order)
  visited_below ok h i l =
      let v = get_or (take k order) i 0 in
      let inside = ((visited.whole v).0 (record { place = i; inside = l; stands = refl })).0 in
      omega (arith, inside_below (edges_below ok) h inside, ok.most_vertices)
