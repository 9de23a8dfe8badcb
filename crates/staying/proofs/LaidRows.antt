-- A table laid out from its rows, one after the other: where each row rises and has only vertices, it is well-formed, and these are its rows. Assumes nothing.
use Rattle.std.proofs.Common.{ℕ, zero, suc, ◌+◌, ◌-◌, ◌≤◌, ◌<◌, ◌≡◌, refl, ap, ◌∙◌, ◌↔◌, List, [], ◌∷◌, ◌++◌}
use Rattle.std.proofs.Common.{not-suc-le-zero, le_refl, add-one, arith, length, get_or, take, drop, length-append, length-drop, get_or-append-add, drop_at}
use native.Mathlib.Decide.{ℕ_discrete, dec_lt}
use lib.ListN.{get_or-append}
use lib.Seq.{get_or_at, take-length, take-append-le, drop-append-le}
use Rattle.table.specs.Limits.{vertex_limit, edge_limit}
use Rattle.table.specs.Table.{vertices, row, In, Edge, Rises, Below, StartsFit, WellFormed}

-- the first n rows, one after the other
abbrev pub laid : (ℕ → List ℕ) → ℕ → List ℕ
laid rows zero = []
laid rows (suc n) = laid rows n ++ rows n

-- the starts of the first n rows
abbrev pub begins : (ℕ → List ℕ) → ℕ → List ℕ
begins rows zero = []
begins rows (suc n) = begins rows n ++ length (laid rows n) ∷ []

module _ (rows : ℕ → List ℕ) where
  pub laid_more : (n : ℕ) → length (laid rows (suc n)) ≡ length (laid rows n) + length (rows n)
  laid_more n = length-append (laid rows n) (rows n)

  pub begins_length : (n : ℕ) → length (begins rows n) ≡ n
  begins_length zero = refl
  begins_length (suc n) = length-append (begins rows n) (length (laid rows n) ∷ []) ∙ omega (arith, begins_length n)

  begins_at : (n v : ℕ) → v < n → get_or (begins rows n) v 0 ≡ length (laid rows v)
  begins_at zero v h = absurd (not-suc-le-zero h)
  begins_at (suc n) v h =
      let last = length (laid rows n) ∷ [] in
      elim (ℕ_discrete v n) [
        | yes e ↦ rw e (get_or_at (begins rows n) (length (laid rows n)) [] 0 n (begins_length n))
        | no k ↦
            let l : v < n = omega arith in
            get_or-append (begins rows n) last 0 v (omega (arith, begins_length n)) ∙ begins_at n v l
      ]

  laid_climbs : (n v : ℕ) → v ≤ n → length (laid rows v) ≤ length (laid rows n)
  laid_climbs zero v h = let e : v ≡ 0 = omega arith in rw e (le_refl _)
  laid_climbs (suc n) v h =
      elim (ℕ_discrete v (suc n)) [
        | yes e ↦ rw e (le_refl _)
        | no k ↦ omega (arith, laid_climbs n v (omega arith), laid_more n)
      ]

  laid_row : (n v : ℕ) → v < n → take (length (rows v)) (drop (length (laid rows v)) (laid rows n)) ≡ rows v
  laid_row zero v h = absurd (not-suc-le-zero h)
  laid_row (suc n) v h =
      let from = length (laid rows v) in
      elim (ℕ_discrete v n) [
        | yes e ↦ rw e (ap (take (length (rows n))) (drop_at (laid rows n) (rows n) (length (laid rows n)) refl) ∙ take-length (rows n))
        | no k ↦
            let room = laid_climbs n (suc v) (omega arith) in
            ap (take (length (rows v))) (drop-append-le from (laid rows n) (rows n) (omega (arith, room, laid_more v)))
            ∙ take-append-le (length (rows v)) (drop from (laid rows n)) (rows n) (omega (arith, room, laid_more v, length-drop from (laid rows n)))
            ∙ laid_row n v (omega arith)
      ]

  laid_below : (b n : ℕ) → ((v : ℕ) → v < n → Below b (rows v)) → Below b (laid rows n)
  laid_below b zero each k h = absurd (not-suc-le-zero h)
  laid_below b (suc n) each k h =
      elim (dec_lt k (length (laid rows n))) [
        | yes l ↦ rw (get_or-append (laid rows n) (rows n) 0 k l) (laid_below b n (λ v i. each v (omega arith)) k l)
        | no l ↦
            let j = k - length (laid rows n) in
            let at : k ≡ length (laid rows n) + j = omega (arith, l) in
            rw (at, get_or-append-add (laid rows n) (rows n) j 0) (each n (omega arith) j (omega (arith, laid_more n)))
      ]

  module _ (n : ℕ) where
    -- the rows of the table are these
    row_laid : (v : ℕ) → v < n → row (begins rows (suc n)) (laid rows n) v ≡ rows v
    row_laid v h =
        let from = begins_at (suc n) v (omega arith) in
        let to : get_or (begins rows (suc n)) (v + 1) 0 ≡ length (laid rows v) + length (rows v) =
        begins_at (suc n) (v + 1) (omega arith) ∙ ap (λ (k : ℕ). length (laid rows k)) (add-one v) ∙ laid_more v in
        let size : length (laid rows v) + length (rows v) - length (laid rows v) ≡ length (rows v) = omega arith in
        rw (from, to, size) (laid_row n v h)

    vertices_laid : vertices (begins rows (suc n)) ≡ n
    vertices_laid = omega (arith, begins_length (suc n))

    -- and its edges lead to what stands in them
    pub edge_laid : (u v : ℕ) → Edge (begins rows (suc n)) (laid rows n) u v ↔ ((u < n) × In v (rows u))
    edge_laid u v = (
      λ e. let h : u < n = omega (arith, e.vertex, vertices_laid) in (h, rw (row_laid u h) at e.listed),
      λ i. record { vertex = omega (arith, i.0, vertices_laid); listed = rw (row_laid u i.0) i.1 },
    )

    starts_laid : StartsFit (begins rows (suc n)) (length (laid rows n))
    starts_laid =
        record {
          begins = begins_at (suc n) 0 (omega arith);
          climbs =
              λ v h.
              let l : v + 1 < suc n = omega (arith, begins_length (suc n)) in
              rw (begins_at (suc n) v (omega arith), begins_at (suc n) (v + 1) l) (laid_climbs (v + 1) v (omega arith));
          ends = rw vertices_laid (begins_at (suc n) n (omega arith));
        }

    pub well_formed_laid : n ≤ vertex_limit → length (laid rows n) ≤ edge_limit → ((v : ℕ) → v < n → Below n (rows v)) → ((v : ℕ) → v < n → Rises (rows v))
        → WellFormed (begins rows (suc n)) (laid rows n)
    well_formed_laid most_vertices most_edges below rises =
        record {
          some = omega (arith, begins_length (suc n));
          most_vertices = omega (arith, begins_length (suc n));
          most_edges = most_edges;
          starts_fit = starts_laid;
          targets_below = rw vertices_laid (laid_below n n below);
          rows_rise = λ v h. let l : v < n = omega (arith, vertices_laid) in rw (row_laid v l) (rises v l);
        }
