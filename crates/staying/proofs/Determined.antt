-- Two results that the contract of write_table allows coincide: the edge count and all memory lent. Assumes nothing.
use Rattle.std.proofs.Common.{ℕ, ◌+◌, ◌<◌, ◌≡◌, sym, ap, ap₂, ◌∙◌, List, ◌++◌, arith, length, get_or, drop}
use native.Mathlib.Decide.{dec_lt}
use Rattle.table.specs.Table.{Rows, size, edges}
use Rattle.rule.proofs.SameTable.{same_rows}
use Rattle.staying.specs.Staying.{EdgesStay, TableWritten}

module _ {rows : Rows} {next : List ℕ} where
  edges_same : {result₁ result₂ : Rows} → length result₁.starts ≡ length rows.starts → EdgesStay rows next result₁ → EdgesStay rows next result₂
      → (u v : ℕ) → edges result₁ u v → edges result₂ u v
  edges_same many a b u v e =
      let n = size rows in
      let h : u < n = omega (arith, e.vertex) in
      elim (dec_lt n (get_or next u 0)) [
        | yes above ↦ absurd (a.none u above v e)
        | no k ↦
            elim (dec_lt (get_or next u 0) n) [
              | yes below ↦ (b.one u h below v).1 ((a.one u h below v).0 e)
              | no l ↦ let q : get_or next u 0 ≡ n = omega (arith, k, l) in (b.whole u q v).1 ((a.whole u q v).0 e)
            ]
      ]

  pub write_table_determined : {lent after₁ after₂ : Rows} {r₁ r₂ : ℕ} → TableWritten rows next lent after₁ r₁ → TableWritten rows next lent after₂ r₂
      → (after₁ ≡ after₂) × (r₁ ≡ r₂)
  write_table_determined {lent} a b =
      let same = same_rows a.well_formed b.well_formed (a.as_many ∙ sym b.as_many)
      (λ u v. (edges_same a.as_many a.edges_stay b.edges_stay u v, edges_same b.as_many b.edges_stay a.edges_stay u v)) in
      let count = sym a.edge_count ∙ ap (λ (x : Rows). length x.targets) same ∙ b.edge_count in
      let starts = a.starts_front ∙ ap (λ (x : Rows). x.starts ++ drop (size rows + 1) lent.starts) same ∙ sym b.starts_front in
      let targets = a.targets_front ∙ ap₂ (λ (x : Rows) (k : ℕ). x.targets ++ drop k lent.targets) same count ∙ sym b.targets_front in
      (λ i. record { starts = starts i; targets = targets i }, count)
