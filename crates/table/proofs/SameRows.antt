-- Well-formed tables with as many vertices and the same rows have the same starts and targets. Assumes nothing.
use Prim.Native.Nat.{ℕ, zero, suc, ◌+◌, ◌-◌, ◌<◌}
use mathlib.Core.Path.{◌≡◌, sym, ◌∙◌, ap, ap₂}
use mathlib.Core.List.{◌++◌}
use native.Mathlib.Numerals.{add-one}
use native.Mathlib.Omega.{arith}
use lib.ListN.{length, take, get_or}
use lib.Seq.{take-length, ext_get_or}
use Rattle.table.specs.Table.{vertices, row, Rows, Sound}
use Rattle.table.proofs.RowLaws.{next_start, targets_to_next}

module _ {rows rows' : Rows} (w : Sound rows) (w' : Sound rows') (n : length rows.starts ≡ length rows'.starts)
    (same : (v : ℕ) → v < vertices rows.starts → row rows.starts rows.targets v ≡ row rows'.starts rows'.targets v) where
  open rows use {starts, targets}
  open rows' use {starts as starts', targets as targets'}

  -- the start of v, and the targets before it
  before : (v : ℕ) → v < length starts → (get_or starts v 0 ≡ get_or starts' v 0) × (take (get_or starts v 0) targets ≡ take (get_or starts' v 0) targets')
  before zero h = let q = w.starts_fit.begins in let q' = w'.starts_fit.begins in (q ∙ sym q', rw (q, q'))
  before (suc v) h =
      let (q, r) = before v (omega arith) in
      let k : v < vertices starts = omega arith in
      let k' : v < vertices starts' = omega arith in
      let one : get_or starts (v + 1) 0 ≡ get_or starts' (v + 1) 0 = next_start w v k ∙ ap₂ ◌+◌ q (ap length (same v k)) ∙ sym (next_start w' v k') in
      let two : take (get_or starts (v + 1) 0) targets ≡ take (get_or starts' (v + 1) 0) targets' =
      targets_to_next w v k ∙ ap₂ ◌++◌ r (same v k) ∙ sym (targets_to_next w' v k') in
      (rw add-one at one, rw add-one at two)

  same_starts : starts ≡ starts'
  same_starts = ext_get_or 0 starts starts' n (λ v h. (before v h).0)

  same_targets : targets ≡ targets'
  same_targets =
      let some : 0 < length starts = w.some in
      let (q, r) = before (vertices starts) (omega arith) in
      let e : get_or starts (vertices starts) 0 ≡ length targets = w.starts_fit.ends in
      let e' : get_or starts' (vertices starts) 0 ≡ length targets' = ap (λ (x : ℕ). get_or starts' (x - 1) 0) n ∙ w'.starts_fit.ends in
      let all : take (length targets) targets ≡ take (length targets') targets' = rw (e, e') at r in
      sym (take-length targets) ∙ all ∙ take-length targets'

  pub same_by_row : rows ≡ rows'
  same_by_row = λ i. record { starts = same_starts i; targets = same_targets i }
