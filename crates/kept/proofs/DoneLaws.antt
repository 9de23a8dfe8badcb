-- What the contract of keeping says of each vertex: a vertex of U but the exit is followed on the kept path or is dropped. So two results that it allows coincide. Assumes nothing.
use Rattle.std.proofs.Common.{ℕ, ◌<◌, ◌≡◌, sym, ◌∙◌, ◌≢◌, ◌⊎◌, inl, inr, ⊎_elim, List, [], ◌∷◌, ◌++◌, length, get_or, ext_get_or}
use mathlib.Core.List.Memᴰ
use mathlib.Core.List.{Memᴰ}
use native.Mathlib.Decide.{ℕ_discrete}
use Rattle.table.specs.Table.{Table, edges}
use Rattle.bubble.specs.Superbubble.{F, Interior}
use Rattle.bubble.proofs.Reflect.{decided, decides_member}
use Rattle.bubble.proofs.Pigeonhole.{place_of}
use Rattle.rule.specs.Lists.{Graph, CandidateSet, Follows, Follows.here, Follows.later}
use Rattle.rule.specs.Fold.{Rule}
use Rattle.rule.specs.Laws.{RuleLaws, CandidateLaws}
use Rattle.rule.proofs.Items.{interior_listed, item_unique}
use Rattle.kept.specs.Keeping.{KeptDone}

-- on a list each entry before the last is followed
followed : (t : ℕ) {s v : ℕ} (l : List ℕ) → Memᴰ v (s ∷ l) → (w : ℕ) × Follows (s ∷ l ++ (t ∷ [])) v w
followed t {s} {v} [] m = (t, ⊎_elim (λ q. rw q here) (λ i. absurd (Memᴰ.not-nil i)) (Memᴰ.cases_cons m))
followed t {s} {v} (x ∷ l) m =
    ⊎_elim (λ q. (x, rw q here)) (λ i. let (w, f) = followed t l i in (w, later f)) (Memᴰ.cases_cons m)

module _ {G : Graph → Type 0} {C : CandidateSet} {R : Rule} (L : CandidateLaws G C) (M : RuleLaws R) {table : Table} {s t : ℕ}
    {best next out best' next' out' : List ℕ} (k : KeptDone C R table s t best next out best' next' out') where
  -- an interior vertex is on the arm or dropped
  arm_or_dropped : {v : ℕ} → Interior (edges table.rows) s t v → Memᴰ v k.item.arm ⊎ Memᴰ v k.item.dropped
  arm_or_dropped {v} h = Memᴰ.append_cases k.item.arm (interior_listed L M k.fits (rw (k.entrance, k.exit) h))

  pub followed_or_dropped : {v : ℕ} → F (edges table.rows) s t v → v ≢ t → ((w : ℕ) × Follows (s ∷ k.item.arm ++ (t ∷ [])) v w) ⊎ Memᴰ v k.item.dropped
  followed_or_dropped {v} f n =
      elim (ℕ_discrete v s) [
        | yes q ↦ inl (followed t k.item.arm (Memᴰ.head q))
        | no m ↦
            let inner : Interior (edges table.rows) s t v = record { inside = f; not_entrance = m; not_exit = n } in
            ⊎_elim (λ a. inl (followed t k.item.arm (Memᴰ.tail a))) inr (arm_or_dropped inner)
      ]

module _ {G : Graph → Type 0} {C : CandidateSet} {R : Rule} (L : CandidateLaws G C) (M : RuleLaws R) {table : Table} {s t : ℕ}
    {best best' next out best₁ next₁ out₁ best₂ next₂ out₂ : List ℕ} (a : KeptDone C R table s t best next out best₁ next₁ out₁)
    (b : KeptDone C R table s t best' next out best₂ next₂ out₂) where
  same_item : a.item ≡ b.item
  same_item = item_unique L M a.fits b.fits (a.entrance ∙ sym b.entrance)

  next_followed : (v w : ℕ) → Follows (s ∷ a.item.arm ++ (t ∷ [])) v w → get_or next₁ v 0 ≡ get_or next₂ v 0
  next_followed v w f = a.on_path v w f ∙ sym (b.on_path v w (rw same_item at f))

  next_elsewhere : {v : ℕ} → (F (edges table.rows) s t v → v ≡ t) → get_or next₁ v 0 ≡ get_or next₂ v 0
  next_elsewhere {v} h = a.elsewhere v h ∙ sym (b.elsewhere v h)

  next_same : (v : ℕ) → get_or next₁ v 0 ≡ get_or next₂ v 0
  next_same v =
      elim (ℕ_discrete v t) [
        | yes q ↦ next_elsewhere (λ f. q)
        | no n ↦
            elim (decided (decides_member v (s ∷ a.item.arm))) [
              | yes m ↦ let (w, f) = followed t a.item.arm m in next_followed v w f
              | no m ↦
                  elim (decided (decides_member v a.item.dropped)) [
                    | yes d ↦ a.off_path v d ∙ sym (b.off_path v (rw same_item at d))
                    | no d ↦
                        next_elsewhere
                        (λ f.
                        absurd (⊎_elim (λ i. m (Memᴰ.tail i)) d (arm_or_dropped L M a (record { inside = f; not_entrance = λ q. m (Memᴰ.head q); not_exit = n }))))
                  ]
            ]
      ]

  out_added : (j : ℕ) → j < length a.item.arm → get_or out₁ (get_or a.item.arm j 0) 0 ≡ get_or out₂ (get_or a.item.arm j 0) 0
  out_added j h = a.added j h ∙ sym (rw (← same_item) at (b.added j (rw same_item at h)))

  out_same : (v : ℕ) → get_or out₁ v 0 ≡ get_or out₂ v 0
  out_same v =
      elim (decided (decides_member v a.item.arm)) [
        | yes m ↦ let (j, h, q) = place_of m in rw q at (out_added j h)
        | no m ↦
            elim (decided (decides_member v a.item.dropped)) [
              | yes d ↦ a.emptied v d ∙ sym (b.emptied v (rw same_item at d))
              | no d ↦ let off : Interior (edges table.rows) s t v → ⊥ = λ i. ⊎_elim m d (arm_or_dropped L M a i) in a.untouched v off ∙ sym (b.untouched v off)
            ]
      ]

  -- what is left in `next` and `out` is determined, whatever stood in `best`, which is room to work in
  pub kept_coincide : (next₁ ≡ next₂) × (out₁ ≡ out₂)
  kept_coincide = (
    ext_get_or 0 next₁ next₂ (a.same_next ∙ sym b.same_next) (λ v l. next_same v),
    ext_get_or 0 out₁ out₂ (a.same_out ∙ sym b.same_out) (λ v l. out_same v),
  )
