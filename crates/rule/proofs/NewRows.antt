-- The edges that stay, row by row: all of the row where no folded superbubble holds the vertex but at its exit, none where it is dropped,
-- and else the one to the next vertex of the kept path. Assumes nothing.
use Prim.Native.Nat.{ℕ}
use mathlib.Core.Path.{◌≡◌, sym, ◌∙◌, subst}
use mathlib.Core.Logic.{◌≢◌, ◌↔◌, ⊎_elim}
use mathlib.Core.List.Memᴰ
use mathlib.Core.List.{List, [], ◌∷◌, ◌++◌, Memᴰ}
use native.Mathlib.Decide.{ℕ_discrete}
use Rattle.bubble.specs.Superbubble.{F, F.on, Interior, Bubbloid}
use Rattle.bubble.proofs.Facts.{no_edge_from_exit}
use Rattle.rule.specs.Lists.{Graph, CandidateSet, Counts}
use Rattle.rule.specs.Fold.{Rule, Item, Fits}
use Rattle.rule.specs.Laws.{RuleLaws, CandidateLaws}
use Rattle.rule.specs.Next.{Next}
use Rattle.rule.proofs.Thread.{Thread}
use Rattle.rule.proofs.Following.{follows_tail}
use Rattle.rule.proofs.Arms.{arm_thread}
use Rattle.rule.proofs.Together.{First, first_folded, Staying}
use Rattle.rule.proofs.Items.{item_superbubble, item_arm, item_unique}

module _ {G : Graph → Type 0} {C : CandidateSet} {R : Rule} (L : CandidateLaws G C) (M : RuleLaws R) {E : Graph} {c : Counts}
    (g : G E) {items : List Item} (fit : (i : Item) → Memᴰ i items → Fits C R E c i) where
  module _ (i : Item) (m : Memᴰ i items) where
    bubbloid : Bubbloid E i.entrance i.exit
    bubbloid = (L.superbubble (fit i m).candidate).bubbloid

    thread : Thread E (First E i) i.entrance i.exit (Next i)
    thread =
        arm_thread (item_superbubble L M (fit i m)) (L.passed_once g (fit i m).candidate) (item_arm L M (fit i m)) (first_folded E i)

    -- a dropped vertex is not on the kept path
    off_path : {v : ℕ} → Memᴰ v i.dropped → Memᴰ v (i.entrance ∷ i.arm ++ (i.exit ∷ [])) → ⊥
    off_path {v} d k =
        let (inner, off) = ((fit i m).rest.holds v).0 d in
        ⊎_elim inner.not_entrance (λ l. ⊎_elim off (λ j. inner.not_exit (Memᴰ.eq_of_singleton j)) (Memᴰ.append_cases i.arm l))
        (Memᴰ.cases_cons k)

    -- so no edge of it stays
    pub row_empty : (u v : ℕ) → Memᴰ u i.dropped → Staying E items u v → ⊥
    row_empty u v d e =
        let inner = (((fit i m).rest.holds u).0 d).0 in
        off_path d (follows_tail (e.1 i m inner.inside (on inner.inside inner.not_exit e.0)))

    not_exit : {u w : ℕ} → Next i u w → u ≢ i.exit
    not_exit f r = no_edge_from_exit bubbloid (thread.head_inside f) (rw r at (thread.joined f))

    -- an edge of the kept path has both its ends in no other folded superbubble
    same_item : {u w : ℕ} → Next i u w → (j : Item) → Memᴰ j items → F E j.entrance j.exit u → F E j.entrance j.exit w → i ≡ j
    same_item {u} {w} f j n h k =
        elim (ℕ_discrete i.entrance j.entrance) [
          | yes q ↦ item_unique L M (fit i m) (fit j n) q
          | no l ↦
              elim (ℕ_discrete u i.entrance) [
                | no z ↦
                    let inner : Interior E i.entrance i.exit u = record { inside = thread.tail_inside f; not_entrance = z; not_exit = not_exit f } in
                    absurd (L.apart g (fit i m).candidate (fit j n).candidate l inner h)
                | yes z ↦
                    let other : Interior E j.entrance j.exit u = record {
                      inside = h;
                      not_entrance = λ r. l (sym z ∙ r);
                      not_exit = λ r. no_edge_from_exit (L.superbubble (fit j n).candidate).bubbloid k (rw r at (thread.joined f));
                    } in
                    absurd (L.apart g (fit j n).candidate (fit i m).candidate (λ r. l (sym r)) other (thread.tail_inside f))
              ]
        ]

    -- from a vertex of the kept path only the edge to the next stays
    pub row_next : (u w : ℕ) → Next i u w → (v : ℕ) → Staying E items u v ↔ (v ≡ w)
    row_next u w f v = (to, λ q. rw q (thread.joined f, λ j n h k. subst (λ (x : Item). Next x u w) (same_item f j n h k) f))
      where
        to : Staying E items u v → v ≡ w
        to e = let h = thread.tail_inside f in thread.one_after (e.1 i m h (on h (not_exit f) e.0)) f

  -- where no folded superbubble holds u but at its exit, every edge stays
  pub row_whole : (u : ℕ) → ((i : Item) → Memᴰ i items → F E i.entrance i.exit u → u ≡ i.exit) → (v : ℕ) → Staying E items u v ↔ E u v
  row_whole u h v = (λ e. e.0, λ e. (e, λ i m f k. absurd (no_edge_from_exit (bubbloid i m) k (rw (h i m f) at e))))
