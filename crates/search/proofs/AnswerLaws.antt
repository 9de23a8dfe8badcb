-- The answer is determined: two answers that the contract allows coincide, and their orders show the same vertices. Assumes nothing.
use Rattle.std.proofs.Common.{ℕ, ◌≤◌, ◌<◌, ◌≡◌, refl, ap, Option, Some, None, List, arith, get_or}
use Rattle.bubble.proofs.Unique.{exit_unique}
use Rattle.parents.proofs.PlaceLaws.{in_take, take_in}
use Rattle.walking.proofs.ShownLaws.{shown_most}
use Rattle.search.specs.declared.Exit.{Exit}
use Rattle.search.specs.Search.{Visited, Searched}

module _ {starts targets order order' : List ℕ} {s t k k' : ℕ} (a : Visited starts targets order s t k) (b : Visited starts targets order' s t k') where
  -- each vertex of the one order has a place in the other
  pub shown : (i : ℕ) → i < k → (j : ℕ) × (j < k') × (get_or order' j 0 ≡ get_or order i 0)
  shown i l =
      let v = get_or order i 0 in
      take_in v order' k' b.room ((b.whole v).1 ((a.whole v).0 (in_take order k i l a.room)))

  no_more : k ≤ k'
  no_more = shown_most order order' k k' a.apart shown

pub answer_unique : (starts targets order order' : List ℕ) (s : ℕ) (exit exit' : Option Exit) → Searched starts targets s exit order → Searched starts targets s exit' order' → exit ≡ exit'
answer_unique starts targets order order' s (Some e) (Some e') a b =
    let q : e.vertex ≡ e'.vertex = exit_unique a.superbubble b.superbubble in
    let c = rw (← q) at b in
    let p : e.visited ≡ e'.visited = omega (arith, no_more a c, no_more c a) in
    ap Some (λ i. record { vertex = q i; visited = p i })
answer_unique starts targets order order' s (Some e) None a b = absurd (b e.vertex a.superbubble)
answer_unique starts targets order order' s None (Some e) a b = absurd (a e.vertex b.superbubble)
answer_unique starts targets order order' s None None a b = refl
