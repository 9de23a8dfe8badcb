-- Laws of the visiting order: its entries are U less the exit, and a child of an entry is the exit or a later entry. Assumes nothing.
use Rattle.std.proofs.Common.{ℕ, ◌<◌, ◌≡◌, sym, ◌∙◌, ◌≢◌, List, arith, length, get_or, take, length-take-le, get_or-take}
use lib.Seq.{take-length}
use Rattle.table.specs.Table.{vertices, Below, Edge}
use Rattle.bubble.specs.Superbubble.{F, F.on}
use Rattle.bubble.proofs.Facts.{successor}
use Rattle.search.specs.Search.{Visited}
use Rattle.parents.proofs.PlaceLaws.{in_take, take_in}

-- the visited front of the order is an order by itself
pub visited_front : {starts targets order : List ℕ} {s t k : ℕ} → Visited starts targets order s t k → Visited starts targets (take k order) s t (length (take k order))
visited_front {starts} {targets} {order} {s} {t} {k} o = record {
  superbubble = o.superbubble;
  some = omega (arith, o.some, long);
  room = omega arith;
  first = at 0 (omega (arith, o.some, long)) ∙ o.first;
  apart = λ i j l m q. o.apart i j (omega (arith, long)) (omega (arith, long)) (sym (at i l) ∙ q ∙ at j m);
  whole = λ v. rw (take-length (take k order)) (o.whole v);
  forward = λ i j l m e. o.forward i j (omega (arith, long)) (omega (arith, long)) (rw (at i l, at j m) at e);
}
  where
    long : length (take k order) ≡ k
    long = length-take-le k order o.room

    at : (i : ℕ) → i < length (take k order) → get_or (take k order) i 0 ≡ get_or order i 0
    at i l = get_or-take k order i 0 (omega (arith, long))

module _ {starts targets visited : List ℕ} {s t : ℕ} (o : Visited starts targets visited s t (length visited)) where
  pub inside : (i : ℕ) → i < length visited → F (Edge starts targets) s t (get_or visited i 0) × (get_or visited i 0 ≢ t)
  inside i l = (o.whole (get_or visited i 0)).0 (in_take visited (length visited) i l (omega arith))

  pub visit_place : (v : ℕ) → F (Edge starts targets) s t v → v ≢ t → (i : ℕ) × (i < length visited) × (get_or visited i 0 ≡ v)
  visit_place v f n = take_in v visited (length visited) (omega arith) ((o.whole v).1 (f, n))

  -- each entry has a child
  pub some_child : (i : ℕ) → i < length visited → (u : ℕ) × Edge starts targets (get_or visited i 0) u
  some_child i l = let (f, n) = inside i l in let (u, g, e) = successor o.superbubble.bubbloid f n in (u, e)

  pub visited_below : Below (vertices starts) visited
  visited_below i l = (some_child i l).1.vertex

  pub child_later : (i u : ℕ) → i < length visited → Edge starts targets (get_or visited i 0) u → u ≢ t → (j : ℕ) × (i < j) × (j < length visited) × (get_or visited j 0 ≡ u)
  child_later i u l e n =
      let (f, m) = inside i l in
      let (j, h, q) = visit_place u (on f m e) n in
      (j, o.forward i j l h (rw q e), h, q)
