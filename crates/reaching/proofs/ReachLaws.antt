-- Laws of the walk: what holds where it begins, where a row is passed, and where it ends. Assumes nothing.
use Rattle.std.proofs.Common.{ℕ, ◌+◌, ◌≤◌, ◌<◌, ◌≡◌, ◌≢◌, sym, ◌∙◌, List, length, get_or, set, replicate, get_or-set_same, arith}
use native.Mathlib.Decide.{ℕ_discrete, dec_lt}
use lib.ListN.{length-replicate, get_or-replicate, get_or-eq_default}
use Rattle.table.specs.Limits.{vertex_limit}
use Rattle.table.specs.Table.{In, vertices, row, Edge, WellFormed}
use Rattle.table.proofs.RowLaws.{edge_below, row_below}
use Rattle.bubble.specs.Superbubble.{Reaches, Reaches.none, Reaches.then}
use Rattle.reaching.specs.Reaching.{Askable}
use Rattle.reaching.specs.Steps.{Marked, Queued, Spreadable, Spread, WalkReady}
use Rattle.reaching.proofs.SpreadLaws.{queued_more}

-- a vertex has a mark
pub vertex_few : {starts targets : List ℕ} {v : ℕ} → WellFormed starts targets → v < vertices starts → v < vertex_limit
vertex_few w h = omega (arith, h, w.most_vertices)

-- what a vertex reaches is a vertex
reaches_below : {starts targets : List ℕ} {from v : ℕ} → WellFormed starts targets → from < vertices starts → Reaches (Edge starts targets) from v → v < vertices starts
reaches_below w h none = h
reaches_below {starts} {targets} {v = v} w h (then {u = u} r e) = edge_below starts targets w.targets_below u v e

-- with arrays that are all 0 a walk can begin
pub zeros_ready : (n : ℕ) {starts targets : List ℕ} {from to : ℕ} → n ≡ vertex_limit → Askable starts targets from to → from ≢ to
    → WalkReady starts targets (replicate n 0) (replicate n 0) from to
zeros_ready n q a others = record {
  asked = a;
  others = others;
  marks_room = length-replicate {A = ℕ} n 0 ∙ q;
  queue_room = length-replicate {A = ℕ} n 0 ∙ q;
  unmarked = λ v. elim (dec_lt v n) [ yes l ↦ get_or-replicate n v 0 0 l | no k ↦ get_or-eq_default (replicate n 0) 0 (omega (arith, length-replicate {A = ℕ} n 0)) ];
}

-- The first `tail` of the queue are met and reached, the first vertex among them, and none of them is the other vertex. What the first `head` have an edge to is met.
pub record Underway (starts targets : List ℕ) (from to : ℕ) (marks queue : List ℕ) (head tail : ℕ) : Type 0 where
  pub queued : Queued marks queue tail
  pub passed : head ≤ tail
  pub first : Marked marks from
  pub reached : (i : ℕ) → i < tail → Reaches (Edge starts targets) from (get_or queue i 0)
  pub closed : (i v : ℕ) → i < head → Edge starts targets (get_or queue i 0) v → Marked marks v
  pub other : (i : ℕ) → i < tail → get_or queue i 0 ≢ to

-- the first vertex alone is marked and queued
pub walk_begins : {starts targets marks queue : List ℕ} {from to : ℕ} → WalkReady starts targets marks queue from to
    → Underway starts targets from to (set marks from 1) (set queue 0 from) 0 1
walk_begins {starts} {targets} {marks} {queue} {from} {to} p = record {
  queued = queued;
  passed = omega arith;
  first = λ z. omega (arith, get_or-set_same marks from 1 0 (omega (arith, vertex, p.marks_room)), z);
  reached = λ i l. let q : i ≡ 0 = omega arith in rw (q, get_or-set_same queue 0 from 0 (omega (arith, p.queue_room))) none;
  closed = λ i v l. absurd (omega (arith, l));
  other = λ i l e. let q : i ≡ 0 = omega arith in p.others (sym (get_or-set_same queue 0 from 0 (omega (arith, p.queue_room))) ∙ rw q at e);
}
  where
    vertex : from < vertex_limit
    vertex = vertex_few p.asked.well_formed p.asked.from_vertex

    nothing : Queued marks queue 0
    nothing = record {
      marks_room = p.marks_room;
      queue_room = p.queue_room;
      below = λ i l. absurd (omega (arith, l));
      apart = λ i j l. absurd (omega (arith, l));
      marked = λ i l. absurd (omega (arith, l));
      whole = λ v m. absurd (m (p.unmarked v));
    }

    queued : Queued (set marks from 1) (set queue 0 from) 1
    queued = queued_more nothing vertex (p.unmarked from)

module _ {starts targets : List ℕ} {from to : ℕ} (a : Askable starts targets from to) {marks queue : List ℕ} {head tail : ℕ}
    (on : Underway starts targets from to marks queue head tail) where
  -- the vertices of the queue are vertices of the table
  pub queued_below : (i : ℕ) → i < tail → get_or queue i 0 < vertices starts
  queued_below i l = reaches_below a.well_formed a.from_vertex (on.reached i l)

  -- so the next row can be passed
  pub next_spreadable : head < tail → Spreadable (row starts targets (get_or queue head 0)) marks queue tail
  next_spreadable l = record {
    some = omega (arith, l);
    below = λ k l. vertex_few a.well_formed (row_below starts targets a.well_formed.targets_below (get_or queue head 0) k l);
    queued = on.queued;
  }

  -- where the next row holds the other vertex, that is reached
  pub next_holds : head < tail → In to (row starts targets (get_or queue head 0)) → Reaches (Edge starts targets) from to
  next_holds l i = then (on.reached head l) (record { vertex = queued_below head l; listed = i })

  -- at the end what is reached is met, and none of it is the other vertex
  pub none_left : tail ≤ head → Reaches (Edge starts targets) from to → ⊥
  none_left l r = let (i, b, q) = on.queued.whole to (met r) in on.other i b q
    where
      met : {v : ℕ} → Reaches (Edge starts targets) from v → Marked marks v
      met none = on.first
      met (then {u = u} {v = v} r e) = let (i, b, q) = on.queued.whole u (met r) in on.closed i v (omega (arith, b, l)) (rw q e)

  module _ (l : head < tail) {marks' queue' : List ℕ} {tail' : ℕ}
      (s : Spread (row starts targets (get_or queue head 0)) queue tail to (length (row starts targets (get_or queue head 0))) marks' queue' tail') where
    -- each of the longer queue is reached
    reached_more : (i : ℕ) → i < tail' → Reaches (Edge starts targets) from (get_or queue' i 0)
    reached_more i b =
        elim (dec_lt i tail) [
          | yes h ↦ rw (s.kept i h) (on.reached i h)
          | no n ↦ then (on.reached head l) (record { vertex = queued_below head l; listed = s.listed i (omega arith) b })
        ]

    -- none of it is the other vertex
    other_more : (i : ℕ) → i < tail' → get_or queue' i 0 ≢ to
    other_more i b e =
        elim (dec_lt i tail) [
          | yes h ↦ on.other i h (rw (s.kept i h) at e)
          | no n ↦ let m = s.listed i (omega arith) b in s.unmet m.place m.inside (m.stands ∙ e)
        ]

    -- what was marked stays so
    still : (v : ℕ) → Marked marks v → Marked marks' v
    still v m = let (i, b, q) = on.queued.whole v m in
        rw (s.kept i b, q) at (s.queued.marked i (omega (arith, b, s.longer)))

    -- one row more is passed
    pub walks_on : Underway starts targets from to marks' queue' (head + 1) tail'
    walks_on = record {
      queued = s.queued;
      passed = omega (arith, s.longer);
      first = still from on.first;
      reached = reached_more;
      closed = λ i v b e. elim (ℕ_discrete i head) [
        | yes q ↦ let m = (rw (q, s.kept head l) at e).listed in rw m.stands at (s.passed m.place m.inside)
        | no n ↦ still v (on.closed i v (omega arith) (rw (s.kept i (omega (arith, on.passed))) at e))
      ];
      other = other_more;
    }
