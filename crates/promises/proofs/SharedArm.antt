-- The worked fold of docs/RULES.md, A shared arm, of every call that the contract of a fold allows, by either version's rule: `shared_arm_fold`, at the end. What stands
-- before it shows that the rule asks for this table and no other. Assumes nothing.
use Prim.Native.Nat.{ℕ, zero, suc, ◌+◌, ◌*◌, ◌<◌}
use mathlib.Core.Path.{◌≡◌, refl, sym, ap, ◌∙◌}
use mathlib.Core.Logic.{◌⊎◌, inl, inr, ⊎_elim}
use mathlib.Core.List.Memᴰ
use mathlib.Core.List.{List, [], ◌∷◌, Memᴰ}
use native.Mathlib.Omega.{arith}
use native.Mathlib.Decide.{ℕ_discrete}
use lib.ListN.{length, get_or, take, drop}
use Rattle.table.specs.Table.{Table, edges}
use Rattle.bubble.specs.Superbubble.{F, F.start, F.on, Walk, Walk.edge, Walk.more, Superbubble, Interior}
use Rattle.vertices.proofs.NumberLaws.{in_list}
use Rattle.listing.specs.Graphs.{Example, RightlyListed}
use Rattle.rule.specs.Lists.{Rising.empty, Rising.first, Listing, Follows, Follows.here, Follows.later}
use Rattle.rule.specs.Kept.{Via, Via.bare, Via.then, Arm, Beats, Earlier, Earlier.here, Earlier.later, score_by, Kept}
use Rattle.rule.specs.Tables.{count_of, TableFolded}
use Rattle.rule.specs.declared.Choosing.{Choosing}
use Rattle.rule.specs.declared.Choosing.TheVariants.{Sum, Weakest}
use Rattle.rule.specs.Way.{plain, the_fold}
use Rattle.rule.specs.Fold.{to_each, NoCycle, Candidate, kept_shares, Entrance, Item, Stays, Applied}
use Rattle.rule.proofs.Choice.{earlier_not_self}
use Rattle.rule.proofs.Following.{follows_tail}
use Rattle.rule.proofs.Budgets.{folded_of}
use Rattle.rule.proofs.TableDemand.{table_folds_coincide}
use Rattle.rule.proofs.TheFold.{the_fold_lawful, folds_acyclic}
use Rattle.promises.specs.Calls.{Foldable, FoldCall}
use Rattle.promises.specs.Worked.{shared_arm, shared_arm_folded}
use Rattle.promises.proofs.Demand2.{fold_by_rule, fold_edges}
use Rattle.promises.proofs.Shared.{three_over_two}
use Rattle.promises.proofs.TwelveGraphs.{graph_test, graph_holds}

-- the table is well-formed, and has the superbubbles 0,4 and 1,2
abbrev example : Example
example = record { rows = shared_arm.rows; pairs = (0, 4) ∷ (1, 2) ∷ [] }

listed : RightlyListed example
unfolding graph_test
listed = graph_holds example tt

abbrev E : ℕ → ℕ → Type 0
E = edges shared_arm.rows

-- the one number of a list
one : {A P : Type 0} {v x : A} → Memᴰ v (x ∷ []) → (v ≡ x → P) → P
one m f = ⊎_elim f (λ n. absurd (Memᴰ.not-nil n)) (Memᴰ.cases_cons m)

-- what holds of each of the five edges holds of an edge
edge_elim : {P : Type 0} (u v : ℕ) → E u v → ((u ≡ 0) × (v ≡ 1) → P) → ((u ≡ 0) × (v ≡ 3) → P) → ((u ≡ 1) × (v ≡ 2) → P) → ((u ≡ 2) × (v ≡ 4) → P)
    → ((u ≡ 3) × (v ≡ 4) → P) → P
edge_elim zero v e a b c d f = ⊎_elim (λ q. a (refl, q)) (λ m. one m (λ q. b (refl, q))) (Memᴰ.cases_cons (in_list.0 e.listed))
edge_elim (suc zero) v e a b c d f = one (in_list.0 e.listed) (λ q. c (refl, q))
edge_elim (suc (suc zero)) v e a b c d f = one (in_list.0 e.listed) (λ q. d (refl, q))
edge_elim (suc (suc (suc zero))) v e a b c d f = one (in_list.0 e.listed) (λ q. f (refl, q))
edge_elim (suc (suc (suc (suc zero)))) v e a b c d f = absurd (Memᴰ.not-nil (in_list.0 e.listed))
edge_elim (suc (suc (suc (suc (suc u))))) v e a b c d f = absurd (let none : ⊥ = omega (arith, e.vertex) in none)

e01 : E 0 1
e01 = record { vertex = omega arith; listed = in_list.1 (Memᴰ.head refl) }

e03 : E 0 3
e03 = record { vertex = omega arith; listed = in_list.1 (Memᴰ.tail (Memᴰ.head refl)) }

e12 : E 1 2
e12 = record { vertex = omega arith; listed = in_list.1 (Memᴰ.head refl) }

e24 : E 2 4
e24 = record { vertex = omega arith; listed = in_list.1 (Memᴰ.head refl) }

-- U of 0,4 is all five vertices
f1 : F E 0 4 1
f1 = on start (λ q. omega arith) e01

f2 : F E 0 4 2
f2 = on f1 (λ q. omega arith) e12

f3 : F E 0 4 3
f3 = on start (λ q. omega arith) e03

f4 : F E 0 4 4
f4 = on f2 (λ q. omega arith) e24

edge_rises : {u v : ℕ} → E u v → (u < v) × (v < 5)
edge_rises {u} {v} e = edge_elim u v e (λ q. omega arith) (λ q. omega arith) (λ q. omega arith) (λ q. omega arith) (λ q. omega arith)

inside_below : {v : ℕ} → F E 0 4 v → v < 5
inside_below start = omega arith
inside_below (on f n e) = (edge_rises e).1

inner_one : Interior E 0 4 1
inner_one = record { inside = f1; not_entrance = λ q. omega arith; not_exit = λ q. omega arith }

inner_two : Interior E 0 4 2
inner_two = record { inside = f2; not_entrance = λ q. omega arith; not_exit = λ q. omega arith }

inner_three : Interior E 0 4 3
inner_three = record { inside = f3; not_entrance = λ q. omega arith; not_exit = λ q. omega arith }

-- U of 1,2 is 1 and 2, so that its interior is empty
between : {v : ℕ} → F E 1 2 v → (0 < v) × (v < 3)
between start = (omega arith, omega arith)
between (on {u = u} {v = v} f n e) =
    let (a, b) = between f in
    edge_elim u v e (λ q. omega arith) (λ q. omega arith) (λ q. (omega arith, omega arith)) (λ q. absurd (n q.0)) (λ q. omega arith)

no_interior : (v : ℕ) → Interior E 1 2 v → ⊥
no_interior v i = let (a, b) = between i.inside in elim (ℕ_discrete v 1) [ yes q ↦ i.not_entrance q | no n ↦ i.not_exit (let two : v ≡ 2 = omega (arith, a, b, n) in two) ]

-- no other pair is a superbubble
pairs : {s t : ℕ} → Superbubble E s t → ((s ≡ 0) × (t ≡ 4)) ⊎ ((s ≡ 1) × (t ≡ 2))
pairs {s} {t} b = let at = listed.1.whole s t b in which at.line at.within at.entrance at.exit
  where
    which : (i : ℕ) → i < 2 → get_or (0 ∷ 4 ∷ 1 ∷ 2 ∷ []) (2 * i) 0 ≡ s → get_or (0 ∷ 4 ∷ 1 ∷ 2 ∷ []) (2 * i + 1) 0 ≡ t
        → ((s ≡ 0) × (t ≡ 4)) ⊎ ((s ≡ 1) × (t ≡ 2))
    which zero h q r = inl (sym q, sym r)
    which (suc zero) h q r = inr (sym q, sym r)
    which (suc (suc i)) h q r = absurd (let none : ⊥ = omega arith in none)

candidate : Candidate E 0 4
candidate = record { outermost = record { superbubble = listed.1.sound 0 (omega arith); in_no_other = alone }; interior = (1, inner_one) }
  where
    alone : (x y : ℕ) → Superbubble E x y → ((v : ℕ) → F E 0 4 v → Interior E x y v) → ⊥
    alone x y b h = ⊎_elim (λ q. (h 0 start).not_entrance (sym q.0)) (λ q. let low = between (rw (q.0, q.1) at (h 0 start).inside) in omega arith) (pairs b)

candidates : Listing (Entrance Candidate E) (0 ∷ [])
candidates = record { rising = first (λ w m. absurd (Memᴰ.not-nil m)) empty; holds = λ s. (to s, back s) }
  where
    to : (s : ℕ) → Memᴰ s (0 ∷ []) → Entrance Candidate E s
    to s m = one m (λ q. rw q (4, candidate))

    back : (s : ℕ) → Entrance Candidate E s → Memᴰ s (0 ∷ [])
    back s h =
        let (t, c) = h in
        let (v, i) = c.interior in
        ⊎_elim (λ q. Memᴰ.head q.0) (λ q. absurd (no_interior v (rw (q.0, q.1) at i))) (pairs c.outermost.superbubble)

-- the paths from 0 to 4 are 0,1,2,4 and 0,3,4
from_one : {v : ℕ} → E 1 v → v ≡ 2
from_one {v} e = edge_elim 1 v e (λ q. omega arith) (λ q. omega arith) (λ q. omega arith) (λ q. omega arith) (λ q. omega arith)

from_later : {u v : ℕ} → 1 < u → E u v → v ≡ 4
from_later {u} {v} h e = edge_elim u v e (λ q. omega arith) (λ q. omega arith) (λ q. omega arith) (λ q. omega arith) (λ q. omega arith)

none_from_four : {l : List ℕ} → Via E 4 4 l → ⊥
none_from_four (bare e) = let up = edge_rises e in omega arith
none_from_four (then e r) = let up = edge_rises e in omega arith

last_step : {u : ℕ} {l : List ℕ} → 1 < u → Via E 4 u l → l ≡ []
last_step h (bare e) = refl
last_step h (then e r) = absurd (none_from_four (rw (from_later h e) at r))

after_one : {l : List ℕ} → Via E 4 1 l → l ≡ 2 ∷ []
after_one (bare e) = absurd (let q = from_one e in let none : ⊥ = omega arith in none)
after_one (then e r) = let q = from_one e in let s = last_step (omega arith) r in rw (q, s) refl

paths : {l : List ℕ} → Via E 4 0 l → (l ≡ 1 ∷ 2 ∷ []) ⊎ (l ≡ 3 ∷ [])
paths (bare e) = absurd (edge_elim 0 4 e (λ q. omega arith) (λ q. omega arith) (λ q. omega arith) (λ q. omega arith) (λ q. omega arith))
paths (then {v = v} e r) =
    elim (ℕ_discrete v 1) [
      | yes q ↦ let s = after_one (rw q at r) in inl (rw (q, s) refl)
      | no n ↦
          let q : v ≡ 3 = edge_elim 0 v e (λ q. absurd (n q.1)) (λ q. q.1) (λ q. omega arith) (λ q. omega arith) (λ q. omega arith) in
          let s = last_step (omega arith) r in
          inr (rw (q, s) refl)
    ]

never : {l : List ℕ} → Earlier l l → ⊥
never {l = l} e = earlier_not_self l e

larger_first : Earlier (3 ∷ 4 ∷ []) (1 ∷ 2 ∷ 4 ∷ []) → ⊥
larger_first (here h) = omega arith

-- and the first is worth more by the sum, 7 against 3, and as much by the weakest vertex, where its first vertex is the smaller one
kept : (by : Choosing) → Kept by E (count_of shared_arm.counts) 0 4 (1 ∷ 2 ∷ [])
kept by = record { arm = arm; unbeaten = unbeaten }
  where
    arm : Arm E 0 4 (1 ∷ 2 ∷ [])
    arm = record {
      path = then e01 (then e12 (bare e24));
      inner = λ v m. ⊎_elim (λ q. rw q inner_one) (λ n. one n (λ q. rw q inner_two)) (Memᴰ.cases_cons m);
    }

    unbeaten : (l : List ℕ) → Arm E 0 4 l → Beats (score_by by (count_of shared_arm.counts)) 4 l (1 ∷ 2 ∷ []) → ⊥
    unbeaten l a w = ⊎_elim (λ q. itself (rw q at w)) (λ q. weaker by (rw q at w)) (paths a.path)
      where
        itself : Beats (score_by by (count_of shared_arm.counts)) 4 (1 ∷ 2 ∷ []) (1 ∷ 2 ∷ []) → ⊥
        itself (inl h) = omega arith
        itself (inr h) = never h.1

        weaker : (by : Choosing) → Beats (score_by by (count_of shared_arm.counts)) 4 (3 ∷ []) (1 ∷ 2 ∷ []) → ⊥
        weaker Sum (inl h) = omega arith
        weaker Sum (inr h) = let q = h.0 in omega arith
        weaker Weakest (inl h) = omega arith
        weaker Weakest (inr h) = larger_first h.1

-- what is folded: 1 and 2 are kept, 3 is dropped
abbrev item : Item
item = record { entrance = 0; exit = 4; arm = 1 ∷ 2 ∷ []; dropped = 3 ∷ [] }

rest : Listing (λ v. Interior E 0 4 v × (Memᴰ v (1 ∷ 2 ∷ []) → ⊥)) (3 ∷ [])
rest = record { rising = first (λ w m. absurd (Memᴰ.not-nil m)) empty; holds = λ v. (to v, back v) }
  where
    to : (v : ℕ) → Memᴰ v (3 ∷ []) → Interior E 0 4 v × (Memᴰ v (1 ∷ 2 ∷ []) → ⊥)
    to v m = one m (λ q. rw q (inner_three, λ n. ⊎_elim (λ p. omega arith) (λ k. one k (λ p. omega arith)) (Memᴰ.cases_cons n)))

    back : (v : ℕ) → Interior E 0 4 v × (Memᴰ v (1 ∷ 2 ∷ []) → ⊥) → Memᴰ v (3 ∷ [])
    back zero h = absurd (h.0.not_entrance refl)
    back (suc zero) h = absurd (h.1 (Memᴰ.head refl))
    back (suc (suc zero)) h = absurd (h.1 (Memᴰ.tail (Memᴰ.head refl)))
    back (suc (suc (suc zero))) h = Memᴰ.head refl
    back (suc (suc (suc (suc zero)))) h = absurd (h.0.not_exit refl)
    back (suc (suc (suc (suc (suc v))))) h = absurd (let low = inside_below h.0.inside in let none : ⊥ = omega arith in none)

-- the table that is left
abbrev E' : ℕ → ℕ → Type 0
E' = edges shared_arm_folded.rows

folded_listed : RightlyListed (record { rows = shared_arm_folded.rows; pairs = (0, 1) ∷ (1, 2) ∷ (2, 4) ∷ [] })
unfolding graph_test
folded_listed = graph_holds (record { rows = shared_arm_folded.rows; pairs = (0, 1) ∷ (1, 2) ∷ (2, 4) ∷ [] }) tt

e01' : E' 0 1
e01' = record { vertex = omega arith; listed = in_list.1 (Memᴰ.head refl) }

e12' : E' 1 2
e12' = record { vertex = omega arith; listed = in_list.1 (Memᴰ.head refl) }

e24' : E' 2 4
e24' = record { vertex = omega arith; listed = in_list.1 (Memᴰ.head refl) }

-- its edges are the steps of the kept path
to_stay : (u v : ℕ) → E' u v → E u v × Follows (0 ∷ 1 ∷ 2 ∷ 4 ∷ []) u v
to_stay zero v e = one (in_list.0 e.listed) (λ q. rw q (e01, here))
to_stay (suc zero) v e = one (in_list.0 e.listed) (λ q. rw q (e12, later here))
to_stay (suc (suc zero)) v e = one (in_list.0 e.listed) (λ q. rw q (e24, later (later here)))
to_stay (suc (suc (suc zero))) v e = absurd (Memᴰ.not-nil (in_list.0 e.listed))
to_stay (suc (suc (suc (suc zero)))) v e = absurd (Memᴰ.not-nil (in_list.0 e.listed))
to_stay (suc (suc (suc (suc (suc u))))) v e = absurd (let none : ⊥ = omega (arith, e.vertex) in none)

-- 3 is no end of one
no_step : {u v : ℕ} → Follows (0 ∷ 1 ∷ 2 ∷ 4 ∷ []) u v → (u ≡ 3 → ⊥) × (v ≡ 3 → ⊥)
no_step here = (λ q. omega arith, λ q. omega arith)
no_step (later here) = (λ q. omega arith, λ q. omega arith)
no_step (later (later here)) = (λ q. omega arith, λ q. omega arith)
no_step (later (later (later (later f)))) = absurd (Memᴰ.not-nil (follows_tail f))

stays : (u v : ℕ) → E u v → Stays E 0 4 (1 ∷ 2 ∷ []) u v → E' u v
stays u v e h =
    edge_elim u v e (λ q. rw (q.0, q.1) e01') (λ q. absurd ((no_step (h (rw q.0 start) (rw q.1 f3))).1 q.1)) (λ q. rw (q.0, q.1) e12') (λ q. rw (q.0, q.1) e24')
    (λ q. absurd ((no_step (h (rw q.0 f3) (rw q.1 f4))).0 q.0))

-- and its counts those of the rule
added : (j : ℕ) → j < 2 → get_or shared_arm_folded.counts (get_or (1 ∷ 2 ∷ []) j 0) 0 ≡ get_or shared_arm.counts (get_or (1 ∷ 2 ∷ []) j 0) 0 + to_each 3 2 j
added zero h = let (q, r) = three_over_two in omega arith
added (suc zero) h = let (q, r) = three_over_two in omega arith
added (suc (suc j)) h = absurd (let none : ⊥ = omega arith in none)

untouched : (v : ℕ) → (Interior E 0 4 v → ⊥) → get_or shared_arm_folded.counts v 0 ≡ get_or shared_arm.counts v 0
untouched zero n = refl
untouched (suc zero) n = absurd (n inner_one)
untouched (suc (suc zero)) n = absurd (n inner_two)
untouched (suc (suc (suc zero))) n = absurd (n inner_three)
untouched (suc (suc (suc (suc zero)))) n = refl
untouched (suc (suc (suc (suc (suc v))))) n = refl

none_taken : (b : ℕ) → take {A = ℕ} b [] ≡ []
none_taken zero = refl
none_taken (suc b) = refl

none_behind : (b : ℕ) → drop {A = ℕ} b [] ≡ []
none_behind zero = refl
none_behind (suc b) = refl

applied : (by : Choosing) (b : ℕ) → Applied Candidate (kept_shares by) E (count_of shared_arm.counts) (suc b) E' (count_of shared_arm_folded.counts)
applied by b = record {
  candidates = 0 ∷ [];
  listed = candidates;
  items = item ∷ [];
  first = ap (λ l. 0 ∷ l) (sym (none_taken b));
  fit = λ i m. one m (λ q. rw q (record { candidate = candidate; kept = kept by; rest = rest }));
  edges = λ u v. (
    λ e. let (d, f) = to_stay u v e in (d, λ i m. one m (λ q. rw q (λ a b. f))),
    λ e. stays u v e.0 (e.1 item (Memᴰ.head refl)),
  );
  added = λ i m. one m (λ q. rw q added);
  emptied = λ i m v d. one m (λ q. one (rw q at d) (λ r. rw r refl));
  untouched = λ v n. untouched v (n item (Memᴰ.head refl));
}

walk_rises : {P : ℕ → Type 0} {u v : ℕ} → Walk E P u v → u < v
walk_rises (edge p e q) = (edge_rises e).0
walk_rises (more w e q) = let a = walk_rises w in let b = edge_rises e in omega arith

acyclic : NoCycle E
acyclic v walk = let up = walk_rises walk in omega arith

by_rule : (by : Choosing) (b : ℕ) → TableFolded Candidate (kept_shares by) shared_arm (suc b) shared_arm_folded 1 0
unfolding applied
by_rule by b = record {
  same_size = record { well_formed = folded_listed.0; as_many_vertices = refl; as_many_counts = refl };
  graph_folded = rw (none_behind b) at (folded_of (the_fold_lawful (plain by)).candidates_lawful (the_fold_lawful (plain by)).rule_lawful acyclic (applied by b));
}

-- The table can be folded,
pub shared_arm_foldable : Foldable shared_arm
shared_arm_foldable = record { sound = record { well_formed = listed.0; count_each = refl; sum_fits = omega arith }; acyclic = folds_acyclic acyclic }

-- and every call of either version with room and a budget of 1 or more leaves 0>1 1>2 2>4 with the counts 5 6 4 0 5, and answers folded 1, left 0, edges 3.
pub shared_arm_fold : (by : Choosing) (budget : ℕ) {table' : Table} → 0 < budget → (call : FoldCall (the_fold (plain by)) shared_arm budget table')
    → (table' ≡ shared_arm_folded) × (call.answer.folded ≡ 1) × (call.answer.left ≡ 0) × (call.answer.edges ≡ 3)
shared_arm_fold by zero h call = absurd (let none : ⊥ = omega arith in none)
shared_arm_fold by (suc b) h call =
    let (same, folded, left) = table_folds_coincide (the_fold_lawful (plain by)) acyclic (fold_by_rule (plain by) shared_arm_foldable.sound acyclic call) (by_rule by b) in
    (same, folded, left, fold_edges (plain by) shared_arm_foldable.sound acyclic call ∙ ap (λ (t : Table). length t.rows.targets) same)
