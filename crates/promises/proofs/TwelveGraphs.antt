-- The twelve graphs of docs/RULES.md, Twelve graphs: each table is well-formed, and the list's specification holds of the pairs printed for it, and so of no
-- others (`superbubbles_determined`). The superbubbles are computed by the decision that `bubble` proves to decide the published definition. Assumes nothing.
use Prim.Native.Nat.{ℕ, zero, suc, ◌+◌, ◌-◌, ◌*◌, ◌<◌, suc-le-suc, zero-le}
use mathlib.Core.Path.{◌≡◌, refl, sym, ap}
use mathlib.Core.Logic.{◌↔◌}
use mathlib.Core.Bool.{Bool, true, false, ◌&&◌}
use mathlib.Core.List.{List, [], ◌∷◌, Memᴰ}
use native.Mathlib.Nat.{not-suc-le-zero, le_of_suc-le-suc}
use native.Mathlib.Decide.{ℕ_discrete}
use native.Mathlib.Omega.{arith}
use lib.Dec.{T, ltb, eqb, ltb→lt, eqb→eq}
use lib.ListN.{length, get_or}
use Rattle.table.specs.Limits.{start_limit, edge_limit}
use Rattle.table.specs.Table.{row, Rises, Rows, size, edges, Sound}
use Rattle.table.proofs.RowLaws.{edges_below}
use Rattle.bubble.specs.Superbubble.{Superbubble}
use Rattle.bubble.proofs.Reflect.{Decides, Decides.holds, proved, decides_if, decides_and, decides_equal, decides_below, member, decides_member}
use Rattle.bubble.proofs.Enumerate.{superbubbles, superbubbles_listed}
use Rattle.vertices.proofs.NumberLaws.{in_list}
use Rattle.listing.specs.Listing.{Stands, Listed}
use Rattle.listing.specs.Graphs.{Example, graphs, flat, RightlyListed, Each}

-- whether u>v is an edge of a table
unfoldable edge_test : Rows → ℕ → ℕ → Bool
unfolding member
edge_test rows u v = ltb u (size rows) && member v (row rows.starts rows.targets u)

decides_edge : (rows : Rows) (u v : ℕ) → Decides (edges rows u v) (edge_test rows u v)
unfolding edge_test
decides_edge rows u v =
    decides_if (
      (λ p. record { vertex = p.0; listed = in_list.1 p.1 }),
      (λ e. (e.vertex, in_list.0 e.listed)),
    )
    (decides_and (decides_below u (size rows)) (decides_member v (row rows.starts rows.targets u)))

-- whether a test answers yes to each number below n
unfoldable each_below : (ℕ → Bool) → ℕ → Bool
each_below p zero = true
each_below p (suc n) = let rest = each_below p n in p n && rest

decides_each_below : {P : ℕ → Type 0} {p : ℕ → Bool} → ((k : ℕ) → Decides (P k) (p k)) → (n : ℕ) → Decides ((k : ℕ) → k < n → P k) (each_below p n)
unfolding each_below
decides_each_below d zero = holds (λ k h. absurd (not-suc-le-zero h))
decides_each_below d (suc n) =
    decides_if (
      (λ h k l. elim (ℕ_discrete k n) [ yes q ↦ rw q h.0 | no other ↦ h.1 k (omega arith) ]),
      (λ h. (h n (omega arith), λ k l. h k (omega arith))),
    )
    (decides_and (d n) (decides_each_below d n))

-- whether a list rises
unfoldable rises_test : List ℕ → Bool
unfolding each_below
rises_test xs = each_below (λ k. ltb (get_or xs k 0) (get_or xs (k + 1) 0)) (length xs - 1)

decides_rises : (xs : List ℕ) → Decides (Rises xs) (rises_test xs)
unfolding rises_test
decides_rises xs =
    decides_if ((λ h k l. h k (omega arith)), (λ h k l. h k (omega arith)))
    (decides_each_below (λ k. decides_below (get_or xs k 0) (get_or xs (k + 1) 0)) (length xs - 1))

-- whether a table is well-formed
unfoldable sound_test : Rows → Bool
unfolding each_below rises_test
sound_test rows =
    let starts = rows.starts in
    let targets = rows.targets in
    ltb 0 (length starts)
    && (ltb (length starts) (start_limit + 1)
    && (ltb (length targets) (edge_limit + 1)
    && (eqb (get_or starts 0 0) 0
    && (each_below (λ v. ltb (get_or starts v 0) (get_or starts (v + 1) 0 + 1)) (size rows)
    && (eqb (get_or starts (size rows) 0) (length targets)
    && (each_below (λ k. ltb (get_or targets k 0) (size rows)) (length targets) && each_below (λ v. rises_test (row starts targets v)) (size rows)))))))

decides_sound : (rows : Rows) → Decides (Sound rows) (sound_test rows)
unfolding sound_test
decides_sound rows =
    let starts = rows.starts in
    let targets = rows.targets in
    decides_if (
      (λ h.
          record {
            some = h.0;
            most_vertices = omega (arith, h.1.0);
            most_edges = omega (arith, h.1.1.0);
            starts_fit =
                record {
                  begins = h.1.1.1.0;
                  climbs = λ v l. omega (arith, h.1.1.1.1.0 v (omega arith));
                  ends = h.1.1.1.1.1.0;
                };
            targets_below = h.1.1.1.1.1.1.0;
            rows_rise = h.1.1.1.1.1.1.1;
          }),
      (λ ok. (
        ok.some,
        (
          omega (arith, ok.most_vertices),
          (
            omega (arith, ok.most_edges),
            (
              ok.starts_fit.begins,
              (λ v l. omega (arith, ok.starts_fit.climbs v (omega arith)), (ok.starts_fit.ends, (ok.targets_below, ok.rows_rise))),
            ),
          ),
        ),
      )),
    )
    (decides_and (decides_below 0 (length starts))
    (decides_and (decides_below (length starts) (start_limit + 1))
    (decides_and (decides_below (length targets) (edge_limit + 1))
    (decides_and (decides_equal (get_or starts 0 0) 0)
    (decides_and (decides_each_below (λ v. decides_below (get_or starts v 0) (get_or starts (v + 1) 0 + 1)) (size rows))
    (decides_and (decides_equal (get_or starts (size rows) 0) (length targets))
    (decides_and (decides_each_below (λ k. decides_below (get_or targets k 0) (size rows)) (length targets))
    (decides_each_below (λ v. decides_rises (row starts targets v)) (size rows)))))))))

-- whether the entrances rise
abbrev rising_test : List (ℕ × ℕ) → Bool
rising_test [] = true
rising_test (p ∷ []) = true
rising_test (p ∷ q ∷ ps) = ltb p.0 q.0 && rising_test (q ∷ ps)

double : (i : ℕ) → 2 * suc i ≡ suc (suc (2 * i))
double i = omega arith

double_one : (i : ℕ) → 2 * suc i + 1 ≡ suc (suc (2 * i + 1))
double_one i = omega arith

line : (ps : List (ℕ × ℕ)) (i : ℕ) → i < length ps → (p : ℕ × ℕ) × Memᴰ p ps × (get_or (flat ps) (2 * i) 0 ≡ p.0) × (get_or (flat ps) (2 * i + 1) 0 ≡ p.1)
line [] i h = absurd (not-suc-le-zero h)
line (p ∷ ps) zero h = (p, Memᴰ.head refl, refl, refl)
line (p ∷ ps) (suc i) h =
    let (q, m, s, t) = line ps i (le_of_suc-le-suc h) in
    (q, Memᴰ.tail m, rw (double i) s, rw (double_one i) t)

stands : (ps : List (ℕ × ℕ)) (p : ℕ × ℕ) → Memᴰ p ps → Stands (flat ps) (length ps) p.0 p.1
stands [] p x' = elim x' [ ]
stands (q ∷ ps) p (Memᴰ.head e) =
    record { line = 0; within = suc-le-suc zero-le; entrance = ap (λ (x : ℕ × ℕ). x.0) (sym e); exit = ap (λ (x : ℕ × ℕ). x.1) (sym e) }
stands (q ∷ ps) p (Memᴰ.tail m) =
    let found = stands ps p m in
    record {
      line = suc found.line;
      within = suc-le-suc found.within;
      entrance = rw (double found.line) found.entrance;
      exit = rw (double_one found.line) found.exit;
    }

both : (a b : Bool) → T (a && b) → T a × T b
both true true t = (tt, tt)
both true false t = absurd t
both false b t = absurd t

rising_at : (ps : List (ℕ × ℕ)) → T (rising_test ps) → (i : ℕ) → i + 1 < length ps → get_or (flat ps) (2 * i) 0 < get_or (flat ps) (2 * (i + 1)) 0
rising_at [] t i h = absurd (let no : ⊥ = omega arith in no)
rising_at (p ∷ []) t i h = absurd (let no : ⊥ = omega arith in no)
rising_at (p ∷ q ∷ ps) t zero h = ltb→lt p.0 q.0 (both (ltb p.0 q.0) (rising_test (q ∷ ps)) t).0
rising_at (p ∷ q ∷ ps) t (suc i) h =
    let next : 2 * (suc i + 1) ≡ suc (suc (2 * (i + 1))) = omega arith in
    rw (double i, next) (rising_at (q ∷ ps) (both (ltb p.0 q.0) (rising_test (q ∷ ps)) t).1 i (omega arith))

-- the computed superbubbles of a table, by rising entrance, are its list
computed : (rows : Rows) (ps : List (ℕ × ℕ)) → Sound rows → superbubbles (edge_test rows) (size rows) ≡ ps → T (rising_test ps)
    → Listed (Superbubble (edges rows)) (flat ps) (length ps)
computed rows ps ok e rise =
    record {
      long = flat_length ps;
      rising = rising_at ps rise;
      sound = λ i h. let (p, m, s, t) = line ps i h in rw (s, t) ((all p.0 p.1).0 m);
      whole = λ s t b. stands ps (s, t) ((all s t).1 b);
    }
  where
    all : (s t : ℕ) → Memᴰ (s, t) ps ↔ Superbubble (edges rows) s t
    all s t = rw e at (superbubbles_listed (decides_edge rows) (size rows) (edges_below ok) s t)

    flat_length : (l : List (ℕ × ℕ)) → length (flat l) ≡ 2 * length l
    flat_length [] = refl
    flat_length (p ∷ l) = omega (arith, flat_length l)

-- whether two lists of pairs are the same
abbrev same_test : List (ℕ × ℕ) → List (ℕ × ℕ) → Bool
same_test [] [] = true
same_test [] (q ∷ qs) = false
same_test (p ∷ ps) [] = false
same_test (p ∷ ps) (q ∷ qs) = eqb p.0 q.0 && (eqb p.1 q.1 && same_test ps qs)

same_pairs : (ps qs : List (ℕ × ℕ)) → T (same_test ps qs) → ps ≡ qs
same_pairs [] [] t = refl
same_pairs [] (q ∷ qs) t = absurd t
same_pairs (p ∷ ps) [] t = absurd t
same_pairs (p ∷ ps) (q ∷ qs) t =
    let (first, others) = both (eqb p.0 q.0) (eqb p.1 q.1 && same_test ps qs) t in
    let (second, rest) = both (eqb p.1 q.1) (same_test ps qs) others in
    λ i. (eqb→eq p.0 q.0 first i, eqb→eq p.1 q.1 second i) ∷ same_pairs ps qs rest i

-- a table is well-formed, and its pairs are the computed superbubbles, by rising entrance
unfoldable pub graph_test : Example → Bool
unfolding superbubbles edge_test sound_test
graph_test g = sound_test g.rows && (same_test (superbubbles (edge_test g.rows) (size g.rows)) g.pairs && rising_test g.pairs)

abbrev all_test : List Example → Bool
unfolding graph_test
all_test [] = true
all_test (g ∷ rest) = graph_test g && all_test rest

holds_where : {P : Type 0} (b : Bool) → Decides P b → T b → P
holds_where true d t = proved d
holds_where false d t = absurd t

pub graph_holds : (g : Example) → T (graph_test g) → RightlyListed g
unfolding graph_test
graph_holds g t =
    let found = superbubbles (edge_test g.rows) (size g.rows) in
    let (well, others) = both (sound_test g.rows) (same_test found g.pairs && rising_test g.pairs) t in
    let (same, rise) = both (same_test found g.pairs) (rising_test g.pairs) others in
    let ok = holds_where (sound_test g.rows) (decides_sound g.rows) well in
    (ok, computed g.rows g.pairs ok (same_pairs found g.pairs same) rise)

all_hold : (l : List Example) → T (all_test l) → Each RightlyListed l
unfolding all_test
all_hold [] t = tt
all_hold (g ∷ rest) t =
    let (first, others) = both (graph_test g) (all_test rest) t in
    (graph_holds g first, all_hold rest others)

pub twelve_graphs : Each RightlyListed graphs
unfolding graph_test
twelve_graphs = all_hold graphs tt
