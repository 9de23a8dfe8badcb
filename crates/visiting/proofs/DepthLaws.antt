-- Laws of the walk over a list of colours and the turns of the path: what holds where a visit begins, goes down, comes back and ends. Assumes nothing.
use Rattle.std.proofs.Common.{ℕ, ◌+◌, ◌-◌, ◌≤◌, ◌<◌, ◌≡◌, refl, sym, ◌∙◌, ◌⊎◌, inl, inr, ⊎_elim, List, arith, length, get_or, set, length-set, get_or-set_same}
use Rattle.std.proofs.Common.{get_or-set_other, Option, unwrap_or}
use native.Mathlib.Decide.{ℕ_discrete, dec_lt}
use Rattle.table.specs.Limits.{edge_limit}
use Rattle.table.specs.Table.{vertices, row, WellFormed}
use Rattle.table.proofs.RowLaws.{row_lies, next_start, row_below}
use Rattle.bubble.specs.Superbubble.{Reaches, Reaches.none, Reaches.then}
use Rattle.bubble.proofs.Walks.{reaches_walk}
use Rattle.visiting.specs.declared.Turn.{Turn}
use Rattle.visiting.specs.Visits.{Followed, PassedOver, NextOpen, Safe, Safe.safe, Visitable, RootDone, LeadsToCycle}
use Rattle.visiting.proofs.CountLaws.{unvisited, unvisited_most, enter_unvisited, leave_unvisited}

-- what a read past the end of a path would show
abbrev pub no_turn : Turn
no_turn = record { vertex = 0; place = 0 }

-- a vertex on the path: the first `place` of its row are passed, and those to which the walk follows an edge are safe
pub record RowPassed (starts targets colours : List ℕ) (from to v place : ℕ) : Type 0 where
  pub vertex : v < vertices starts
  pub inside : get_or colours v 0 ≡ 0
  pub within : place ≤ length (row starts targets v)
  pub passed :
      (k : ℕ) → k < place → Followed starts targets colours from to v (get_or (row starts targets v) k 0)
      → Safe (Followed starts targets colours from to) (get_or (row starts targets v) k 0)

-- what holds on the way: the turns lead from the root to v, each vertex of them to the later ones and to v, and these and v are all that have the colour 1
pub record OnWay (starts targets before : List ℕ) (from to root : ℕ) (colours : List ℕ) (path : List Turn) (depth v place : ℕ) : Type 0 where
  pub well_formed : WellFormed starts targets
  pub colours_room : vertices starts ≤ length colours
  pub path_room : vertices starts ≤ length path
  pub outside : (u : ℕ) → u < vertices starts → (get_or before u 0 ≡ 0) ⊎ (2 ≤ get_or before u 0)
  pub alone : depth ≡ 0 → v ≡ root
  pub first : 0 < depth → (get_or path 0 no_turn).vertex ≡ root
  pub last_row : RowPassed starts targets before from to v place
  pub other_rows : (i : ℕ) → i < depth → RowPassed starts targets before from to (get_or path i no_turn).vertex (get_or path i no_turn).place
  pub joined :
      (i j : ℕ) → i < j → j < depth → Reaches (Followed starts targets before from to) (get_or path i no_turn).vertex (get_or path j no_turn).vertex
  pub leads : (i : ℕ) → i < depth → Reaches (Followed starts targets before from to) (get_or path i no_turn).vertex v
  pub on_path : (u : ℕ) → u < vertices starts → get_or colours u 0 ≡ 1 → (u ≡ v) ⊎ ((i : ℕ) × (i < depth) × ((get_or path i no_turn).vertex ≡ u))
  pub stays : (u : ℕ) → 2 ≤ get_or before u 0 → 2 ≤ get_or colours u 0
  pub done_safe : (u : ℕ) → u < vertices starts → get_or before u 0 ≡ 0 → 2 ≤ get_or colours u 0 → Safe (Followed starts targets before from to) u
  pub fits : depth + 1 + unvisited (vertices starts) colours ≤ vertices starts

-- the walk has found w open, at the place k of the row of v: the places before it are passed
pub record Opened (starts targets before : List ℕ) (from to root : ℕ) (colours : List ℕ) (path : List Turn) (depth v k w : ℕ) : Type 0 where
  pub on_way : OnWay starts targets before from to root colours path depth v k
  pub few : k < edge_limit
  pub vertex : w < vertices starts
  pub edge : Followed starts targets before from to v w
  pub not_done : get_or colours w 0 < 2

-- a vertex that is done is left alone
pub left_alone : {starts targets colours : List ℕ} {path : List Turn} {from to root : ℕ} → Visitable starts targets colours path root → (get_or colours root 0 ≡ 0 → ⊥)
    → RootDone starts targets colours from to root colours path
left_alone {root = root} can n =
    record {
      prepared = can.prepared;
      stays = λ v h. h;
      done = ⊎_elim (λ z. absurd (n z)) (λ h. h) (can.prepared.none_on_path root can.vertex);
      done_safe = λ v l z d. absurd (omega (arith, z, d));
    }

-- the root alone is on the way
pub walk_begins : {starts targets colours : List ℕ} {path : List Turn} {from to root : ℕ} → Visitable starts targets colours path root → get_or colours root 0 ≡ 0
    → OnWay starts targets colours from to root (set colours root 1) path 0 root 0
walk_begins {starts} {colours = colours} {root = root} can new =
    let coloured : root < length colours = omega (arith, can.prepared.colours_room, can.vertex) in
    record {
      well_formed = can.prepared.well_formed;
      colours_room = rw (length-set colours root 1) can.prepared.colours_room;
      path_room = can.prepared.path_room;
      outside = can.prepared.none_on_path;
      alone = λ z. refl;
      first = λ l. absurd (omega (arith, l));
      last_row = record { vertex = can.vertex; inside = new; within = omega arith; passed = λ k l. absurd (omega (arith, l)) };
      other_rows = λ i l. absurd (omega (arith, l));
      joined = λ i j l m. absurd (omega (arith, m));
      leads = λ i l. absurd (omega (arith, l));
      on_path = λ u l q. elim (ℕ_discrete u root) [
        | yes e ↦ inl e
        | no n ↦ let was : get_or colours u 0 ≡ 1 = rw (get_or-set_other colours root u 1 0 n) at q in
            absurd (⊎_elim (λ z. omega (arith, z, was)) (λ d. omega (arith, d, was)) (can.prepared.none_on_path u l))
      ];
      stays = λ u d. elim (ℕ_discrete u root) [
        | yes e ↦ absurd (omega (arith, new, rw e at d))
        | no n ↦ rw (get_or-set_other colours root u 1 0 n) d
      ];
      done_safe = λ u l z d. elim (ℕ_discrete u root) [
        | yes e ↦ absurd (omega (arith, get_or-set_same colours root 1 0 coloured, rw e at d))
        | no n ↦ absurd (omega (arith, z, rw (get_or-set_other colours root u 1 0 n) at d))
      ];
      fits = omega (arith, enter_unvisited (vertices starts) colours root can.vertex coloured new, unvisited_most (vertices starts) colours);
    }

module _ {starts targets before : List ℕ} {from to root : ℕ} {colours : List ℕ} {path : List Turn} {depth v place : ℕ}
    (at : OnWay starts targets before from to root colours path depth v place) where
  -- v has a colour
  pub coloured : v < length colours
  coloured = omega (arith, at.colours_room, at.last_row.vertex)

  -- its row has at most 8,192 places
  pub row_most : length (row starts targets v) ≤ edge_limit
  row_most =
      let l = row_lies starts targets at.well_formed.starts_fit v at.last_row.vertex in
      omega (arith, l.within, next_start at.well_formed v at.last_row.vertex, at.well_formed.most_edges)

  -- the places of the row of v up to the next open one are passed
  goes_on : {none over r : ℕ} → vertices starts ≤ none → PassedOver v from to none over → NextOpen (row starts targets v) colours place over r
      → OnWay starts targets before from to root colours path depth v r
  goes_on {none} {over} {r} most po next =
      let below = row_below starts targets at.well_formed.targets_below v in
      record {
        well_formed = at.well_formed;
        colours_room = at.colours_room;
        path_room = at.path_room;
        outside = at.outside;
        alone = at.alone;
        first = at.first;
        last_row = record {
          vertex = at.last_row.vertex;
          inside = at.last_row.inside;
          within = next.within;
          passed = λ k l e. elim (dec_lt k place) [
            | yes h ↦ at.last_row.passed k h e
            | no h ↦ ⊎_elim (λ d. at.done_safe (get_or (row starts targets v) k 0) (below k (omega (arith, l, next.within))) e.enters d)
                (λ q. elim (ℕ_discrete v from) [
                  | yes p ↦ absurd (e.other p (q ∙ po.here p))
                  | no n ↦ absurd (omega (arith, below k (omega (arith, l, next.within)), q ∙ po.elsewhere n))
                ])
                (next.passed k (omega arith) l)
          ];
        };
        other_rows = at.other_rows;
        joined = at.joined;
        leads = at.leads;
        on_path = at.on_path;
        stays = at.stays;
        done_safe = at.done_safe;
        fits = at.fits;
      }

  -- what the walk finds open in the row of v
  pub opened : {xs : List ℕ} {k : ℕ} (over : Option ℕ) → xs ≡ row starts targets v → ((none : ℕ) → PassedOver v from to none (unwrap_or over none))
      → ((none : ℕ) → length colours ≤ none → (k < length xs) × NextOpen xs colours place (unwrap_or over none) k)
      → Opened starts targets before from to root colours path depth v k (get_or xs k 0)
  opened {k = k} over q po found =
      let (inside, next) = rw q at (found (length colours) (omega arith)) in
      let w = get_or (row starts targets v) k 0 in
      let vertex : w < vertices starts = row_below starts targets at.well_formed.targets_below v k inside in
      rw q (record {
        on_way = goes_on at.colours_room (po (length colours)) next;
        few = omega (arith, inside, row_most);
        vertex = vertex;
        edge = record {
          edge = record { vertex = at.last_row.vertex; listed = record { place = k; inside = inside; stands = refl } };
          leaves = at.last_row.inside;
          enters = ⊎_elim (λ z. z) (λ h. absurd (omega (arith, next.not_done inside, at.stays w h))) (at.outside w vertex);
          other = λ p z. next.not_over inside (z ∙ sym ((po (length colours)).here p));
        };
        not_done = next.not_done inside;
      })

  -- and where it finds nothing open there: the whole row is passed
  pub row_ends : {xs : List ℕ} (over : Option ℕ) → xs ≡ row starts targets v → ((none : ℕ) → PassedOver v from to none (unwrap_or over none))
      → ((none : ℕ) → length colours ≤ none → NextOpen xs colours place (unwrap_or over none) (length xs))
      → OnWay starts targets before from to root colours path depth v (length (row starts targets v))
  row_ends over q po found = goes_on at.colours_room (po (length colours)) (rw q at (found (length colours) (omega arith)))

  -- where the row of v is passed, v is safe
  row_passed : length (row starts targets v) ≤ place → Safe (Followed starts targets before from to) v
  row_passed l =
      safe {v = v} (λ w e. let i = e.edge.listed in
      rw i.stands at (at.last_row.passed i.place (omega (arith, l, i.inside)) (rw i.stands e)))

  -- the root reaches v
  root_reaches : Reaches (Followed starts targets before from to) root v
  root_reaches = elim (ℕ_discrete depth 0) [ yes z ↦ rw (at.alone z) none | no n ↦ rw (at.first (omega arith)) at (at.leads 0 (omega arith)) ]

  -- and each vertex of a turn
  root_reaches_turn : (i : ℕ) → i < depth → Reaches (Followed starts targets before from to) root (get_or path i no_turn).vertex
  root_reaches_turn i b =
      let first = at.first (omega (arith, b)) in
      elim (ℕ_discrete i 0) [ yes z ↦ rw (z, first) none | no n ↦ rw first at (at.joined 0 i (omega arith) b) ]

  -- where an edge of v is followed to a vertex on the path, the root leads to a cycle
  pub closes : {w : ℕ} → Followed starts targets before from to v w → w < vertices starts → get_or colours w 0 ≡ 1 → LeadsToCycle (Followed starts targets before from to) root
  closes {w} e l q =
      ⊎_elim (λ z. record { vertex = v; reached = root_reaches; back = reaches_walk (λ x. tt) none (rw z at e) })
      (λ turn. let (i, b, stands) = turn in
      record { vertex = w; reached = rw stands at (root_reaches_turn i b); back = reaches_walk (λ x. tt) (rw stands at (at.leads i b)) e })
      (at.on_path w l q)

  -- an unvisited vertex to which an edge of v is followed is put on the path
  pub goes_down : {w : ℕ} → Followed starts targets before from to v w → w < vertices starts → get_or colours w 0 ≡ 0
      → OnWay starts targets before from to root (set colours w 1) (set path depth (record { vertex = v; place = place })) (depth + 1) w 0
  goes_down {w} e l q =
      let long : w < length colours = omega (arith, at.colours_room, l) in
      let fewer = enter_unvisited (vertices starts) colours w l long q in
      let turn : Turn = record { vertex = v; place = place } in
      let here : (i : ℕ) → i ≡ depth → get_or (set path depth turn) i no_turn ≡ turn =
      λ i z. rw z (get_or-set_same path depth turn no_turn (omega (arith, at.fits, at.path_room))) in
      let below : (i : ℕ) → i < depth → get_or (set path depth turn) i no_turn ≡ get_or path i no_turn =
      λ i b. get_or-set_other path depth i turn no_turn (λ z. omega (arith, z, b)) in
      record {
        well_formed = at.well_formed;
        colours_room = rw (length-set colours w 1) at.colours_room;
        path_room = rw (length-set path depth turn) at.path_room;
        outside = at.outside;
        alone = λ z. absurd (omega (arith, z));
        first = λ b. elim (ℕ_discrete depth 0) [
          | yes z ↦ rw (here 0 (sym z)) (at.alone z)
          | no n ↦ rw (below 0 (omega arith)) (at.first (omega arith))
        ];
        last_row = record { vertex = l; inside = e.enters; within = omega arith; passed = λ k b. absurd (omega (arith, b)) };
        other_rows = λ i b. elim (ℕ_discrete i depth) [
          | yes z ↦ rw (here i z) at.last_row
          | no n ↦ rw (below i (omega (arith, n, b))) (at.other_rows i (omega (arith, n, b)))
        ];
        joined = λ i j b c. elim (ℕ_discrete j depth) [
          | yes z ↦ rw (here j z, below i (omega (arith, z, b))) (at.leads i (omega (arith, z, b)))
          | no n ↦ rw (below i (omega (arith, n, b, c)), below j (omega (arith, n, c))) (at.joined i j b (omega (arith, n, c)))
        ];
        leads = λ i b. elim (ℕ_discrete i depth) [
          | yes z ↦ rw (here i z) (then none e)
          | no n ↦ rw (below i (omega (arith, n, b))) (then (at.leads i (omega (arith, n, b))) e)
        ];
        on_path = λ u b p. elim (ℕ_discrete u w) [
          | yes z ↦ inl z
          | no n ↦ ⊎_elim (λ z. inr (depth, omega arith, rw (here depth refl) (sym z))) (λ x. let (i, c, stands) = x in inr (i, omega (arith, c), rw (below i c) stands))
              (at.on_path u b (rw (get_or-set_other colours w u 1 0 n) at p))
        ];
        stays = λ u h. elim (ℕ_discrete u w) [
          | yes z ↦ absurd (omega (arith, e.enters, rw z at h))
          | no n ↦ rw (get_or-set_other colours w u 1 0 n) (at.stays u h)
        ];
        done_safe = λ u b z d. elim (ℕ_discrete u w) [
          | yes p ↦ absurd (omega (arith, get_or-set_same colours w 1 0 long, rw p at d))
          | no n ↦ at.done_safe u b z (rw (get_or-set_other colours w u 1 0 n) at d)
        ];
        fits = omega (arith, fewer, at.fits);
      }

  -- v is done: what was done stays so
  done_stays : (u : ℕ) → 2 ≤ get_or before u 0 → 2 ≤ get_or (set colours v 2) u 0
  done_stays u h =
      elim (ℕ_discrete u v) [
        | yes z ↦ rw (z, get_or-set_same colours v 2 0 coloured) (omega arith)
        | no n ↦ rw (get_or-set_other colours v u 2 0 n) (at.stays u h)
      ]

  -- and all that is done is safe
  all_safe : length (row starts targets v) ≤ place → (u : ℕ) → u < vertices starts → get_or before u 0 ≡ 0 → 2 ≤ get_or (set colours v 2) u 0
      → Safe (Followed starts targets before from to) u
  all_safe l u b z d =
      elim (ℕ_discrete u v) [
        | yes p ↦ rw p (row_passed l)
        | no n ↦ at.done_safe u b z (rw (get_or-set_other colours v u 2 0 n) at d)
      ]

  -- a vertex on the path is another one
  still_on_path : (u : ℕ) → u < vertices starts → get_or (set colours v 2) u 0 ≡ 1 → (i : ℕ) × (i < depth) × ((get_or path i no_turn).vertex ≡ u)
  still_on_path u b q =
      elim (ℕ_discrete u v) [
        | yes z ↦ absurd (omega (arith, get_or-set_same colours v 2 0 coloured, rw z at q))
        | no n ↦ ⊎_elim (λ z. absurd (n z)) (λ x. x) (at.on_path u b (rw (get_or-set_other colours v u 2 0 n) at q))
      ]

  -- v is done, and the walk comes back to the vertex before it
  pub comes_back : length (row starts targets v) ≤ place → 0 < depth
      → OnWay starts targets before from to root (set colours v 2) path (depth - 1) (get_or path (depth - 1) no_turn).vertex (get_or path (depth - 1) no_turn).place
  comes_back l n =
      record {
        well_formed = at.well_formed;
        colours_room = rw (length-set colours v 2) at.colours_room;
        path_room = at.path_room;
        outside = at.outside;
        alone = λ z. rw z (at.first n);
        first = λ b. at.first n;
        last_row = at.other_rows (depth - 1) (omega arith);
        other_rows = λ i b. at.other_rows i (omega (arith, b));
        joined = λ i j b c. at.joined i j b (omega (arith, c));
        leads = λ i b. at.joined i (depth - 1) b (omega arith);
        on_path = λ u b q. let (i, c, stands) = still_on_path u b q in
            elim (ℕ_discrete i (depth - 1)) [ yes z ↦ inl (rw z at (sym stands)) | no k ↦ inr (i, omega (arith, k, c), stands) ];
        stays = done_stays;
        done_safe = all_safe l;
        fits = omega (arith, at.fits, leave_unvisited (vertices starts) colours v coloured);
      }

  -- v is done, and there is none before it: it is the root
  pub visit_ends : length (row starts targets v) ≤ place → depth ≡ 0 → RootDone starts targets before from to root (set colours v 2) path
  visit_ends l z =
      record {
        prepared = record {
          well_formed = at.well_formed;
          colours_room = rw (length-set colours v 2) at.colours_room;
          path_room = at.path_room;
          none_on_path = λ u b. elim (ℕ_discrete (get_or (set colours v 2) u 0) 0) [
            | yes q ↦ inl q
            | no n ↦ elim (ℕ_discrete (get_or (set colours v 2) u 0) 1) [
              | yes q ↦ let (i, c, stands) = still_on_path u b q in absurd (omega (arith, c, z))
              | no k ↦ inr (omega arith)
            ]
          ];
        };
        stays = done_stays;
        done = rw (← at.alone z, get_or-set_same colours v 2 0 coloured) (omega arith);
        done_safe = all_safe l;
      }
