-- The loop over the entrances: what holds after each of them, where the first candidates, as many as the budget, are folded. For every lawful way. Assumes nothing.
use Rattle.std.proofs.Common.{ℕ, zero, suc, ◌+◌, ◌≤◌, ◌<◌, ◌≡◌, refl, sym, ap, ◌∙◌, ◌⊎◌, List, [], ◌∷◌, ◌++◌}
use Rattle.std.proofs.Common.{inl, inr, ⊎_elim, arith, length, get_or, take, length-take, length-append, drop, take-append-drop, take_all}
use mathlib.Core.List.{map-append, Memᴰ}
use native.Mathlib.Decide.{ℕ_discrete, dec_lt}
use lib.ListN.{length-map}
use lib.Seq.{take-append-le}
use Rattle.table.specs.Table.{Table, size, edges, SoundTable}
use Rattle.table.proofs.RowLaws.{edges_below}
use Rattle.bubble.specs.Superbubble.{F, Interior}
use Rattle.bubble.proofs.Facts.{exit_inside}
use Rattle.bubble.proofs.Pigeonhole.{getD_in}
use Rattle.bubble.proofs.Number.{inside_below}
use Rattle.parents.proofs.OccurrenceLaws.{in_decided}
use Rattle.search.specs.Search.{Visited}
use Rattle.rule.specs.Lists.{sum, Follows}
use Rattle.rule.specs.Kept.{Arm}
use Rattle.rule.specs.Fold.{Item, Fits}
use Rattle.rule.specs.Way.{Way}
use Rattle.rule.specs.Laws.{WayLaws}
use Rattle.rule.specs.Tables.{count_of}
use Rattle.rule.specs.Next.{no_row, Numbered}
use Rattle.rule.proofs.Following.{follows_head}
use Rattle.rule.proofs.Items.{item_arm, dropped_inner}
use Rattle.candidates.specs.Candidates.{entrances_below}
use Rattle.candidates.proofs.EntranceLaws.{entrance_more, entrance_none, listed_below}
use Rattle.kept.specs.Keeping.{KeptDone}
use Rattle.kept.proofs.DoneLaws.{followed_or_dropped}
use Rattle.entrances.specs.Turns.{Turns}

-- before the first entrance every row is whole and every count as it was
pub turns_none : {way : Way} {table : Table} (exits : List ℕ) {next out : List ℕ} (budget : ℕ) → ((v : ℕ) → v < size table.rows → get_or next v 0 ≡ size table.rows)
    → out ≡ table.counts → Turns way table exits next out budget 0 0
turns_none exits budget whole same =
    record {
      items = [];
      first = sym (take_nothing budget);
      how_many = refl;
      fit = λ i m. absurd (mathlib.Core.List.Memᴰ.not-nil m);
      numbered = λ u h.
          record {
            whole = λ e i m. absurd (mathlib.Core.List.Memᴰ.not-nil m);
            one = λ l. absurd (let no : ⊥ = omega (arith, whole u h) in no);
            none = λ l. absurd (let no : ⊥ = omega (arith, whole u h) in no);
          };
      added = λ i m. absurd (mathlib.Core.List.Memᴰ.not-nil m);
      emptied = λ i m. absurd (mathlib.Core.List.Memᴰ.not-nil m);
      untouched = λ v none. ap (λ (l : List ℕ). get_or l v 0) same;
    }
  where
    take_nothing : (b : ℕ) → take b (entrances_below exits 0) ≡ []
    take_nothing zero = refl
    take_nothing (suc b) = refl

-- one vertex more that is the entrance of no candidate, or behind a spent budget: the first of them stay the same
front_on : (exits : List ℕ) (budget s : ℕ) → (length exits ≤ get_or exits s 0) ⊎ (budget ≤ length (entrances_below exits s))
    → take budget (entrances_below exits (s + 1)) ≡ take budget (entrances_below exits s)
front_on exits budget s h =
    elim (dec_lt (get_or exits s 0) (length exits)) [
      | no n ↦ ap (take budget) (entrance_none exits s (omega arith))
      | yes k ↦
          let spent : budget ≤ length (entrances_below exits s) = ⊎_elim (λ l. absurd (let no : ⊥ = omega arith in no)) (λ l. l) h in
          ap (take budget) (entrance_more exits s k) ∙ take-append-le budget (entrances_below exits s) (s ∷ []) spent
    ]

module _ {way : Way} {table : Table} {exits next out : List ℕ} {budget s folded : ℕ} (turns : Turns way table exits next out budget s folded) where
  -- so many are folded as there are, up to the budget
  pub folded_number : folded ≡ length (take budget (entrances_below exits s))
  folded_number = turns.how_many ∙ sym (length-map turns.items (λ (i : Item). i.entrance)) ∙ ap length turns.first

  -- s is the entrance of no candidate, or the budget is spent
  pub turns_on : (length exits ≤ get_or exits s 0) ⊎ (budget ≤ folded) → Turns way table exits next out budget (s + 1) folded
  turns_on h =
      let spent : budget ≤ folded → budget ≤ length (entrances_below exits s) = λ l. omega (arith, folded_number, length-take budget (entrances_below exits s)) in
      record {
        items = turns.items;
        first = turns.first ∙ sym (front_on exits budget s (⊎_elim inl (λ l. inr (spent l)) h));
        how_many = turns.how_many;
        fit = turns.fit;
        numbered = turns.numbered;
        added = turns.added;
        emptied = turns.emptied;
        untouched = turns.untouched;
      }

  -- a folded entrance was passed
  item_below : (i : Item) → Memᴰ i turns.items → i.entrance < s
  item_below i m =
      let folded-one : Memᴰ i.entrance (take budget (entrances_below exits s)) = rw turns.first at (mathlib.Core.List.Memᴰ.map (λ (j : Item). j.entrance) m) in
      (((listed_below exits s).holds i.entrance).0 (rw take-append-drop at (mathlib.Core.List.Memᴰ.append_left (drop budget (entrances_below exits s)) folded-one))).0

module _ {way : Way} (laws : WayLaws way) {table : Table} (ok : SoundTable table) (kind : way.Kind (edges table.rows)) {exits next out : List ℕ} {budget s folded : ℕ}
    (turns : Turns way table exits next out budget s folded) {t : ℕ} (candidate : way.candidates (edges table.rows) s t) where
  open table use {rows, counts}

  -- what is interior to a candidate that was folded is not in this one
  apart_before : (i : Item) → Memᴰ i turns.items → (v : ℕ) → Interior (edges rows) i.entrance i.exit v → F (edges rows) s t v → ⊥
  apart_before i m v inner f =
      laws.candidates_lawful.apart kind (turns.fit i m).candidate candidate (λ e. let l = item_below turns i m in omega arith) inner f

  module _ {order best best' next' out' : List ℕ} {k : ℕ} (entrance : s < size rows) (visited : Visited rows.starts rows.targets order s t k)
      (done : KeptDone way.candidates way.rule table s t best next out best' next' out') where
    new : Memᴰ done.item (turns.items ++ done.item ∷ [])
    new = mathlib.Core.List.Memᴰ.append_right turns.items (mathlib.Core.List.Memᴰ.head refl)

    old : (i : Item) → Memᴰ i turns.items → Memᴰ i (turns.items ++ done.item ∷ [])
    old i m = mathlib.Core.List.Memᴰ.append_left (done.item ∷ []) m

    cases : (i : Item) → Memᴰ i (turns.items ++ done.item ∷ []) → Memᴰ i turns.items ⊎ (i ≡ done.item)
    cases i m = ⊎_elim (λ l. inl l) (λ l. inr (mathlib.Core.List.Memᴰ.eq_of_singleton l)) (mathlib.Core.List.Memᴰ.append_cases turns.items m)

    fit_all : (i : Item) → Memᴰ i (turns.items ++ done.item ∷ []) → Fits way.candidates way.rule (edges rows) (count_of counts) i
    fit_all i m = ⊎_elim (turns.fit i) (λ e. rw e done.fits) (cases i m)

    arm : Arm (edges rows) s t done.item.arm
    arm = rw (done.entrance, done.exit) at (item_arm laws.candidates_lawful laws.rule_lawful done.fits)

    exit_in : F (edges rows) s t t
    exit_in = exit_inside (laws.candidates_lawful.superbubble candidate).bubbloid

    -- what follows on the kept path is a vertex
    next_below : (u w : ℕ) → Follows (s ∷ done.item.arm ++ (t ∷ [])) u w → w < size rows
    next_below u w f =
        inside_below (edges_below ok.well_formed) {t = t} entrance
        (⊎_elim (λ m. (arm.inner w m).inside) (λ m. let e : w ≡ t = mathlib.Core.List.Memᴰ.eq_of_singleton m in rw e exit_in)
        (mathlib.Core.List.Memᴰ.append_cases done.item.arm (follows_head f)))

    on_path : (u w : ℕ) → Follows (s ∷ done.item.arm ++ (t ∷ [])) u w → Numbered (edges rows) (turns.items ++ done.item ∷ []) (size rows) (count_of next') u
    on_path u w f =
        let e : get_or next' u 0 ≡ w = done.on_path u w f in
        let l : w < size rows = next_below u w f in
        let g : Follows (done.item.entrance ∷ done.item.arm ++ (done.item.exit ∷ [])) u (get_or next' u 0) = rw (done.entrance, done.exit, e) f in
        record {
          whole = λ q. absurd (let no : ⊥ = omega arith in no);
          one = λ h. (done.item, new, g);
          none = λ h. absurd (let no : ⊥ = omega arith in no);
        }

    off_path : (u : ℕ) → Memᴰ u done.item.dropped → Numbered (edges rows) (turns.items ++ done.item ∷ []) (size rows) (count_of next') u
    off_path u m =
        let e : get_or next' u 0 ≡ no_row (size rows) = done.off_path u m in
        record {
          whole = λ q. absurd (let no : ⊥ = omega arith in no);
          one = λ h. absurd (let no : ⊥ = omega arith in no);
          none = λ h. (done.item, new, m);
        }

    elsewhere : (u : ℕ) → u < size rows → (F (edges rows) s t u → u ≡ t) → Numbered (edges rows) (turns.items ++ done.item ∷ []) (size rows) (count_of next') u
    elsewhere u h only =
        let same : get_or next' u 0 ≡ get_or next u 0 = done.elsewhere u only in
        let before = turns.numbered u h in
        let here-too : (i : Item) → i ≡ done.item → F (edges rows) i.entrance i.exit u → u ≡ i.exit
        = λ i e f. let g : F (edges rows) s t u = rw (e, done.entrance, done.exit) at f in rw (e, done.exit) (only g) in
        record {
          whole = λ q i m f. ⊎_elim (λ l. before.whole (sym same ∙ q) i l f) (λ e. here-too i e f) (cases i m);
          one = λ l. let (i, m, f) = before.one (rw same at l) in (i, old i m, rw same f);
          none = λ l. let (i, m, d) = before.none (rw same at l) in (i, old i m, d);
        }

    numbered_all : (u : ℕ) → u < size rows → Numbered (edges rows) (turns.items ++ done.item ∷ []) (size rows) (count_of next') u
    numbered_all u h =
        elim (in_decided u (take k order)) [
          | yes i ↦
              let (f, o) = (visited.whole u).0 i in
              ⊎_elim (λ next_one. on_path u next_one.0 next_one.1) (off_path u)
              (followed_or_dropped laws.candidates_lawful laws.rule_lawful done f o)
          | no n ↦ elsewhere u h (λ f. elim (ℕ_discrete u t) [ yes e ↦ e | no o ↦ absurd (n ((visited.whole u).1 (f, o))) ])
        ]

    added_all : (i : Item) → Memᴰ i (turns.items ++ done.item ∷ []) → (j : ℕ) → j < length i.arm
        → get_or out' (get_or i.arm j 0) 0 ≡ get_or counts (get_or i.arm j 0) 0 + way.rule.portion (sum (count_of counts) i.dropped) (length i.arm) j
    added_all i m j h =
        ⊎_elim
        (λ l.
        let v = get_or i.arm j 0 in
        let inner = (item_arm laws.candidates_lawful laws.rule_lawful (turns.fit i l)).inner v (getD_in i.arm j h) in
        done.untouched v (λ here-too. apart_before i l v inner here-too.inside) ∙ turns.added i l j h)
        (λ e. added_new i e j h) (cases i m)
      where
        added_new : (x : Item) → x ≡ done.item → (y : ℕ) → y < length x.arm
            → get_or out' (get_or x.arm y 0) 0 ≡ get_or counts (get_or x.arm y 0) 0 + way.rule.portion (sum (count_of counts) x.dropped) (length x.arm) y
        added_new x e y l = rw e (done.added y (rw e at l))

    emptied_all : (i : Item) → Memᴰ i (turns.items ++ done.item ∷ []) → (v : ℕ) → Memᴰ v i.dropped → get_or out' v 0 ≡ 0
    emptied_all i m v d =
        ⊎_elim
        (λ l.
        let inner = dropped_inner laws.candidates_lawful laws.rule_lawful (turns.fit i l) d in
        done.untouched v (λ here-too. apart_before i l v inner here-too.inside) ∙ turns.emptied i l v d) (λ e. done.emptied v (rw e at d)) (cases i m)

    untouched_all : (v : ℕ) → ((i : Item) → Memᴰ i (turns.items ++ done.item ∷ []) → Interior (edges rows) i.entrance i.exit v → ⊥)
        → get_or out' v 0 ≡ get_or counts v 0
    untouched_all v none =
        done.untouched v (λ inner. none done.item new (rw (done.entrance, done.exit) inner)) ∙ turns.untouched v (λ i m. none i (old i m))

    -- and the candidate is folded
    pub turns_more : get_or exits s 0 < length exits → folded < budget → Turns way table exits next' out' budget (s + 1) (folded + 1)
    turns_more h l =
        let before = entrances_below exits s in
        let short : length before < budget = omega (arith, folded_number turns, length-take budget before) in
        let long : length (before ++ s ∷ []) ≤ budget = omega (arith, length-append before (s ∷ [])) in
        record {
          items = (turns.items ++ done.item ∷ []);
          first =
              map-append (λ (i : Item). i.entrance) turns.items (done.item ∷ [])
              ∙ ap (λ (x : List ℕ). x ++ done.item.entrance ∷ []) (turns.first ∙ take_all budget before (omega arith))
              ∙ ap (λ (x : ℕ). before ++ x ∷ []) done.entrance
              ∙ sym (take_all budget (before ++ s ∷ []) long)
              ∙ ap (take budget) (sym (entrance_more exits s h));
          how_many = rw turns.how_many (sym (length-append turns.items (done.item ∷ [])));
          fit = fit_all;
          numbered = numbered_all;
          added = added_all;
          emptied = emptied_all;
          untouched = untouched_all;
        }
