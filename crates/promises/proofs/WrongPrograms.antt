-- The five wrong programs of docs/RULES.md, How tight the contracts are: no result of theirs is allowed by the contracts. Assumes nothing.
use Prim.Native.Nat.{ℕ, ◌-◌, ◌*◌, ◌≤◌, ◌<◌, min}
use mathlib.Core.Path.{◌≡◌, refl, ap, ◌∙◌}
use mathlib.Core.Logic.{◌↔◌}
use mathlib.Core.List.Memᴰ
use mathlib.Core.List.{List, [], ◌∷◌}
use native.Mathlib.Omega.{arith}
use lib.ListN.{length, take, drop, length-drop}
use Rattle.table.specs.Verdict.{Verdict}
use Rattle.table.specs.Table.{Rows, Table, size, edges, Sound, SoundTable}
use Rattle.table.specs.Numbers.{table_demands, counted_demands}
use Rattle.table.proofs.VerdictLaws.{verdict_unique}
use Rattle.table.proofs.Accepted.{well_formed_accepted, counted_accepted}
use Rattle.layout.specs.Image.{Contents, SoundContents, image_length, image_of}
use Rattle.image.specs.Looking.{Seen, contents_room, Looked, Loaded}
use Rattle.writing.specs.Writing.{Extent, Written}
use Rattle.writing.proofs.WriteLaws.{contents_written}
use Rattle.bubble.specs.Superbubble.{Superbubble}
use Rattle.bubble.proofs.Unique.{exit_unique}
use Rattle.listing.specs.Listing.{Found, ListDone}
use Rattle.listing.specs.Graphs.{graph_B, graph_C}
use Rattle.listing.proofs.ListLaws.{listed_determined}
use Rattle.promises.proofs.TwelveGraphs.{twelve_graphs}
use Rattle.rule.specs.Lists.{Listing}
use Rattle.rule.specs.Fold.{Entrance}
use Rattle.rule.specs.Way.{kind_of, candidates_of, the_fold}
use Rattle.rule.specs.declared.Mode.{Mode}
use Rattle.rule.proofs.Listings.{listing_unique}
use Rattle.rule.proofs.Remaining.{remaining_listed, items_number}
use Rattle.rule.proofs.TheFold.{the_fold_lawful}
use Rattle.promises.specs.Calls.{FoldCall}
use Rattle.promises.proofs.RoundTrip.{image_seen, image_loaded}
use Rattle.promises.proofs.Demand2.{list_exact, fold_by_rule}

-- ---- Refusing everything: a well-formed table is given 0, without its counts and with them;

pub check_accepts : (rows : Rows) (number : ℕ) → Sound rows → Verdict (table_demands rows) number → number ≡ 0
check_accepts rows number ok v = verdict_unique (table_demands rows) number 0 v (well_formed_accepted rows ok)

pub check_counted_accepts : (table : Table) (number : ℕ) → SoundTable table → Verdict (counted_demands table) number → number ≡ 0
check_counted_accepts table number ok v = verdict_unique (counted_demands table) number 0 v (counted_accepted table ok)

-- with room it is written, look takes its image, and with room it is loaded. List, judge and fold are `list_accepted`, `judged` and `fold_accepted` of Demand2.

pub write_accepts : {version : ℕ} {contents : Contents} {image image' : List ℕ} {answer : Extent} → SoundContents version contents
    → image_length version (size contents.table.rows) (length contents.table.rows.targets) ≤ length image → Written version contents image image' answer
    → answer.number ≡ 0
write_accepts = contents_written

pub look_accepts : {version : ℕ} {contents : Contents} {answer : Seen} → SoundContents version contents → Looked (image_of version contents) answer → answer.number ≡ 0
look_accepts = image_seen

pub load_accepts : {version : ℕ} {contents lent after : Contents} {answer : Seen} → SoundContents version contents
    → (contents_room version (size contents.table.rows) (length contents.table.rows.targets) lent).met
    → Loaded (image_of version contents) lent after answer → answer.number ≡ 0
load_accepts = image_loaded

-- ---- The same list for all: tables that get the same list have the same superbubbles.

pub same_list_same_superbubbles : {rows rows₂ : Rows} {out out' out₂ out₂' : List ℕ} {answer answer₂ : Found} → Sound rows → Sound rows₂
    → 2 * size rows ≤ length out → 2 * size rows₂ ≤ length out₂ → ListDone rows out out' answer → ListDone rows₂ out₂ out₂' answer₂
    → answer.found ≡ answer₂.found → take (2 * answer.found) out' ≡ take (2 * answer₂.found) out₂'
    → (s t : ℕ) → Superbubble (edges rows) s t ↔ Superbubble (edges rows₂) s t
same_list_same_superbubbles ok ok₂ room room₂ done done₂ many same s t = (
  λ b. (list_exact ok₂ room₂ done₂ s t).0 (rw (same, many) at ((list_exact ok room done s t).1 b)),
  λ b. (list_exact ok room done s t).0 (rw (← same, ← many) at ((list_exact ok₂ room₂ done₂ s t).1 b)),
)

-- So no list serves both graph B, which has no superbubble, and graph C, which has one.
pub no_list_for_all : {out out' : List ℕ} {answer : Found} → answer.number ≡ 0
    → ListDone graph_B.rows out out' answer → ListDone graph_C.rows out out' answer → ⊥
no_list_for_all {out} {out'} {answer} taken b c =
    let (none, _) = listed_determined (b.taken taken).listed twelve_graphs.1.0.1 (λ s t u p q. exit_unique p q) in
    let (one, _) = listed_determined (c.taken taken).listed twelve_graphs.1.1.0.1 (λ s t u p q. exit_unique p q) in
    omega (arith, none, one)

-- ---- A fold that copies its input, one that does every candidate on the first budget, and an invented folded or left:

module _ (mode : Mode) {table table' : Table} {budget : ℕ} (ok : SoundTable table) (kind : kind_of mode.rings (edges table.rows))
    (call : FoldCall (the_fold mode) table budget table') {candidates : List ℕ} (listed : Listing (Entrance (candidates_of mode.rings) (edges table.rows)) candidates) where
  -- the candidates of the new table are those after the first ones of the old, as many as the budget
  pub candidates_after : Listing (Entrance (candidates_of mode.rings) (edges table'.rows)) (drop budget candidates)
  candidates_after =
      let folded = (fold_by_rule mode ok kind call).graph_folded.applied in
      let same : folded.candidates ≡ candidates = listing_unique folded.listed listed in
      rw same at (remaining_listed (the_fold_lawful mode).candidates_lawful (the_fold_lawful mode).rule_lawful kind folded)

  -- folded is the number of the old table's candidates, or the budget if that is less
  pub folded_is : call.answer.folded ≡ min budget (length candidates)
  folded_is =
      let folded = (fold_by_rule mode ok kind call).graph_folded in
      let same : folded.applied.candidates ≡ candidates = listing_unique folded.applied.listed listed in
      rw same at (folded.how_many ∙ items_number (the_fold_lawful mode).candidates_lawful (the_fold_lawful mode).rule_lawful kind folded.applied)

  -- left is the number of the new table's candidates, and so of those that were not folded
  pub left_is : {after : List ℕ} → Listing (Entrance (candidates_of mode.rings) (edges table'.rows)) after
      → (call.answer.left ≡ length after) × (call.answer.left ≡ length candidates - call.answer.folded)
  left_is {after} there =
      let (l, held, number) = (fold_by_rule mode ok kind call).graph_folded.remaining in
      let number-after : length after ≡ length (drop budget candidates) = ap length (listing_unique there candidates_after) in
      let number-left : call.answer.left ≡ length after = number ∙ ap length (listing_unique held there) in
      (number-left, omega (arith, number-left, number-after, length-drop budget candidates, folded_is))

  -- a fold by a budget of 1 or more does not give back a table that has a candidate
  pub no_copy : 0 < budget → 0 < length candidates → table'.rows ≡ table.rows → ⊥
  no_copy some has same =
      let again : Listing (Entrance (candidates_of mode.rings) (edges table.rows)) (drop budget candidates) = rw same at candidates_after in
      omega (arith, ap length (listing_unique again listed), length-drop budget candidates)

  -- and by a budget below the number of candidates it leaves one to fold
  pub not_all_at_once : budget < length candidates → ((s t : ℕ) → candidates_of mode.rings (edges table'.rows) s t → ⊥) → ⊥
  not_all_at_once fewer none = first (drop budget candidates) candidates_after (length-drop budget candidates)
    where
      first : (l : List ℕ) → Listing (Entrance (candidates_of mode.rings) (edges table'.rows)) l → length l ≡ length candidates - budget → ⊥
      first [] there many = omega (arith, many)
      first (s ∷ l) there many = let (t, candidate) = (there.holds s).0 (Memᴰ.head refl) in none s t candidate
