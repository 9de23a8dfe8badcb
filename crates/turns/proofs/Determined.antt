-- Two results that the contract of `turn` allows coincide, for every lawful way: how many candidates there are, how many were folded, and the new counts.
-- Of `next` the number of a dropped vertex is open: any that is above n says that no edge of it stays. Assumes nothing.
use Rattle.std.proofs.Common.{ℕ, ◌≡◌, sym, ap, ◌∙◌, List, map, length, take, ext_get_or}
use mathlib.Core.List.{Memᴰ}
use lib.ListN.{length-map}
use Rattle.table.specs.Table.{Table, edges}
use Rattle.rule.specs.Lists.{Graph, Listing}
use Rattle.rule.specs.Fold.{Item, Entrance, Stays, Applied}
use Rattle.rule.specs.Tables.{count_of}
use Rattle.rule.specs.Way.{Way}
use Rattle.rule.specs.Laws.{WayLaws}
use Rattle.rule.proofs.Coincide.{applied_same}
use Rattle.rule.proofs.Listings.{listing_unique}
use Rattle.candidates.specs.Candidates.{entrances_below, entrances}
use Rattle.candidates.proofs.FoundLaws.{entrances_listed}
use Rattle.turns.specs.declared.Turned.{Turned}
use Rattle.turns.specs.Turns.{TurnDone}

module _ {way : Way} (laws : WayLaws way) {table : Table} {budget : ℕ} where
  module _ {next out : List ℕ} {answer : Turned} (done : TurnDone way table budget next out answer) where
    -- the edges that stay of the folded candidates
    abbrev left_standing : Graph
    left_standing u v =
        edges table.rows u v × ((i : Item) → Memᴰ i done.turns.items → Stays (edges table.rows) i.entrance i.exit i.arm u v)

    listed : Listing (Entrance way.candidates (edges table.rows)) (entrances done.exits)
    listed = entrances_listed laws.candidates_lawful done.candidates

    first : map (λ (i : Item). i.entrance) done.turns.items ≡ take budget (entrances done.exits)
    first = done.turns.first ∙ ap (λ (n : ℕ). take budget (entrances_below done.exits n)) (sym done.candidates.each)

    -- the first candidates are folded by the rule
    applied : Applied way.candidates way.rule (edges table.rows) (count_of table.counts) budget left_standing (count_of out)
    applied =
        record {
          candidates = entrances done.exits;
          listed = listed;
          items = done.turns.items;
          first = first;
          fit = done.turns.fit;
          edges = λ u v. (λ e. e, λ e. e);
          added = done.turns.added;
          emptied = done.turns.emptied;
          untouched = done.turns.untouched;
        }

    folded_is : answer.folded ≡ length (take budget (entrances done.exits))
    folded_is = done.turns.how_many ∙ sym (length-map done.turns.items (λ (i : Item). i.entrance)) ∙ ap length first

  pub turn_determined : {next₁ out₁ next₂ out₂ : List ℕ} {answer₁ answer₂ : Turned} → TurnDone way table budget next₁ out₁ answer₁
      → TurnDone way table budget next₂ out₂ answer₂ → (answer₁ ≡ answer₂) × (out₁ ≡ out₂)
  turn_determined {out₁ = out₁} {out₂ = out₂} {answer₁} {answer₂} a b =
      let same : entrances a.exits ≡ entrances b.exits = listing_unique (listed a) (listed b) in
      let found : answer₁.found ≡ answer₂.found = a.number ∙ ap length same ∙ sym b.number in
      let folded : answer₁.folded ≡ answer₂.folded = folded_is a ∙ ap (λ (l : List ℕ). length (take budget l)) same ∙ sym (folded_is b) in
      let counts = (applied_same laws.candidates_lawful laws.rule_lawful (applied a) (applied b)).counts in
      (λ i. record { found = found i; folded = folded i }, ext_get_or 0 out₁ out₂ (a.out_long ∙ sym b.out_long) (λ v l. counts v))
