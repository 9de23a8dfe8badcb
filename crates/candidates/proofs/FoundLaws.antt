-- What follows from the contract: the entrances found are those of the candidates, searches can go on from them, and two results coincide. Assumes nothing.
use Rattle.std.proofs.Common.{ℕ, ◌<◌, ◌≡◌, sym, ap, ◌∙◌, List, arith, length, get_or, ext_get_or}
use native.Mathlib.Decide.{dec_lt}
use Rattle.table.specs.Table.{Rows, size, edges}
use Rattle.bubble.specs.Superbubble.{F.start}
use Rattle.bubble.proofs.Facts.{successor}
use Rattle.bubble.proofs.Unique.{exit_unique}
use Rattle.parents.proofs.TallyLaws.{parents_same}
use Rattle.rule.specs.Lists.{Graph, CandidateSet, Listing}
use Rattle.rule.specs.Fold.{Entrance}
use Rattle.rule.specs.Laws.{CandidateLaws}
use Rattle.rule.proofs.Listings.{listing_same}
use Rattle.candidates.specs.Candidates.{entrances, CandidatesFound, FindDone}
use Rattle.candidates.proofs.EntranceLaws.{HasExit, entrances_are}

module _ {G : Graph → Type 0} {C : CandidateSet} (L : CandidateLaws G C) {rows : Rows} where
  module _ {exits : List ℕ} (f : CandidatesFound C rows exits) where
    -- an entrance of a candidate has its exit noted
    exit_is_vertex : {s t : ℕ} → C (edges rows) s t → (s < size rows) × (get_or exits s 0 < size rows)
    exit_is_vertex {s} {t} c =
        let p = (L.superbubble c).bubbloid in
        let (v, g, e) = successor p start p.distinct in
        let h : s < size rows = e.vertex in
        elim (dec_lt (get_or exits s 0) (size rows)) [ yes l ↦ (h, l) | no n ↦ absurd (f.none s h (omega (arith, f.most s h)) t c) ]

    exit_noted : {s t : ℕ} → C (edges rows) s t → get_or exits s 0 ≡ t
    exit_noted {s} c = let (h, l) = exit_is_vertex c in exit_unique (L.superbubble (f.sound s h l)) (L.superbubble c)

    -- the entrances are those of the candidates
    pub entrances_listed : Listing (Entrance C (edges rows)) (entrances exits)
    entrances_listed = listing_same (λ v. (to v, back v)) (entrances_are exits)
      where
        to : (v : ℕ) → HasExit exits (length exits) v → Entrance C (edges rows) v
        to v p = (get_or exits v 0, f.sound v (rw f.each at p.0) (rw f.each at p.1))

        back : (v : ℕ) → Entrance C (edges rows) v → HasExit exits (length exits) v
        back v e = rw f.each (exit_is_vertex e.1)

  -- what is found is determined
  exits_determined : {exits exits' : List ℕ} → CandidatesFound C rows exits → CandidatesFound C rows exits' → exits ≡ exits'
  exits_determined {exits} {exits'} a b = ext_get_or 0 exits exits' (a.each ∙ sym b.each) (λ v l. one v (rw a.each at l))
    where
      one : (v : ℕ) → v < size rows → get_or exits v 0 ≡ get_or exits' v 0
      one v h =
          elim (dec_lt (get_or exits' v 0) (size rows)) [
            | yes l ↦ exit_noted a (b.sound v h l)
            | no n ↦
                elim (dec_lt (get_or exits v 0) (size rows)) [
                  | yes l ↦ absurd (b.none v h (omega (arith, b.most v h)) (get_or exits v 0) (a.sound v h l))
                  | no m ↦ omega (arith, a.most v h, b.most v h)
                ]
          ]

  -- and so is all that is lent, but for the order, of which only the length is told
  pub found_determined : {parents pending order exits parents' pending' order' exits' : List ℕ} {found found' : ℕ}
      → FindDone C rows parents pending order exits found → FindDone C rows parents' pending' order' exits' found'
      → (parents ≡ parents') × (pending ≡ pending') × (exits ≡ exits') × (found ≡ found')
  found_determined a b =
      let counts = parents_same a.counted b.counted in
      let exits = exits_determined a.candidates b.candidates in
      (counts, a.whole ∙ counts ∙ sym b.whole, exits, a.number ∙ ap (λ l. length (entrances l)) exits ∙ sym b.number)
