-- One turn of the loop: the entrance is passed, the budget is spent, or the candidate is searched and folded. For every lawful way. Assumes nothing.
use Rattle.std.proofs.Common.{Some, None, ℕ, zero, suc, ◌+◌, ◌≤◌, ◌<◌, ◌≡◌, ◌∙◌, ◌⊎◌, inr, List, arith, length, get_or, take}
use native.Mathlib.Numerals.{add-one}
use native.Mathlib.Decide.{ℕ_discrete}
use Rattle.table.specs.Table.{Table, size, edges, SoundTable}
use Rattle.bubble.proofs.Unique.{exit_unique}
use Rattle.search.specs.declared.Exit.{Exit}
use Rattle.search.specs.Search.{Sought, Visited}
use Rattle.rule.specs.Lists.{Graph, CandidateSet}
use Rattle.rule.specs.Fold.{Rule}
use Rattle.rule.specs.Way.{Way}
use Rattle.rule.specs.Laws.{CandidateLaws, WayLaws}
use Rattle.kept.specs.Keeping.{Keepable, KeptDone}
use Rattle.kept.proofs.OrderLaws.{visited_front}
use Rattle.entrances.specs.Turns.{Turning}
use Rattle.entrances.specs.Steps.{Room, CandidateAt, EntranceFolded}
use Rattle.entrances.proofs.TurnLaws.{turns_on, turns_more}

-- one candidate
module _ {G : Graph → Type 0} {C : CandidateSet} (L : CandidateLaws G C) {table : Table} {parents pending order best next out : List ℕ} {s : ℕ}
    (room : Room table parents pending order best next out) (here : CandidateAt C table s) where
  open table use {rows}
  open rows use {starts, targets}

  module _ {pending' order' : List ℕ} where
    -- a candidate has an exit
    pub entrance_found : Sought starts targets pending order pending' order' s None → ⊥
    entrance_found sought = let (t, c) = here.entrance in sought.searched t (L.superbubble c)

    module _ {exit : Exit} (sought : Sought starts targets pending order pending' order' s (Some exit)) where
      abbrev t : ℕ
      t = exit.vertex

      abbrev k : ℕ
      k = exit.visited

      candidate : C (edges rows) s t
      candidate = let (x, c) = here.entrance in
          let e : t ≡ x = exit_unique sought.searched.superbubble (L.superbubble c) in rw e c

      front : Visited starts targets (take k order') s t (length (take k order'))
      front = visited_front sought.searched

      pub entrance_keepable : Keepable C table (take k order') t best next out
      entrance_keepable =
          record {
            counted = room.counted;
            order = rw front.first front;
            candidate = rw front.first candidate;
            best_room = room.best_room;
            next_room = omega (arith, room.next_long);
            out_room = omega (arith, room.out_long);
          }

      -- and is folded
      pub entrance_folded : {R : Rule} {best' next' out' : List ℕ} → KeptDone C R table (get_or (take k order') 0 0) t best next out best' next' out'
          → EntranceFolded C R table s parents best next out pending' order' best' next' out'
      entrance_folded {R} {best'} {next'} {out'} kept =
          let done : KeptDone C R table s t best next out best' next' out' = rw front.first at kept in
          record {
            exit = t;
            visited = k;
            candidate = candidate;
            order = sought.searched;
            kept = done;
            room =
                record {
                  counted = room.counted;
                  parents_counted = room.parents_counted;
                  whole = sought.whole ∙ room.whole;
                  order_room = omega (arith, sought.room, room.order_room);
                  best_room = omega (arith, done.same_best, room.best_room);
                  next_long = done.same_next ∙ room.next_long;
                  out_long = done.same_out ∙ room.out_long;
                };
          }

-- all of them
module _ {way : Way} {table : Table} {exits next out : List ℕ} {budget s folded : ℕ} (turning : Turning way table exits next out budget s folded) where
  -- s is the entrance of no candidate, or the budget is spent
  pub turning_on : s < length exits → (length exits ≤ get_or exits s 0) ⊎ (budget ≤ folded) → Turning way table exits next out budget (s + 1) folded
  turning_on h none =
      record {
        kind = turning.kind;
        candidates = turning.candidates;
        passed = omega (arith, turning.candidates.each);
        turns = turns_on turning.turns none;
      }

  module _ (laws : WayLaws way) (ok : SoundTable table) (inside : s < length exits) (here : get_or exits s 0 < length exits) where
    vertex : s < size table.rows
    vertex = omega (arith, turning.candidates.each)

    -- s is the entrance of a candidate
    pub turning_candidate : CandidateAt way.candidates table s
    turning_candidate = record { vertex = vertex; entrance = (get_or exits s 0, turning.candidates.sound s vertex (omega (arith, turning.candidates.each))) }

    -- the candidate is folded
    pub turning_more : {parents best pending' order' best' next' out' : List ℕ} → folded < budget
        → EntranceFolded way.candidates way.rule table s parents best next out pending' order' best' next' out'
        → Turning way table exits next' out' budget (s + 1) (folded + 1)
    turning_more l done =
        record {
          kind = turning.kind;
          candidates = turning.candidates;
          passed = omega (arith, vertex);
          turns = turns_more laws ok turning.kind turning.turns done.candidate vertex done.order done.kept here l;
        }

-- where the budget is spent, the entrances from s on change nothing
module _ {way : Way} {table : Table} {exits next out : List ℕ} {budget s folded : ℕ} (turning : Turning way table exits next out budget s folded) (spent : budget ≤ folded) where
  turning_to : (r : ℕ) → s ≤ r → r ≤ length exits → Turning way table exits next out budget r folded
  turning_to zero from to = let q : s ≡ 0 = omega arith in rw q at turning
  turning_to (suc r) from to =
      elim (ℕ_discrete s (suc r)) [
        | yes q ↦ rw q at turning
        | no n ↦
            let before = turning_to r (omega arith) (omega arith) in
            rw (add-one r) at (turning_on before (omega arith) (inr spent))
      ]

  pub turning_spent : Turning way table exits next out budget (size table.rows) folded
  turning_spent = turning_to (size table.rows) turning.passed (omega (arith, turning.candidates.each))
