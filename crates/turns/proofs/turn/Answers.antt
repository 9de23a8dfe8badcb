-- `turns::turn` meets its contract: before the first entrance each row is whole and each count as it was. Assumes nothing.
use Rattle.std.proofs.Common.{ℕ, ◌≡◌, ◌<◌, ◌∙◌, refl, ap, get_or, arith}
use Rattle.table.specs.Table.{Table, size}
use Rattle.entrances.proofs.TurnLaws.{turns_none}
use Rattle.turns.proofs.turn.Goals as goal

pub fold_all-folded-requires-clause-turning : goal.fold_all-folded-requires-clause-turning
fold_all-folded-requires-clause-turning c =
    let rows = ap (λ (t : Table). t.rows) c.table.view_is in
    let whole : (v : ℕ) → v < size c.args.table.now.rows → get_or c.fill.new.self v 0 ≡ size c.args.table.now.rows =
    λ v h. c.fill.ensures.clones v 0 (omega (arith, c.requires.next_long)) refl ∙ c.vertices-n.ensures ∙ ap size rows in
    record {
      kind = c.requires.kind;
      candidates = (rw rows at c.find-found.ensures).candidates;
      passed = omega arith;
      turns = turns_none c.find-found.new.exits c.args.budget whole (c.copy_counts.ensures ∙ ap (λ (t : Table). t.counts) c.table.view_is);
    }
