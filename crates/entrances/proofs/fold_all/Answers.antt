-- `entrances::fold_all` meets its contract. The loop's invariant: the entrances below s are passed, and the room is as the search takes it. Assumes nothing.
use Rattle.std.proofs.Common.{◌∙◌, inl, arith}
use Rattle.rule.proofs.TheFold.{the_fold_lawful}
use Rattle.entrances.proofs.EntranceLaws.{turning_on, turning_more}
use Rattle.entrances.proofs.fold_all.Goals.{then-exit-exits, else-exit-exits}
use Rattle.entrances.proofs.fold_all.Goals as goal

pub loop-s-preserved : goal.loop-s-preserved
loop-s-preserved c = let inv = c.loop-s.invariant in
    elim c.if-exit-exits.branch [
      | then-exit-exits w ↦
          let done = w.fold_at.ensures in
          rw (w.pending-is, w.order-is, w.best-is, w.next-is, w.out-is, w.folded-is) (
            done.room,
            turning_more inv.1 (the_fold_lawful c.args.mode) inv.0.counted (omega arith) w.if-exit-exits.true (omega arith) done,
            w.fold_at.auto.order ∙ inv.2,
            w.fold_at.auto.best ∙ inv.3,
          )
      | else-exit-exits w ↦
          rw (w.pending-is, w.order-is, w.best-is, w.next-is, w.out-is, w.folded-is) (
            inv.0,
            turning_on inv.1 (omega arith) (inl w.if-exit-exits.false),
            inv.2,
            inv.3,
          )
    ]
