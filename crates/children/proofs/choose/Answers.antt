-- `children::choose` meets its contract. The loop's invariant: of the children passed this one is chosen. Assumes nothing.
use Rattle.children.proofs.ChoiceLaws.{after_first, chosen_larger, chosen_still}
use Rattle.children.proofs.choose.Goals.{then-gain-chosen, else-gain-chosen}
use Rattle.children.proofs.choose.Goals as goal

pub loop-u-preserved : goal.loop-u-preserved
loop-u-preserved c =
    let chosen = c.loop-u.invariant in
    let value = rw (after_first c.args.row.now c.loop-u.u-index) at c.worth-gain.ensures in
    elim c.if-gain-chosen.branch [
      | then-gain-chosen w ↦ rw (w.chosen-is, after_first c.args.row.now c.loop-u.u-index) (chosen_larger chosen value w.if-gain-chosen.true)
      | else-gain-chosen w ↦ rw w.chosen-is (chosen_still chosen value w.if-gain-chosen.false)
    ]
