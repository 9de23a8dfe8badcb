-- `search::visits::search` meets its contract. Assumes nothing.
use Rattle.std.proofs.Common.{sym, ◌∙◌}
use Rattle.search.proofs.UndoLaws.{undone}
use Rattle.search.proofs.visits.search.Goals as goal

pub returns : goal.returns
returns c = let p = c.requires in
    let ran = c.visit-run.ensures in
    record { searched = ran.searched; whole = undone p.well_formed p.counted c.undo.ensures ∙ sym p.whole; room = ran.same }
