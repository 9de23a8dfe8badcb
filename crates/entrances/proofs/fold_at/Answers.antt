-- `entrances::fold_at` meets its contract: the candidate is searched, and its best path kept. Assumes nothing.
use Rattle.std.proofs.Common.{ap}
use Rattle.table.specs.Table.{Table}
use Rattle.rule.proofs.TheFold.{candidates_lawful}
use Rattle.entrances.proofs.EntranceLaws.{entrance_found, entrance_keepable, entrance_folded}
use Rattle.entrances.proofs.fold_at.Goals as goal

pub returns-in_default : goal.returns-in_default
returns-in_default c =
    let sought = rw (ap (λ (t : Table). t.rows) c.table.view_is, c.in_default.is) at c.search-found.ensures in
    absurd (entrance_found (candidates_lawful c.args.mode.rings) c.requires.room c.requires.candidate_at sought)

pub keep-requires : goal.keep-requires
keep-requires c =
    let sought = rw (ap (λ (t : Table). t.rows) c.table.view_is, c.in-Some.is) at c.search-found.ensures in
    entrance_keepable (candidates_lawful c.args.mode.rings) c.requires.room c.requires.candidate_at sought

pub returns : goal.returns
returns c =
    let sought = rw (ap (λ (t : Table). t.rows) c.table.view_is, c.in-Some.is) at c.search-found.ensures in
    entrance_folded (candidates_lawful c.args.mode.rings) c.requires.room c.requires.candidate_at sought c.keep.ensures
