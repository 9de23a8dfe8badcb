-- `candidates::finding::pass_entrance` meets its contract. Assumes nothing.
use Rattle.candidates.proofs.ScanLaws.{scan_ruled, scan_found, scan_notable, scan_noted}
use Rattle.candidates.proofs.finding.pass_entrance.Goals as goal

pub returns-then-exits-s : goal.returns-then-exits-s
returns-then-exits-s c = scan_ruled c.requires.scan c.requires.s_bound c.if-exits-s.true

pub admit-exit-requires : goal.admit-exit-requires
admit-exit-requires c = scan_found c.requires.scan c.search-found.result _ c.requires.s_bound c.search-found.ensures.searched

pub note-requires : goal.note-requires
note-requires c = scan_notable c.requires.scan c.search-found.result c.admit-exit.result _ c.requires.s_bound c.search-found.ensures.searched c.admit-exit.ensures

pub returns : goal.returns
returns c = scan_noted c.requires.scan c.search-found.result c.admit-exit.result c.requires.s_bound c.if-exits-s.false c.search-found.ensures c.admit-exit.ensures
    c.note.ensures
