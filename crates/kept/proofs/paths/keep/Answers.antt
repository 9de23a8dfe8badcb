-- `kept::paths::keep` meets its contract: what is led and passed is the kept path and the dropped vertices, and the path shares what is dropped. Assumes nothing.
use Rattle.std.proofs.Common.{ℕ, ◌+◌, ◌≡◌, ◌∙◌, ap}
use Rattle.table.specs.Table.{Table, size}
use Rattle.rule.specs.Next.{no_row}
use Rattle.kept.proofs.KeepLaws.{keep_shareable, keep_done}
use Rattle.kept.proofs.paths.keep.Goals as goal

pub share-requires : goal.share-requires
share-requires c =
    let counts = ap (λ (t : Table). t.counts) c.table.view_is in
    let rowless : c.vertices.result + 1 ≡ no_row (size c.args.table.now.rows) = ap (λ (n : ℕ). n + 1) (c.vertices.ensures ∙ ap (λ (t : Table). size t.rows) c.table.view_is) in
    rw counts (keep_shareable c.requires c.lead.auto.next c.lead.ensures rowless (rw counts at c.sift-along.ensures))

pub returns : goal.returns
returns c =
    let counts = ap (λ (t : Table). t.counts) c.table.view_is in
    let rowless : c.vertices.result + 1 ≡ no_row (size c.args.table.now.rows) = ap (λ (n : ℕ). n + 1) (c.vertices.ensures ∙ ap (λ (t : Table). size t.rows) c.table.view_is) in
    keep_done c.requires c.lead.auto.next c.lead.ensures rowless (rw counts at c.sift-along.ensures) c.lead.auto.best (rw counts at c.share.ensures)
