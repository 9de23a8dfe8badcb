-- `judging::judge_with` meets its contract: the pair is a superbubble exactly if the search from s ends at t. Assumes nothing.
use Rattle.std.proofs.Common.{arith}
use Rattle.bubble.proofs.Unique.{exit_unique}
use Rattle.judging.proofs.CountLaws.{visited_below}
use Rattle.judging.proofs.JudgeLaws.{judged_no, judged_yes}
use Rattle.judging.proofs.judge_with.Goals as goal

pub returns-then-exit-t : goal.returns-then-exit-t
returns-then-exit-t c =
    let visited = rw c.in_ok-exit.was at c.search.ensures.searched in
    judged_no c.args.rows.now c.args.s c.args.t (λ b. c.if-exit-t.true (exit_unique visited.superbubble b))

pub count_vertices-size-requires : goal.count_vertices-size-requires
count_vertices-size-requires c =
    let visited = rw c.in_ok-exit.was at c.search.ensures.searched in
    (visited_below visited c.requires.sound c.requires.entrance, omega (arith, c.if-exit-t.false, c.requires.exit, c.requires.sound.most_vertices))

pub returns : goal.returns
returns c =
    let visited = rw (c.in_ok-exit.was, c.if-exit-t.false) at c.search.ensures.searched in
    judged_yes c.args.rows.now c.args.s c.args.t visited (rw c.if-exit-t.false at c.count_vertices-size.ensures)
