-- `sharing::share` meets its contract. The loop's invariant: the first j inner vertices have their portion, and v is the one before place j. Assumes nothing.
use Rattle.std.proofs.Common.{ℕ, ◌+◌, ◌≤◌, ◌<◌, ◌≡◌, ◌∙◌, sym, ap, List, ◌∷◌, length, get_or, arith}
use Rattle.table.specs.Limits.{read_limit}
use Rattle.rule.specs.Fold.{to_each}
use Rattle.sharing.specs.Sharing.{onward, Shareable}
use Rattle.sharing.proofs.ShareLaws.{onward_next, before_below, here_below, portion_fits, here_stands, share_more}
use Rattle.sharing.proofs.share.Goals as goal

-- the next vertex is that of place j
next_here : (next : List ℕ) (s k j v : ℕ) → j < k → v ≡ get_or (s ∷ onward next s k) j 0 → get_or next v 0 ≡ get_or (onward next s k) j 0
next_here next s k j v inside at = ap (λ x. get_or next x 0) at ∙ sym (onward_next next s k j inside)

module _ {counts next out : List ℕ} {s k d : ℕ} (p : Shareable counts next out s k d) (j v : ℕ) (inside : j < k) (at : v ≡ get_or (s ∷ onward next s k) j 0) where
  -- where the path stands and the next vertex are vertices
  on_path : (v < length counts) × (get_or next v 0 < length counts)
  on_path = (omega (arith, at, before_below p j inside), omega (arith, next_here next s k j v inside at, here_below p j inside))

  -- a count and the portion fit at the next vertex
  fits : get_or counts (get_or next v 0) 0 + to_each d k j ≤ read_limit + read_limit
  fits = portion_fits p j inside _ on_path.1

pub bounds-counts-u : goal.bounds-counts-u
bounds-counts-u c = omega (arith, on_path c.requires c.loop-j.j c.loop-j.v c.loop-j-test.true c.loop-j.invariant.0)

pub overflow_add-out : goal.overflow_add-out
overflow_add-out c = omega (arith, fits c.requires c.loop-j.j c.loop-j.v c.loop-j-test.true c.loop-j.invariant.0, c.portion.ensures)

pub bounds-out-u : goal.bounds-out-u
bounds-out-u c = omega (arith, on_path c.requires c.loop-j.j c.loop-j.v c.loop-j-test.true c.loop-j.invariant.0, c.requires.out_room, c.loop-j.invariant.1.same_out)

pub loop-j-preserved : goal.loop-j-preserved
loop-j-preserved c =
    let p = c.requires in
    let j = c.loop-j.j in
    let inside = c.loop-j-test.true in
    let next = next_here c.args.next.now c.args.s c.args.k j c.loop-j.v inside c.loop-j.invariant.0 in
    (next ∙ here_stands p j inside, share_more p j inside next c.portion.ensures c.loop-j.invariant.1)
