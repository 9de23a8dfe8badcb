-- `list_bytes::put_pairs` meets its contract: there is room for one line more, and with it the text is one longer. Assumes nothing.
use Rattle.std.proofs.Common.{◌+◌, ◌/◌, ◌≡◌, [], ◌∷◌, ◌++◌, arith, length, sym, ◌∙◌, length-append}
use Rattle.list_bytes.proofs.Long.{pair_room, put_pair, next_pair}
use Rattle.list_bytes.proofs.put_pairs.Goals as goal

pub number-place-requires : goal.number-place-requires
number-place-requires c =
    let pairs = c.args.pairs.now in
    let k = length c.loop-pair.yielded in
    let next = next_pair pairs _ k c.loop-pair.invariant.4 c.in-Some.ensures.steps.1.0 (c.in-Some.ensures.steps.1.1 ∙ c.loop-pair.invariant.2) in
    let room = pair_room pairs (length pairs / 2) k next.inside c.requires c.loop-pair.invariant.5 in
    rw (c.from.ensures ∙ next.entrance) (omega (arith, room))

pub next_number-place-requires : goal.next_number-place-requires
next_number-place-requires c =
    let pairs = c.args.pairs.now in
    let k = length c.loop-pair.yielded in
    let next = next_pair pairs _ k c.loop-pair.invariant.4 c.in-Some.ensures.steps.1.0 (c.in-Some.ensures.steps.1.1 ∙ c.loop-pair.invariant.2) in
    let room = pair_room pairs (length pairs / 2) k next.inside c.requires c.loop-pair.invariant.5 in
    let entrance = rw (c.from.ensures ∙ next.entrance) at c.number-place.ensures in
    rw (c.from-in-loop-pair.ensures ∙ next.exit) (omega (arith, room, entrance))

pub end_line-place-requires : goal.end_line-place-requires
end_line-place-requires c =
    let pairs = c.args.pairs.now in
    let k = length c.loop-pair.yielded in
    let next = next_pair pairs _ k c.loop-pair.invariant.4 c.in-Some.ensures.steps.1.0 (c.in-Some.ensures.steps.1.1 ∙ c.loop-pair.invariant.2) in
    let room = pair_room pairs (length pairs / 2) k next.inside c.requires c.loop-pair.invariant.5 in
    let entrance = rw (c.from.ensures ∙ next.entrance) at c.number-place.ensures in
    let exit = rw (c.from-in-loop-pair.ensures ∙ next.exit) at c.next_number-place.ensures in
    omega (arith, room, entrance, exit)

pub loop-pair-preserved : goal.loop-pair-preserved
loop-pair-preserved c =
    let pairs = c.args.pairs.now in
    let k = length c.loop-pair.yielded in
    let next = next_pair pairs _ k c.loop-pair.invariant.4 c.in-Some.ensures.steps.1.0 (c.in-Some.ensures.steps.1.1 ∙ c.loop-pair.invariant.2) in
    let two = c.in-Some.ensures.steps.0 ∙ c.loop-pair.invariant.2 in
    let entrance = rw (c.from.ensures ∙ next.entrance) at c.number-place.ensures in
    let exit = rw (c.from-in-loop-pair.ensures ∙ next.exit) at c.next_number-place.ensures in
    let more : length (c.loop-pair.yielded ++ c.in-Some.pair ∷ []) ≡ k + 1 = length-append c.loop-pair.yielded (c.in-Some.pair ∷ []) in
    rw more
    (omega (arith, two), tt, two, sym next.one_less, next.left, put_pair pairs k c.loop-pair.invariant.5 entrance exit c.end_line-place.ensures)
