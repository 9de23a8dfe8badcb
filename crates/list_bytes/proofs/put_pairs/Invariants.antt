-- `list_bytes::put_pairs` meets its contract. The loop's invariant: the lines of the pairs so far stand behind the place. Assumes nothing.
use Rattle.std.proofs.Common.{◌+◌, ◌*◌, ◌/◌, length, ◌≡◌, drop}
use Rattle.std.specs.Slice.Iter.{chunks_exact_rest, chunks_exact_size}
use Rattle.texts.specs.Text.{text, each, pair_line}
use Rattle.printing.specs.Put.{Put}
use Rattle.list_bytes.proofs.put_pairs.Given as goal

abbrev pub invariant-loop-pair : goal.invariant-loop-pair
invariant-loop-pair l =
    (goal.iterator-loop-pair).can_next l.pair-iterator × (goal.iterator-loop-pair).is_finite l.pair-iterator
    × (chunks_exact_size l.pair-iterator ≡ 2)
    × (length l.yielded + length (chunks_exact_rest l.pair-iterator) / 2 ≡ length l.pairs / 2)
    × (drop (2 * length l.yielded) l.pairs ≡ chunks_exact_rest l.pair-iterator)
    × Put l.initial.out l.at (text (each (pair_line l.pairs) (length l.yielded))) l.out l.place
