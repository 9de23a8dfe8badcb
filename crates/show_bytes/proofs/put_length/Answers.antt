-- `show_bytes::put_length` meets its contract: the length, where the version has one, or nothing. Assumes nothing.
use Rattle.std.proofs.Common.{ℕ, ◌+◌, ◌≤◌, ◌<◌, ◌≡◌, sym, ap, List, arith, rules, length}
use Rattle.layout.specs.Lengths.{length_count}
use Rattle.layout.proofs.LengthLaws.{lengths_each}
use Rattle.printing.proofs.PutLaws.{put_same, put_nothing}
use Rattle.show_bytes.proofs.Long.{length_put, no_length_put}
use Rattle.show_bytes.proofs.put_length.Goals as goal

-- version 2 has a length for the vertex
inside : (version v : ℕ) (lengths : List ℕ) → length_count version (v + 1) ≤ length lengths → version ≡ 2 → v < length lengths
inside version v lengths h two = omega (arith, lengths_each version (v + 1) two)

pub offset_bounds-lengths-v : goal.offset_bounds-lengths-v
offset_bounds-lengths-v c =
    omega (arith, (inside c.args.version c.args.v c.args.lengths.now c.requires.v_in_bounds (search rules)))

pub bounds-lengths-v : goal.bounds-lengths-v
bounds-lengths-v c =
    (inside c.args.version c.args.v c.args.lengths.now c.requires.v_in_bounds (search rules))

pub next_number-requires : goal.next_number-requires
next_number-requires c =
    rw c.from.ensures (omega (arith, c.requires.v_in_bounds_2, ap length (length_put c.args.version c.args.lengths.now c.args.v (search rules))))

pub returns-then-version-eq-VERSION_2 : goal.returns-then-version-eq-VERSION_2
returns-then-version-eq-VERSION_2 c =
    put_same (sym (length_put c.args.version c.args.lengths.now c.args.v (search rules))) (rw c.from.ensures at c.next_number.ensures)

pub returns : goal.returns
returns c =
    put_same (sym (no_length_put c.args.version c.args.lengths.now c.args.v (search rules))) put_nothing
