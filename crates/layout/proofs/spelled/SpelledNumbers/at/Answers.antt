-- `layout::spelled::SpelledNumbers::at` meets its contract: the number at a place lies within the bytes of all. Assumes nothing.
use Rattle.std.proofs.Common.{arith, rules, sym, ◌∙◌}
use Rattle.layout.proofs.ByteLaws.{numbers_length, number_at, place_fits}
use Rattle.layout.proofs.spelled.SpelledNumbers.at.Goals as goal

pub overflow_mul-WIDTH : goal.overflow_mul-WIDTH
overflow_mul-WIDTH g c =
    let many = numbers_length g.T.Number.WIDTH c.args.self.count c.args.self.bytes.now in
    let fits = place_fits g.T.Number.WIDTH c.args.self.count c.args.place (omega (arith, many, c.requires)) in
    rw c.WIDTH.ensures (search rules)

pub read_at-requires : goal.read_at-requires
read_at-requires g c =
    let many = numbers_length g.T.Number.WIDTH c.args.self.count c.args.self.bytes.now in
    let fits = place_fits g.T.Number.WIDTH c.args.self.count c.args.place (omega (arith, many, c.requires)) in
    rw c.WIDTH.ensures (omega (arith, fits, c.args.self.room))

pub returns : goal.returns
returns g c =
    let many = numbers_length g.T.Number.WIDTH c.args.self.count c.args.self.bytes.now in
    c.wide.ensures
    ∙ rw c.WIDTH.ensures at c.read_at.ensures
    ∙ sym (number_at g.T.Number.WIDTH c.args.self.count c.args.self.bytes.now c.args.place (omega (arith, many, c.requires)))
