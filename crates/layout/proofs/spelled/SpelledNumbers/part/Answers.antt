-- `layout::spelled::SpelledNumbers::part` meets its contract: some in the middle lie within the bytes of all. Assumes nothing.
use Rattle.std.proofs.Common.{arith, rules, sym, ◌-◌, ◌∙◌}
use Rattle.layout.proofs.ByteLaws.{numbers_length, numbers_part, part_fits}
use Rattle.layout.proofs.spelled.SpelledNumbers.part.Goals as goal

pub overflow_mul-WIDTH : goal.overflow_mul-WIDTH
overflow_mul-WIDTH g c =
    let many = numbers_length g.T.Number.WIDTH c.args.self.count c.args.self.bytes.now in
    let fits = part_fits g.T.Number.WIDTH c.args.self.count c.args.from c.args.to c.requires.0 (omega (arith, many, c.requires.1)) in
    rw c.WIDTH.ensures (search rules)

pub new-requires : goal.new-requires
new-requires g c =
    let many = numbers_length g.T.Number.WIDTH c.args.self.count c.args.self.bytes.now in
    let fits = part_fits g.T.Number.WIDTH c.args.self.count c.args.from c.args.to c.requires.0 (omega (arith, many, c.requires.1)) in
    rw c.WIDTH.ensures (omega (arith, fits, c.args.self.room))

pub returns : goal.returns
returns g c =
    let many = numbers_length g.T.Number.WIDTH c.args.self.count c.args.self.bytes.now in
    c.new.ensures
    ∙ rw c.WIDTH.ensures
    (sym (numbers_part g.T.Number.WIDTH c.args.self.count c.args.self.bytes.now c.args.from (c.args.to - c.args.from) (omega (arith, many, c.requires))))
