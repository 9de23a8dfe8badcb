-- `table::numbers::RefSliceNumbers::part` meets its contract: the values of a part are a part of the values. Assumes nothing.
use Rattle.std.proofs.Common.{ℕ, ◌-◌, List, take, drop, sym, ap, ◌∙◌}
use Rattle.std.proofs.lemmas.List.{take-map, drop-map}
use Rattle.table.proofs.numbers.RefSliceNumbers.part.Goals as goal

pub returns : goal.returns
returns g c =
    let each = g.met.T.Wide.each in
    let many = c.args.to - c.args.from in
    each (take many (drop c.args.from c.args.self.now))
    ∙ sym (take-map g.T.Wide.value many (drop c.args.from c.args.self.now))
    ∙ ap (take many) (sym (drop-map g.T.Wide.value c.args.from c.args.self.now))
    ∙ ap (λ (l : List ℕ). take many (drop c.args.from l)) (sym (each c.args.self.now))
