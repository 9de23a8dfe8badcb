-- `fold_bytes::fold_contents` meets its contract: the new table stands at the fronts of the next arrays, is well-formed, and is written with the lengths. Assumes nothing.
use Rattle.std.proofs.Common.{ℕ, List, ◌≡◌, refl, sym, subst, arith, rules, Ok}
use Rattle.table.specs.Table.{Table, SoundTable, size}
use Rattle.layout.specs.Image.{Contents, SoundContents, image_of}
use Rattle.rule.proofs.TheFold.{the_fold_lawful}
use Rattle.rule.specs.declared.Choosing.{Choosing}
use Rattle.rule.specs.declared.Rings.{Rings}
use Rattle.rule.specs.Way.{the_fold}
use Rattle.folding.specs.Folding.{Outcome, outcome_of, fold_room, FoldDone}
use Rattle.printing.specs.Put.{AtFront}
use Rattle.fold_bytes.specs.Image.{choosing_of, fold_of}
use Rattle.fold_bytes.proofs.FoldLaws.{LeftTable, fold_leaves, same_contents, new_sound, fold_delivers}
use Rattle.fold_bytes.proofs.fold_contents.Goals as goal

-- a table by its arrays
abbrev tabled : List ℕ → List ℕ → List ℕ → Table
tabled starts targets counts = record { rows = record { starts = starts; targets = targets }; counts = counts }

-- the new table stands at the fronts of the next arrays
left : (rings : Rings) (version : ℕ) {by : Choosing} {table lent after : Table} {budget : ℕ} {answer : Outcome} → SoundTable table → (fold_room table lent).met
    → by ≡ choosing_of version → FoldDone (the_fold (record { rings = rings; by = by })) table budget lent after answer → answer.number ≡ 0
    → LeftTable (fold_of rings version) table budget after answer
left rings version ok room e done none =
    fold_leaves (the_fold_lawful (record { rings = rings; by = choosing_of version })) ok room (rw e at done) none

pub put_image-written-requires : goal.put_image-written-requires
put_image-written-requires c =
    let contents = c.args.contents.now in
    let lent = tabled c.args.next.now.starts c.args.next.now.targets c.args.next.now.counts in
    let after = tabled c.fold_by.new.starts2 c.fold_by.new.targets2 c.fold_by.new.counts2 in
    let answer = outcome_of (Ok c.in-Ok.folded) in
    let room : (fold_room contents.table lent).met = omega (arith, c.requires.counted.well_formed) in
    let done : FoldDone (the_fold (record { rings = c.args.rings; by = c.choosing-by.result })) contents.table c.args.budget lent after answer = search rules in
    let new_table = left c.args.rings c.args.version c.requires.counted room c.choosing-by.ensures done refl in
    let n : c.vertices-n.result ≡ size contents.table.rows = search rules in
    let lengths : c.contents.inside.lengths.now ≡ contents.lengths = search rules in
    subst (SoundContents c.args.version) (sym (same_contents contents after answer n lengths)) (new_sound c.requires new_table)

pub returns : goal.returns
returns c =
    let contents = c.args.contents.now in
    let lent = tabled c.args.next.now.starts c.args.next.now.targets c.args.next.now.counts in
    let after = tabled c.fold_by.new.starts2 c.fold_by.new.targets2 c.fold_by.new.counts2 in
    let answer = outcome_of (Ok c.in-Ok.folded) in
    let room : (fold_room contents.table lent).met = omega (arith, c.requires.counted.well_formed) in
    let done : FoldDone (the_fold (record { rings = c.args.rings; by = c.choosing-by.result })) contents.table c.args.budget lent after answer = search rules in
    let new_table = left c.args.rings c.args.version c.requires.counted room c.choosing-by.ensures done refl in
    let n : c.vertices-n.result ≡ size contents.table.rows = search rules in
    let lengths : c.contents.inside.lengths.now ≡ contents.lengths = search rules in
    let image =
    subst (λ (contents : Contents). AtFront (image_of c.args.version contents) c.args.new.now c.put_image-written.new.new c.put_image-written.result)
    (same_contents contents after answer n lengths) c.put_image-written.ensures in
    fold_delivers new_table refl c.put_fold.ensures image
