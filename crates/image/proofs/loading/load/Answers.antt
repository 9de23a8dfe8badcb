-- `image::loading::load` meets its contract: what look says of the image, and then the room. Assumes nothing.
use Rattle.std.proofs.Common.{ℕ, List, refl}
use Rattle.std.proofs.lemmas.Result.{err_from_is_err_and}
use Rattle.layout.specs.Image.{Contents}
use Rattle.image.proofs.LoadLaws.{load_refused_by_image, load_refused_by_room}
use Rattle.image.proofs.loading.load.Goals as goal

-- slices that are lent
abbrev slices : List ℕ → List ℕ → List ℕ → List ℕ → Contents
slices starts targets counts lengths = record { table = record { rows = record { starts = starts; targets = targets }; counts = counts }; lengths = lengths }

pub returns-in_err-sizes : goal.returns-in_err-sizes
returns-in_err-sizes c =
    let refused = err_from_is_err_and c.from_residual.result c.from_residual.ensures.1 in
    rw (refused.1, refused.2) (load_refused_by_image c.in_err-sizes.field-0.0 c.in_err-sizes.ensures)

pub returns-in_err-lay_in_room : goal.returns-in_err-lay_in_room
returns-in_err-lay_in_room c =
    let refused = err_from_is_err_and c.from_residual-in_err-lay_in_room.result c.from_residual-in_err-lay_in_room.ensures.1 in
    rw (refused.1, refused.2)
    (load_refused_by_room c.in_ok-sizes.ensures refl {lent = slices c.args.starts.now c.args.targets.now c.args.counts.now c.args.lengths.now}
    {after = slices c.lay_in_room.new.starts c.lay_in_room.new.targets c.lay_in_room.new.counts c.lay_in_room.new.lengths}
    c.in_err-lay_in_room.ensures c.in_err-lay_in_room.field-0.0 refl)
