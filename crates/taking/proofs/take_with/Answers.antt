-- `taking::take_with` meets its contract: an image that look accepts is loaded into fronts of exactly its size. Assumes nothing.
use Rattle.std.proofs.Common.{refl}
use Rattle.taking.proofs.TakenLaws.{loaded_taken}
use Rattle.taking.proofs.take_with.Goals as goal

pub returns : goal.returns
returns c =
    loaded_taken
    {lent = record {
      table = record { rows = record { starts = c.args.starts.now; targets = c.args.targets.now }; counts = c.args.counts.now };
      lengths = c.args.lengths.now;
    }}
    c.in_ok-sizes.ensures refl c.requires c.lengths-k.ensures c.load.ensures
