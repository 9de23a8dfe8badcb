-- `fold_bytes::put_fold` meets its contract: three numbers of 64 bits, of at most twenty digits each, fit into 81 bytes. Assumes nothing.
use Rattle.fold_bytes.proofs.FoldLaws.{put_folded}
use Rattle.fold_bytes.proofs.put_fold.Goals as goal

pub returns : goal.returns
returns c =
    put_folded c.args.folded c.args.left c.args.edges c.word-place.ensures c.next_number-place.ensures c.word-place-2.ensures c.next_number-place-2.ensures c.word-place-3.ensures
    c.next_number-place-3.ensures c.end_line.ensures
