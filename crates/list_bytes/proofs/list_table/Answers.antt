-- `list_bytes::list_table` meets its contract: a well-formed table gets its list, and its list is put. Assumes nothing.
use Rattle.std.proofs.Common.{◌*◌, ◌/◌, ◌≡◌, arith, refl, take, length}
use Rattle.texts.specs.Text.{text, list_lines}
use Rattle.list_bytes.proofs.Ready.{list_ready}
use Rattle.list_bytes.proofs.list_table.Goals as goal

pub put_list-requires : goal.put_list-requires
put_list-requires c =
    let list = list_ready c.requires (omega arith) (rw c.unwrap-found.ensures at c.list.ensures) in
    (omega (arith, list.listed.long, list.few), list.below)

pub returns : goal.returns
returns c =
    let list = list_ready c.requires (omega arith) (rw c.unwrap-found.ensures at c.list.ensures) in
    let pairs = take (2 * c.unwrap-found.result) c.list.new.out in
    let found : length pairs / 2 ≡ c.unwrap-found.result = omega (arith, list.listed.long) in
    record {
      printed = text (list_lines pairs c.unwrap-found.result);
      right = record { pairs = pairs; found = c.unwrap-found.result; listed = list.listed; spelled = refl };
      at_front = rw found at c.put_list.ensures;
    }
