-- What list leaves of a well-formed table: its list, which is short enough to be put; and what is answered of its image. Assumes nothing.
use Rattle.std.proofs.Common.{ℕ, ◌*◌, ◌≤◌, ◌≡◌, subst, List, arith, length, take}
use Rattle.table.specs.Limits.{vertex_limit}
use Rattle.table.specs.Table.{Rows, edges, Sound, Below}
use Rattle.table.proofs.VerdictLaws.{accepts}
use Rattle.table.proofs.RowLaws.{edges_below}
use Rattle.layout.specs.Image.{table_of}
use Rattle.image.specs.Looking.{Seen, image_demands, Looked}
use Rattle.image.proofs.LookLaws.{looked_met}
use Rattle.bubble.specs.Superbubble.{Superbubble}
use Rattle.listing.specs.Listing.{Found, Listed, ListDone}
use Rattle.listing.proofs.SoundList.{sound_accepted, front_listed, listed_most, listed_below}
use Rattle.printing.specs.Put.{Printed}
use Rattle.printing.specs.Answered.{Told}
use Rattle.printing.proofs.AnsweredLaws.{text_answers}
use Rattle.list_bytes.specs.Lines.{ListText, ListAnswer}

-- the list of a table, and what is asked of a list before it is put
pub record ReadyList (rows : Rows) (pairs : List ℕ) (found : ℕ) : Type 0 where
  pub listed : Listed (Superbubble (edges rows)) pairs found
  pub few : found ≤ vertex_limit
  pub below : Below vertex_limit pairs

-- with room for n pairs a well-formed table gets its list
pub list_ready : {rows : Rows} {out out' : List ℕ} {answer : Found} → Sound rows → 2 * vertex_limit ≤ length out → ListDone rows out out' answer
    → ReadyList rows (take (2 * answer.found) out') answer.found
list_ready ok room done =
    let small = ok.most_vertices in
    let listed = front_listed (done.taken (sound_accepted ok (omega arith) done)) in
    record {
      listed = listed;
      few = omega (arith, listed_most (edges_below ok) listed);
      below = λ k k-in. omega (arith, listed_below (edges_below ok) listed k k-in);
    }

-- of an image that look accepts the text of the list of its rows is the answer
pub image_listed : {image : List ℕ} {looked : Seen} {rows : Rows} {out out' : List ℕ} {answer : Told} → Looked image looked → looked.number ≡ 0
    → rows ≡ (table_of image).rows → answer.number ≡ 0 → Printed (ListText rows) out out' answer.length → ListAnswer image out out' answer
image_listed {image} sees e same none put =
    text_answers none (accepts (image_demands image) (looked_met sees e)) (subst (λ (rows : Rows). ListText rows put.printed) same put.right) put.at_front
