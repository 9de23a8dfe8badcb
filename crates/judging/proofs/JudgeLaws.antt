-- What a search from s says of a pair: a no, or a yes with the number of vertices. Assumes nothing.
use Rattle.std.proofs.Common.{ℕ, ◌≡◌, refl, ◌⊎◌, List, take, Some, None}
use Rattle.table.specs.Table.{In, Rows, edges}
use Rattle.bubble.specs.Superbubble.{Superbubble}
use Rattle.vertices.specs.Vertices.{Numbers}
use Rattle.search.specs.Search.{Visited}
use Rattle.judging.specs.Judging.{Judged, answer_of}
use Rattle.judging.proofs.CountLaws.{visited_numbers}

module _ (rows : Rows) (s t : ℕ) where
  -- a no
  pub judged_no : (Superbubble (edges rows) s t → ⊥) → Judged rows s t (answer_of None)
  judged_no none =
      record {
        answered = none;
        vertices_of_yes = λ e. absurd (cc);
        none_of_no = λ _. refl;
      }

  -- a yes, with the visited and the exit counted
  pub judged_yes : {order : List ℕ} {k count : ℕ} → Visited rows.starts rows.targets order s t k → Numbers (λ v. In v (take k order) ⊎ (v ≡ t)) count
      → Judged rows s t (answer_of (Some count))
  judged_yes visited n =
      record {
        answered = visited.superbubble;
        vertices_of_yes = λ _. visited_numbers visited n;
        none_of_no = λ e. absurd (cc);
      }
