-- What the parts of keeping a path do: each visited vertex settled, each kept or dropped. Assumes nothing.
use Rattle.std.specs.Prelude.{ℕ, zero, suc, ◌+◌, ◌≤◌, ◌<◌, ◌≡◌, ◌≢◌, List, [], ◌∷◌, ◌++◌, length, get_or, set, drop}
use Rattle.table.specs.Limits.{read_limit}
use Rattle.table.specs.Table.{In, Below, count_sum, Table, size, edges, SoundTable}
use Rattle.search.specs.Search.{Visited}
use Rattle.rule.specs.Lists.{sum}
use Rattle.rule.specs.Tables.{count_of}
use Rattle.rule.specs.Kept.{Kept}
use Rattle.rule.specs.Next.{Settled, ByNext}
use Rattle.rule.specs.declared.Choosing.{Choosing}
use Rattle.kept.specs.declared.paths.Along.{Along}

-- what the exit gains from the visited vertex at a place: the bound, and from the first, which is the entrance, nothing
abbrev pub end_at : ℕ → ℕ → ℕ
end_at bound zero = 0
end_at bound (suc k) = bound

-- a table with its counts, the visiting order of a superbubble less its exit, and a bound of at most one more than a count can be
pub record Settleable (table : Table) (visited : List ℕ) (t bound : ℕ) (best next : List ℕ) : Type 0 where
  pub counted : SoundTable table
  pub order : Visited table.rows.starts table.rows.targets visited (get_or visited 0 0) t (length visited)
  pub bounded : bound ≤ read_limit + 1
  pub best_room : size table.rows ≤ length best
  pub next_room : size table.rows ≤ length next

-- the visited vertices from place k on have their best gain and their best child; a gain is at most the bound and the sum of all later counts
pub record SettledFrom (by : Choosing) (table : Table) (visited : List ℕ) (t bound : ℕ) (next : List ℕ) (k : ℕ) (best' next' : List ℕ) : Type 0 where
  pub settled : (i : ℕ) → k ≤ i → i < length visited
      → Settled by (edges table.rows) (count_of table.counts) t (end_at bound i) (count_of best') (count_of next') (get_or visited i 0)
  pub most : (i : ℕ) → k ≤ i → i < length visited → get_or best' (get_or visited i 0) 0 ≤ bound + sum (count_of table.counts) (drop (suc i) visited)
  pub elsewhere : (v : ℕ) → (In v visited → ⊥) → get_or next' v 0 ≡ get_or next v 0

-- from each visited vertex `next` leads to a child, and from the entrance to the exit along the kept path
pub record Led (by : Choosing) (table : Table) (visited : List ℕ) (t : ℕ) (next next' : List ℕ) : Type 0 where
  pub child : (i : ℕ) → i < length visited → edges table.rows (get_or visited i 0) (get_or next' (get_or visited i 0) 0)
  pub kept : (l : List ℕ) → ByNext (count_of next') t (get_or visited 0 0) l → Kept by (edges table.rows) (count_of table.counts) (get_or visited 0 0) t l
  pub elsewhere : (v : ℕ) → (In v visited → ⊥) → get_or next' v 0 ≡ get_or next v 0

-- v can be kept or dropped
pub record Partable (counts next out : List ℕ) (v : ℕ) (along : Along) : Type 0 where
  pub counted : v < length counts
  pub next_room : v < length next
  pub out_room : v < length out
  pub inner_fits : along.inner < 18446744073709551615
  pub dropped_fits : along.dropped + get_or counts v 0 ≤ 18446744073709551615

-- v is the next vertex of the kept path, an inner one, or it is dropped
pub data Step (counts next out : List ℕ) (none v : ℕ) (along : Along) : List ℕ → List ℕ → Along → Type 0 where
  keeps : v ≡ along.kept → Step counts next out none v along next out (record { kept = get_or next v 0; inner = along.inner + 1; dropped = along.dropped })
  drops : v ≢ along.kept
      → Step counts next out none v along (set next v none) (set out v 0) (record { kept = along.kept; inner = along.inner; dropped = along.dropped + get_or counts v 0 })

-- the visited vertices can be passed: they are different, and their counts' sum fits
pub record Siftable (counts visited next out : List ℕ) : Type 0 where
  pub some : 0 < length visited
  pub below : Below (length counts) visited
  pub apart : (i j : ℕ) → i < length visited → j < length visited → get_or visited i 0 ≡ get_or visited j 0 → i ≡ j
  pub sum_fits : count_sum counts ≤ read_limit
  pub next_room : length counts ≤ length next
  pub out_room : length counts ≤ length out

-- a at each of the listed places
abbrev pub puts : List ℕ → List ℕ → ℕ → List ℕ
puts xs [] a = xs
puts xs (v ∷ l) a = set (puts xs l a) v a

-- the first k visited vertices are passed: the entrance, the inner vertices of the path by next up to `kept`, and the others, which are gone
pub data Passing (visited next : List ℕ) : ℕ → List ℕ → List ℕ → ℕ → Type 0 where
  begun : Passing visited next 1 [] [] (get_or next (get_or visited 0 0) 0)
  keeps : {k : ℕ} {arm gone : List ℕ} {kept : ℕ} → Passing visited next k arm gone kept → get_or visited k 0 ≡ kept → Passing visited next (suc k) (arm ++ (kept ∷ [])) gone (get_or next kept 0)
  drops : {k : ℕ} {arm gone : List ℕ} {kept : ℕ} → Passing visited next k arm gone kept → get_or visited k 0 ≢ kept → Passing visited next (suc k) arm (get_or visited k 0 ∷ gone) kept

-- what passing them has changed
pub record Sifted (counts visited next out : List ℕ) (none k : ℕ) (next' out' : List ℕ) (along : Along) : Type 0 where
  pub arm : List ℕ
  pub gone : List ℕ
  pub passing : Passing visited next k arm gone along.kept
  pub no_rows : next' ≡ puts next gone none
  pub no_counts : out' ≡ puts out gone 0
  pub how_many : along.inner ≡ length arm
  pub dropped_sum : along.dropped ≡ sum (count_of counts) gone
