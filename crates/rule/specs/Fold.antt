-- The fold of docs/RULES.md, Fold, over any graph with counts: candidates, sets, kept paths and sums are those of the graph handed in. The candidates and the rule are
-- arguments; `Candidate` and `kept_shares` are those of docs/RULES.md. Assumes nothing.
use Rattle.std.specs.Prelude.{ℕ, ◌+◌, ◌/◌, ◌%◌, ◌<◌, ◌≡◌, ◌↔◌, length, take, get_or}
use Rattle.std.proofs.Math.Logic.{ite}
use mathlib.Core.List.{List, [], ◌∷◌, ◌++◌, map, Memᴰ}
use Rattle.std.proofs.Math.Decide.{dec_lt}
use Rattle.bubble.specs.Superbubble.{F, Walk, Interior, Outermost}
use Rattle.rule.specs.Lists.{Graph, CandidateSet, Counts, Listing, sum, Follows}
use Rattle.rule.specs.Kept.{Kept}
use Rattle.rule.specs.declared.Choosing.{Choosing}

-- the graphs that docs/RULES.md folds: no walk of one or more edges closes
abbrev pub NoCycle : Graph → Type 0
NoCycle E = (v : ℕ) → Walk E (λ u. Unit {0}) v v → ⊥

-- the candidates of docs/RULES.md, Fold: the outermost superbubbles with an interior
pub record Candidate (E : Graph) (s t : ℕ) : Type 0 where
  pub outermost : Outermost E s t
  pub interior : (v : ℕ) × Interior E s t v

-- what a rule keeps, and how much of a dropped sum d the place j of k kept inner vertices gets
pub record Rule : Type 1 where
  pub keeps : Graph → Counts → ℕ → ℕ → List ℕ → Type 0
  pub portion : ℕ → ℕ → ℕ → ℕ

-- one more for each of the first places, as many as the remainder r
unfoldable pub one_more : ℕ → ℕ → ℕ
one_more r j = ite (dec_lt j r) 1 0

-- to each place the quotient, and to the first ones one more
abbrev pub to_each : ℕ → ℕ → ℕ → ℕ
to_each d k j = d / k + one_more (d % k) j

-- the rules of docs/RULES.md, Fold: the best path is kept, and its inner vertices share what is dropped
abbrev pub kept_shares : Choosing → Rule
kept_shares by = record { keeps = Kept by; portion = to_each }

-- a vertex that is the entrance of a candidate
abbrev pub Entrance : CandidateSet → Graph → ℕ → Type 0
Entrance C E s = (t : ℕ) × C E s t

-- one folded superbubble: the inner vertices of the kept path, and the rest of the interior
pub record Item : Type 0 where
  pub entrance : ℕ
  pub exit : ℕ
  pub arm : List ℕ
  pub dropped : List ℕ

-- of the edges with both ends in U, only those from one vertex of the kept path to the next stay
abbrev pub Stays : Graph → ℕ → ℕ → List ℕ → ℕ → ℕ → Type 0
Stays E s t arm u v = F E s t u → F E s t v → Follows (s ∷ arm ++ (t ∷ [])) u v

module _ (C : CandidateSet) (R : Rule) where
  -- the item is that of a candidate: its arm is kept, the rest of the interior is dropped
  pub record Fits (E : Graph) (c : Counts) (i : Item) : Type 0 where
    pub candidate : C E i.entrance i.exit
    pub kept : R.keeps E c i.entrance i.exit i.arm
    pub rest : Listing (λ v. Interior E i.entrance i.exit v × (Memᴰ v i.arm → ⊥)) i.dropped

  -- the first candidates of E by rising entrance, as many as the budget or all if fewer, are folded
  pub record Applied (E : Graph) (c : Counts) (budget : ℕ) (E' : Graph) (c' : Counts) : Type 0 where
    pub candidates : List ℕ
    pub listed : Listing (Entrance C E) candidates
    pub items : List Item
    pub first : map (λ (i : Item). i.entrance) items ≡ take budget candidates
    pub fit : (i : Item) → Memᴰ i items → Fits E c i
    -- every edge that does not have both its ends in one folded U stays
    pub edges : (u v : ℕ) → E' u v ↔ (E u v × ((i : Item) → Memᴰ i items → Stays E i.entrance i.exit i.arm u v))
    -- each kept inner vertex gets its portion of the dropped counts
    pub added : (i : Item) → Memᴰ i items → (j : ℕ) → j < length i.arm
        → c' (get_or i.arm j 0) ≡ c (get_or i.arm j 0) + R.portion (sum c i.dropped) (length i.arm) j
    -- a dropped vertex has count 0; that it has no edge follows
    pub emptied : (i : Item) → Memᴰ i items → (v : ℕ) → Memᴰ v i.dropped → c' v ≡ 0
    -- a vertex interior to no folded superbubble keeps its count
    pub untouched : (v : ℕ) → ((i : Item) → Memᴰ i items → Interior E i.entrance i.exit v → ⊥) → c' v ≡ c v

  -- and what is returned: how many were folded, and how many candidates remain in the new graph
  pub record GraphFolded (E : Graph) (c : Counts) (budget : ℕ) (E' : Graph) (c' : Counts) (folded left : ℕ) : Type 0 where
    pub applied : Applied E c budget E' c'
    pub how_many : folded ≡ length applied.items
    pub remaining : (l : List ℕ) × Listing (Entrance C E') l × (left ≡ length l)

  -- folding with one or more budgets in turn, each on what the last left
  pub data InTurn : Graph → Counts → List ℕ → Graph → Counts → Type 1 where
    once : {E E' : Graph} {c c' : Counts} {budget folded left : ℕ} → GraphFolded E c budget E' c' folded left → InTurn E c (budget ∷ []) E' c'
    then : {E E' E'' : Graph} {c c' c'' : Counts} {budget folded left : ℕ} {budgets : List ℕ}
        → GraphFolded E c budget E' c' folded left → InTurn E' c' budgets E'' c'' → InTurn E c (budget ∷ budgets) E'' c''

-- the budgets added up
abbrev pub budgets_sum : List ℕ → ℕ
budgets_sum = sum (λ budget. budget)
