-- Laws of skipping: one test after another, and what is left of an exit. Assumes nothing.
use Rattle.std.proofs.Common.{ℕ, ◌<◌, ◌≡◌, refl, Bool, true, false, List, Option}
use Rattle.table.specs.Verdict.{Says}
use Rattle.table.specs.Table.{In, vertices, row, Edge}
use Rattle.bubble.specs.Superbubble.{Reaches}
use Rattle.search.specs.declared.Exit.{Exit}
use Rattle.rule.specs.Lists.{Graph}
use Rattle.rule.specs.declared.Rings.{Rings}
use Rattle.skipping.specs.Skipping.{LeadsBack, Admitted, Admitted.unasked, Admitted.nothing, Admitted.passed, Admitted.skipped}

-- with the bare edge the way back settles it
pub by_way_back : (starts targets : List ℕ) (s t : ℕ) (r : Bool) → s < vertices starts → In t (row starts targets s)
    → Says r (Reaches (Edge starts targets) t s) → Says r (LeadsBack (Edge starts targets) s t)
by_way_back starts targets s t true h listed back = record { bare_edge = record { vertex = h; listed = listed }; way_back = back }
by_way_back starts targets s t false h listed none = λ leads. none leads.way_back

-- what is left is determined
pub admitted_determined : {E : Graph} {s : ℕ} {rings : Rings} {exit r₁ r₂ : Option Exit} → Admitted E s rings exit r₁ → Admitted E s rings exit r₂ → r₁ ≡ r₂
admitted_determined unasked unasked = refl
admitted_determined nothing nothing = refl
admitted_determined (passed free) (passed free') = refl
admitted_determined (passed free) (skipped skips) = absurd (free skips)
admitted_determined (skipped skips) (passed free) = absurd (free skips)
admitted_determined (skipped skips) (skipped skips') = refl
