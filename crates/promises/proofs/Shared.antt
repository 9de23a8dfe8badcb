-- What a fold does with the counts that it drops, sentence by sentence (docs/RULES.md, Fold): of each superbubble that is folded, with the sums taken from the counts
-- handed in. That edges and all other counts are those of the rule is `fold_by_rule` of Demand2; that the total never moves, Demand3. Assumes nothing.
use Prim.Native.Nat.{ℕ, ◌+◌, ◌/◌, ◌%◌, ◌≤◌, ◌<◌}
use mathlib.Core.Path.{◌≡◌}
use mathlib.Core.Logic.{◌⊎◌}
use mathlib.Core.List.{[], Memᴰ}
use native.Mathlib.Omega.{arith}
use lib.ListN.{length, get_or}
use Rattle.table.specs.Table.{Table, edges, SoundTable}
use Rattle.bubble.specs.Superbubble.{Interior}
use Rattle.rule.specs.Lists.{sum, total}
use Rattle.rule.specs.Fold.{kept_shares, to_each, Item, Applied, Fits}
use Rattle.rule.specs.Tables.{count_of}
use Rattle.rule.specs.Way.{kind_of, candidates_of, the_fold}
use Rattle.rule.specs.declared.Mode.{Mode}
use Rattle.rule.proofs.Items.{item_superbubble, dropped_inner, ends_outside}
use Rattle.rule.proofs.Shares.{one_more_first, one_more_after}
use Rattle.rule.proofs.Sums.{sum_zero}
use Rattle.rule.proofs.Total.{whole_dropped}
use Rattle.rule.proofs.TheFold.{the_fold_lawful}
use Rattle.promises.specs.Calls.{FoldCall}
use Rattle.promises.proofs.Demand2.{fold_by_rule}

module _ (mode : Mode) {table table' : Table} {budget : ℕ} (ok : SoundTable table) (kind : kind_of mode.rings (edges table.rows))
    (call : FoldCall (the_fold mode) table budget table') where
  -- what the rule says of this call, and in it the superbubbles that are folded: entrance, exit, the inner vertices of the kept path, the vertices dropped
  abbrev pub applied : Applied (candidates_of mode.rings) (kept_shares mode.by) (edges table.rows) (count_of table.counts) budget (edges table'.rows)
      (count_of table'.counts)
  applied = (fold_by_rule mode ok kind call).graph_folded.applied

  module _ (i : Item) (m : Memᴰ i applied.items) where
    fits : Fits (candidates_of mode.rings) (kept_shares mode.by) (edges table.rows) (count_of table.counts) i
    fits = applied.fit i m

    -- the sum of the dropped counts, and the number of inner vertices of the kept path
    abbrev pub dropped_sum : ℕ
    dropped_sum = sum (count_of table.counts) i.dropped

    abbrev pub inner_number : ℕ
    inner_number = length i.arm

    -- The first inner vertices in path order, as many as the remainder, get the quotient and one more each,
    pub first_ones : (j : ℕ) → j < inner_number → j < dropped_sum % inner_number
        → get_or table'.counts (get_or i.arm j 0) 0 ≡ get_or table.counts (get_or i.arm j 0) 0 + (dropped_sum / inner_number + 1)
    first_ones j h l = omega (arith, applied.added i m j h, one_more_first (dropped_sum % inner_number) j l)

    -- and the others the quotient.
    pub other_ones : (j : ℕ) → j < inner_number → dropped_sum % inner_number ≤ j
        → get_or table'.counts (get_or i.arm j 0) 0 ≡ get_or table.counts (get_or i.arm j 0) 0 + dropped_sum / inner_number
    other_ones j h l = omega (arith, applied.added i m j h, one_more_after (dropped_sum % inner_number) j l)

    -- What they get comes to the sum that was dropped,
    pub all_of_it : total (to_each dropped_sum inner_number) inner_number ≡ dropped_sum
    all_of_it = whole_dropped (the_fold_lawful mode).candidates_lawful (the_fold_lawful mode).rule_lawful i fits i.arm fits.kept

    -- which is 0 where the bare edge is kept: it takes none, all of them being 0.
    pub bare_edge : i.arm ≡ [] → ((v : ℕ) → Interior (edges table.rows) i.entrance i.exit v → get_or table.counts v 0 ≡ 0) × (dropped_sum ≡ 0)
    bare_edge q =
        let zero : (v : ℕ) → Interior (edges table.rows) i.entrance i.exit v → get_or table.counts v 0 ≡ 0
        = (the_fold_lawful mode).rule_lawful.bare (item_superbubble (the_fold_lawful mode).candidates_lawful (the_fold_lawful mode).rule_lawful fits) (rw q at fits.kept) in
        (zero, sum_zero i.dropped (λ v d. zero v (dropped_inner (the_fold_lawful mode).candidates_lawful (the_fold_lawful mode).rule_lawful fits d)))

    -- Entrance and exit get nothing,
    pub ends_keep : (v : ℕ) → (v ≡ i.entrance) ⊎ (v ≡ i.exit) → get_or table'.counts v 0 ≡ get_or table.counts v 0
    ends_keep v end =
        applied.untouched v (λ j n inner. ends_outside (the_fold_lawful mode).candidates_lawful (the_fold_lawful mode).rule_lawful kind fits (applied.fit j n) end inner)

    -- and each dropped vertex has 0.
    pub dropped_have_none : (v : ℕ) → Memᴰ v i.dropped → get_or table'.counts v 0 ≡ 0
    dropped_have_none = applied.emptied i m

-- So it is in the worked fold of docs/RULES.md, A shared arm: 3 over two vertices is 2 and 1.
pub three_over_two : (to_each 3 2 0 ≡ 2) × (to_each 3 2 1 ≡ 1)
three_over_two = (omega (arith, one_more_first 1 0 (omega arith)), omega (arith, one_more_after 1 1 (omega arith)))
