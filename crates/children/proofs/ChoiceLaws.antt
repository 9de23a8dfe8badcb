-- Laws of the choice among the children of a row: the first, and one child more. Assumes nothing.
use Rattle.std.proofs.Common.{ℕ, ◌+◌, ◌-◌, ◌≤◌, ◌<◌, ◌≡◌, ◌∙◌, refl, ap, List, length, get_or, take, drop, arith, below_more}
use Rattle.std.proofs.lemmas.List.{take_rest}
use Rattle.std.proofs.lemmas.Grind.{get_or_after_one}
use Rattle.rule.specs.Tables.{count_of}
use Rattle.rule.specs.Next.{worth}
use Rattle.rule.specs.declared.Choosing.{Choosing}
use Rattle.children.specs.Children.{Chosen}

-- what stands in a list after its first number
pub after_first : (row : List ℕ) (i : ℕ) → get_or (take (length row - 1) (drop 1 row)) i 0 ≡ get_or row (i + 1) 0
after_first row i = ap (λ l. get_or l i 0) (take_rest row 1) ∙ get_or_after_one row i 0 ∙ ap (λ k. get_or row k 0) (omega arith)

module _ {by : Choosing} {row counts best : List ℕ} {t end : ℕ} where
  module _ {k child gain more : ℕ} (c : Chosen by row counts best t end k child gain) (q : more ≡ worth by (count_of counts) t end (count_of best) (get_or row k 0)) where
    pub chosen_larger : gain < more → Chosen by row counts best t end (k + 1) (get_or row k 0) more
    chosen_larger h = record {
      place = k;
      passed = omega arith;
      stands = refl;
      value = q;
      largest = below_more _ _ (λ j l. omega (arith, c.largest j l)) (omega arith);
      first = λ j l. omega (arith, c.largest j l);
    }

    pub chosen_still : more ≤ gain → Chosen by row counts best t end (k + 1) child gain
    chosen_still h = record {
      place = c.place;
      passed = omega (arith, c.passed);
      stands = c.stands;
      value = c.value;
      largest = below_more _ _ c.largest (omega arith);
      first = c.first;
    }
