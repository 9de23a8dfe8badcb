-- The first word of a text says which kind of answer it is: `no`, `table`, `folded`, `refused`, `superbubble` and `superbubbles` have six lengths; a look and contents share theirs.
-- Assumes nothing.
use Prim.Native.Nat.{ℕ}
use mathlib.Core.Path.{ap}
use mathlib.Core.Logic.{◌≢◌}
use mathlib.Core.Bool.{Bool, true, false}
use mathlib.Core.List.{List, [], ◌∷◌}
use native.Mathlib.Omega.{arith}
use lib.ListN.{length}
use Rattle.layout.specs.Image.{Contents}
use Rattle.texts.specs.Text.{Line, text, refusal_lines, look_lines, contents_lines, list_lines, judgement_lines, fold_lines}
use Rattle.texts.proofs.Plain.{PlainLines, plain_refusal, plain_look, plain_contents, plain_list, plain_judgement, plain_fold}
use Rattle.texts.proofs.Splitting.{text_determines}

-- how long the first word is
abbrev pub first_long : List Line → ℕ
first_long [] = 0
first_long (l ∷ rest) = length l.first

pub texts_differ : (a a' : PlainLines) → first_long a.lines ≢ first_long a'.lines → text a.lines ≢ text a'.lines
texts_differ a a' differ same = differ (ap first_long (text_determines a a' same))

pub refusal_no_look : (r version n m : ℕ) → text (refusal_lines r) ≢ text (look_lines version n m)
refusal_no_look r version n m = texts_differ (plain_refusal r) (plain_look version n m) (omega arith)

pub refusal_no_contents : (r version : ℕ) (contents : Contents) → text (refusal_lines r) ≢ text (contents_lines version contents)
refusal_no_contents r version contents = texts_differ (plain_refusal r) (plain_contents version contents) (omega arith)

pub refusal_no_list : (r : ℕ) (pairs : List ℕ) (found : ℕ) → text (refusal_lines r) ≢ text (list_lines pairs found)
refusal_no_list r pairs found = texts_differ (plain_refusal r) (plain_list pairs found) (omega arith)

pub refusal_no_judgement : (r : ℕ) (answer : Bool) (k : ℕ) → text (refusal_lines r) ≢ text (judgement_lines answer k)
refusal_no_judgement r true k = texts_differ (plain_refusal r) (plain_judgement true k) (omega arith)
refusal_no_judgement r false k = texts_differ (plain_refusal r) (plain_judgement false k) (omega arith)

pub refusal_no_fold : (r folded left edges : ℕ) → text (refusal_lines r) ≢ text (fold_lines folded left edges)
refusal_no_fold r folded left edges = texts_differ (plain_refusal r) (plain_fold folded left edges) (omega arith)

pub look_no_list : (version n m : ℕ) (pairs : List ℕ) (found : ℕ) → text (look_lines version n m) ≢ text (list_lines pairs found)
look_no_list version n m pairs found = texts_differ (plain_look version n m) (plain_list pairs found) (omega arith)

pub look_no_judgement : (version n m : ℕ) (answer : Bool) (k : ℕ) → text (look_lines version n m) ≢ text (judgement_lines answer k)
look_no_judgement version n m true k = texts_differ (plain_look version n m) (plain_judgement true k) (omega arith)
look_no_judgement version n m false k = texts_differ (plain_look version n m) (plain_judgement false k) (omega arith)

pub look_no_fold : (version n m folded left edges : ℕ) → text (look_lines version n m) ≢ text (fold_lines folded left edges)
look_no_fold version n m folded left edges = texts_differ (plain_look version n m) (plain_fold folded left edges) (omega arith)

pub contents_no_list : (version : ℕ) (contents : Contents) (pairs : List ℕ) (found : ℕ) → text (contents_lines version contents) ≢ text (list_lines pairs found)
contents_no_list version contents pairs found = texts_differ (plain_contents version contents) (plain_list pairs found) (omega arith)

pub contents_no_judgement : (version : ℕ) (contents : Contents) (answer : Bool) (k : ℕ) → text (contents_lines version contents) ≢ text (judgement_lines answer k)
contents_no_judgement version contents true k = texts_differ (plain_contents version contents) (plain_judgement true k) (omega arith)
contents_no_judgement version contents false k = texts_differ (plain_contents version contents) (plain_judgement false k) (omega arith)

pub contents_no_fold : (version : ℕ) (contents : Contents) (folded left edges : ℕ) → text (contents_lines version contents) ≢ text (fold_lines folded left edges)
contents_no_fold version contents folded left edges = texts_differ (plain_contents version contents) (plain_fold folded left edges) (omega arith)

pub list_no_judgement : (pairs : List ℕ) (found : ℕ) (answer : Bool) (k : ℕ) → text (list_lines pairs found) ≢ text (judgement_lines answer k)
list_no_judgement pairs found true k = texts_differ (plain_list pairs found) (plain_judgement true k) (omega arith)
list_no_judgement pairs found false k = texts_differ (plain_list pairs found) (plain_judgement false k) (omega arith)

pub list_no_fold : (pairs : List ℕ) (found folded left edges : ℕ) → text (list_lines pairs found) ≢ text (fold_lines folded left edges)
list_no_fold pairs found folded left edges = texts_differ (plain_list pairs found) (plain_fold folded left edges) (omega arith)

pub judgement_no_fold : (answer : Bool) (k folded left edges : ℕ) → text (judgement_lines answer k) ≢ text (fold_lines folded left edges)
judgement_no_fold true k folded left edges = texts_differ (plain_judgement true k) (plain_fold folded left edges) (omega arith)
judgement_no_fold false k folded left edges = texts_differ (plain_judgement false k) (plain_fold folded left edges) (omega arith)
