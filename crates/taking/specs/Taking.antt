-- What taking an image in states: look's answer, and the four slices before and after, on a refusal too. Assumes nothing.
use Rattle.std.specs.Prelude.{ℕ, ◌≡◌, List}
use Rattle.layout.specs.Image.{Contents, contents_of}
use Rattle.image.specs.Looking.{Seen, ContentsAtFronts, Looked}
use Rattle.taking.specs.declared.Arrays.{Arrays}

-- what a program's arrays hold
abbrev pub held_by : Arrays → Contents
held_by arrays =
    record {
      table = record { rows = record { starts = arrays.starts; targets = arrays.targets }; counts = arrays.counts };
      lengths = arrays.lengths;
    }

-- the answer is look's; where it is 0, the contents of the image stand at the fronts, and else the slices are as they were
pub record TakenIn (image : List ℕ) (lent after : Contents) (answer : Seen) : Type 0 where
  pub looked : Looked image answer
  pub loaded : answer.number ≡ 0 → ContentsAtFronts answer.version answer.vertices answer.edges (contents_of image) lent after
  pub refused : (answer.number ≡ 0 → ⊥) → after ≡ lent
