-- Laws of taking an image in: how it is looked at and loaded, and what stands in the arrays of an accepted image. Assumes nothing.
use Prim.Native.Nat.{ℕ, ◌+◌, ◌≤◌}
use mathlib.Core.Path.{◌≡◌, refl, sym, subst, ap, ap₂, ◌∙◌}
use mathlib.Core.List.{List, ◌++◌}
use native.Mathlib.Decide.{ℕ_discrete}
use native.Mathlib.Omega.{arith}
use lib.ListN.{length, take, drop, length-append}
use Rattle.table.specs.Limits.{vertex_limit, edge_limit}
use Rattle.table.specs.Table.{Below, Table, SoundTable}
use Rattle.table.specs.Lent.{fronts}
use Rattle.layout.specs.Lengths.{length_count}
use Rattle.layout.specs.Image.{Contents, SoundContents, starts_of, targets_of, counts_of, lengths_of, table_of, contents_of}
use Rattle.layout.proofs.ImageLaws.{starts_long, targets_long, counts_long, lengths_long}
use Rattle.image.specs.Looking.{Seen}
use Rattle.image.specs.Looking.{contents_room, contents_fronts, Looked, Loaded}
use Rattle.image.proofs.LookLaws.{looked_met, looked_says, contents_sound}
use Rattle.image.proofs.LoadLaws.{fronts_hold, looked_table, fronts_exact, exact_contents}
use Rattle.taking.specs.Taking.{TakenIn}

-- an image that look refuses is not loaded
pub refused_taken : {image : List ℕ} {lent : Contents} {answer : Seen} → Looked image answer → (answer.number ≡ 0 → ⊥) → TakenIn image lent lent answer
refused_taken sees refusal = record { looked = sees; loaded = λ e. absurd (refusal e); refused = λ _. refl }

-- one that it accepts is loaded into the fronts, and stands there
pub loaded_taken : {image : List ℕ} {lent after : Contents} {answer loaded : Seen} {count : ℕ} → Looked image answer → (e : answer.number ≡ 0)
    → (contents_room 2 vertex_limit edge_limit lent).met → count ≡ length_count answer.version answer.vertices
    → Loaded image (record { table = fronts answer.vertices answer.edges lent.table; lengths = take count lent.lengths }) after loaded
    → TakenIn image lent
    (record {
      table =
          record {
            rows =
                record {
                  starts = after.table.rows.starts ++ drop (answer.vertices + 1) lent.table.rows.starts;
                  targets = after.table.rows.targets ++ drop answer.edges lent.table.rows.targets;
                };
            counts = after.table.counts ++ drop answer.vertices lent.table.counts;
          };
      lengths = after.lengths ++ drop count lent.lengths;
    })
    answer
loaded_taken {image} {lent} {after} {answer} {count = count} sees e room count-is loads =
    let same : after ≡ contents_of image = exact_contents sees e (fronts_exact sees e lent room) (rw count-is at loads) in
    record {
      looked = sees;
      loaded = λ _.
          record {
            table_fronts =
                record {
                  starts_front = ap (λ (c : Contents). c.table.rows.starts ++ drop (answer.vertices + 1) lent.table.rows.starts) same;
                  targets_front = ap (λ (c : Contents). c.table.rows.targets ++ drop answer.edges lent.table.rows.targets) same;
                  counts_front = ap (λ (c : Contents). c.table.counts ++ drop answer.vertices lent.table.counts) same;
                };
            lengths_front =
                ap (λ (c : Contents). c.lengths ++ drop count lent.lengths) same ∙ ap (λ (k : ℕ). lengths_of image ++ drop k lent.lengths) count-is;
          };
      refused = λ wrong. absurd (wrong e);
    }

-- the arrays with the table of an accepted image at their fronts
pub record TakenTable (image : List ℕ) (after : Table) (n m : ℕ) : Type 0 where
  pub starts_within : n + 1 ≤ length after.rows.starts
  pub targets_within : m ≤ length after.rows.targets
  pub counts_within : n ≤ length after.counts
  pub fronts_same : fronts n m after ≡ table_of image
  pub fronts_sound : SoundTable (fronts n m after)

-- the array with so many lengths of an accepted image at its front
pub record TakenLengths (image after : List ℕ) (count : ℕ) : Type 0 where
  pub lengths_within : count ≤ length after
  pub front_same : take count after ≡ lengths_of image

-- a front is no longer than the whole
front_within : (front rest : List ℕ) {whole : List ℕ} → whole ≡ front ++ rest → length front ≤ length whole
front_within front rest e = omega (arith, ap length e, length-append front rest)

module _ {image : List ℕ} {lent after : Contents} {answer : Seen} (taken : TakenIn image lent after answer) where
  -- n and m are within the limits, on a refusal too
  pub taken_few : (answer.vertices ≤ vertex_limit) × (answer.edges ≤ edge_limit)
  taken_few =
      elim (ℕ_discrete answer.number 0) [
        | yes e ↦ let sized = (looked_says taken.looked e).sized in (sized.few_vertices, sized.few_edges)
        | no refusal ↦ let none = taken.looked.refused refusal in omega (arith, none)
      ]

  module _ (e : answer.number ≡ 0) where
    -- an accepted image: its contents stand at the fronts,
    same : contents_fronts answer.version answer.vertices answer.edges after ≡ contents_of image
    same = fronts_hold (taken.looked.taken e) (taken.loaded e)

    module _ {count : ℕ} (as_many : count ≡ length_count answer.version answer.vertices) where
      -- the fronts, with so many lengths
      abbrev pub taken_fronts : Contents
      taken_fronts = record { table = fronts answer.vertices answer.edges after.table; lengths = take count after.lengths }

      pub taken_same : taken_fronts ≡ contents_of image
      taken_same = (λ i. record { table = fronts answer.vertices answer.edges after.table; lengths = take (as_many i) after.lengths }) ∙ same

      -- sound, since the image is of bytes,
      pub taken_sound : Below 256 image → SoundContents answer.version taken_fronts
      taken_sound bytes =
          let version = (taken.looked.taken e).same_version in
          let sound : SoundContents answer.version (contents_of image) = rw version (contents_sound image bytes (looked_met taken.looked e)) in
          subst (SoundContents answer.version) (sym taken_same) sound

    -- so its table does,
    pub taken_table : TakenTable image after.table answer.vertices answer.edges
    taken_table =
        let n = answer.vertices in
        let m = answer.edges in
        let sizes = taken.looked.taken e in
        let at = (taken.loaded e).table_fronts in
        let table_same : fronts n m after.table ≡ table_of image = ap (λ (c : Contents). c.table) same in
        record {
          starts_within = omega (arith, sizes, front_within (starts_of image) (drop (n + 1) lent.table.rows.starts) at.starts_front, starts_long image);
          targets_within = omega (arith, sizes, front_within (targets_of image) (drop m lent.table.rows.targets) at.targets_front, targets_long image);
          counts_within = omega (arith, sizes, front_within (counts_of image) (drop n lent.table.counts) at.counts_front, counts_long image);
          fronts_same = table_same;
          fronts_sound = subst SoundTable (sym table_same) (looked_table taken.looked e);
        }

    -- and so do its lengths, as many as its version has
    pub taken_lengths : TakenLengths image after.lengths (length_count answer.version answer.vertices)
    taken_lengths =
        let sizes = taken.looked.taken e in
        let count = length_count answer.version answer.vertices in
        record {
          lengths_within =
              omega (
                arith,
                ap₂ length_count sizes.same_version sizes.same_n,
                front_within (lengths_of image) (drop count lent.lengths) (taken.loaded e).lengths_front,
                lengths_long image,
              );
          front_same = ap (λ (c : Contents). c.lengths) same;
        }
