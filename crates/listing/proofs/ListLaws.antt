-- Laws of lists of pairs: one entrance more, and that a list is determined by what it lists. Assumes nothing.
use Rattle.std.proofs.Common.{ℕ, zero, suc, ◌+◌, ◌*◌, ◌-◌, ◌/◌, ◌%◌, ◌≤◌, ◌<◌, ◌≡◌, refl, sym}
use Rattle.std.proofs.Common.{ap, ◌∙◌, List, [], ◌∷◌, ◌++◌, le_refl, le_of_lt, arith, length, get_or, length-append, ext_get_or, get_or-append-add}
use native.Mathlib.Decide.{ℕ_discrete, dec_lt}
use lib.ListN.{get_or-append}
use Rattle.listing.specs.Listing.{Stands, Listed}

-- the pairs of P whose entrance is below v
abbrev pub Before : (ℕ → ℕ → Type 0) → ℕ → ℕ → ℕ → Type 0
Before P v s t = (s < v) × P s t

-- lists of the same pairs
pub listed_same : {P Q : ℕ → ℕ → Type 0} {pairs : List ℕ} {found : ℕ} → Listed P pairs found → ((s t : ℕ) → P s t → Q s t) → ((s t : ℕ) → Q s t → P s t)
    → Listed Q pairs found
listed_same {pairs = pairs} l there back =
    record {
      long = l.long;
      rising = l.rising;
      sound = λ i h. there (get_or pairs (2 * i) 0) (get_or pairs (2 * i + 1) 0) (l.sound i h);
      whole = λ s t q. l.whole s t (back s t q);
    }

-- v is no entrance
pub listed_without : (P : ℕ → ℕ → Type 0) (v : ℕ) {pairs : List ℕ} {found : ℕ} → ((t : ℕ) → P v t → ⊥) → Listed (Before P v) pairs found
    → Listed (Before P (v + 1)) pairs found
listed_without P v none l = listed_same l (λ s t p. (omega (arith, p.0), p.1)) (λ s t p. (below s t p, p.1))
  where
    below : (s t : ℕ) → Before P (v + 1) s t → s < v
    below s t p = elim (ℕ_discrete s v) [ yes e ↦ absurd (none t (rw e at p.1)) | no n ↦ omega (arith, p.0) ]

module _ (P : ℕ → ℕ → Type 0) (v t : ℕ) {pairs : List ℕ} {found : ℕ} (pair : P v t) (one : (x : ℕ) → P v x → x ≡ t) (l : Listed (Before P v) pairs found) where
  old : (k : ℕ) → k < 2 * found → get_or (pairs ++ v ∷ t ∷ []) k 0 ≡ get_or pairs k 0
  old k h = get_or-append pairs (v ∷ t ∷ []) 0 k (omega (arith, l.long))

  new_entrance : get_or (pairs ++ v ∷ t ∷ []) (2 * found) 0 ≡ v
  new_entrance =
      let at : 2 * found ≡ length pairs + 0 = omega (arith, l.long) in
      ap (λ (k : ℕ). get_or (pairs ++ v ∷ t ∷ []) k 0) at ∙ get_or-append-add pairs (v ∷ t ∷ []) 0 0

  new_exit : get_or (pairs ++ v ∷ t ∷ []) (2 * found + 1) 0 ≡ t
  new_exit =
      let at : 2 * found + 1 ≡ length pairs + 1 = omega (arith, l.long) in
      ap (λ (k : ℕ). get_or (pairs ++ v ∷ t ∷ []) k 0) at ∙ get_or-append-add pairs (v ∷ t ∷ []) 1 0

  more_rising : (i : ℕ) → i + 1 < found + 1 → get_or (pairs ++ v ∷ t ∷ []) (2 * i) 0 < get_or (pairs ++ v ∷ t ∷ []) (2 * (i + 1)) 0
  more_rising i h =
      elim (ℕ_discrete (i + 1) found) [
        | yes e ↦ rw (old (2 * i) (omega arith), e, new_entrance) (l.sound i (omega arith)).0
        | no n ↦ rw (old (2 * i) (omega arith), old (2 * (i + 1)) (omega arith)) (l.rising i (omega arith))
      ]

  more_sound : (i : ℕ) → i < found + 1 → Before P (v + 1) (get_or (pairs ++ v ∷ t ∷ []) (2 * i) 0) (get_or (pairs ++ v ∷ t ∷ []) (2 * i + 1) 0)
  more_sound i h =
      elim (ℕ_discrete i found) [
        | yes e ↦ rw (e, new_entrance, new_exit) (omega arith, pair)
        | no n ↦
            let p = l.sound i (omega arith) in
            rw (old (2 * i) (omega arith), old (2 * i + 1) (omega arith)) (omega (arith, p.0), p.1)
      ]

  more_whole : (s x : ℕ) → Before P (v + 1) s x → Stands (pairs ++ v ∷ t ∷ []) (found + 1) s x
  more_whole s x p =
      elim (ℕ_discrete s v) [
        | yes e ↦ record { line = found; within = omega arith; entrance = new_entrance ∙ sym e; exit = new_exit ∙ sym (one x (rw e at p.1)) }
        | no n ↦
            let stands = l.whole s x (omega (arith, p.0), p.1) in
            record {
              line = stands.line;
              within = omega (arith, stands.within);
              entrance = old (2 * stands.line) (omega (arith, stands.within)) ∙ stands.entrance;
              exit = old (2 * stands.line + 1) (omega (arith, stands.within)) ∙ stands.exit;
            }
      ]

  -- v is the entrance of one pair
  pub listed_more : Listed (Before P (v + 1)) (pairs ++ v ∷ t ∷ []) (found + 1)
  listed_more =
      record {
        long = length-append pairs (v ∷ t ∷ []) ∙ omega (arith, l.long);
        rising = more_rising;
        sound = more_sound;
        whole = more_whole;
      }

module _ {P : ℕ → ℕ → Type 0} {pairs : List ℕ} {found : ℕ} (l : Listed P pairs found) where
  -- entrances rise over any number of lines
  entrances_rise : (i steps : ℕ) → i + suc steps < found → get_or pairs (2 * i) 0 < get_or pairs (2 * (i + suc steps)) 0
  entrances_rise i zero h = let one : i + 1 ≡ i + suc zero = omega arith in rw one at (l.rising i (omega arith))
  entrances_rise i (suc steps) h =
      let next : (i + suc steps) + 1 ≡ i + suc (suc steps) = omega arith in
      let last : get_or pairs (2 * (i + suc steps)) 0 < get_or pairs (2 * (i + suc (suc steps))) 0 = rw next at (l.rising (i + suc steps) (omega arith)) in
      omega (arith, entrances_rise i steps (omega arith))

  entrances_in_order : (i j : ℕ) → i < j → j < found → get_or pairs (2 * i) 0 < get_or pairs (2 * j) 0
  entrances_in_order i j h k =
      let gap : i + suc (j - suc i) ≡ j = omega arith in
      rw gap at (entrances_rise i (j - suc i) (omega arith))

  entrances_at_most : (i j : ℕ) → i ≤ j → j < found → get_or pairs (2 * i) 0 ≤ get_or pairs (2 * j) 0
  entrances_at_most i j h k = elim (ℕ_discrete i j) [ yes e ↦ rw e (le_refl _) | no n ↦ le_of_lt (entrances_in_order i j (omega arith) k) ]

-- the same entrance stands in the line i of both lists
abbrev SameLine : List ℕ → List ℕ → ℕ → ℕ → Type 0
SameLine pairs₁ pairs₂ found₂ i = (i < found₂) × (get_or pairs₁ (2 * i) 0 ≡ get_or pairs₂ (2 * i) 0)

-- where all earlier lines agree, the entrance of a line of the first list stands no earlier in the second
not_earlier : {P : ℕ → ℕ → Type 0} {pairs₁ pairs₂ : List ℕ} {found₁ found₂ : ℕ} → Listed P pairs₁ found₁ → Listed P pairs₂ found₂ → (i : ℕ) → i < found₁
    → ((j : ℕ) → j < i → SameLine pairs₁ pairs₂ found₂ j) → (k : ℕ) × (i ≤ k) × (k < found₂) × (get_or pairs₂ (2 * k) 0 ≡ get_or pairs₁ (2 * i) 0)
not_earlier {pairs₁ = pairs₁} a b i h same =
    let stands = b.whole (get_or pairs₁ (2 * i) 0) (get_or pairs₁ (2 * i + 1) 0) (a.sound i h) in
    elim (dec_lt stands.line i) [
      | yes l ↦ absurd (let no : ⊥ = omega (arith, (same stands.line l).1, stands.entrance, entrances_in_order a stands.line i l h) in no)
      | no n ↦ (stands.line, omega arith, stands.within, stands.entrance)
    ]

lines_agree : {P : ℕ → ℕ → Type 0} {pairs₁ pairs₂ : List ℕ} {found₁ found₂ : ℕ} → Listed P pairs₁ found₁ → Listed P pairs₂ found₂ → (n i : ℕ) → i < n → i < found₁
    → SameLine pairs₁ pairs₂ found₂ i
lines_agree a b zero i l h = absurd (let no : ⊥ = omega arith in no)
lines_agree {pairs₁ = pairs₁} {pairs₂ = pairs₂} {found₂ = found₂} a b (suc n) i l h =
    let earlier : (j : ℕ) → j < i → SameLine pairs₁ pairs₂ found₂ j = λ j k. lines_agree a b n j (omega arith) (omega arith) in
    let (k, up, in-second, e) = not_earlier a b i h earlier in
    let within : i < found₂ = omega arith in
    let (k', up', in-first, e') = not_earlier b a i within (λ j l. (omega arith, sym (earlier j l).1)) in
    (within, omega (arith, entrances_at_most b i k up in-second, entrances_at_most a i k' up' in-first, e, e'))

-- a list is determined by what it lists, where an entrance has one exit
pub listed_determined : {P : ℕ → ℕ → Type 0} {pairs₁ pairs₂ : List ℕ} {found₁ found₂ : ℕ} → Listed P pairs₁ found₁ → Listed P pairs₂ found₂
    → ((s t x : ℕ) → P s t → P s x → t ≡ x) → (found₁ ≡ found₂) × (pairs₁ ≡ pairs₂)
listed_determined {pairs₁ = pairs₁} {pairs₂ = pairs₂} {found₁ = found₁} {found₂ = found₂} a b one =
    let many : found₁ ≡ found₂ = same_number in
    (many, ext_get_or 0 pairs₁ pairs₂ (omega (arith, a.long, b.long)) entry)
  where
    line : (i : ℕ) → i < found₁ → SameLine pairs₁ pairs₂ found₂ i
    line i h = lines_agree a b (suc i) i (omega arith) h

    same_number : found₁ ≡ found₂
    same_number =
        elim (dec_lt found₁ found₂) [
          | yes l ↦ absurd (let no : ⊥ = omega (arith, (lines_agree b a (suc found₁) found₁ (omega arith) l).0) in no)
          | no n ↦
              elim (dec_lt found₂ found₁) [
                | yes l ↦ absurd (let no : ⊥ = omega (arith, (line found₂ l).0) in no)
                | no m ↦ omega arith
              ]
        ]

    entry : (i : ℕ) → i < length pairs₁ → get_or pairs₁ i 0 ≡ get_or pairs₂ i 0
    entry i h =
        let h_line : i / 2 < found₁ = omega (arith, a.long) in
        let same = line (i / 2) h_line in
        elim (ℕ_discrete (i % 2) 0) [
          | yes e ↦ let at : 2 * (i / 2) ≡ i = omega arith in rw at at same.1
          | no n ↦
              let at : 2 * (i / 2) + 1 ≡ i = omega arith in
              rw at at
              (one (get_or pairs₁ (2 * (i / 2)) 0) (get_or pairs₁ (2 * (i / 2) + 1) 0) (get_or pairs₂ (2 * (i / 2) + 1) 0) (a.sound (i / 2) h_line)
              (rw same.1 (b.sound (i / 2) same.0)))
        ]
