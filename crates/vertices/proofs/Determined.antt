-- A set has only one way to be kept: words with the same members are the same words. Assumes nothing.
use Rattle.std.proofs.Common.{ℕ, zero, suc, ◌+◌, ◌*◌, ◌/◌, ◌%◌, ◌^◌, ◌<◌, ◌≡◌, sym, ◌∙◌, ◌↔◌, List, arith, length, get_or, ext_get_or}
use native.Mathlib.Decide.{ℕ_discrete}
use Rattle.vertices.specs.Vertices.{bit_at, Member, set_words, Words, Added}
use Rattle.vertices.proofs.BitLaws.{bit_first, bit_next, bit_below}

-- the same ones, place by place, are the same word
same_bits : (d a b : ℕ) → a < 2 ^ d → b < 2 ^ d → ((k : ℕ) → (bit_at a k ≡ 1) ↔ (bit_at b k ≡ 1)) → a ≡ b
same_bits zero a b h l same = omega arith
same_bits (suc d) a b h l same =
    let power : 2 ^ suc d ≡ 2 * 2 ^ d = omega arith in
    let halves : a / 2 ≡ b / 2
    = same_bits d (a / 2) (b / 2) (omega arith) (omega arith)
    (λ k. (λ q. sym (bit_next b k) ∙ (same (suc k)).0 (bit_next a k ∙ q), λ q. sym (bit_next a k) ∙ (same (suc k)).1 (bit_next b k ∙ q))) in
    let first : a % 2 ≡ b % 2 = elim (ℕ_discrete (bit_at a 0) 1) [
      | yes one ↦ omega (arith, bit_first a, bit_first b, (same 0).0 one)
      | no none ↦
          elim (ℕ_discrete (bit_at b 0) 1) [
            | yes one ↦ absurd (none ((same 0).1 one))
            | no also ↦ omega (arith, bit_first a, bit_first b)
          ]
    ] in
    omega arith

-- the member of place k of word i
member_at : (words : List ℕ) (i k : ℕ) → k < 64 → Member words (64 * i + k) ↔ (bit_at (get_or words i 0) k ≡ 1)
member_at words i k h =
    let word : (64 * i + k) / 64 ≡ i = omega arith in
    let place : (64 * i + k) % 64 ≡ k = omega arith in
    (λ m. rw (word, place) at m, λ q. rw (word, place) q)

-- words with the same members are the same
pub members_determine : {words words' : List ℕ} → Words words → Words words' → ((x : ℕ) → Member words x ↔ Member words' x) → words ≡ words'
members_determine {words} {words'} a b same = ext_get_or 0 words words' (a.many ∙ sym b.many) each
  where
    there : (i : ℕ) (u w : List ℕ) → Words u → i < set_words → ((x : ℕ) → Member u x → Member w x) → (k : ℕ) → bit_at (get_or u i 0) k ≡ 1 → bit_at (get_or w i 0) k ≡ 1
    there i u w ok h to k q =
        let small : k < 64 = bit_below 64 (get_or u i 0) k (ok.each i (omega (arith, ok.many))) q in
        (member_at w i k small).0 (to (64 * i + k) ((member_at u i k small).1 q))

    each : (i : ℕ) → i < length words → get_or words i 0 ≡ get_or words' i 0
    each i l =
        let h : i < set_words = omega (arith, a.many) in
        same_bits 64 (get_or words i 0) (get_or words' i 0) (a.each i l) (b.each i (omega (arith, b.many)))
        (λ k. (there i words words' a h (λ x. (same x).0) k, there i words' words b h (λ x. (same x).1) k))

-- what adding a vertex leaves is determined
pub put_determined : {words words₁ words₂ : List ℕ} {v : ℕ} → Added words words₁ v → Added words words₂ v → words₁ ≡ words₂
put_determined a b = members_determine a.still b.still (λ x. (λ m. (b.members x).1 ((a.members x).0 m), λ m. (a.members x).1 ((b.members x).0 m)))
