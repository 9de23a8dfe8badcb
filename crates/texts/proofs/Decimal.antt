-- A number in shortest decimal: it has the fewest digits that hold the number, each byte is a digit, and the number can be read back. Assumes nothing.
use Prim.Native.Nat.{ℕ, zero, suc, ◌+◌, ◌-◌, ◌*◌, ◌/◌, ◌%◌, ◌^◌, ◌≤◌, ◌<◌}
use mathlib.Core.Path.{◌≡◌, refl, sym, ap, ◌∙◌, subst}
use mathlib.Core.Bool.{Bool, true, false, not, cond}
use mathlib.Core.List.{List, [], ◌∷◌, ◌++◌}
use native.Mathlib.Nat.{le_antisymm, pow-suc, pow-le-pow_right, suc-sub-suc, sub-zero}
use native.Mathlib.Decide.{dec_le}
use native.Mathlib.Numerals.{one-add}
use native.Mathlib.Omega.{arith}
use lib.ListN.{length, length-append}
use lib.Dec.{T, ltb, ltb→lt, lt→ltb, nltb→le}
use Rattle.io.specs.Digits.{hex_digit_ascii, last_digits, IsDigitCount}
use Rattle.texts.specs.Text.{places, decimal}
use Rattle.texts.proofs.All.{All, all_next}

-- ---- How many digits a number has.

-- from 10 on, one digit more than the number without its last digit
fewest_next : (n k : ℕ) → 10 ≤ n → IsDigitCount 10 1 (n / 10) k → IsDigitCount 10 1 n (1 + k)
fewest_next n zero h few = absurd (omega (arith, few.0))
fewest_next n (suc zero) h few = omega arith
fewest_next n (suc (suc k)) h few =
    let most : 10 ^ (suc k) ≤ n / 10 = rw (suc-sub-suc (suc k) 0, sub-zero (suc k)) at (few.2 (omega arith)) in
    rw (one-add (suc (suc k)))
    (omega arith, omega (arith, few.1, pow-suc 10 (suc (suc k))), λ more. rw (suc-sub-suc (suc (suc k)) 0, sub-zero (suc (suc k))) (omega (arith, pow-suc 10 (suc k))))

places_next : (bound n : ℕ) → IsDigitCount 10 1 (n / 10) (places bound (n / 10)) → (below : Bool) → ltb n 10 ≡ below
    → IsDigitCount 10 1 n (elim below [ true ↦ 1 | false ↦ 1 + places bound (n / 10) ])
places_next bound n rest true q = let h : n < 10 = ltb→lt n 10 (subst T (sym q) tt) in omega arith
places_next bound n rest false q = fewest_next n (places bound (n / 10)) (nltb→le n 10 (subst (λ (b : Bool). T (not b)) (sym q) tt)) rest

-- a bound that is no less than the number is bound enough
places_fewest : (bound n : ℕ) → n ≤ bound → IsDigitCount 10 1 n (places bound n)
places_fewest zero n h = omega arith
places_fewest (suc bound) n h = places_next bound n (places_fewest bound (n / 10) (omega arith)) (ltb n 10) refl

-- fewer digits do not hold the number
fewest_least : (n k j : ℕ) → IsDigitCount 10 1 n k → 1 ≤ j → n < 10 ^ j → k ≤ j
fewest_least n k j few some holds =
    elim (dec_le k j) [
      | yes h ↦ h
      | no h ↦
          let more : j < k = omega arith in
          let most : 10 ^ j ≤ 10 ^ (k - 1) = pow-le-pow_right (omega arith) (omega arith) in
          absurd (omega (arith, few.2 (omega arith)))
    ]

-- the fewest digits that hold a number are its decimal
pub decimal_fewest : (n k : ℕ) → IsDigitCount 10 1 n k → last_digits 10 k n ≡ decimal n
unfolding decimal
decimal_fewest n k few =
    let fewest = places_fewest n n (omega arith) in
    let same : k ≡ places n n = le_antisymm (fewest_least n k (places n n) few fewest.0 fewest.1) (fewest_least n (places n n) k fewest few.0 few.1) in
    ap (λ (j : ℕ). last_digits 10 j n) same

-- ---- How long a decimal is.

digits_long : (k n : ℕ) → length (last_digits 10 k n) ≡ k
digits_long zero n = refl
digits_long (suc k) n = length-append (last_digits 10 k (n / 10)) (hex_digit_ascii (n % 10) ∷ []) ∙ omega (arith, digits_long k (n / 10))

-- a number below 10 ^ k has at most k
pub decimal_long : (k x : ℕ) → 1 ≤ k → x < 10 ^ k → length (decimal x) ≤ k
unfolding decimal
decimal_long k x some holds =
    rw (digits_long (places x x) x) (fewest_least x (places x x) k (places_fewest x x (omega arith)) some holds)

-- and each number has one
pub decimal_some : (x : ℕ) → 1 ≤ length (decimal x)
unfolding decimal
decimal_some x = rw (digits_long (places x x) x) (places_fewest x x (omega arith)).0

-- ---- A decimal is digits, and the number can be read back.

-- a byte is a digit, `0` to `9`
abbrev pub Digit : ℕ → Type 0
Digit byte = (48 ≤ byte) × (byte ≤ 57)

glyph_digit : (d : ℕ) → d < 10 → hex_digit_ascii d ≡ 48 + d
glyph_digit d h = passed (ltb d 10) (lt→ltb d 10 h)
  where
    passed : (test : Bool) → T test → cond test (48 + d) (87 + d) ≡ 48 + d
    passed true t = refl
    passed false t = absurd t

digits_all : (k n : ℕ) → All Digit (last_digits 10 k n)
digits_all zero n = tt
digits_all (suc k) n =
    let last : hex_digit_ascii (n % 10) ≡ 48 + n % 10 = glyph_digit (n % 10) (omega arith) in
    all_next Digit (last_digits 10 k (n / 10)) (hex_digit_ascii (n % 10)) (digits_all k (n / 10)) (omega arith)

-- each byte of a decimal is a digit
pub decimal_digits : (x : ℕ) → All Digit (decimal x)
unfolding decimal
decimal_digits x = digits_all (places x x) x

-- the number that digits behind a number say
abbrev pub read_on : ℕ → List ℕ → ℕ
read_on n [] = n
read_on n (byte ∷ rest) = read_on (n * 10 + (byte - 48)) rest

read_next : (n : ℕ) (bytes : List ℕ) (byte : ℕ) → read_on n (bytes ++ byte ∷ []) ≡ read_on n bytes * 10 + (byte - 48)
read_next n [] byte = refl
read_next n (first ∷ bytes) byte = read_next (n * 10 + (first - 48)) bytes byte

read_digits : (k n : ℕ) → n < 10 ^ k → read_on 0 (last_digits 10 k n) ≡ n
read_digits zero n h = omega arith
read_digits (suc k) n h =
    let last : hex_digit_ascii (n % 10) ≡ 48 + n % 10 = glyph_digit (n % 10) (omega arith) in
    read_next 0 (last_digits 10 k (n / 10)) (hex_digit_ascii (n % 10)) ∙ omega (arith, read_digits k (n / 10) (omega (arith, pow-suc 10 k)))

-- who reads a decimal reads its number
pub decimal_read : (x : ℕ) → read_on 0 (decimal x) ≡ x
unfolding decimal
decimal_read x = read_digits (places x x) x (places_fewest x x (omega arith)).1

-- so different numbers have different decimals
pub decimal_injective : (x y : ℕ) → decimal x ≡ decimal y → x ≡ y
decimal_injective x y same = sym (decimal_read x) ∙ ap (read_on 0) same ∙ decimal_read y
