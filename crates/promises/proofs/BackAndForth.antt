-- Numbers to bytes and back, bytes to numbers and back. Assumes nothing.
use Prim.Native.Nat.{ℕ, zero, suc, ◌+◌, ◌*◌, ◌/◌, ◌%◌, ◌^◌, ◌≤◌, ◌<◌, suc-le-suc, zero-le}
use mathlib.Core.Path.{◌≡◌, refl, sym, ap, ◌∙◌}
use mathlib.Core.List.{List, [], ◌∷◌, ◌++◌, append_assoc}
use native.Mathlib.Nat.{mul-zero, mul-suc, pow-suc, div-lt_iff_lt-mul}
use native.Mathlib.Omega.{arith}
use lib.Dec.{lit<}
use lib.ListN.{length, take, drop, length-drop}
use lib.Seq.{take_at, drop_at, take-add, get_or-drop, get_or-take, length-take-le}
use Rattle.table.specs.Table.{Below}
use Rattle.layout.specs.Bytes.{value_of, bytes_of, numbers_of, spelled}
use Rattle.layout.proofs.ByteLaws.{bytes_length}

-- a number below 256 to the k, spelled in k bytes, is read as itself
pub value_of_bytes : (k x : ℕ) → x < 256 ^ k → value_of (bytes_of k x) ≡ x
value_of_bytes zero x h = omega arith
value_of_bytes (suc k) x h =
    let rest : value_of (bytes_of k (x / 256)) ≡ x / 256 = value_of_bytes k (x / 256) ((div-lt_iff_lt-mul (lit< tt)).1 (rw (pow-suc 256 k) at h)) in
    omega (arith, rest)

-- numbers below 256 to the k, spelled one after the other, are read as themselves
pub numbers_of_spelled : (k : ℕ) (xs rest : List ℕ) → Below (256 ^ k) xs → numbers_of k (length xs) (spelled k xs ++ rest) ≡ xs
numbers_of_spelled k [] rest below = refl
numbers_of_spelled k (x ∷ xs) rest below =
    let bytes = bytes_of k x in
    let after = spelled k xs ++ rest in
    let joined : bytes ++ spelled k xs ++ rest ≡ bytes ++ (spelled k xs ++ rest) = append_assoc bytes (spelled k xs) rest in
    let one : value_of (take k (bytes ++ after)) ≡ x = ap value_of (take_at bytes after k (bytes_length k x)) ∙ value_of_bytes k x (below 0 (suc-le-suc zero-le)) in
    let others : numbers_of k (length xs) (drop k (bytes ++ after)) ≡ xs
    = ap (numbers_of k (length xs)) (drop_at bytes after k (bytes_length k x)) ∙ numbers_of_spelled k xs rest (λ j h. below (suc j) (suc-le-suc h)) in
    rw joined (ap (λ (y : ℕ). y ∷ numbers_of k (length xs) (drop k (bytes ++ after))) one ∙ ap (λ (l : List ℕ). x ∷ l) others)

-- bytes read as a number are spelled as themselves
bytes_of_value : (bs : List ℕ) → Below 256 bs → bytes_of (length bs) (value_of bs) ≡ bs
bytes_of_value [] below = refl
bytes_of_value (b ∷ bs) below =
    let small : b < 256 = below 0 (suc-le-suc zero-le) in
    let first : (b + 256 * value_of bs) % 256 ≡ b = omega arith in
    let rest : (b + 256 * value_of bs) / 256 ≡ value_of bs = omega arith in
    rw (first, rest) (ap (λ (l : List ℕ). b ∷ l) (bytes_of_value bs (λ j h. below (suc j) (suc-le-suc h))))

front_below : (n k : ℕ) (bs : List ℕ) → k ≤ length bs → Below n bs → Below n (take k bs)
front_below n k bs h below j l =
    let short : j < k = omega (arith, length-take-le k bs h) in
    rw (get_or-take k bs j 0 short) (below j (omega arith))

-- what is left of bytes are bytes
pub rest_below : (n k : ℕ) (bs : List ℕ) → Below n bs → Below n (drop k bs)
rest_below n k bs below j l = rw (get_or-drop k bs j 0) (below (k + j) (omega (arith, length-drop k bs)))

-- k bytes read as a number are spelled as themselves
pub bytes_of_front : (k : ℕ) (bs : List ℕ) → k ≤ length bs → Below 256 bs → bytes_of k (value_of (take k bs)) ≡ take k bs
bytes_of_front k bs h below =
    ap (λ (j : ℕ). bytes_of j (value_of (take k bs))) (sym (length-take-le k bs h)) ∙ bytes_of_value (take k bs) (front_below 256 k bs h below)

-- bytes read as numbers of k bytes each are spelled as themselves
pub spelled_of_numbers : (k count : ℕ) (bs : List ℕ) → k * count ≤ length bs → Below 256 bs → spelled k (numbers_of k count bs) ≡ take (k * count) bs
spelled_of_numbers k zero bs h below = rw (mul-zero k) refl
spelled_of_numbers k (suc count) bs h below =
    let sum : k * suc count ≡ k + k * count = omega (arith, mul-suc k count) in
    let one : bytes_of k (value_of (take k bs)) ≡ take k bs = bytes_of_front k bs (omega arith) below in
    let others : spelled k (numbers_of k count (drop k bs)) ≡ take (k * count) (drop k bs)
    = spelled_of_numbers k count (drop k bs) (omega (arith, length-drop k bs)) (rest_below 256 k bs below) in
    rw (sum, one, others) (sym (take-add k (k * count) bs))
