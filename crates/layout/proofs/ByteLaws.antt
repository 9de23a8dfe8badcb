-- Laws of bytes and numbers: what stands at a place, and one number more. Assumes nothing.
use Rattle.std.proofs.Common.{ℕ, zero, suc, ◌+◌, ◌-◌, ◌*◌, ◌/◌, ◌≤◌, ◌<◌, ◌≡◌, refl, sym, ap, ◌∙◌, List, [], ◌∷◌, ◌++◌, length, get_or, take, drop, set, map, add-one, arith}
use Rattle.std.proofs.lemmas.List.{append_assoc, append-nil, length-append, length-take, length-map, length-take-le, drop-drop, take_at, drop_at, get_or-map, map-set}
use Rattle.std.proofs.Math.Nat.{not-suc-le-zero, le_of_suc-le-suc, mul-add, mul-zero, mul-suc, mul-le-mul_left}
use Rattle.table.proofs.FrontLaws.{one_at, front_more}
use Rattle.layout.specs.Bytes.{value_of, bytes_of, numbers_of, spelled, over}

-- the 16-bit number at a place, by its bytes
pub half_at : (bs : List ℕ) (at : ℕ) → at + 2 ≤ length bs → value_of (take 2 (drop at bs)) ≡ get_or bs at 0 + 256 * get_or bs (at + 1) 0
half_at bs at h =
    ap (λ (l : List ℕ). value_of (take 2 l)) (one_at bs at (omega arith))
    ∙ ap (λ (l : List ℕ). value_of (get_or bs at 0 ∷ take 1 l)) (one_at bs (at + 1) (omega arith))
    ∙ omega arith

numbers_suc : (k count : ℕ) (bs : List ℕ) → numbers_of k (suc count) bs ≡ numbers_of k count bs ++ value_of (take k (drop (k * count) bs)) ∷ []
numbers_suc k zero bs = rw (mul-zero k) refl
numbers_suc k (suc count) bs =
    let sum : k + k * count ≡ k * suc count = omega (arith, mul-suc k count) in
    let further : drop (k * count) (drop k bs) ≡ drop (k * suc count) bs = drop-drop (k * count) k bs ∙ ap (λ (j : ℕ). drop j bs) sum in
    ap (λ (l : List ℕ). value_of (take k bs) ∷ l) (rw further at (numbers_suc k count (drop k bs)))

-- a list of numbers is as long as was asked
pub numbers_length : (k count : ℕ) (bs : List ℕ) → length (numbers_of k count bs) ≡ count
numbers_length k zero bs = refl
numbers_length k (suc count) bs = ap suc (numbers_length k count (drop k bs))

-- the number at a place among them, by its bytes
pub number_at : (k count : ℕ) (bytes : List ℕ) (i : ℕ) → i < count → get_or (numbers_of k count bytes) i 0 ≡ value_of (take k (drop (k * i) bytes))
number_at k zero bytes i h = absurd (let no : ⊥ = omega arith in no)
number_at k (suc count) bytes zero h = rw (mul-zero k) refl
number_at k (suc count) bytes (suc i) h =
    let sum : k + k * i ≡ k * suc i = omega (arith, mul-suc k i) in
    number_at k count (drop k bytes) i (omega arith)
    ∙ ap (λ (l : List ℕ). value_of (take k l)) (drop-drop (k * i) k bytes ∙ ap (λ (j : ℕ). drop j bytes) sum)

-- some of them in the middle stand behind the bytes of those before
pub numbers_part : (k count : ℕ) (bytes : List ℕ) (from many : ℕ) → from + many ≤ count
    → take many (drop from (numbers_of k count bytes)) ≡ numbers_of k many (drop (k * from) bytes)
numbers_part k count bytes zero zero h = refl
numbers_part k zero bytes zero (suc many) h = absurd (let no : ⊥ = omega arith in no)
numbers_part k (suc count) bytes zero (suc many) h =
    rw (mul-zero k) (ap (λ (l : List ℕ). value_of (take k bytes) ∷ l) (rw (mul-zero k) at (numbers_part k count (drop k bytes) zero many (omega arith))))
numbers_part k zero bytes (suc from) many h = absurd (let no : ⊥ = omega arith in no)
numbers_part k (suc count) bytes (suc from) many h =
    let sum : k + k * from ≡ k * suc from = omega (arith, mul-suc k from) in
    numbers_part k count (drop k bytes) from many (omega arith)
    ∙ ap (numbers_of k many) (drop-drop (k * from) k bytes ∙ ap (λ (j : ℕ). drop j bytes) sum)

-- one of them, and some in the middle, lie within the bytes of all
pub place_fits : (k count i : ℕ) → i < count → k * i + k ≤ k * count
place_fits k count i h = omega (arith, mul-le-mul_left k h, mul-suc k i)

pub part_fits : (k count from to : ℕ) → from ≤ to → to ≤ count → k * from + k * (to - from) ≤ k * count
part_fits k count from to h l =
    let whole : from + (to - from) ≡ to = omega arith in
    omega (arith, mul-le-mul_left k l, mul-add k from (to - from), ap (λ (j : ℕ). k * j) whole)

pub bytes_length : (k x : ℕ) → length (bytes_of k x) ≡ k
bytes_length zero x = refl
bytes_length (suc k) x = ap suc (bytes_length k (x / 256))

pub spelled_length : (k : ℕ) (xs : List ℕ) → length (spelled k xs) ≡ k * length xs
spelled_length k [] = sym (mul-zero k)
spelled_length k (x ∷ xs) =
    length-append (bytes_of k x) (spelled k xs) ∙ omega (arith, bytes_length k x, spelled_length k xs, mul-suc k (length xs))

spelled_suc : (k : ℕ) (xs : List ℕ) (i : ℕ) → i < length xs → spelled k (take (suc i) xs) ≡ spelled k (take i xs) ++ bytes_of k (get_or xs i 0)
spelled_suc k [] i h = absurd (not-suc-le-zero h)
spelled_suc k (x ∷ xs) zero h = append-nil (bytes_of k x)
spelled_suc k (x ∷ xs) (suc i) h =
    ap (λ (l : List ℕ). bytes_of k x ++ l) (spelled_suc k xs i (le_of_suc-le-suc h))
    ∙ sym (append_assoc (bytes_of k x) (spelled k (take i xs)) (bytes_of k (get_or xs i 0)))

-- one after the other is both at once
pub over_over : (list : List ℕ) (at next : ℕ) (xs ys : List ℕ) → at + length xs ≡ next → next + length ys ≤ length list
    → over (over list at xs) next ys ≡ over list at (xs ++ ys)
over_over list at next xs ys e h =
    let front = take at list ++ xs in
    let rest = drop (at + length xs) list in
    let long : length front ≡ next = length-append (take at list) xs ∙ omega (arith, length-take at list) in
    let kept : take next (front ++ rest) ≡ front = take_at front rest next long in
    let sum : at + length xs + length ys ≡ at + length (xs ++ ys) = omega (arith, length-append xs ys) in
    let left : drop (next + length ys) (front ++ rest) ≡ drop (at + length (xs ++ ys)) list
    = sym (drop-drop (length ys) next (front ++ rest)) ∙ ap (drop (length ys)) (drop_at front rest next long) ∙ drop-drop (length ys) (at + length xs) list
    ∙ ap (λ (j : ℕ). drop j list) sum in
    ap (λ (l : List ℕ). l ++ ys ++ drop (next + length ys) (front ++ rest)) kept
    ∙ ap (λ (l : List ℕ). front ++ ys ++ l) left
    ∙ ap (λ (l : List ℕ). l ++ drop (at + length (xs ++ ys)) list) (append_assoc (take at list) xs ys)

spelled_front : (k i : ℕ) (xs : List ℕ) → i ≤ length xs → length (spelled k (take i xs)) ≡ k * i
spelled_front k i xs h = spelled_length k (take i xs) ∙ ap (λ (j : ℕ). k * j) (length-take-le i xs h)

module _ {X : Type 0} {value : X → ℕ} {values : List X → List ℕ} (each : (numbers : List X) → values numbers ≡ map value numbers) where
  -- the values of a slice are as many as its numbers,
  values_length : (numbers : List X) → length (values numbers) ≡ length numbers
  values_length numbers = ap length (each numbers) ∙ length-map numbers value

  -- and one number read more, from its place, stands at the front with those before it
  pub read_more : (width : ℕ) (bytes : List ℕ) (at : ℕ) (lent : List X) {out : List X} {k : ℕ} {x : X} → k < length out
      → values out ≡ numbers_of width k (drop at bytes) ++ drop k (values lent) → length out ≡ length lent
      → value x ≡ value_of (take width (drop (at + width * k) bytes)) → values (set out k x) ≡ numbers_of width (k + 1) (drop at bytes) ++ drop (k + 1) (values lent)
  read_more width bytes at lent {out} {k} {x} h so_far same e =
      let numbers = numbers_of width k (drop at bytes) in
      let read : value x ≡ value_of (take width (drop (width * k) (drop at bytes)))
      = e ∙ ap (λ (l : List ℕ). value_of (take width l)) (sym (drop-drop (width * k) at bytes)) in
      let one_more : numbers ++ value x ∷ [] ≡ numbers_of width (k + 1) (drop at bytes)
      = rw read (sym (ap (λ (j : ℕ). numbers_of width j (drop at bytes)) (add-one k) ∙ numbers_suc width k (drop at bytes))) in
      each (set out k x)
      ∙ map-set value out k x
      ∙ ap (λ (l : List ℕ). set l k (value x)) (sym (each out) ∙ so_far)
      ∙ front_more numbers (values lent) (value x) k (numbers_length width k (drop at bytes)) (omega (arith, values_length lent))
      ∙ ap (λ (l : List ℕ). l ++ drop (k + 1) (values lent)) one_more

  -- one number written more, at its place, stands behind those before it
  pub write_more : (width : ℕ) (numbers : List X) (lent : List ℕ) (at : ℕ) {out out' : List ℕ} {k : ℕ} {x : X} → k < length numbers → x ≡ get_or numbers k x
      → at + width * length numbers ≤ length lent → out ≡ over lent at (spelled width (take k (values numbers)))
      → out' ≡ over out (at + width * k) (bytes_of width (value x)) → out' ≡ over lent at (spelled width (take (k + 1) (values numbers)))
  write_more width numbers lent at {out} {out'} {k} {x} h is room so_far e =
      let many = values_length numbers in
      let front = spelled width (take k (values numbers)) in
      let its : value x ≡ get_or (values numbers) k 0
      = ap value is ∙ sym (ap (λ (l : List ℕ). get_or l k 0) (each numbers) ∙ get_or-map value numbers k x 0 h) in
      let one_more : front ++ bytes_of width (value x) ≡ spelled width (take (k + 1) (values numbers))
      = rw its (sym (ap (λ (j : ℕ). spelled width (take j (values numbers))) (add-one k) ∙ spelled_suc width (values numbers) k (omega (arith, many)))) in
      rw so_far at e
      ∙ over_over lent at (at + width * k) front (bytes_of width (value x)) (ap (λ (j : ℕ). at + j) (spelled_front width k (values numbers) (omega (arith, many))))
      (omega (arith, bytes_length width (value x), mul-suc width k, mul-le-mul_left width h))
      ∙ ap (over lent at) one_more
