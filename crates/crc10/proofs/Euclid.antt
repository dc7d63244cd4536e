-- Long division is division with remainder: there is a quotient, and the remainder is the only one. Assumes nothing.
use Rattle.std.proofs.Common.{◌≡◌, ℕ, zero, suc, ◌+◌, ◌*◌, ◌/◌, ◌^◌, ◌<◌, Bool, true, false, eqb, List, [], ◌∷◌, ◌++◌, length, replicate}
use Rattle.std.proofs.Common.{sym, refl, ap, ◌∙◌, pow-suc, zero-mul, arith, length-append, pow_pos, pow-add, bit_xor}
use Rattle.std.specs.Int.Bits.{xor_assoc, xor_self, xor_shifted, xor_zero_r}
use Rattle.std.proofs.lemmas.Nat.{xor_block, xor_comm, xor_lt}
use Rattle.std.proofs.lemmas.List.{length-replicate}
use Rattle.crc10.specs.Division.{generator, coefficient, reduced, divide_on, remainder, number, number_on, product, Leaves, Divides}
use Rattle.crc10.specs.Changes.{unlike, differences}
use Rattle.crc10.proofs.Laws.{taken, bring_lt, divide_lt, coefficient_lt, length_differences, xor_swap}
use Rattle.crc10.proofs.Whole.{xor_cancel}

shl_xor : (a b k : ℕ) → bit_xor a b * 2 ^ k ≡ bit_xor (a * 2 ^ k) (b * 2 ^ k)
shl_xor a b k = grind (arith, xor_block k a b 0 0, pow_pos k)

number_add : (n : ℕ) (bs : List Bool) → number_on n bs ≡ n * 2 ^ length bs + number bs
number_add n [] = omega arith
number_add n (b ∷ bs) =
    rw (number_add (n * 2 + coefficient b) bs, number_add (0 * 2 + coefficient b) bs, pow-suc 2 (length bs)) (omega arith)

number_lt : (bs : List Bool) → number bs < 2 ^ length bs
number_lt [] = omega arith
number_lt (true ∷ bs) = grind (arith, number_add 1 bs, number_lt bs, pow-suc 2 (length bs))
number_lt (false ∷ bs) = grind (arith, number_lt bs, pow-suc 2 (length bs))

number_split : (n : ℕ) (bs : List Bool) → number_on n bs ≡ bit_xor (n * 2 ^ length bs) (number bs)
number_split n bs = number_add n bs ∙ sym (xor_shifted n (length bs) (number bs) (number_lt bs))

-- ---- the quotient

top : (c : ℕ) → c < 2 → coefficient (eqb c 1) ≡ c
top zero h = refl
top (suc zero) h = refl
top (suc (suc c)) h = absurd (omega arith)

abbrev Quotient : ℕ → List Bool → Type 0
Quotient r bs = (q : List Bool) × (length q ≡ length bs) × (number_on r bs ≡ bit_xor (product q generator) (divide_on r bs))

quotient : (r : ℕ) (bs : List Bool) → r < 1024 → Quotient r bs
quotient r [] h = ([], refl, refl)
quotient r (b ∷ bs) h =
    let d : coefficient b < 2 = coefficient_lt b in
    let t : ℕ = r * 2 + coefficient b in
    let c : ℕ = t / 1024 in
    let s : ℕ = reduced t in
    let k : ℕ = 2 ^ length bs in
    let ih = quotient s bs (bring_lt r b h) in
    let et : t ≡ bit_xor (c * generator) s = grind (arith, taken t (omega arith), xor_comm, xor_assoc, xor_self) in (
      eqb c 1 ∷ ih.0,
      ap suc ih.1,
      cc (
        number_split t bs,
        et,
        shl_xor (c * generator) s (length bs),
        xor_assoc (c * generator * k) (s * k) (number bs),
        number_split s bs,
        ih.2,
        xor_assoc (c * generator * k) (product ih.0 generator) (divide_on s bs),
        top c (omega arith),
        ih.1,
      ),
    )

leaves : (p : List Bool) → Leaves p (remainder p)
leaves p = let e = quotient 0 p (omega arith) in (e.0, e.2, divide_lt 0 p (omega arith))

-- ---- there is no other remainder: a multiple of the generator that is below degree 10 is 0

product_lt : (q : List Bool) → product q generator < 2 ^ (length q + 10)
product_lt [] = omega arith
product_lt (true ∷ q) =
    xor_lt (suc (length q) + 10) (generator * 2 ^ length q) (product q generator)
    (grind (arith, pow-add 2 (suc (length q)) 10, pow-suc 2 (length q), pow_pos (length q)))
    (grind (arith, product_lt q, pow-suc 2 (length q + 10)))
product_lt (false ∷ q) = grind (arith, product_lt q, pow-suc 2 (length q + 10), zero-mul)

multiple : (q : List Bool) → product q generator < 1024 → product q generator ≡ 0
multiple [] h = refl
multiple (false ∷ q) h = grind (arith, multiple q, zero-mul (2 ^ length q))
multiple (true ∷ q) h =
    let k : ℕ = length q + 10 in
    let e : 2 ^ k ≡ 2 ^ length q * 1024 = pow-add 2 (length q) 10 in
    let g : generator * 2 ^ length q ≡ 1 * 2 ^ k + 0x233 * 2 ^ length q = omega arith in
    absurd (grind (arith, g, e, pow_pos (length q), xor_block k 1 0 (0x233 * 2 ^ length q) (product q generator), product_lt q))

coefficient_times : (a b : Bool) (k : ℕ)
    → coefficient (unlike a b) * generator * k ≡ bit_xor (coefficient a * generator * k) (coefficient b * generator * k)
coefficient_times true true k = grind (arith, xor_self, zero-mul)
coefficient_times true false k = grind (arith, xor_zero_r, zero-mul)
coefficient_times false true k = grind (arith, zero-mul)
coefficient_times false false k = grind (arith, zero-mul)

product_xor : (xs ys : List Bool) → length xs ≡ length ys
    → product (differences xs ys) generator ≡ bit_xor (product xs generator) (product ys generator)
product_xor [] [] e = refl
product_xor [] (y ∷ ys) e = absurd (omega arith)
product_xor (x ∷ xs) [] e = absurd (omega arith)
product_xor (x ∷ xs) (y ∷ ys) e =
    let f : length xs ≡ length ys = omega arith in
    cc (
      length_differences xs ys f,
      coefficient_times x y (2 ^ length xs),
      f,
      product_xor xs ys f,
      xor_swap (coefficient x * generator * 2 ^ length xs) (coefficient y * generator * 2 ^ length ys) (product xs generator)
          (product ys generator),
    )

-- zeros in front change no product
padded : (n : ℕ) (q : List Bool) → product (replicate n false ++ q) generator ≡ product q generator
padded zero q = refl
padded (suc n) q = grind (arith, padded n q, zero-mul)

same_left : (a b r s : ℕ) → bit_xor a r ≡ bit_xor b s → bit_xor a b ≡ bit_xor r s
same_left a b r s e = xor_cancel _ _ (grind (arith, xor_swap a b r s, xor_self))

only : (p : List Bool) (r : ℕ) → Leaves p r → r ≡ remainder p
only p r l =
    let m = leaves p in
    let xs : List Bool = replicate (length m.0) false ++ l.0 in
    let ys : List Bool = replicate (length l.0) false ++ m.0 in
    let ls : length xs ≡ length ys = grind (arith, length-append, length-replicate) in
    let e : product (differences xs ys) generator ≡ bit_xor r (remainder p) =
    cc (
      product_xor xs ys ls,
      padded (length m.0) l.0,
      padded (length l.0) m.0,
      same_left (product l.0 generator) (product m.0 generator) r (remainder p) (sym l.1 ∙ m.1),
    ) in
    xor_cancel r (remainder p) (grind (arith, e, multiple (differences xs ys), xor_lt 10 r (remainder p) l.2 m.2))

pub divides : Divides
divides = record { leaves = leaves; only = only }
