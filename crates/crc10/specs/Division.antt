-- Polynomials over bits, and their division with remainder by the generator of the check. Assumes nothing.
use Rattle.std.specs.Prelude.{◌≡◌, ℕ, ◌+◌, ◌*◌, ◌^◌, ◌<◌, Bool, true, false, cond, List, [], ◌∷◌, length, bit_xor, nat_lt}

-- x^10 + x^9 + x^5 + x^4 + x + 1, as the number whose binary digits are its coefficients, the highest power's first
abbrev pub generator : ℕ
generator = 0x633

abbrev pub coefficient : Bool → ℕ
coefficient true = 1
coefficient false = 0

-- the number whose binary digits follow those of n
abbrev pub number_on : ℕ → List Bool → ℕ
number_on n [] = n
number_on n (b ∷ bs) = number_on (n * 2 + coefficient b) bs

-- the polynomial of these coefficients, the highest power's first, as such a number
abbrev pub number : List Bool → ℕ
number bs = number_on 0 bs

-- Long division. The next coefficient is brought down to the remainder so far; where that reaches degree 10, the
-- generator is taken from it, once. (Sums are taken coefficient by coefficient, with no carry: `bit_xor`.)
abbrev pub reduced : ℕ → ℕ
reduced t = cond (nat_lt t 1024) t (bit_xor t generator)

abbrev pub bring_down : ℕ → Bool → ℕ
bring_down r b = reduced (r * 2 + coefficient b)

-- the remainder, where the coefficients before these have left r
abbrev pub divide_on : ℕ → List Bool → ℕ
divide_on r [] = r
divide_on r (b ∷ bs) = divide_on (bring_down r b) bs

abbrev pub remainder : List Bool → ℕ
remainder bs = divide_on 0 bs

-- The product of two: the second, times x^k, for each power x^k that the first has, and these summed.
abbrev pub product : List Bool → ℕ → ℕ
product [] g = 0
product (b ∷ bs) g = bit_xor (coefficient b * g * 2 ^ length bs) (product bs g)

-- p is a multiple of the generator plus r, and the degree of r is below ten
abbrev pub Leaves : List Bool → ℕ → Type 0
Leaves p r = (q : List Bool) × (number p ≡ bit_xor (product q generator) r) × (r < 1024)

-- `remainder` is division with remainder: it leaves such an r, and there is no other.
pub record Divides : Type 0 where
  pub leaves : (p : List Bool) → Leaves p (remainder p)
  pub only : (p : List Bool) (r : ℕ) → Leaves p r → r ≡ remainder p
