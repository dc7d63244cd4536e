-- The laws of the division: a remainder has degree below 10, bits can be divided in parts, and the remainder of a sum is the sum of
-- the remainders. Assumes nothing.
use Rattle.std.proofs.Common.{◌≡◌, ℕ, zero, suc, ◌+◌, ◌*◌, ◌/◌, ◌<◌, Bool, true, false, eqb, ltb, List, [], ◌∷◌, ◌++◌, length, refl, ap}
use Rattle.std.proofs.Common.{◌∙◌, arith, bit_xor}
use Rattle.std.specs.Int.Bits.{xor_assoc}
use Rattle.std.proofs.lemmas.Nat.{xor_block, xor_comm, xor_lt, xor_shr}
use Rattle.std.proofs.lemmas.Bool.{ltb-true, eqb-true}
use Rattle.crc10.specs.Division.{generator, coefficient, reduced, bring_down, divide_on}
use Rattle.crc10.specs.Changes.{unlike, differences}
use Rattle.crc10.proofs.Below.{below_at}

pub coefficient_lt : (b : Bool) → coefficient b < 2
coefficient_lt true = omega arith
coefficient_lt false = omega arith

pub xor_swap : (a b c d : ℕ) → bit_xor (bit_xor a b) (bit_xor c d) ≡ bit_xor (bit_xor a c) (bit_xor b d)
xor_swap a b c d = grind (arith, xor_assoc, xor_comm)

-- ---- one step

pub taken : (t : ℕ) → t < 2048 → reduced t ≡ bit_xor t (t / 1024 * generator)
taken t h =
    eqb-true _ _ (below_at (λ n. eqb (reduced n) (bit_xor n (n / 1024 * generator))) 2048 refl t h)

pub bring_lt : (r : ℕ) (b : Bool) → r < 1024 → bring_down r b < 1024
bring_lt r true h = ltb-true _ _ (below_at (λ n. ltb (bring_down n true) 1024) 1024 refl r h)
bring_lt r false h = ltb-true _ _ (below_at (λ n. ltb (bring_down n false) 1024) 1024 refl r h)

times : (a b : ℕ) → a < 2 → b < 2 → bit_xor a b * generator ≡ bit_xor (a * generator) (b * generator)
times zero b h k = refl
times (suc zero) zero h k = refl
times (suc zero) (suc zero) h k = refl
times (suc zero) (suc (suc b)) h k = absurd (omega arith)
times (suc (suc a)) b h k = absurd (omega arith)

reduced_xor : (t u : ℕ) → t < 2048 → u < 2048 → reduced (bit_xor t u) ≡ bit_xor (reduced t) (reduced u)
reduced_xor t u h k =
    rw (
      taken (bit_xor t u) (xor_lt 11 t u h k),
      taken t h,
      taken u k,
      xor_shr t u 10,
      times (t / 1024) (u / 1024) (omega arith) (omega arith),
    )
    (xor_swap t u (t / 1024 * generator) (u / 1024 * generator))

coefficient_unlike : (a b : Bool) → coefficient (unlike a b) ≡ bit_xor (coefficient a) (coefficient b)
coefficient_unlike true true = refl
coefficient_unlike true false = refl
coefficient_unlike false true = refl
coefficient_unlike false false = refl

bring_xor : (r s : ℕ) (a b : Bool) → r < 1024 → s < 1024
    → bring_down (bit_xor r s) (unlike a b) ≡ bit_xor (bring_down r a) (bring_down s b)
bring_xor r s a b h k =
    let ha = coefficient_lt a in
    let hb = coefficient_lt b in
    rw (coefficient_unlike a b, ← xor_block 1 r s (coefficient a) (coefficient b) ha hb)
    (reduced_xor (r * 2 + coefficient a) (s * 2 + coefficient b) (omega arith) (omega arith))

-- ---- whole rows of bits

pub divide_lt : (r : ℕ) (bs : List Bool) → r < 1024 → divide_on r bs < 1024
divide_lt r [] h = h
divide_lt r (b ∷ bs) h = divide_lt (bring_down r b) bs (bring_lt r b h)

pub divide_append : (r : ℕ) (xs bs : List Bool) → divide_on r (xs ++ bs) ≡ divide_on (divide_on r xs) bs
divide_append r [] bs = refl
divide_append r (a ∷ xs) bs = divide_append (bring_down r a) xs bs

pub length_differences : (xs ys : List Bool) → length xs ≡ length ys → length (differences xs ys) ≡ length xs
length_differences [] ys e = refl
length_differences (x ∷ xs) [] e = absurd (omega arith)
length_differences (x ∷ xs) (y ∷ ys) e = ap suc (length_differences xs ys (omega arith))

pub divide_xor : (r s : ℕ) (xs bs : List Bool) → length xs ≡ length bs → r < 1024 → s < 1024
    → divide_on (bit_xor r s) (differences xs bs) ≡ bit_xor (divide_on r xs) (divide_on s bs)
divide_xor r s [] [] e h k = refl
divide_xor r s [] (b ∷ bs) e h k = absurd (omega arith)
divide_xor r s (a ∷ xs) [] e h k = absurd (omega arith)
divide_xor r s (a ∷ xs) (b ∷ bs) e h k =
    ap (λ (x : ℕ). divide_on x (differences xs bs)) (bring_xor r s a b h k)
    ∙ divide_xor (bring_down r a) (bring_down s b) xs bs (omega arith) (bring_lt r a h) (bring_lt s b k)
