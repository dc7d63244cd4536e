-- What the check finds. Assumes nothing.
use Rattle.std.proofs.Common.{◌≡◌, ℕ, zero, suc, ◌+◌, ◌/◌, ◌%◌, ◌^◌, ◌<◌, ◌≤◌, Bool, true, false, not, ◌||◌, eqb, ◌≢◌, List, [], ◌∷◌}
use Rattle.std.proofs.Common.{length, drop, refl, ap, arith, pow_mono, bit_xor}
use Rattle.std.proofs.lemmas.Bool.{eqb-true}
use Rattle.crc10.specs.Division.{coefficient, bring_down, divide_on, remainder}
use Rattle.crc10.specs.Check.{bits}
use Rattle.crc10.specs.Changes.{changed, ones, from_first, found, ChangesAreFound}
use Rattle.crc10.proofs.Below.{below_at}
use Rattle.crc10.proofs.Laws.{bring_lt, length_differences, divide_xor}
use Rattle.crc10.proofs.Whole.{bring_small, right_whole, length_bits}

-- ---- a remainder that is not 0 stays so through zeros: the generator's lowest coefficient is 1

bring_stays : (r : ℕ) → r < 1024 → r ≢ 0 → bring_down r false ≢ 0
bring_stays r h n e = grind (arith, below_at (λ m. eqb m 0 || not (eqb (bring_down m false) 0)) 1024 refl r h)

quiet : (r : ℕ) (bs : List Bool) → r < 1024 → r ≢ 0 → ones bs ≡ 0 → divide_on r bs ≢ 0
quiet r [] h n e = n
quiet r (true ∷ bs) h n e = absurd (omega arith)
quiet r (false ∷ bs) h n e = quiet (bring_down r false) bs (bring_lt r false h) (bring_stays r h n) e

-- ---- an odd number of ones: x + 1 divides the generator, so division keeps the parity of the number of ones

-- a number with the parity of r's ones: the coefficient of x^k has the parity of r / 2^k
weight : ℕ → ℕ
weight r = r + r / 2 + r / 4 + r / 8 + r / 16 + r / 32 + r / 64 + r / 128 + r / 256 + r / 512

bring_parity : (r : ℕ) (b : Bool) → r < 1024 → weight (bring_down r b) % 2 ≡ (weight r + coefficient b) % 2
unfolding weight
bring_parity r true h =
    eqb-true _ _ (below_at (λ n. eqb (weight (bring_down n true) % 2) ((weight n + 1) % 2)) 1024 refl r h)
bring_parity r false h =
    eqb-true _ _ (below_at (λ n. eqb (weight (bring_down n false) % 2) ((weight n + 0) % 2)) 1024 refl r h)

divide_parity : (r : ℕ) (bs : List Bool) → r < 1024 → weight (divide_on r bs) % 2 ≡ (weight r + ones bs) % 2
divide_parity r [] h = omega arith
divide_parity r (true ∷ bs) h = omega (arith, divide_parity (bring_down r true) bs (bring_lt r true h), bring_parity r true h)
divide_parity r (false ∷ bs) h = omega (arith, divide_parity (bring_down r false) bs (bring_lt r false h), bring_parity r false h)

weight_zero : weight 0 ≡ 0
unfolding weight
weight_zero = refl

odd_found : (bs : List Bool) → ones bs % 2 ≡ 1 → remainder bs ≢ 0
odd_found bs o e = grind (arith, divide_parity 0 bs, ap weight e, weight_zero)

-- ---- two ones at most 95 apart: no power of x up to there leaves the remainder 1

abbrev power : ℕ → ℕ
power zero = 1
power (suc i) = bring_down (power i) false

power_lt : (i : ℕ) → power i < 1024
power_lt zero = omega arith
power_lt (suc i) = bring_lt (power i) false (power_lt i)

second : (i : ℕ) (bs : List Bool) → ones bs ≡ 1 → i + length bs ≤ 96 → divide_on (power i) bs ≢ 0
second i [] e l = absurd (omega arith)
second i (false ∷ bs) e l = second (suc i) bs e (omega arith)
second i (true ∷ bs) e l =
    quiet (bring_down (power i) true) bs (bring_lt (power i) true (power_lt i))
    (grind (arith, below_at (λ n. not (eqb (bring_down (power n) true) 0)) 96 refl i (omega arith)))
    (omega arith)

two_found : (bs : List Bool) → ones bs ≡ 2 → length bs ≤ 96 → remainder bs ≢ 0
two_found [] e l = absurd (omega arith)
two_found (false ∷ bs) e l = two_found bs e (omega arith)
two_found (true ∷ bs) e l = second 0 bs (omega arith) (omega arith)

few_found : (bs : List Bool) → 1 ≤ ones bs → ones bs ≤ 3 → length bs ≤ 96 → remainder bs ≢ 0
few_found bs a b l = grind (arith, odd_found bs, two_found bs)

-- ---- ones within ten neighbours: j bits are behind, the first of them a one, and m may still come

inside : (j m r : ℕ) (bs : List Bool) → r < 2 ^ j → r ≢ 0 → j + m ≤ 10 → ones (drop m bs) ≡ 0 → divide_on r bs ≢ 0
inside j m r [] h n l o = n
inside j zero r (b ∷ bs) h n l o =
    let w : 2 ^ j ≤ 2 ^ 10 = pow_mono {i = j} {j = 10} (omega arith) in
    quiet r (b ∷ bs) (omega arith) n o
inside j (suc m) r (b ∷ bs) h n l o =
    let s = bring_small j r b h (omega arith) in
    inside (suc j) m (bring_down r b) bs (rw s.1 s.0) (λ e. n (omega (arith, s.1, e))) (omega arith) o

burst_found : (bs : List Bool) → 1 ≤ ones bs → ones (drop 10 (from_first bs)) ≡ 0 → remainder bs ≢ 0
burst_found [] o h = absurd (omega arith)
burst_found (true ∷ bs) o h = inside 1 9 1 bs (omega arith) (omega arith) (omega arith) h
burst_found (false ∷ bs) o h = burst_found bs o h

-- ---- the theorem

changes_found : (ds : List Bool) → length ds ≤ 96 → found ds ≡ true → remainder ds ≢ 0
changes_found ds l t = grind (arith, few_found ds, odd_found ds, burst_found ds)

pub changes_are_found : ChangesAreFound
changes_are_found p q h k e rp t =
    let l : length (bits p) ≡ length (bits q) = grind (arith, length_bits) in
    let s : remainder (changed p q) ≡ bit_xor (remainder (bits p)) (remainder (bits q)) =
    divide_xor 0 0 (bits p) (bits q) l (omega arith) (omega arith) in
    let n = length_differences (bits p) (bits q) l in
    grind (arith, s, right_whole p, right_whole q, changes_found (changed p q), n, length_bits p)
