-- A payload's last two octets: the check field in them, and what stays as it is where only its ten bits change. Assumes nothing.
use Rattle.std.proofs.Common.{◌≡◌, ℕ, suc, ◌+◌, ◌-◌, ◌*◌, ◌/◌, ◌%◌, ◌<◌, ◌≤◌, Bool, false, eqb, List, [], ◌∷◌, ◌++◌, length, get_or, take}
use Rattle.std.proofs.Common.{drop, replicate, sym, refl, ap, ◌∙◌, ap₂, arith, length-append, take-append-drop, shr-shr}
use Rattle.std.proofs.lemmas.Grind.{common_steps}
use Rattle.std.proofs.lemmas.List.{drop_more, drop_all}
use Rattle.std.proofs.lemmas.Bool.{eqb-true}
use Rattle.crc10.specs.Division.{number, number_on}
use Rattle.crc10.specs.Check.{bit_of, octet_bits, bits, checked, check_field, crc_of}
use Rattle.crc10.proofs.Below.{below_at}
use Rattle.crc10.proofs.Laws.{divide_lt}
use Rattle.crc10.proofs.Whole.{length_bits}

pub crc_low : (p : List ℕ) → crc_of p < 1024
crc_low p = divide_lt 0 (checked p ++ replicate 10 false) (omega arith)

-- ---- an octet in front

eight_more : (x : ℕ) (p : List ℕ) → 2 ≤ length p
    → length (bits (x ∷ p)) - 10 ≡ suc (suc (suc (suc (suc (suc (suc (suc (length (bits p) - 10))))))))
eight_more x p h = grind (arith, length_bits)

field_tail : (x : ℕ) (p : List ℕ) → 2 ≤ length p → check_field (x ∷ p) ≡ check_field p
field_tail x p h = ap (λ (n : ℕ). number (drop n (bits (x ∷ p)))) (eight_more x p h)

checked_tail : (x : ℕ) (p : List ℕ) → 2 ≤ length p → checked (x ∷ p) ≡ octet_bits x ++ checked p
checked_tail x p h = ap (λ (n : ℕ). take n (bits (x ∷ p))) (eight_more x p h)

-- ---- the check field

low_two : (a : ℕ) → a < 256 → number (bit_of a 1 ∷ bit_of a 0 ∷ []) ≡ a % 4
low_two a h = eqb-true _ _ (below_at (λ n. eqb (number (bit_of n 1 ∷ bit_of n 0 ∷ [])) (n % 4)) 256 refl a h)

number_octet : (m o : ℕ) → m < 4 → o < 256 → number_on m (octet_bits o) ≡ m * 256 + o
number_octet m o h k =
    let e : (m * 256 + o) / 256 ≡ m = omega arith in
    let f : (m * 256 + o) % 256 ≡ o = omega arith in
    ap₂ (λ (x y : ℕ). number_on x (octet_bits y)) (sym e) (sym f)
    ∙ eqb-true _ _
    (below_at (λ n. eqb (number_on (n / 256) (octet_bits (n % 256))) n) 1024 refl (m * 256 + o) (omega arith))

two_more : (pre : List ℕ) (z w : ℕ) → 2 ≤ length (pre ++ (z ∷ w ∷ []))
two_more pre z w = grind (arith, length-append)

pub field_end : (pre : List ℕ) (z w : ℕ) → z < 256 → w < 256 → check_field (pre ++ (z ∷ w ∷ [])) ≡ z % 4 * 256 + w
field_end [] z w hz hw = rw (low_two z hz) (number_octet (z % 4) w (omega arith) hw)
field_end (x ∷ pre) z w hz hw = grind (arith, field_tail, two_more pre z w, field_end pre z w hz hw)

pub field_one : (p : List ℕ) → length p ≡ 1 → get_or p 0 0 < 256 → check_field p ≡ get_or p 0 0
field_one [] e h = absurd (omega arith)
field_one (o ∷ []) e h = grind (arith, number_octet 0 o)
field_one (o ∷ v ∷ os) e h = absurd (omega arith)

pub field_two : (p : List ℕ) (n m : ℕ) → n + 1 ≡ m → m + 1 ≡ length p → get_or p n 0 < 256 → get_or p m 0 < 256
    → check_field p ≡ get_or p n 0 % 4 * 256 + get_or p m 0
field_two p n m e f hz hw =
    grind (arith, common_steps, take-append-drop, drop_more, drop_all, field_end (take n p) (get_or p n 0) (get_or p m 0) hz hw)

-- ---- the checked bits

pub checked_end : (pre : List ℕ) (z w y v : ℕ) → take 6 (octet_bits z) ≡ take 6 (octet_bits y)
    → checked (pre ++ (z ∷ w ∷ [])) ≡ checked (pre ++ (y ∷ v ∷ []))
checked_end [] z w y v e = e
checked_end (x ∷ pre) z w y v e =
    cc (
      checked_tail x (pre ++ (z ∷ w ∷ [])) (two_more pre z w),
      checked_end pre z w y v e,
      checked_tail x (pre ++ (y ∷ v ∷ [])) (two_more pre y v),
    )

-- the six high bits of an octet are those of its quarter
abbrev six : ℕ → List Bool
six n = bit_of n 5 ∷ bit_of n 4 ∷ bit_of n 3 ∷ bit_of n 2 ∷ bit_of n 1 ∷ bit_of n 0 ∷ []

quarter_bit : (o k : ℕ) → bit_of o (2 + k) ≡ bit_of (o / 4) k
quarter_bit o k = ap (λ (n : ℕ). eqb (n % 2) 1) (sym (shr-shr o 2 k))

quarter_bits : (o : ℕ) → take 6 (octet_bits o) ≡ six (o / 4)
quarter_bits o =
    cc (quarter_bit o 5, quarter_bit o 4, quarter_bit o 3, quarter_bit o 2, quarter_bit o 1, quarter_bit o 0)

pub high_six : (v h : ℕ) → v < 256 → h < 4 → take 6 (octet_bits (v / 4 * 4 + h)) ≡ take 6 (octet_bits v)
high_six v h hv hh =
    let e : (v / 4 * 4 + h) / 4 ≡ v / 4 = omega arith in
    cc (quarter_bits (v / 4 * 4 + h), e, quarter_bits v)
