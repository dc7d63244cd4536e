-- The remainder of a whole payload is its CRC plus its check field, so the check is right exactly where nothing remains.
-- Assumes nothing.
use Rattle.std.proofs.Common.{◌≡◌, ℕ, zero, suc, ◌+◌, ◌-◌, ◌*◌, ◌^◌, ◌<◌, ◌≤◌, Bool, true, false, eqb, ltb, List, [], ◌∷◌, length, drop}
use Rattle.std.proofs.Common.{replicate, sym, refl, ◌∙◌, pow-suc, arith, length-drop, take-append-drop, pow_mono, bit_xor}
use Rattle.std.specs.Int.Bits.{xor_assoc, xor_self, xor_zero_r}
use Rattle.std.proofs.lemmas.List.{length-replicate}
use Rattle.std.proofs.lemmas.Bool.{lt-ltb, cond-true}
use Rattle.crc10.specs.Division.{coefficient, bring_down, divide_on, remainder, number_on}
use Rattle.crc10.specs.Check.{octet_bits, bits, checked, check_field, crc_of, right}
use Rattle.crc10.specs.Changes.{differences}
use Rattle.crc10.proofs.Laws.{coefficient_lt, divide_lt, divide_append, divide_xor}

-- ---- below degree 10 nothing is taken away

pub bring_small : (k n : ℕ) (b : Bool) → n < 2 ^ k → k < 10
    → (n * 2 + coefficient b < 2 ^ suc k) × (bring_down n b ≡ n * 2 + coefficient b)
bring_small k n b h hk =
    let d = coefficient_lt b in
    let p = pow-suc 2 k in
    let m : 2 ^ suc k ≤ 2 ^ 10 = pow_mono hk in
    (omega arith, cond-true (ltb (n * 2 + coefficient b) 1024) _ _ (lt-ltb _ 1024 (omega arith)))

divide_small : (k n : ℕ) (bs : List Bool) → n < 2 ^ k → k + length bs ≤ 10 → divide_on n bs ≡ number_on n bs
divide_small k n [] h e = refl
divide_small k n (b ∷ bs) h e =
    let s = bring_small k n b h (omega arith) in
    rw s.1 (divide_small (suc k) (n * 2 + coefficient b) bs s.0 (omega arith))

-- ---- dividing on through bits is dividing on through as many zeros, plus the bits divided alone

from_zeros : (n : ℕ) (bs : List Bool) → length bs ≡ n → differences (replicate n false) bs ≡ bs
from_zeros zero [] e = refl
from_zeros zero (b ∷ bs) e = absurd (omega arith)
from_zeros (suc n) [] e = absurd (omega arith)
from_zeros (suc n) (true ∷ bs) e = cc (from_zeros n bs (omega arith))
from_zeros (suc n) (false ∷ bs) e = cc (from_zeros n bs (omega arith))

pub divide_split : (r n : ℕ) (bs : List Bool) → length bs ≡ n → r < 1024
    → divide_on r bs ≡ bit_xor (divide_on r (replicate n false)) (remainder bs)
divide_split r n bs e h =
    let z = divide_xor r 0 (replicate n false) bs (length-replicate n false ∙ sym e) h (omega arith) in
    cc (xor_zero_r r, from_zeros n bs e, z)

-- ---- the whole payload

pub length_bits : (p : List ℕ) → length (bits p) ≡ 8 * length p
length_bits [] = refl
length_bits (o ∷ os) = let e = length_bits os in omega arith

pub whole : (p : List ℕ) → remainder (bits p) ≡ bit_xor (crc_of p) (check_field p)
whole [] = refl
whole (o ∷ []) = divide_small 0 0 (octet_bits o) (omega arith) (omega arith)
whole (o ∷ v ∷ os) =
    let p : List ℕ = o ∷ v ∷ os in
    let n : ℕ = length (bits p) - 10 in
    let l = length_bits os in
    let e : length (drop n (bits p)) ≡ 10 = length-drop n (bits p) ∙ omega arith in
    cc (
      take-append-drop n (bits p),
      divide_append 0 (checked p) (drop n (bits p)),
      divide_split (remainder (checked p)) 10 (drop n (bits p)) e (divide_lt 0 (checked p) (omega arith)),
      divide_append 0 (checked p) (replicate 10 false),
      divide_small 0 0 (drop n (bits p)) (omega arith) (omega arith),
    )

pub xor_cancel : (a b : ℕ) → bit_xor a b ≡ 0 → a ≡ b
xor_cancel a b e = sym (xor_zero_r a) ∙ cc (xor_assoc a a b, xor_self a)

pub right_whole : (p : List ℕ) → eqb (remainder (bits p)) 0 ≡ right p
right_whole p = grind (arith, whole p, xor_cancel, xor_self)

pub crc_whole : (p : List ℕ) → bit_xor (remainder (bits p)) (check_field p) ≡ crc_of p
crc_whole p = grind (arith, whole, xor_assoc, xor_self, xor_zero_r)
