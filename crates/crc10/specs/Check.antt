-- The check of a payload: ten bits at its end. Assumes nothing.
use Rattle.std.specs.Prelude.{◌≡◌, ℕ, ◌-◌, ◌/◌, ◌%◌, ◌^◌, Bool, false, List, [], ◌∷◌, ◌++◌, length, take, drop, replicate, codes, ◌==◌}
use Rattle.crc10.specs.Division.{number, remainder}

-- the bit of an octet that counts 2^k
abbrev pub bit_of : ℕ → ℕ → Bool
bit_of o k = o / 2 ^ k % 2 == 1

abbrev pub octet_bits : ℕ → List Bool
octet_bits o =
    bit_of o 7 ∷ bit_of o 6 ∷ bit_of o 5 ∷ bit_of o 4 ∷ bit_of o 3 ∷ bit_of o 2 ∷ bit_of o 1 ∷ bit_of o 0 ∷ []

-- the bits of octets, the highest of each octet first
abbrev pub bits : List ℕ → List Bool
bits [] = []
bits (o ∷ os) = octet_bits o ++ bits os

-- the CRC of a row of bits: the remainder of these bits times x^10
abbrev pub crc : List Bool → ℕ
crc bs = remainder (bs ++ replicate 10 false)

-- A payload's last ten bits are its check field; the bits before them are checked.
abbrev pub checked : List ℕ → List Bool
checked p = take (length (bits p) - 10) (bits p)

abbrev pub check_field : List ℕ → ℕ
check_field p = number (drop (length (bits p) - 10) (bits p))

abbrev pub crc_of : List ℕ → ℕ
crc_of p = crc (checked p)

-- whether the check field holds the CRC of the bits before it
abbrev pub right : List ℕ → Bool
right p = check_field p == crc_of p

-- the check value that catalogues publish for this CRC
abbrev pub Published : Type 0
Published = crc (bits (codes "123456789")) ≡ 0x199
