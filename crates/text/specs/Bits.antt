-- Signalling bits as digits. Assumes nothing.
use Rattle.std.specs.Prelude.{ℕ, Bool, true, false, cond, List, [], ◌∷◌, Some, None, Option, ◌==◌}
use Rattle.kinds.specs.declared.cas.CasBits.{CasBits}

-- the digits 0 and 1
abbrev pub bit_of : ℕ → Option Bool
bit_of digit = cond (digit == 48) (Some false) (cond (digit == 49) (Some true) None)

abbrev pub bits_by : Option Bool → Option Bool → Option Bool → Option Bool → Option CasBits
bits_by (Some a) (Some b) (Some c) (Some d) = Some (record { a = a; b = b; c = c; d = d })
bits_by (Some a) (Some b) (Some c) None = None
bits_by (Some a) (Some b) None d = None
bits_by (Some a) None c d = None
bits_by None b c d = None

-- four digits, A first
abbrev pub bits_of : List ℕ → Option CasBits
bits_of [] = None
bits_of (a ∷ []) = None
bits_of (a ∷ b ∷ []) = None
bits_of (a ∷ b ∷ c ∷ []) = None
bits_of (a ∷ b ∷ c ∷ d ∷ []) = bits_by (bit_of a) (bit_of b) (bit_of c) (bit_of d)
bits_of (a ∷ b ∷ c ∷ d ∷ e ∷ more) = None
