-- Octets in hexadecimal. Assumes nothing.
use Rattle.std.specs.Prelude.{ℕ, ◌+◌, ◌*◌, List, [], ◌∷◌, Some, None, codes, Option}
use Rattle.kinds.specs.Keys.{place_from}
use Rattle.text.specs.declared.hex.Letters.{Letters}
use Rattle.text.specs.declared.hex.Letters.TheVariants.{Upper, Lower}

-- the digits, each at the place of its value
abbrev pub upper : List ℕ
upper = codes "0123456789ABCDEF"

abbrev pub lower : List ℕ
lower = codes "0123456789abcdef"

abbrev pub hex_value : Letters → ℕ → Option ℕ
hex_value Upper digit = place_from 0 upper digit
hex_value Lower digit = place_from 0 lower digit

abbrev pub octet_by : Option ℕ → Option ℕ → Option ℕ
octet_by (Some high) (Some low) = Some (high * 16 + low)
octet_by (Some high) None = None
octet_by None low = None

-- two digits, the upper first
abbrev pub octet_of : Letters → List ℕ → Option ℕ
octet_of letters [] = None
octet_of letters (high ∷ []) = None
octet_of letters (high ∷ low ∷ []) = octet_by (hex_value letters high) (hex_value letters low)
octet_of letters (high ∷ low ∷ next ∷ more) = None
