-- The keys of a telephone, named by characters. Assumes nothing.
use Rattle.std.specs.Prelude.{ℕ, ◌+◌, cond, List, [], ◌∷◌, Some, None, codes, Option, ◌==◌}

-- the place of a number in a list, counted from a number on
abbrev pub place_from : ℕ → List ℕ → ℕ → Option ℕ
place_from place [] n = None
place_from place (x ∷ xs) n = cond (n == x) (Some place) (place_from (place + 1) xs n)

-- a key's DTMF code is its place in this row
abbrev pub key_code : ℕ → Option ℕ
key_code key = place_from 0 (codes "0123456789*#ABCD") key
