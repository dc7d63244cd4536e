-- Changed bits, and which of them the check finds. Assumes nothing.
use Rattle.std.specs.Prelude.{◌≡◌, ℕ, suc, ◌%◌, ◌≤◌, Bool, true, false, ◌&&◌, ◌||◌, List, [], ◌∷◌, length, drop, ◌==◌, nat_le}
use Rattle.crc10.specs.Check.{bits, right}

abbrev pub unlike : Bool → Bool → Bool
unlike true true = false
unlike true false = true
unlike false true = true
unlike false false = false

-- where two rows of bits differ
abbrev pub differences : List Bool → List Bool → List Bool
differences [] bs = []
differences (a ∷ xs) [] = []
differences (a ∷ xs) (b ∷ bs) = unlike a b ∷ differences xs bs

-- which bits of a payload are changed in another of its length, counted through the whole payload
abbrev pub changed : List ℕ → List ℕ → List Bool
changed p q = differences (bits p) (bits q)

-- how many bits are set
abbrev pub ones : List Bool → ℕ
ones [] = 0
ones (true ∷ bs) = suc (ones bs)
ones (false ∷ bs) = ones bs

-- the bits from the first that is set
abbrev pub from_first : List Bool → List Bool
from_first [] = []
from_first (true ∷ bs) = true ∷ bs
from_first (false ∷ bs) = from_first bs

-- one to three changes
abbrev pub few : List Bool → Bool
few ds = nat_le 1 (ones ds) && nat_le (ones ds) 3

abbrev pub odd : List Bool → Bool
odd ds = ones ds % 2 == 1

-- some changes, all in a stretch of ten bits: none stands ten or more bits after the first
abbrev pub burst : List Bool → Bool
burst ds = nat_le 1 (ones ds) && ones (drop 10 (from_first ds)) == 0

-- the changes that the check finds
abbrev pub found : List Bool → Bool
found ds = few ds || odd ds || burst ds

-- A payload of 5 to 12 octets with a right check, changed in such a way, has a wrong one.
abbrev pub ChangesAreFound : Type 0
ChangesAreFound =
    (p q : List ℕ) → 5 ≤ length p → length p ≤ 12 → length q ≡ length p → right p ≡ true → found (changed p q) ≡ true → right q ≡ false
