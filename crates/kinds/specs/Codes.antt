-- The codes of each digit type. Assumes nothing.
use Rattle.std.specs.Prelude.{ℕ, Bool, false, cond, ◌||◌, ◌==◌, nat_le}
use Rattle.refusal.specs.Questions.{from_to}

-- Types: 0 DTMF, 1 MF-R1, 2 MF-R2 forward, 3 MF-R2 backward. Code 31 ends the tone.
abbrev pub is_code : ℕ → ℕ → Bool
is_code type code =
    cond (type == 0) (from_to 0 15 code || code == 31)
    (cond (type == 1) (from_to 0 14 code || code == 31)
    (cond (nat_le type 3) (from_to 1 15 code || code == 31)
    false))
