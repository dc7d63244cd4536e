-- The digits that programs make. Assumes nothing.
use Rattle.std.specs.Prelude.{ℕ, ℤ, negsuc, Result}
use Rattle.refusal.specs.declared.Refusal.{Refusal}
use Rattle.kinds.specs.declared.digit.Digit.{Digit}
use Rattle.kinds.specs.Digits.{make, make_key}
use Rattle.kinds.specs.Systems.{number_of}
use Rattle.kinds.specs.declared.system.System.TheVariants.{Dtmf}

-- -10 dBm0
abbrev pub level : ℤ
level = negsuc 9

-- the DTMF digit of a key
abbrev pub key_digit : ℕ → Result Digit Refusal
key_digit key = make_key key level

-- the DTMF digit that ends a tone
abbrev pub tone_off : Result Digit Refusal
tone_off = make (number_of Dtmf) 31 level
