-- Stamps. Assumes nothing.
use Rattle.std.specs.Prelude.{ℕ}

-- a stamp is a time in milliseconds, modulo this
abbrev pub stamp_modulus : ℕ
stamp_modulus = 16384
