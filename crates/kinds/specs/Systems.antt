-- The digit types and their numbers. Assumes nothing.
use Rattle.std.specs.Prelude.{ℕ, cond, Some, None, Option, ◌==◌}
use Rattle.kinds.specs.declared.system.System.{System}
use Rattle.kinds.specs.declared.system.System.TheVariants.{Dtmf, MfR1, MfR2Forward, MfR2Backward}

abbrev pub number_of : System → ℕ
number_of Dtmf = 0
number_of MfR1 = 1
number_of MfR2Forward = 2
number_of MfR2Backward = 3

-- the type of a number, if it is one
abbrev pub system_of : ℕ → Option System
system_of n =
    cond (n == 0) (Some Dtmf)
    (cond (n == 1) (Some MfR1)
    (cond (n == 2) (Some MfR2Forward)
    (cond (n == 3) (Some MfR2Backward)
    None)))
