use Rattle.std.proofs.Common.{to_z-of_z, rules}
use Rattle.refusal.specs.declared.KindFault.TheVariants.{DigitCode}
use Rattle.kinds.specs.Keys.{key_code}
use Rattle.kinds.proofs.Making.{key_made}
use Rattle.kinds.proofs.digit.Digit.of_key.Goals as goal

pub returns : goal.returns
returns c =
    rw (c.new.ensures, c.into.ensures, to_z-of_z c.ranges.dbm0)
    (key_made (key_code c.args.key) c.in_ok-code.code c.args.dbm0 DigitCode (search rules))
