use Rattle.std.proofs.Common.{sym}
use Rattle.kinds.specs.DigitLaws.{digit_is}
use Rattle.kinds.proofs.digit.Digit.of_parts.Goals as goal

pub returns-then-has : goal.returns-then-has
returns-then-has c = sym (digit_is _)
