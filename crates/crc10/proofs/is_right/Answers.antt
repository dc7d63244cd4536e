use Rattle.std.proofs.Common.{arith}
use Rattle.crc10.proofs.Whole.{right_whole}
use Rattle.crc10.proofs.Detect.{changes_are_found}
use Rattle.crc10.proofs.is_right.Goals as goal

pub returns-clause-value : goal.returns-clause-value
returns-clause-value c = grind (arith, right_whole)

pub returns-clause-changes : goal.returns-clause-changes
returns-clause-changes c = changes_are_found
