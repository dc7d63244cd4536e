use Rattle.std.proofs.Common.{arith}
use Rattle.crc10.proofs.Whole.{crc_whole}
use Rattle.crc10.proofs.Ends.{crc_low}
use Rattle.crc10.proofs.Euclid.{divides}
use Rattle.crc10.proofs.crc_of.Goals as goal

pub returns-clause-value : goal.returns-clause-value
returns-clause-value c = grind (arith, crc_whole)

pub returns-clause-below : goal.returns-clause-below
returns-clause-below c = grind (arith, crc_whole, crc_low)

pub returns-clause-divides : goal.returns-clause-divides
returns-clause-divides c = divides
