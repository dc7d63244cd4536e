use Rattle.std.proofs.Common.{rules}
use Rattle.crc10.proofs.Words.{octet_by_table, octet_lt}
use Rattle.crc10.proofs.remainder.Remainder.after.Goals as goal

pub invariant_of-result : goal.invariant_of-result
invariant_of-result c =
    octet_lt c.self.inside.value c.args.octet _ _ c.self.invariant (search rules) c.after_8_zeros.ensures c.from.ensures

pub returns : goal.returns
returns c =
    rw (← c.self.view_is)
    (octet_by_table c.self.inside.value c.args.octet _ _ c.self.invariant (search rules) c.after_8_zeros.ensures c.from.ensures)
