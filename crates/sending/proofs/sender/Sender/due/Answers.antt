use Rattle.std.proofs.Common.{rules}
use Rattle.sending.proofs.Dues.{octets_are}
use Rattle.sending.proofs.sender.Sender.due.Goals as goal

pub returns-clause-octets : goal.returns-clause-octets
returns-clause-octets g c =
    octets_are g.K.Kind.model g.met.K.Kind.lawful c.args.self.now c.in_ok-time.time c.args.time c.args.out.now
    c.in-Some.packet c.payload.result
    (search rules) c.in_ok-check_due.ensures c.in-Some.ensures c.payload.ensures _ c.write_payload.ensures.octets
