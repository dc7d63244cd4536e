use Rattle.std.proofs.Common.{refl, arith}
use Rattle.trunk.proofs.Rooms.{refused_in_first, after_in_first}
use Rattle.trunk.proofs.service.InService.due_octets.Goals as goal

pub returns-in_err-count-clause-value : goal.returns-in_err-count-clause-value
returns-in_err-count-clause-value g c =
    let back = refused_in_first g.P.Kind.model g.Q.Kind.model g.met.P.Kind.lawful g.met.Q.Kind.lawful
    c.args.self.now c.args.which c.args.time
    c.args.room _ _ refl _ _ c.due.ensures.value c.in_err-count.was (omega arith) in
    let r = c.from_residual.ensures in
    grind arith

pub returns-in_err-count-clause-after : goal.returns-in_err-count-clause-after
returns-in_err-count-clause-after g c =
    after_in_first g.P.Kind.model g.Q.Kind.model g.met.P.Kind.lawful g.met.Q.Kind.lawful
    c.args.self.now c.args.which c.args.time
    c.args.room _ _ refl _ c.due.ensures.after (omega arith)
