use Rattle.std.proofs.Common.{sym, ap, ◌∙◌, arith}
use Rattle.std.proofs.lemmas.Bool.{le-leb}
use Rattle.type3.proofs.Writes.{payload_is, room_yes}
use Rattle.type3.proofs.writing.write_payload.Goals as goal

pub returns-clause-octets : goal.returns-clause-octets
returns-clause-octets g c =
    let k = g.K.Kind.model in
    let law = g.met.K.Kind.lawful in
    let x = c.args.payload in
    let out = c.args.out.now in
    payload_is k law x out c.frame.new.out c.payload_len-n.result c.message_type.result c.crc_of-check.result
    c.payload_len-n.ensures c.message_type.ensures c.frame.ensures c.crc_of-check.ensures.value
    ∙ sym (ap (λ w. w.1) (room_yes k law x out (le-leb _ _ (omega (arith, c.payload_len-n.ensures)))))
