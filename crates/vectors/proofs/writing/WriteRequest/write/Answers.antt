use Rattle.std.proofs.Common.{ap, ◌∙◌, [], ◌∷◌, refl}
use Rattle.vectors.specs.declared.answer.Answer.TheVariants.{Octets}
use Rattle.vectors.proofs.Firsts.{first_octets}
use Rattle.vectors.proofs.writing.WriteRequest.write.Goals as goal

pub returns-in-Ok : goal.returns-in-Ok
returns-in-Ok g c =
    let zeros = 0 ∷ 0 ∷ 0 ∷ 0 ∷ 0 ∷ 0 ∷ 0 ∷ 0 ∷ 0 ∷ 0 ∷ 0 ∷ 0 ∷ [] in
    ap Octets
    (c.new.ensures ∙ first_octets g.K.Kind.model g.met.K.Kind.lawful _ c.in-Ok.count _ zeros _ c.write_payload.ensures.value c.in-Ok.is
    c.write_payload.ensures.octets refl)
