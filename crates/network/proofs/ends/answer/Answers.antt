use Rattle.std.proofs.Common.{ap, sym, ◌∙◌}
use Rattle.network.specs.declared.call.Answer.TheVariants.{Audio, Event, Due, Arrive}
use Rattle.network.specs.Answers.{call_of, said_by}
use Rattle.network.proofs.ends.answer.Goals as goal

pub returns-in-Audio-clause-value : goal.returns-in-Audio-clause-value
returns-in-Audio-clause-value g c = ap Audio c.audio.ensures.value
    ∙ ap (λ call. said_by g.P.Kind.model g.Q.Kind.model c.args.end.now (call_of call)) (sym c.in-Audio.is)

pub returns-in-Audio-clause-after : goal.returns-in-Audio-clause-after
returns-in-Audio-clause-after g c = rw c.in-Audio.is c.audio.ensures.after

pub returns-in-Event-clause-value : goal.returns-in-Event-clause-value
returns-in-Event-clause-value g c = ap Event c.event.ensures.value
    ∙ ap (λ call. said_by g.P.Kind.model g.Q.Kind.model c.args.end.now (call_of call)) (sym c.in-Event.is)

pub returns-in-Event-clause-after : goal.returns-in-Event-clause-after
returns-in-Event-clause-after g c = rw c.in-Event.is c.event.ensures.after

pub returns-in-Due-clause-value : goal.returns-in-Due-clause-value
returns-in-Due-clause-value g c = ap Due c.due_octets.ensures.value
    ∙ ap (λ call. said_by g.P.Kind.model g.Q.Kind.model c.args.end.now (call_of call)) (sym c.in-Due.is)

pub returns-in-Due-clause-after : goal.returns-in-Due-clause-after
returns-in-Due-clause-after g c = rw c.in-Due.is c.due_octets.ensures.after

pub returns-in-Arrive-clause-value : goal.returns-in-Arrive-clause-value
returns-in-Arrive-clause-value g c = ap Arrive c.arrive.ensures.value
    ∙ ap (λ call. said_by g.P.Kind.model g.Q.Kind.model c.args.end.now (call_of call)) (sym c.in-Arrive.is)

pub returns-in-Arrive-clause-after : goal.returns-in-Arrive-clause-after
returns-in-Arrive-clause-after g c = rw c.in-Arrive.is c.arrive.ensures.after
