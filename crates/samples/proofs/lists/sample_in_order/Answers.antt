use Rattle.std.proofs.Common.{◌≡◌}
use Rattle.samples.specs.Witness.{five}
use Rattle.samples.specs.OnceWitness.{ordered}
use Rattle.samples.proofs.Examples.{answers_said}
use Rattle.samples.proofs.OnceExamples.{each_event_once_is_not_empty}
use Rattle.samples.proofs.lists.sample_in_order.Goals as goal

pub returns-clause-answers : goal.returns-clause-answers
returns-clause-answers c =
    let f : c.in_ok-of_key.field-0 ≡ five = let was = c.in_ok-of_key.was in let is = c.of_key.ensures in cc in
    answers_said ordered each_event_once_is_not_empty.keeps.answers c.in_ok-simulate.ensures.answers c.in_ok-near.ensures
    c.in_ok-far.ensures
    (c.calls_in_order-turns.ensures f)

pub returns-clause-not_empty : goal.returns-clause-not_empty
returns-clause-not_empty c = each_event_once_is_not_empty
