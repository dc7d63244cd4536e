use Rattle.std.proofs.Common.{arith}
use Rattle.placing.proofs.Nearby.{rest_is}
use Rattle.placing.proofs.span.Labelling.rest.Goals as goal

pub returns-clause-value : goal.returns-clause-value
returns-clause-value c =
    rest_is _ _ _ _ _ _ _ _ _ _ (omega arith) (omega arith) c.from.ensures c.from-unit.ensures c.from-2.ensures c.get-2.ensures.value
