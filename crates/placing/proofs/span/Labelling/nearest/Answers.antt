use Rattle.std.proofs.Common.{arith}
use Rattle.std.proofs.lemmas.Grind.{common_steps}
use Rattle.placing.proofs.Nearby.{some_found, none_found}
use Rattle.placing.proofs.span.Labelling.nearest.Goals as goal

pub returns-then-rest-span-clause-found : goal.returns-then-rest-span-clause-found
returns-then-rest-span-clause-found c = some_found _ _ _ _ (omega arith) (grind (arith, common_steps))

pub returns-then-span-rest-clause-found : goal.returns-then-span-rest-clause-found
returns-then-span-rest-clause-found c = some_found _ _ _ _ (omega arith) (grind (arith, common_steps))

pub returns-else-span-rest-clause-found : goal.returns-else-span-rest-clause-found
returns-else-span-rest-clause-found c = none_found _ _ _ (omega arith) (grind (arith, common_steps))
