use Rattle.placing.proofs.InForce.{in_force_is_the_latest_news}
use Rattle.placing.proofs.receiver.Receiver.new.Goals as goal

pub returns-clause-force : goal.returns-clause-force
returns-clause-force g c = in_force_is_the_latest_news g.K.Kind.model
