use Rattle.std.proofs.Common.{map, drop, length}
use Rattle.network.specs.Answers.{turn_of}
use Rattle.network.proofs.Steps.{Kept}
use Rattle.network.proofs.runs.simulate.Given as goal

abbrev pub invariant-loop-turn : goal.invariant-loop-turn
invariant-loop-turn g l =
    Kept g.P.Kind.model g.Q.Kind.model l.initial.ends (map turn_of l.turns) (length l.turns) l.turn-index l.answers l.ends
    (map turn_of (drop l.turn-index l.turns))
