use Rattle.std.proofs.Common.{length, ◌≤◌}
use Rattle.dial.proofs.carriage.merge.Given as goal

-- what is still to come is of the arrivals
abbrev pub invariant-loop-turn : goal.invariant-loop-turn
invariant-loop-turn l = length l.coming ≤ length l.arrivals
