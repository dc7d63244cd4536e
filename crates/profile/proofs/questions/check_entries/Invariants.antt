use Rattle.std.proofs.Common.{◌≡◌, [], take, drop}
use Rattle.profile.specs.Questions.{refusal_from}
use Rattle.profile.proofs.questions.check_entries.Given as goal

abbrev pub invariant-loop-place : goal.invariant-loop-place
invariant-loop-place l = refusal_from [] 0 l.offered ≡ refusal_from (take l.place l.offered) l.place (drop l.place l.offered)
