use Rattle.std.proofs.Common.{◌≡◌, ◌++◌, drop}
use Rattle.dialling.specs.Heard.{tones_from, tones_heard}
use Rattle.dialling.proofs.heard.tones_heard.Given as goal

-- with those of the answers that are left, the tones so far are all
abbrev pub invariant-loop-answer : goal.invariant-loop-answer
invariant-loop-answer l = l.tones.items ++ tones_from l.listener (drop l.answer-index l.answers) ≡ tones_heard l.answers
