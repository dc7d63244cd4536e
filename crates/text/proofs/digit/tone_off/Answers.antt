use Rattle.std.proofs.Common.{ap, ◌∙◌}
use Rattle.kinds.specs.Digits.{make}
use Rattle.text.specs.Tones.{level}
use Rattle.text.proofs.digit.tone_off.Goals as goal

pub returns : goal.returns
returns c = c.new.ensures ∙ ap (λ n. make n 31 level) c.into.ensures
