use Rattle.std.proofs.Common.{◌≡◌, ◌∙◌, rules}
use Rattle.kinds.specs.Digits.{level_of}
use Rattle.kinds.proofs.Making.{made_is}
use Rattle.kinds.proofs.digit.Digit.new.Goals as goal

pub returns : goal.returns
returns c =
    let l : c.level_of.result ≡ level_of c.args.dbm0 = search rules in
    let is = made_is c.args.system c.args.code c.args.dbm0 c.in_ok-system.system _ c.in_ok-system.ensures in
    c.ok_or.ensures.value ∙ rw (c.of_parts.ensures, c.into.ensures, l) is
