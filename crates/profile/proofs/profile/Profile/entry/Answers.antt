use Rattle.std.proofs.Common.{◌≡◌, false, is_some, rules, arith}
use Rattle.std.proofs.lemmas.Grind.{common_steps}
use Rattle.std.proofs.lemmas.Option.{gets}
use Rattle.profile.specs.Questions.{refusal}
use Rattle.profile.proofs.Sound.{good_at}
use Rattle.profile.proofs.profile.Profile.entry.Goals as goal

pub returns-clause-good : goal.returns-clause-good
returns-clause-good c =
    let h : is_some (refusal c.args.self.now) ≡ false = search rules in
    good_at c.args.self.now h c.args.place c.copied.result (grind (arith, common_steps, gets))
