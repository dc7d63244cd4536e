use Rattle.std.proofs.Common.{◌≡◌, false, is_some, rules}
use borrow.Author.Tests.{tests}
use Rattle.std.proofs.lemmas.Iterator.{YieldsList-from_slice}
use Rattle.std.proofs.lemmas.Iterator.Search.{position_from_yields_List}
use Rattle.profile.specs.Questions.{refusal}
use Rattle.profile.proofs.Finding.{found_by}
use Rattle.profile.proofs.profile.Profile.find.Goals as goal

pub returns-clause-found : goal.returns-clause-found
returns-clause-found c =
    let h : is_some (refusal c.args.self.now) ≡ false = search rules in
    found_by _ _ _ h _ (position_from_yields_List _ _ _ _ c.position.ensures.ran (YieldsList-from_slice c.args.self.now cc)
    (λ x b q k. search (rules, tests)))
