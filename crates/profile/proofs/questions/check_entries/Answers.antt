use Rattle.std.proofs.Common.{◌≤◌, length, sym, ap, ◌∙◌, rules}
use Rattle.refusal.specs.Questions.{allowed}
use Rattle.profile.proofs.Walks.{counted, no_here, no_later}
use Rattle.profile.proofs.questions.check_entries.Goals as goal

pub returns-in-Err : goal.returns-in-Err
returns-in-Err c =
    let low : 1 ≤ length c.args.offered.now = search rules in
    ap (λ o. allowed o) (sym (counted c.args.offered.now low c.if-offered-gt-MAX_ENTRIES.false ∙ c.loop-place.invariant
    ∙ no_here c.args.offered.now c.loop-place.place c.loop-place-test.true _ c.in-Err.ensures))

pub loop-place-preserved : goal.loop-place-preserved
loop-place-preserved c = c.loop-place.invariant
    ∙ no_later c.args.offered.now c.loop-place.place c.loop-place-test.true c.in_default.field-0 c.in_default.ensures
