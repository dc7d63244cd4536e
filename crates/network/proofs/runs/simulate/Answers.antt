use Rattle.std.proofs.Common.{◌≡◌, ◌+◌, ◌∷◌, map, drop, ap, sym, subst, ◌∙◌, append-nil}
use Rattle.std.proofs.lemmas.List.{drop_more, drop_all}
use Rattle.network.specs.Law.{Law}
use Rattle.network.specs.Answers.{turn_of}
use Rattle.network.proofs.Steps.{goes_on}
use Rattle.network.proofs.Rightly.{the_law}
use Rattle.network.proofs.runs.simulate.Goals as goal

pub loop-turn-preserved : goal.loop-turn-preserved
loop-turn-preserved g c =
    let i = c.loop-turn.turn-index in
    let turns = c.args.turns.now in
    let item : drop i turns ≡ c.turn-item.result ∷ drop (i + 1) turns =
    drop_more turns i c.turn-item.result c.loop-turn-test.true ∙ ap (λ x. x ∷ drop (i + 1) turns) (sym c.turn-item.is) in
    let pushed = c.push.ensures in
    let ok = c.unwrap.ensures in
    goes_on g.P.Kind.model g.Q.Kind.model _ _ _ c.loop-turn.invariant _ _ (ap (map turn_of) item) c.take.new.self c.take.ensures.after
    c.take.result
    c.take.ensures.value c.push.new.self (rw ok at pushed.items) (rw ok at pushed.len) pushed.capacity

pub returns-clause-answers : goal.returns-clause-answers
returns-clause-answers g c =
    let none = drop_all c.loop-turn.turn-index c.args.turns.now c.loop-turn-test.false in
    let kept = c.loop-turn.invariant.answers_are in
    let begun = c.start-ends.ensures.value in
    sym (append-nil c.loop-turn.answers.items) ∙ (rw (none, begun) at kept)

pub returns-clause-ends : goal.returns-clause-ends
returns-clause-ends g c =
    let none = drop_all c.loop-turn.turn-index c.args.turns.now c.loop-turn-test.false in
    let kept = c.loop-turn.invariant.ends_are in
    let begun = c.start-ends.ensures.value in
    rw (none, begun) at kept

pub returns-clause-law : goal.returns-clause-law
returns-clause-law g c =
    subst (λ ends. Law g.P.Kind.model g.Q.Kind.model c.args.near c.args.far (map turn_of c.args.turns.now) ends)
    (sym (returns-clause-ends g c))
    (the_law g.P.Kind.model g.Q.Kind.model g.met.P.Kind.lawful g.met.Q.Kind.lawful c.args.near c.args.far
    c.start-ends.ensures.loads (map turn_of c.args.turns.now))

pub returns-clause-once : goal.returns-clause-once
returns-clause-once g c = c.start-ends.ensures.once (map turn_of c.args.turns.now)
