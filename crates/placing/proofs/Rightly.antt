-- Every list of arrivals on a new stream is placed rightly. Assumes nothing.
use Rattle.std.proofs.Common.{◌≡◌, ℕ, ◌*◌, Bool, true, ltb, leb, List, [], ◌∷◌, ◌++◌, ◌-ℤ◌, nat_abs, Some, None, Ok, Option, Result, sym}
use Rattle.std.proofs.Common.{refl, ap, ◌∙◌, subst}
use Rattle.std.specs.List.{list_all}
use Rattle.std.proofs.lemmas.Bool.{ltb-true, leb-true, and_parts}
use Rattle.std.specs.Option.{option_map}
use Rattle.refusal.specs.Questions.{is_time}
use Rattle.refusal.specs.declared.Refusal.{Refusal}
use Rattle.placing.specs.declared.stream.LatestNews.{LatestNews}
use Rattle.placing.specs.declared.stream.Advance.{Advance}
use Rattle.placing.specs.declared.stream.Novelty.{Novelty}
use Rattle.placing.specs.declared.stream.Novelty.TheVariants.{News}
use Rattle.placing.specs.Lists.{greatest, everywhere, Everywhere}
use Rattle.placing.specs.Placing.{novelty, latest_after}
use Rattle.placing.specs.Arrivals.{Point, age, Tells, Moment, history, near_age, aged, in_order, expected_beside, expected, start_of}
use Rattle.placing.specs.Arrivals.{is_news, points, Since, PlacesRightly}
use Rattle.placing.proofs.Leader.{greatest_passes}
use Rattle.placing.proofs.Moments.{points_snoc, greatest_point}
use Rattle.placing.proofs.Hearing as hearing
use Rattle.placing.proofs.Hearing.{Hears, Next, Near, Passed, latest_news, next}

abbrev point : Moment → Point
point m = m.point

abbrev news : Moment → Bool
news m = is_news m.answer

abbrev moment : Point → Result (Novelty Advance) Refusal → Moment
moment x r = record { point = x; answer = r }

module _ (span unit : ℕ) where
  -- what is expected of the points is what is expected of the moments
  starts : (before : List Moment) → hearing.start_of point news span unit before ≡ start_of (points before)
  starts [] = refl
  starts (m ∷ ms) = refl

  expects : (before : List Moment) (x : Point)
      → expected_beside (hearing.start_of point news span unit before) (option_map point (greatest (λ m. m.point.time) before)) x
      ≡ expected (points before) x
  expects before x =
      ap (λ n. expected_beside n (option_map point (greatest (λ m. m.point.time) before)) x) (starts before)
      ∙ ap (λ o. expected_beside (start_of (points before)) o x) (sym (greatest_point before))

  since_of : (o : Option Moment) (x : Point) (r : Result (Novelty Advance) Refusal)
      → ((n : Advance) → r ≡ Ok (News n) → Passed point news span unit o x n.elapsed) → Since o x r
  since_of None x r p = tt
  since_of (Some m) x r p = p

  beside_leader : (before : List Moment) (x : Point) → in_order (points before) x ≡ true → aged span (points before) x ≡ true
      → (y : Moment) → greatest (λ m. m.point.time) before ≡ Some y → Near point news span unit y x
  beside_leader before x ordered ages y e =
      let leads = greatest_point before ∙ ap (option_map point) e in
      let o = and_parts (is_time x.time) (list_all (λ z. leb z.arrival x.arrival) (points before)) ordered in
      record {
        order = leb-true y.point.arrival x.arrival
            (greatest_passes (λ (z : Point). z.time) (λ z. leb z.arrival x.arrival) (points before) y.point o.1 leads);
        ages = ltb-true (2 * nat_abs (age x -ℤ age y.point)) span (sym (ap (near_age span x) leads) ∙ ages);
      }

  record Rest (before ms : List Moment) : Type 0 where
    as_expected : Everywhere (λ before m. m.answer ≡ expected (points before) m.point) before ms
    exactly : Everywhere (λ before m. is_news m.answer ≡ list_all (λ b. ltb b.point.time m.point.time) before) before ms
    since : Everywhere (λ before m. Since (latest_news point news span unit before) m.point m.answer) before ms

  rest : (xs : List Point) (before : List Moment) (s : Option LatestNews) → Hears point news span unit before s
      → Everywhere (λ before x. Tells span unit x) (points before) xs → everywhere in_order (points before) xs ≡ true
      → everywhere (aged span) (points before) xs ≡ true → Rest before (history span unit s xs)
  rest [] before s h tells ordered ages = record { as_expected = tt; exactly = tt; since = tt }
  rest (x ∷ xs) before s h tells ordered ages =
      let r = novelty span unit s x.label x.arrival in
      let m = moment x r in
      let e = points_snoc before m in
      let o = and_parts (in_order (points before) x) (everywhere in_order (points before ++ (x ∷ [])) xs) ordered in
      let a = and_parts (aged span (points before) x) (everywhere (aged span) (points before ++ (x ∷ [])) xs) ages in
      let t = and_parts (is_time x.time) (list_all (λ z. leb z.arrival x.arrival) (points before)) o.0 in
      let n = next point news span unit before s x h tells.0 (leb-true x.time 1099511627775 t.0) (beside_leader before x o.0 a.0) in
      let more = rest xs (before ++ (m ∷ [])) (latest_after s x.label x.arrival r) (n.hears m refl refl)
      (subst (λ l. Everywhere (λ before x. Tells span unit x) l xs) (sym e) tells.1)
      (ap (λ l. everywhere in_order l xs) e ∙ o.1)
      (ap (λ l. everywhere (aged span) l xs) e ∙ a.1) in
      record {
        as_expected = (n.as_expected ∙ expects before x, more.as_expected);
        exactly = (n.exactly, more.exactly);
        since = (since_of (latest_news point news span unit before) x r n.since, more.since);
      }

pub places_rightly : PlacesRightly
places_rightly span unit xs tells ordered ages =
    let r = rest span unit xs [] None refl tells ordered ages in
    record { as_expected = r.as_expected; news_exactly_when_later = r.exactly; elapsed_since_news = r.since }
