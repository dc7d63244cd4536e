-- Moments: their points, one more of them, and the one with the latest time. Assumes nothing.
use Rattle.std.proofs.Common.{◌≡◌, ℕ, Bool, ◌&&◌, List, [], ◌∷◌, ◌++◌, Some, None, Option, refl, ap, ◌∙◌, arith}
use Rattle.std.proofs.lemmas.Grind.{common_steps}
use Rattle.std.specs.Option.{option_map}
use Rattle.std.specs.List.{list_all}
use Rattle.placing.specs.Lists.{greater, greatest}
use Rattle.placing.specs.Arrivals.{Point, Moment, points}

pub points_snoc : (ms : List Moment) (m : Moment) → points (ms ++ (m ∷ [])) ≡ points ms ++ (m.point ∷ [])
points_snoc [] m = refl
points_snoc (x ∷ ms) m = ap (λ (l : List Point). x.point ∷ l) (points_snoc ms m)

pub all_points : (test : Point → Bool) (ms : List Moment) → list_all (λ b. test b.point) ms ≡ list_all test (points ms)
all_points test [] = refl
all_points test (m ∷ ms) = ap (λ b. test m.point && b) (all_points test ms)

abbrev time : Point → ℕ
time x = x.time

abbrev time_of : Moment → ℕ
time_of m = m.point.time

greater_point : (m : Moment) (o : Option Moment) → greater time m.point (option_map (λ n. n.point) o) ≡ (greater time_of m o).point
greater_point m None = refl
greater_point m (Some n) = grind (arith, common_steps)

pub greatest_point : (ms : List Moment) → greatest time (points ms) ≡ option_map (λ n. n.point) (greatest time_of ms)
greatest_point [] = refl
greatest_point (m ∷ ms) = ap (λ o. Some (greater time m.point o)) (greatest_point ms) ∙ ap Some (greater_point m (greatest time_of ms))
