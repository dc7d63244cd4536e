-- One arrival beside the latest news, where labels tell the times and the ages are near. Assumes nothing.
use Rattle.std.proofs.Common.{◌≡◌, ℕ, suc, ◌-◌, ◌*◌, ◌<◌, ◌≤◌, ℤ, pos, negsuc, ◌-ℤ◌, nat_abs, Some, Ok, Result, ap, ◌∙◌, arith}
use Rattle.std.proofs.lemmas.Int.{ints}
use Rattle.std.proofs.lemmas.Bool.Decides.{nat_tests}
use Rattle.refusal.specs.declared.Refusal.{Refusal}
use Rattle.placing.specs.declared.stream.LatestNews.{LatestNews}
use Rattle.placing.specs.declared.stream.Advance.{Advance}
use Rattle.placing.specs.declared.stream.Novelty.{Novelty}
use Rattle.placing.specs.declared.stream.Novelty.TheVariants.{News, Repeat, Late}
use Rattle.placing.specs.Placing.{novelty, novelty_by}
use Rattle.placing.specs.Arrivals.{Point, age, Tells, expected_beside}
use Rattle.placing.proofs.Nearby.{Order, order, level_with, short, long}
use Rattle.placing.proofs.Telling.{placed_where_made}

-- the latest news is y, at a position
abbrev pub latest : Point → ℕ → LatestNews
latest y position = record { label = y.label; arrival = y.arrival; position = position }

abbrev as_news : ℕ → ℕ → Result (Novelty Advance) Refusal
as_news d position = Ok (News (record { elapsed = d; position = position }))

-- the three ways of what is expected
module _ (start : ℕ) (y x : Point) where
  pub later_is : y.time < x.time → expected_beside start (Some y) x ≡ as_news (x.time - y.time) (x.time - start)
  later_is l = grind (arith, nat_tests)

  pub same_is : x.time ≡ y.time → expected_beside start (Some y) x ≡ Ok Repeat
  same_is e = grind (arith, nat_tests)

  pub earlier_is : x.time < y.time → expected_beside start (Some y) x ≡ Ok Late
  earlier_is l = grind (arith, nat_tests)

-- what is told is what is expected
pub told_rightly : (span unit start : ℕ) (y x : Point) → Tells span unit y → Tells span unit x → y.arrival ≤ x.arrival
    → 2 * nat_abs (age x -ℤ age y) < span → start ≤ y.time → x.time ≤ 1099511627775
    → novelty span unit (Some (latest y (y.time - start))) x.label x.arrival ≡ expected_beside start (Some y) x
told_rightly span unit start y x ty tx arrivals ages begun in_time = by (order y.time x.time)
  where
    by_elapsed : (d : ℤ) → pos x.time -ℤ pos y.time ≡ d
        → novelty span unit (Some (latest y (y.time - start))) x.label x.arrival ≡ novelty_by (y.time - start) (Some d)
    by_elapsed d e = ap (novelty_by (y.time - start)) (placed_where_made span unit y x ty tx arrivals ages ∙ ap Some e)

    by : Order y.time x.time → novelty span unit (Some (latest y (y.time - start))) x.label x.arrival ≡ expected_beside start (Some y) x
    by (level_with e) = by_elapsed (pos 0) (omega (arith, ints)) ∙ grind (arith, nat_tests)
    by (long m e) = by_elapsed (negsuc m) (omega (arith, ints)) ∙ grind (arith, nat_tests)
    by (short m e) = by_elapsed (pos (suc m)) (omega (arith, ints)) ∙ grind (arith, nat_tests)
