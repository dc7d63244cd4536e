-- Where an arrival stands on its stream, beside the latest news. Assumes nothing.
use Rattle.std.specs.Prelude.{ℕ, zero, suc, ◌+◌, ◌-◌, [], ◌∷◌, ℤ, pos, negsuc, Some, None, Ok, Err, Option, Result}
use Rattle.refusal.specs.Questions.{asked, is_time}
use Rattle.refusal.specs.declared.Refusal.{Refusal}
use Rattle.refusal.specs.declared.Refusal.TheVariants.{Placing}
use Rattle.refusal.specs.declared.PlacingFault.TheVariants.{EquallyNear, PositionOutOfRange}
use Rattle.placing.specs.Nearest.{labels_apart, nearest}
use Rattle.placing.specs.declared.stream.LatestNews.{LatestNews}
use Rattle.placing.specs.declared.stream.Advance.{Advance}
use Rattle.placing.specs.declared.stream.Novelty.{Novelty}
use Rattle.placing.specs.declared.stream.Novelty.TheVariants.{News, Repeat, Late}

-- The sign of the elapsed time decides: news, a repeat or late. News moves the position, which has to stay a time.
abbrev pub by_sign : ℕ → ℤ → Result (Novelty Advance) Refusal
by_sign position (negsuc n) = Ok Late
by_sign position (pos zero) = Ok Repeat
by_sign position (pos (suc n)) =
    asked ((is_time (position + suc n), Placing PositionOutOfRange) ∷ [])
    (λ f. Err f)
    (Ok (News (record { elapsed = suc n; position = position + suc n })))

abbrev pub novelty_by : ℕ → Option ℤ → Result (Novelty Advance) Refusal
novelty_by position None = Err (Placing EquallyNear)
novelty_by position (Some d) = by_sign position d

-- the first arrival begins the stream
abbrev pub novelty : ℕ → ℕ → Option LatestNews → ℕ → ℕ → Result (Novelty Advance) Refusal
novelty span unit None label a = Ok (News (record { elapsed = 0; position = 0 }))
novelty span unit (Some p) label a = novelty_by p.position (nearest span (labels_apart unit p.label label) (a - p.arrival))

-- news is the latest then; all else leaves the stream as it was
abbrev pub latest_after : Option LatestNews → ℕ → ℕ → Result (Novelty Advance) Refusal → Option LatestNews
latest_after latest label a (Ok (News m)) = Some (record { label = label; arrival = a; position = m.position })
latest_after latest label a (Ok Repeat) = latest
latest_after latest label a (Ok Late) = latest
latest_after latest label a (Err f) = latest

-- A label that arrives at a time, on a stream of this span whose labels count units of so many milliseconds.
abbrev pub place : ℕ → ℕ → Option LatestNews → ℕ → ℕ → Result (Novelty Advance) Refusal × Option LatestNews
place span unit latest label a = let r = novelty span unit latest label a in (r, latest_after latest label a r)
