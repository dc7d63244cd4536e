-- The arrivals on a new stream, and what is true of how they are placed, in terms of the times that packets were made for.
-- Assumes nothing.
use Rattle.std.specs.Prelude.{◌≡◌, ℕ, ◌+◌, ◌-◌, ◌*◌, ◌/◌, ◌%◌, ◌<◌, ◌≤◌, Bool, true, false, cond, ◌&&◌, List, [], ◌∷◌, ℤ, pos, ◌-ℤ◌, Some}
use Rattle.std.specs.Prelude.{None, Ok, Err, Option, Result, ◌==◌, nat_le, nat_lt, unsigned_abs}
use Rattle.std.specs.List.{list_all, filter}
use Rattle.refusal.specs.Questions.{is_time}
use Rattle.refusal.specs.declared.Refusal.{Refusal}
use Rattle.type3.specs.Stamps.{stamp_modulus}
use Rattle.placing.specs.declared.stream.LatestNews.{LatestNews}
use Rattle.placing.specs.declared.stream.Advance.{Advance}
use Rattle.placing.specs.declared.stream.Novelty.{Novelty}
use Rattle.placing.specs.declared.stream.Novelty.TheVariants.{News, Repeat, Late}
use Rattle.placing.specs.Lists.{last, greatest, everywhere, Everywhere}
use Rattle.placing.specs.Nearest.{Agrees, labels_apart, nearest}
use Rattle.placing.specs.Placing.{place}

-- ---- packets and their labels

-- a packet on a stream: its label, when it arrived, and the time that it was made for
pub record Point : Type 0 where
  pub label : ℕ
  pub arrival : ℕ
  pub time : ℕ

-- how much later it arrives than what it was made for
abbrev pub age : Point → ℤ
age x = pos x.arrival -ℤ pos x.time

-- the label, in units of so many milliseconds, is the time that the packet was made for, up to whole spans
abbrev pub Tells : ℕ → ℕ → Point → Type 0
Tells span unit x = Agrees span (pos (x.label * unit)) (pos x.time)

-- stamps tell the time so: they are the time modulo the stamps' modulus
abbrev pub StampsTell : Type 0
StampsTell = (x : Point) → x.label ≡ x.time % stamp_modulus → Tells stamp_modulus 1 x

-- and so do audio labels: they count whole intervals, modulo the width, from a multiple of the width on
abbrev pub LabelsTell : Type 0
LabelsTell =
    (width interval first : ℕ) (x : Point) → first % width ≡ 0 → x.time % interval ≡ 0 → x.label ≡ first + x.time / interval % width
    → Tells (width * interval) interval x

-- ---- placed where it was made

-- Of two packets that arrive one after the other, with ages less than half the span apart, the elapsed time is that between the
-- times they were made for.
abbrev pub PlacedWhereMade : Type 0
PlacedWhereMade =
    (span unit : ℕ) (y x : Point) → Tells span unit y → Tells span unit x → y.arrival ≤ x.arrival → 2 * unsigned_abs (age x -ℤ age y) < span
    → nearest span (labels_apart unit y.label x.label) (x.arrival - y.arrival) ≡ Some (pos x.time -ℤ pos y.time)

-- ---- a list of arrivals on a new stream

pub record Moment : Type 0 where
  pub point : Point
  pub answer : Result (Novelty Advance) Refusal

-- each arrival with its answer, in order
abbrev pub history : ℕ → ℕ → Option LatestNews → List Point → List Moment
history span unit s [] = []
history span unit s (x ∷ xs) =
    let r = place span unit s x.label x.arrival in
    record { point = x; answer = r.0 } ∷ history span unit r.1 xs

-- The age rule. Beside an arrival stands the one of those before that has the latest time, and where several have it, the first
-- that came: the ages of the two lie less than half the span apart.
abbrev pub near_age : ℕ → Point → Option Point → Bool
near_age span x None = true
near_age span x (Some y) = nat_lt (2 * unsigned_abs (age x -ℤ age y)) span

abbrev pub aged : ℕ → List Point → Point → Bool
aged span before x = near_age span x (greatest (λ y. y.time) before)

-- arrivals do not run back, and packets are made for times
abbrev pub in_order : List Point → Point → Bool
in_order before x = is_time x.time && list_all (λ y. nat_le y.arrival x.arrival) before

-- what an arrival is to be answered, beside those before it: the first of them, and the one with the latest time
abbrev pub expected_beside : ℕ → Option Point → Point → Result (Novelty Advance) Refusal
expected_beside start None x = Ok (News (record { elapsed = 0; position = 0 }))
expected_beside start (Some y) x =
    cond (nat_lt y.time x.time) (Ok (News (record { elapsed = x.time - y.time; position = x.time - start })))
    (cond (x.time == y.time) (Ok Repeat) (Ok Late))

abbrev pub start_of : List Point → ℕ
start_of [] = 0
start_of (x ∷ xs) = x.time

abbrev pub expected : List Point → Point → Result (Novelty Advance) Refusal
expected before x = expected_beside (start_of before) (greatest (λ y. y.time) before) x

abbrev pub is_news : {N : Type 0} → Result (Novelty N) Refusal → Bool
is_news (Ok (News n)) = true
is_news (Ok Repeat) = false
is_news (Ok Late) = false
is_news (Err f) = false

abbrev pub points : List Moment → List Point
points [] = []
points (m ∷ ms) = m.point ∷ points ms

-- the time since the latest news before, if there was any
abbrev pub Since : Option Moment → Point → Result (Novelty Advance) Refusal → Type 0
Since None x r = Unit {0}
Since (Some m) x r = (n : Advance) → r ≡ Ok (News n) → m.point.time + n.elapsed ≡ x.time

pub record PlacedRightly (ms : List Moment) : Type 0 where
  -- each answer is the one that the times tell
  pub as_expected : Everywhere (λ before m. m.answer ≡ expected (points before) m.point) [] ms
  -- news exactly when its time is later than those of all before
  pub news_exactly_when_later : Everywhere (λ before m. is_news m.answer ≡ list_all (λ b. nat_lt b.point.time m.point.time) before) [] ms
  -- the elapsed time is that since the news before
  pub elapsed_since_news : Everywhere (λ before m. Since (last (filter (λ b. is_news b.answer) before)) m.point m.answer) [] ms

-- Every list of arrivals on a new stream is placed rightly, where labels tell the time, arrivals are in order, and ages keep
-- their rule.
abbrev pub PlacesRightly : Type 0
PlacesRightly =
    (span unit : ℕ) (xs : List Point) → Everywhere (λ before x. Tells span unit x) [] xs → everywhere in_order [] xs ≡ true
    → everywhere (aged span) [] xs ≡ true → PlacedRightly (history span unit None xs)
