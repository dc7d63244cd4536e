-- The number nearest to the gap between two arrivals, among those that agree with the difference of their labels. Assumes nothing.
use Rattle.std.specs.Prelude.{◌≡◌, ℕ, ◌+◌, ◌-◌, ◌*◌, ◌%◌, ◌<◌, cond, ℤ, pos, negsuc, ◌+ℤ◌, ◌-ℤ◌, ◌*ℤ◌, Some, None, Option, ◌≢◌, nat_lt}
use Rattle.std.specs.Prelude.{unsigned_abs}

-- two numbers agree modulo the span where they differ by a whole number of spans
pub record Agrees (span : ℕ) (d e : ℤ) : Type 0 where
  pub turns : ℤ
  pub same : d ≡ e +ℤ turns *ℤ pos span

abbrev pub distance : ℤ → ℕ → ℕ
distance d gap = unsigned_abs (d -ℤ pos gap)

-- d agrees with the labels' difference, and every other number that does is further from the gap
pub record Nearest (span : ℕ) (labels : ℤ) (gap : ℕ) (d : ℤ) : Type 0 where
  pub agrees : Agrees span d labels
  pub nearer : (e : ℤ) → Agrees span e labels → (e ≢ d) → distance d gap < distance e gap

-- the nearest, or that there is none
abbrev pub Found : ℕ → ℤ → ℕ → Option ℤ → Type 0
Found span labels gap None = (d : ℤ) → Nearest span labels gap d → ⊥
Found span labels gap (Some d) = Nearest span labels gap d

-- the difference of two labels that count units of so many milliseconds
abbrev pub labels_apart : ℕ → ℕ → ℕ → ℤ
labels_apart unit from to = (pos to -ℤ pos from) *ℤ pos unit

-- ---- how it is found

-- the rest by the span, from 0 up
abbrev pub rest : ℤ → ℕ → ℕ
rest (pos n) span = n % span
rest (negsuc n) span = span - 1 - n % span

-- the first number from the gap on that agrees, or the last before it, whichever is nearer; none where both are as near
abbrev pub by_rest : ℕ → ℕ → ℕ → Option ℤ
by_rest span gap r =
    cond (nat_lt (2 * r) span) (Some (pos (gap + r)))
    (cond (nat_lt span (2 * r)) (Some (pos (gap + r) -ℤ pos span)) None)

abbrev pub nearest : ℕ → ℤ → ℕ → Option ℤ
nearest span labels gap = by_rest span gap (rest (labels -ℤ pos gap) span)
