-- How long keys are held, and how long the pauses are. Assumes nothing.
use Rattle.std.specs.Prelude.{ℕ, ◌-◌, ◌%◌, cond, [], ◌∷◌, slice_index, ◌==◌}

abbrev pub holding_time : ℕ → ℕ
holding_time place = slice_index (120 ∷ 90 ∷ 1100 ∷ 80 ∷ 150 ∷ []) (place % 5)

-- after the key at a place
abbrev pub pause_after : ℕ → ℕ
pause_after place = slice_index (70 ∷ 12000 ∷ 250 ∷ 90 ∷ 60 ∷ []) (place % 5)

-- before the key at a place, of which the first has none
abbrev pub pause_before : ℕ → ℕ
pause_before place = cond (place == 0) 0 (pause_after (place - 1))
