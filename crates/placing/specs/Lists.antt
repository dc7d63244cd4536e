-- Lists in order of time: what stands in them, each beside those before it. Assumes nothing.
use Rattle.std.specs.Prelude.{ℕ, Bool, true, cond, ◌&&◌, List, [], ◌∷◌, ◌++◌, Some, None, Option, nat_lt}
use Rattle.std.specs.List.{cons_option}

abbrev pub last_or : {X : Type 0} → X → List X → X
last_or x [] = x
last_or x (y ∷ ys) = last_or y ys

abbrev pub last : {X : Type 0} → List X → Option X
last [] = None
last (x ∷ xs) = Some (last_or x xs)

-- the one of greater number, of one and what may come after it; of equals, the first
abbrev pub greater : {X : Type 0} → (X → ℕ) → X → Option X → X
greater number x None = x
greater number x (Some y) = cond (nat_lt (number x) (number y)) y x

-- the one with the greatest number; of several, the first
abbrev pub greatest : {X : Type 0} → (X → ℕ) → List X → Option X
greatest number [] = None
greatest number (x ∷ xs) = Some (greater number x (greatest number xs))

-- what is found at each of a list, beside those before it
abbrev pub gather : {X Y : Type 0} → (List X → X → Option Y) → List X → List X → List Y
gather find before [] = []
gather find before (x ∷ xs) = cons_option (find before x) (gather find (before ++ (x ∷ [])) xs)

-- each of a list is so, beside those before it: as a test, and as a statement
abbrev pub everywhere : {X : Type 0} → (List X → X → Bool) → List X → List X → Bool
everywhere test before [] = true
everywhere test before (x ∷ xs) = test before x && everywhere test (before ++ (x ∷ [])) xs

abbrev pub Everywhere : {X : Type 0} → (List X → X → Type 0) → List X → List X → Type 0
Everywhere So before [] = Unit {0}
Everywhere So before (x ∷ xs) = So before x × Everywhere So (before ++ (x ∷ [])) xs
