-- Questions in order, and the refusal of the first that is answered no. Assumes nothing.
use Rattle.std.specs.Prelude.{ℕ, Bool, false, cond, ◌&&◌, ◌||◌, List, [], ◌∷◌, Some, None, Ok, Err, Option, Result, ◌==◌, nat_le}

-- A question is a pair: whether it is so, and the refusal where it is not. The questions are put in order. The first that
-- is answered no refuses; where all are answered yes, the call does what it does.
abbrev pub asked : {X Y : Type 0} → List (Bool × X) → (X → Y) → Y → Y
asked [] refuse does = does
asked (q ∷ qs) refuse does = cond q.0 (asked qs refuse does) (refuse q.1)

-- the refusal of the first question answered no, if any
abbrev pub first_no : {X : Type 0} → List (Bool × X) → Option X
first_no qs = asked qs (λ x. Some x) None

-- the answer of a test: nothing, or the refusal
abbrev pub allowed : {X : Type 0} → Option X → Result (Unit {0}) X
allowed None = Ok tt
allowed (Some x) = Err x

-- What a call with a state does, as its answer and the state after it: where nothing is refused, what it does, and otherwise the
-- refusal, with the state as it was.
abbrev pub unless : {S X F : Type 0} → Option F → S → Result X F × S → Result X F × S
unless None s does = does
unless (Some f) s does = (Err f, s)

-- ---- tests that questions use

-- times are the numbers up to 2^40 - 1, and count milliseconds
abbrev pub is_time : ℕ → Bool
is_time t = nat_le t 1099511627775

abbrev pub from_to : ℕ → ℕ → ℕ → Bool
from_to low high n = nat_le low n && nat_le n high

abbrev pub one_of : List ℕ → ℕ → Bool
one_of [] n = false
one_of (x ∷ xs) n = n == x || one_of xs n
