-- What a due call answers and writes, of the octets that were due. Assumes nothing.
use Rattle.std.specs.Prelude.{ℕ, List, ◌++◌, length, drop, Some, None, Ok, Err, Option, Result}
use Rattle.refusal.specs.declared.Refusal.{Refusal}

-- the number of octets written
abbrev pub counted : Result (Option (List ℕ)) Refusal → Result (Option ℕ) Refusal
counted (Ok (Some o)) = Ok (Some (length o))
counted (Ok None) = Ok None
counted (Err f) = Err f

-- the buffer after: the octets written stand at its start, and the rest is as it was
abbrev pub put : List ℕ → Result (Option (List ℕ)) Refusal → List ℕ
put buffer (Ok (Some o)) = o ++ drop (length o) buffer
put buffer (Ok None) = buffer
put buffer (Err f) = buffer
