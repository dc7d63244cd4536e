-- What loading answers. Assumes nothing.
use Rattle.std.specs.Prelude.{◌≡◌, ℕ, List, codes, Some, None, Ok, Err, Result}
use Rattle.refusal.specs.Numbers as refusals
use Rattle.profile.specs.declared.entry.Entry.{Entry}
use Rattle.profile.specs.declared.load.LoadError.{LoadError}
use Rattle.profile.specs.declared.load.LoadError.TheVariants.{Refused, Memory}
use Rattle.profile.specs.Questions.{refusal}

-- Exactly the refusal of the offered entries; or, where none is refused, a profile of just these entries. Memory may then be
-- wanting: when, is not said.
abbrev pub Loads : List Entry → Result (List Entry) LoadError → Type 0
Loads offered (Ok p) = (refusal offered ≡ None) × (p ≡ offered)
Loads offered (Err (Refused f)) = refusal offered ≡ Some f
Loads offered (Err Memory) = refusal offered ≡ None

-- what is printed of the failure
abbrev pub text_of : LoadError → List ℕ
text_of (Refused f) = refusals.text_of f
text_of Memory = codes "no memory for the profile"
