-- An end in set-up: what loading a profile answers, and the profile after it. Assumes nothing.
use Rattle.std.specs.Prelude.{◌≡◌, List, Some, None, Ok, Err, Result}
use Rattle.profile.specs.declared.entry.Entry.{Entry}
use Rattle.profile.specs.Questions.{refusal}
use Rattle.profile.specs.declared.load.LoadError.{LoadError}
use Rattle.profile.specs.declared.load.LoadError.TheVariants.{Refused, Memory}

-- The entry that is wrong refuses the offer. Want of memory comes only where nothing is refused.
abbrev pub Loads : List Entry → Result (Unit {0}) LoadError → Type 0
Loads offered (Ok x) = refusal offered ≡ None
Loads offered (Err (Refused f)) = refusal offered ≡ Some f
Loads offered (Err Memory) = refusal offered ≡ None

-- what did not load leaves the profile as it was
abbrev pub loaded : List Entry → List Entry → Result (Unit {0}) LoadError → List Entry
loaded offered before (Ok x) = offered
loaded offered before (Err e) = before
