-- What loading answers, with want of memory apart. Assumes nothing.
use Rattle.std.specs.Prelude.{Ok, Err, Result}
use Rattle.refusal.specs.declared.Refusal.{Refusal}
use Rattle.profile.specs.declared.load.LoadError.{LoadError}
use Rattle.profile.specs.declared.load.LoadError.TheVariants.{Refused, Memory}

abbrev pub apart_from_memory : {T : Type 0} → Result T LoadError → Result (Result T Refusal) LoadError
apart_from_memory (Ok x) = Ok (Ok x)
apart_from_memory (Err (Refused f)) = Ok (Err f)
apart_from_memory (Err Memory) = Err Memory
