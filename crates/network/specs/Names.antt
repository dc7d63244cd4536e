-- Sides, kinds and streams by name, and tests whether two are the same. Assumes nothing.
use Rattle.std.specs.Prelude.{Bool, true, false}
use Rattle.type3.specs.declared.payload.Either.{Either}
use Rattle.type3.specs.declared.payload.Either.TheVariants.{First, Second}
use Rattle.trunk.specs.declared.answer.WhichKind.{WhichKind}
use Rattle.trunk.specs.declared.answer.WhichKind.TheVariants as which
use Rattle.trunk.specs.declared.answer.Stream.{Stream}
use Rattle.trunk.specs.declared.answer.Stream.TheVariants.{Audio, Messages}
use Rattle.network.specs.declared.side.Side.{Side}
use Rattle.network.specs.declared.side.Side.TheVariants.{Near, Far}

abbrev pub other : Side → Side
other Near = Far
other Far = Near

abbrev pub same_side : Side → Side → Bool
same_side Near Near = true
same_side Near Far = false
same_side Far Near = false
same_side Far Far = true

abbrev pub same_kind : WhichKind → WhichKind → Bool
same_kind which.First which.First = true
same_kind which.First which.Second = false
same_kind which.Second which.First = false
same_kind which.Second which.Second = true

-- the kind of a message
abbrev pub kind_of : {P Q : Type 0} → Either P Q → WhichKind
kind_of (First m) = which.First
kind_of (Second m) = which.Second

abbrev pub same_stream : Stream → Stream → Bool
same_stream Audio Audio = true
same_stream Audio (Messages w) = false
same_stream (Messages v) Audio = false
same_stream (Messages v) (Messages w) = same_kind v w
