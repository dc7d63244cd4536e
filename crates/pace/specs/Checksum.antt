-- The checksum of a list of answers. Assumes nothing.
use Rattle.std.specs.Prelude.{ℕ, ◌+◌, ◌*◌, ◌%◌, ◌^◌, Some, None, Ok, Err, Option, Result}
use Rattle.std.specs.Option.{unwrap_or}
use Rattle.refusal.specs.declared.Refusal.{Refusal}
use Rattle.refusal.specs.Numbers.{number_of, cause_of}
use Rattle.type3.specs.declared.payload.Either.{Either}
use Rattle.type3.specs.declared.payload.Either.TheVariants.{First, Second}
use Rattle.kinds.specs.declared.digit.Digit.{Digit}
use Rattle.kinds.specs.declared.cas.CasBits.{CasBits}
use Rattle.kinds.specs.Systems as systems
use Rattle.kinds.specs.Cas.{octet}
use Rattle.placing.specs.declared.stream.Advance.{Advance}
use Rattle.placing.specs.declared.receiver.Class.{Class}
use Rattle.placing.specs.declared.receiver.Class.TheVariants.{Event, Confirmed, Recovered}
use Rattle.placing.specs.declared.receiver.MessageNews.{MessageNews}
use Rattle.trunk.specs.declared.answer.WhichKind.TheVariants as which
use Rattle.trunk.specs.declared.answer.Stream.{Stream}
use Rattle.trunk.specs.declared.answer.Stream.TheVariants.{Audio, Messages}
use Rattle.trunk.specs.declared.answer.Arrived.{Arrived}
use Rattle.trunk.specs.declared.answer.Arrived.TheVariants as arrived

-- the sum so far and a further number, modulo 2^64
abbrev pub add : ℕ → ℕ → ℕ
add sum number = (sum * 31 % 2 ^ 64 + number) % 2 ^ 64

abbrev pub of_digit : Digit → ℕ
of_digit d = d.level * 256 + systems.number_of d.system * 32 + d.code

-- where nothing is in force it is 0
abbrev pub of_force : Option (Either Digit CasBits) → ℕ
of_force (Some (First d)) = add 1 (of_digit d)
of_force (Some (Second m)) = add 1 (octet m)
of_force None = 0

-- which stream moved how far
abbrev pub of_moved : ℕ → Advance → ℕ
of_moved stream m = add (add stream m.elapsed) m.position

abbrev pub of_stream : Stream → ℕ
of_stream Audio = 10
of_stream (Messages which.First) = 20
of_stream (Messages which.Second) = 30

abbrev pub of_class : Class → ℕ
of_class Event = 0
of_class Confirmed = 1
of_class Recovered = 2

-- news of a message with this number
abbrev pub of_news : {M : Type 0} → ℕ → MessageNews M → ℕ → ℕ
of_news stream n message = add (add (add (of_moved stream n.advance) (of_class n.class)) n.redundancy) message

abbrev pub of_refusal : Refusal → ℕ
of_refusal f = add (number_of f) (unwrap_or (cause_of f) 0)

-- an answer to an arrival
abbrev pub of_answer : Result (Arrived Digit CasBits) Refusal → ℕ
of_answer (Ok (arrived.Audio n)) = add (of_moved 10 n.advance) n.place
of_answer (Ok (arrived.First n)) = of_news 20 n (of_digit n.message)
of_answer (Ok (arrived.Second n)) = of_news 30 n (octet n.message)
of_answer (Ok (arrived.Repeat stream)) = of_stream stream + 1
of_answer (Ok (arrived.Late stream)) = of_stream stream + 2
of_answer (Err f) = of_refusal f
