-- A notation for messages, and for lists of calls with their answers. Assumes nothing.
use Rattle.std.specs.Prelude.{◌≡◌, ℕ, Bool, true, List, map, Ok, Result, nat_lt}
use Rattle.refusal.specs.declared.Refusal.{Refusal}
use Rattle.kinds.specs.declared.system.System.{System}
use Rattle.kinds.specs.declared.digit.Digit.{Digit}
use Rattle.kinds.specs.declared.cas.CasBits.{CasBits}
use Rattle.kinds.specs.Systems.{number_of}
use Rattle.kinds.specs.Codes.{is_code}
use Rattle.kinds.specs.Digits.{digits}
use Rattle.kinds.specs.Cas.{cas}
use Rattle.profile.specs.declared.entry.Entry.{Entry}
use Rattle.placing.specs.declared.receiver.Class.{Class}
use Rattle.trunk.specs.declared.answer.WhichKind.TheVariants as which
use Rattle.trunk.specs.declared.answer.Stream.{Stream}
use Rattle.trunk.specs.declared.answer.Stream.TheVariants.{Messages}
use Rattle.trunk.specs.declared.answer.Arrived.{Arrived}
use Rattle.trunk.specs.declared.answer.Arrived.TheVariants as arrived
use Rattle.network.specs.declared.side.Side.TheVariants.{Near, Far}
use Rattle.network.specs.Runs.{Call, AnswerTo, Turn, Moment, begun, history}

-- ---- messages

abbrev pub digit : (level : ℕ) (system : System) (code : ℕ) → nat_lt level 32 ≡ true → is_code (number_of system) code ≡ true → Digit
digit level system code low known = record { level = level; system = system; code = code; low = low; known = known }

abbrev pub signal : Bool → Bool → Bool → Bool → CasBits
signal a b c d = record { a = a; b = b; c = c; d = d }

-- ---- calls with their answers

abbrev pub near : (c : Call Digit CasBits) → AnswerTo c → Moment Digit CasBits
near c r = record { side = Near; call = c; answer = r }

abbrev pub far : (c : Call Digit CasBits) → AnswerTo c → Moment Digit CasBits
far c r = record { side = Far; call = c; answer = r }

abbrev pub audio_news : ℕ → ℕ → ℕ → Result (Arrived Digit CasBits) Refusal
audio_news place elapsed position =
    Ok (arrived.Audio (record { place = place; advance = record { elapsed = elapsed; position = position } }))

abbrev pub digit_news : Class → ℕ → ℕ → ℕ → Digit → Result (Arrived Digit CasBits) Refusal
digit_news class redundancy elapsed position d =
    Ok (arrived.First
    (record { class = class; redundancy = redundancy; advance = record { elapsed = elapsed; position = position }; message = d }))

abbrev pub bits_news : Class → ℕ → ℕ → ℕ → CasBits → Result (Arrived Digit CasBits) Refusal
bits_news class redundancy elapsed position m =
    Ok (arrived.Second
    (record { class = class; redundancy = redundancy; advance = record { elapsed = elapsed; position = position }; message = m }))

-- a repeat of the latest news, or late
abbrev pub repeat : Stream → Result (Arrived Digit CasBits) Refusal
repeat stream = Ok (arrived.Repeat stream)

abbrev pub late : Stream → Result (Arrived Digit CasBits) Refusal
late stream = Ok (arrived.Late stream)

-- the streams of an end over digits and signalling bits
abbrev pub of_digits : Stream
of_digits = Messages which.First

abbrev pub of_bits : Stream
of_bits = Messages which.Second

abbrev pub calls_of : List (Moment Digit CasBits) → List (Turn Digit CasBits)
calls_of ms = map (λ m. record { side = m.side; call = m.call }) ms

-- two ends with this profile answer the calls so
abbrev pub Answered : List Entry → List (Moment Digit CasBits) → Type 0
Answered es ms = history digits cas (begun es es) (calls_of ms) ≡ ms
