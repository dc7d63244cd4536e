-- The calls on an end in service: what each is answered, and the end after it. Assumes nothing.
use Rattle.std.specs.Prelude.{ℕ, List, Some, None, Ok, Err, Option, Result}
use Rattle.refusal.specs.declared.Refusal.{Refusal}
use Rattle.type3.specs.declared.payload.Either.{Either}
use Rattle.type3.specs.declared.payload.Either.TheVariants.{First, Second}
use Rattle.kinds.specs.declared.digit.Digit.{Digit}
use Rattle.kinds.specs.declared.cas.CasBits.{CasBits}
use Rattle.kinds.specs.Digits.{digits, make}
use Rattle.kinds.specs.Cas.{cas}
use Rattle.trunk.specs.End as trunk
use Rattle.trunk.specs.End.{End}
use Rattle.session.specs.declared.call.Message.{Message}
use Rattle.session.specs.declared.call.Message.TheVariants.{Digit as OfDigit, Cas as OfCas}
use Rattle.session.specs.declared.call.ServiceCall.{ServiceCall}
use Rattle.session.specs.declared.call.ServiceCall.TheVariants.{Audio, Event, Due, Arrive, Force}
use Rattle.session.specs.declared.answer.Answer.{Answer}
use Rattle.session.specs.declared.answer.Answer.TheVariants.{Done, Label, Nothing, Sent, Arrived, InForce}

abbrev pub Service : Type 0
Service = End Digit CasBits

-- the answer to a call of the end, where it is not refused
abbrev pub answer_by : {X : Type 0} → (X → Answer) → Result X Refusal → Result Answer Refusal
answer_by by (Ok x) = Ok (by x)
answer_by by (Err f) = Err f

abbrev pub packet : Option (List ℕ) → Answer
packet (Some octets) = Sent octets
packet None = Nothing

-- so many octets of audio
abbrev pub label : Service → ℕ → ℕ → ℕ → Result Answer Refusal × Service
label s t place n = let r = trunk.audio s t place n in (answer_by Label r.0, r.1)

-- the digit of the parts that were given, or the signalling bits
abbrev pub message_of_digit : Result Digit Refusal → Result (Either Digit CasBits) Refusal
message_of_digit (Ok d) = Ok (First d)
message_of_digit (Err f) = Err f

abbrev pub message_of : Message → Result (Either Digit CasBits) Refusal
message_of (OfDigit type code dbm0) = message_of_digit (make type code dbm0)
message_of (OfCas bits) = Ok (Second bits)

-- what is no message is refused before the end is asked
abbrev pub event_of : Service → ℕ → Result (Either Digit CasBits) Refusal → Result Answer Refusal × Service
event_of s t (Ok m) = let r = trunk.event s t m in (answer_by (λ _. Done) r.0, r.1)
event_of s t (Err f) = (Err f, s)

abbrev pub serve : Service → ServiceCall → Result Answer Refusal × Service
serve s (Audio t place n) = label s t place n
serve s (Event t m) = event_of s t (message_of m)
serve s (Due which t room) = let r = trunk.due digits cas s which t room in (answer_by packet r.0, r.1)
serve s (Arrive t uui octets) = let r = trunk.arrive digits cas s t uui octets.items in (answer_by Arrived r.0, r.1)
serve s (Force which) = (Ok (InForce (trunk.in_force s which)), s)
