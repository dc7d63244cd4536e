-- What each call is answered, and the streams after it. Assumes nothing.
use Rattle.std.specs.Prelude.{ℕ, cond, List, [], ◌∷◌, Some, None, Ok, Err, Option, Result}
use Rattle.refusal.specs.Questions.{is_time}
use Rattle.refusal.specs.declared.Refusal.{Refusal}
use Rattle.profile.specs.declared.entry.Entry.{Entry}
use Rattle.profile.specs.Examples.{entries_of}
use Rattle.profile.specs.Labels.{span_of, interval_of}
use Rattle.profile.specs.Questions.{refusal}
use Rattle.kinds.specs.Digits.{digits}
use Rattle.kinds.specs.Cas.{cas}
use Rattle.type3.specs.Kinds.{Meaning}
use Rattle.type3.specs.Octets.{read}
use Rattle.type3.specs.declared.payload.Payload.{Payload}
use Rattle.placing.specs.declared.span.Labelling.{Labelling}
use Rattle.placing.specs.declared.stream.Novelty.{Novelty}
use Rattle.placing.specs.declared.receiver.MessageNews.{MessageNews}
use Rattle.placing.specs.Placing.{place}
use Rattle.placing.specs.Receiving.{Inbound, new_receiver, receive}
use Rattle.arrivals.specs.declared.answer.Answer.{Answer}
use Rattle.arrivals.specs.declared.answer.Answer.TheVariants as says
use Rattle.arrivals.specs.declared.call.Call.{Call}
use Rattle.arrivals.specs.declared.call.Call.TheVariants as call
use Rattle.arrivals.specs.declared.call.Packet.{Packet}
use Rattle.arrivals.specs.declared.call.Packet.TheVariants.{Label, Digit as OfDigit, Cas as OfCas}
use Rattle.arrivals.specs.declared.streams.Streams.{Streams}

-- ---- a message stream

module _ {M : Type 0} (k : Meaning M) where
  -- octets that are no payload of the kind change nothing
  abbrev pub hear_by : Inbound M → ℕ → Result (Payload M) Refusal → Result (Novelty (MessageNews M)) Refusal × Inbound M
  hear_by s a (Ok x) = receive k s a x
  hear_by s a (Err f) = (Err f, s)

  -- octets that arrive at a time
  abbrev pub hear : Inbound M → ℕ → List ℕ → Result (Novelty (MessageNews M)) Refusal × Inbound M
  hear s a octets = hear_by s a (read k octets)

-- ---- all streams

-- labels are stamps
abbrev pub new_streams : Streams
new_streams = record { labelling = record { span = 16384; unit = 1 }; labels = None; digits = new_receiver; cas = new_receiver }

-- the stream of labels begins anew
abbrev pub begin : Streams → Labelling → Answer × Streams
begin s l = (says.Begun l.span l.unit, record { labelling = l; labels = None; digits = s.digits; cas = s.cas })

-- with those of a profile of the offered entries, if no question refuses them
abbrev pub load_by : Option Refusal → Streams → List Entry → Answer × Streams
load_by None s es = begin s (record { span = span_of es; unit = interval_of es })
load_by (Some f) s es = (says.Refused f, s)

abbrev pub load : Streams → List Entry → Answer × Streams
load s es = load_by (refusal es) s es

-- what a stream answers
abbrev pub answer_by : {X : Type 0} → (X → Answer) → Result X Refusal → Answer
answer_by by (Ok x) = by x
answer_by by (Err f) = says.Refused f

-- an arrival changes its own stream alone
abbrev pub arrive : Streams → ℕ → Packet → Answer × Streams
arrive s a (Label label) =
    let r = place s.labelling.span s.labelling.unit s.labels label a in
    (answer_by says.Label r.0, record { labelling = s.labelling; labels = r.1; digits = s.digits; cas = s.cas })
arrive s a (OfDigit octets) =
    let r = hear digits s.digits a octets.items in
    (answer_by says.Digit r.0, record { labelling = s.labelling; labels = s.labels; digits = r.1; cas = s.cas })
arrive s a (OfCas octets) =
    let r = hear cas s.cas a octets.items in
    (answer_by says.Cas r.0, record { labelling = s.labelling; labels = s.labels; digits = s.digits; cas = r.1 })

abbrev pub arrive_at : Streams → ℕ → Packet → Answer × Streams
arrive_at s a packet = cond (is_time a) (arrive s a packet) (says.BadLine, s)

abbrev pub answer : Streams → Call → Answer × Streams
answer s call.New = (says.New, new_streams)
answer s (call.Profile example) = load s (entries_of example)
answer s (call.Entry e) = load s (e ∷ [])
answer s (call.Unit unit) = begin s (record { span = s.labelling.span; unit = unit })
answer s (call.Arrives a packet) = arrive_at s a packet
answer s call.DigitInForce = (says.DigitInForce s.digits.force, s)
answer s call.CasInForce = (says.CasInForce s.cas.force, s)
