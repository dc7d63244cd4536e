-- What each call is answered, and the streams after it. Assumes nothing.
use Rattle.std.specs.Prelude.{ℕ, List, Some, None, Ok, Err, Option, Result}
use Rattle.refusal.specs.declared.Refusal.{Refusal}
use Rattle.profile.specs.declared.entry.Entry.{Entry}
use Rattle.profile.specs.Examples.{entries_of}
use Rattle.kinds.specs.declared.digit.Digit.{Digit}
use Rattle.kinds.specs.declared.cas.CasBits.{CasBits}
use Rattle.kinds.specs.Digits.{digits}
use Rattle.kinds.specs.Cas.{cas}
use Rattle.sending.specs.Audio.{audio}
use Rattle.sending.specs.Sending.{Outbound, new_sender, event, due}
use Rattle.timing.specs.declared.answer.Answer.{Answer}
use Rattle.timing.specs.declared.answer.Answer.TheVariants as says
use Rattle.timing.specs.declared.audio.Audio.{Audio}
use Rattle.timing.specs.declared.call.Call.{Call}
use Rattle.timing.specs.declared.call.Call.TheVariants as call
use Rattle.timing.specs.declared.streams.Streams.{Streams}

-- what a stream answers
abbrev pub answer_by : {X : Type 0} → (X → Answer) → Result X Refusal → Answer
answer_by by (Ok x) = by x
answer_by by (Err f) = says.Refused f

abbrev pub accepted : Unit {0} → Answer
accepted x = says.Accepted

abbrev pub packet : Option (List ℕ) → Answer
packet (Some octets) = says.Octets octets
packet None = says.Nothing

-- ---- all streams

abbrev pub new_streams : Streams
new_streams = record { digits = new_sender; cas = new_sender; audio = None }

-- new audio under a profile
abbrev pub new_audio : List Entry → Audio
new_audio es = record { profile = es; sender = 0 }

abbrev pub with_digits : Streams → Outbound Digit → Streams
with_digits s digits = record { digits = digits; cas = s.cas; audio = s.audio }

abbrev pub with_cas : Streams → Outbound CasBits → Streams
with_cas s cas = record { digits = s.digits; cas = cas; audio = s.audio }

abbrev pub with_audio : Streams → Audio → Streams
with_audio s a = record { digits = s.digits; cas = s.cas; audio = Some a }

-- audio, where a profile was chosen
abbrev pub audio_at : Streams → Option Audio → ℕ → ℕ → ℕ → Answer × Streams
audio_at s None t place n = (says.BadLine, s)
audio_at s (Some a) t place n =
    let r = audio a.profile a.sender t place n in
    (answer_by says.Uui r.0, with_audio s (record { profile = a.profile; sender = r.1 }))

abbrev pub answer : Streams → Call → Answer × Streams
answer s call.New = (says.New, new_streams)
answer s (call.Profile example) = (says.Loaded, with_audio s (new_audio (entries_of example)))
answer s (call.Audio t place n) = audio_at s s.audio t place n
answer s (call.Digit t (Ok d)) = let r = event s.digits t d in (answer_by accepted r.0, with_digits s r.1)
answer s (call.Digit t (Err f)) = (says.Refused f, s)
answer s (call.Cas t m) = let r = event s.cas t m in (answer_by accepted r.0, with_cas s r.1)
answer s (call.DueDigit t room) = let r = due digits s.digits t room.octets in (answer_by packet r.0, with_digits s r.1)
answer s (call.DueCas t room) = let r = due cas s.cas t room.octets in (answer_by packet r.0, with_cas s r.1)
