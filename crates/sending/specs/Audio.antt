-- Sending audio. A sender holds the time before which no packet may start: 0 at first, and then the end of the last accepted
-- packet. Assumes nothing.
use Rattle.std.specs.Prelude.{ℕ, ◌+◌, ◌%◌, Bool, List, [], ◌∷◌, Some, None, Ok, Err, Option, Result, ◌==◌, nat_le}
use Rattle.std.specs.List.{slice_get}
use Rattle.refusal.specs.Questions.{first_no, unless, is_time}
use Rattle.refusal.specs.declared.Refusal.{Refusal}
use Rattle.refusal.specs.declared.Refusal.TheVariants.{Sending}
use Rattle.refusal.specs.declared.SendingFault.TheVariants.{TimeOutOfRange, NoEntry, PayloadLength, OffInterval, Overlap}
use Rattle.profile.specs.declared.entry.Entry.{Entry}
use Rattle.profile.specs.Labels.{label}

-- what n octets from a time on are asked under an entry
abbrev pub audio_questions : ℕ → ℕ → ℕ → Entry → List (Bool × Refusal)
audio_questions free t n e =
    ((n == e.length), Sending PayloadLength)
    ∷ ((t % e.interval == 0), Sending OffInterval)
    ∷ (nat_le free t, Sending Overlap)
    ∷ []

abbrev pub audio_under : ℕ → ℕ → ℕ → Option Entry → Result ℕ Refusal × ℕ
audio_under free t n None = (Err (Sending NoEntry), free)
audio_under free t n (Some e) = unless (first_no (audio_questions free t n e)) free (Ok (label e t), t + e.packet_time)

-- the label of n octets of audio from a time on, under the entry at a place
abbrev pub audio : List Entry → ℕ → ℕ → ℕ → ℕ → Result ℕ Refusal × ℕ
audio es free t place n = unless (first_no ((is_time t, Sending TimeOutOfRange) ∷ [])) free (audio_under free t n (slice_get es place))
