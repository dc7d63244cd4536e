-- What is heard of the dialling. Assumes nothing.
use Rattle.std.specs.Prelude.{ℕ, ◌-◌, Bool, true, false, cond, List, [], ◌∷◌, ◌++◌, Some, None, Ok, Err, Option, Result, ◌==◌}
use Rattle.std.specs.Option.{option_map, option_to_list}
use Rattle.refusal.specs.declared.Refusal.{Refusal}
use Rattle.placing.specs.declared.receiver.Class.{Class}
use Rattle.placing.specs.declared.receiver.Class.TheVariants.{Event, Confirmed, Recovered}
use Rattle.placing.specs.declared.receiver.MessageNews.{MessageNews}
use Rattle.kinds.specs.declared.cas.CasBits.{CasBits}
use Rattle.kinds.specs.declared.digit.Digit.{Digit}
use Rattle.trunk.specs.declared.answer.Arrived.{Arrived}
use Rattle.trunk.specs.declared.answer.Arrived.TheVariants as arrived
use Rattle.network.specs.declared.call.Answer.{Answer}
use Rattle.network.specs.declared.call.Answer.TheVariants as answer
use Rattle.dialling.specs.declared.tone.Tone.{Tone}
use Rattle.dialling.specs.declared.heard.KeyOn.{KeyOn}
use Rattle.dialling.specs.declared.heard.Listener.{Listener}

-- a refresh that confirms a message says nothing new
abbrev pub is_new : Class → Bool
is_new Event = true
is_new Confirmed = false
is_new Recovered = true

abbrev pub silent : Listener
silent = record { on = None; ended = 0 }

-- The tone that a new digit at a position ends: as long as from its own position, after a pause since the tone before.
abbrev pub tone : ℕ → ℕ → KeyOn → Tone
tone ended position on = record { key = on.key; pause = on.at - ended; held = position - on.at }

abbrev pub ends : Listener → ℕ → Option Tone
ends listener position = option_map (tone listener.ended position) listener.on

-- code 31 begins none
abbrev pub begins : Digit → ℕ → Option KeyOn
begins digit position = cond (digit.code == 31) None (Some (record { key = digit; at = position }))

abbrev pub end_before : ℕ → ℕ → Option KeyOn → ℕ
end_before before position None = before
end_before before position (Some on) = position

abbrev pub after : Listener → Digit → ℕ → Listener
after listener digit position = record { on = begins digit position; ended = end_before listener.ended position listener.on }

-- what an answer says of a new digit: it, and its position
abbrev pub digit_of_news : MessageNews Digit → Option (Digit × ℕ)
digit_of_news news = cond (is_new news.class) (Some (news.message, news.advance.position)) None

abbrev pub digit_of_arrival : Result (Arrived Digit CasBits) Refusal → Option (Digit × ℕ)
digit_of_arrival (Ok (arrived.Audio x)) = None
digit_of_arrival (Ok (arrived.First x)) = digit_of_news x
digit_of_arrival (Ok (arrived.Second x)) = None
digit_of_arrival (Ok (arrived.Repeat stream)) = None
digit_of_arrival (Ok (arrived.Late stream)) = None
digit_of_arrival (Err f) = None

abbrev pub new_digit : Answer Digit CasBits → Option (Digit × ℕ)
new_digit (answer.Audio x) = None
new_digit (answer.Event x) = None
new_digit (answer.Due x) = None
new_digit (answer.Arrive x) = digit_of_arrival x

abbrev pub hears_digit : Listener → Option (Digit × ℕ) → Option Tone × Listener
hears_digit listener None = (None, listener)
hears_digit listener (Some x) = (ends listener x.1, after listener x.0 x.1)

abbrev pub hears : Listener → Answer Digit CasBits → Option Tone × Listener
hears listener x = hears_digit listener (new_digit x)

-- the tones that answers tell of, one after another
abbrev pub tones_from : Listener → List (Answer Digit CasBits) → List Tone
tones_from listener [] = []
tones_from listener (x ∷ xs) = option_to_list (hears listener x).0 ++ tones_from (hears listener x).1 xs

abbrev pub tones_heard : List (Answer Digit CasBits) → List Tone
tones_heard xs = tones_from silent xs
