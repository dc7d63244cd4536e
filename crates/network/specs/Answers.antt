-- A host's list of calls and its answers, as the definitions have them. Assumes nothing.
use denote.Bor.{Bor}
use Rattle.std.specs.Prelude.{ℕ, List}
use Rattle.type3.specs.Kinds.{Meaning}
use Rattle.type3.specs.declared.payload.Either.{Either}
use Rattle.trunk.specs.End.{End}
use Rattle.network.specs.declared.call.Call.{Call as HostCall}
use Rattle.network.specs.declared.call.Call.TheVariants.{Audio, Event, Due, Arrive}
use Rattle.network.specs.declared.call.Turn.{Turn as HostTurn}
use Rattle.network.specs.declared.call.Answer.{Answer}
use Rattle.network.specs.declared.call.Answer.TheVariants as answer
use Rattle.network.specs.Runs.{Call, audio, event, due, arrive, AnswerTo, Turn, Moment, Ends, end_at, done}

module _ {P Q : Type 0} where
  abbrev pub call_of : HostCall (Bor (List ℕ)) (Either P Q) → Call P Q
  call_of (Audio time place payload) = audio time place payload.now
  call_of (Event time message) = event time message
  call_of (Due which time room) = due which time room
  call_of (Arrive time uui octets copies) = arrive time uui octets.now copies

  abbrev pub turn_of : HostTurn (Bor (List ℕ)) (Either P Q) → Turn P Q
  turn_of x = record { side = x.side; call = call_of x.call }

  -- an answer by the sort of its call
  abbrev pub said : (c : Call P Q) → AnswerTo c → Answer P Q
  said (audio time place payload) r = answer.Audio r
  said (event time message) r = answer.Event r
  said (due which time room) r = answer.Due r
  said (arrive time uui octets copies) r = answer.Arrive r

  abbrev pub said_at : Moment P Q → Answer P Q
  said_at m = said m.call m.answer

  module _ (p : Meaning P) (q : Meaning Q) where
    -- what a call on an end is answered, and a call at a side of two
    abbrev pub said_by : End P Q → Call P Q → Answer P Q
    said_by s c = said c (done p q s c).0

    abbrev pub answered : Ends P Q → Turn P Q → Answer P Q
    answered w x = said_by (end_at w x.side) x.call
