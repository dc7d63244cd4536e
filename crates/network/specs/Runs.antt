-- Two ends and a list of calls on them: what is answered, and the two ends after. Assumes nothing.
use Rattle.std.specs.Prelude.{ℕ, List, [], ◌∷◌, length, Option, Result}
use Rattle.refusal.specs.declared.Refusal.{Refusal}
use Rattle.type3.specs.Kinds.{Meaning}
use Rattle.type3.specs.declared.payload.Either.{Either}
use Rattle.profile.specs.declared.entry.Entry.{Entry}
use Rattle.trunk.specs.declared.answer.WhichKind.{WhichKind}
use Rattle.trunk.specs.declared.answer.Arrived.{Arrived}
use Rattle.trunk.specs.End as trunk
use Rattle.trunk.specs.End.{End, started}
use Rattle.network.specs.declared.side.Side.{Side}
use Rattle.network.specs.declared.side.Side.TheVariants.{Near, Far}

-- audio: time, the entry's place, payload; event: time, message; due: which kind, time, room in the buffer; arrive: time, UUI,
-- payload, and which call of the list, from 0, made the packet that it copies, if any
pub data Call (P Q : Type 0) : Type 0 where
  audio : ℕ → ℕ → List ℕ → Call P Q
  event : ℕ → Either P Q → Call P Q
  due : WhichKind → ℕ → ℕ → Call P Q
  arrive : ℕ → ℕ → List ℕ → Option ℕ → Call P Q

-- what a call that is not refused answers: audio the label, event nothing more, due the octets written, if any, arrive what the
-- arrival is
abbrev pub Says : {P Q : Type 0} → Call P Q → Type 0
Says (audio t place payload) = ℕ
Says (event t m) = Unit {0}
Says (due which t room) = Option (List ℕ)
Says {P} {Q} (arrive t uui octets copies) = Arrived P Q

abbrev pub AnswerTo : {P Q : Type 0} → Call P Q → Type 0
AnswerTo c = Result (Says c) Refusal

-- a call at a side
pub record Turn (P Q : Type 0) : Type 0 where
  pub side : Side
  pub call : Call P Q

-- a call at a side, with its answer
pub record Moment (P Q : Type 0) : Type 0 where
  pub side : Side
  pub call : Call P Q
  pub answer : AnswerTo call

pub record Ends (P Q : Type 0) : Type 0 where
  pub near : End P Q
  pub far : End P Q

module _ {P Q : Type 0} where
  abbrev pub end_at : Ends P Q → Side → End P Q
  end_at w Near = w.near
  end_at w Far = w.far

  abbrev pub with_end : Ends P Q → Side → End P Q → Ends P Q
  with_end w Near s = record { near = s; far = w.far }
  with_end w Far s = record { near = w.near; far = s }

  -- two ends that were just started, each with its profile
  abbrev pub begun : List Entry → List Entry → Ends P Q
  begun near far = record { near = started near; far = started far }

  module _ (p : Meaning P) (q : Meaning Q) where
    -- a call on an end: its answer, and the end after it
    abbrev pub done : End P Q → (c : Call P Q) → AnswerTo c × End P Q
    done s (audio t place payload) = trunk.audio s t place (length payload)
    done s (event t m) = trunk.event s t m
    done s (due which t room) = trunk.due p q s which t room
    done s (arrive t uui octets copies) = trunk.arrive p q s t uui octets

    -- the ends after a call, and after all
    abbrev pub taken : Ends P Q → Turn P Q → Ends P Q
    taken w x = with_end w x.side (done (end_at w x.side) x.call).1

    abbrev pub after : Ends P Q → List (Turn P Q) → Ends P Q
    after w [] = w
    after w (x ∷ xs) = after (taken w x) xs

    -- each call with its answer, in order
    abbrev pub moment : Ends P Q → Turn P Q → Moment P Q
    moment w x = record { side = x.side; call = x.call; answer = (done (end_at w x.side) x.call).0 }

    abbrev pub history : Ends P Q → List (Turn P Q) → List (Moment P Q)
    history w [] = []
    history w (x ∷ xs) = moment w x ∷ history (taken w x) xs
