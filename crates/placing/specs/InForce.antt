-- The message in force on a new stream of messages, after a list of arrivals on it. Assumes nothing.
use Rattle.std.specs.Prelude.{◌≡◌, ℕ, List, [], ◌∷◌, Result}
use Rattle.std.specs.List.{filter}
use Rattle.std.specs.Option.{option_map}
use Rattle.refusal.specs.declared.Refusal.{Refusal}
use Rattle.type3.specs.Kinds.{Meaning}
use Rattle.type3.specs.declared.payload.Payload.{Payload}
use Rattle.placing.specs.declared.stream.Novelty.{Novelty}
use Rattle.placing.specs.declared.receiver.MessageNews.{MessageNews}
use Rattle.placing.specs.Lists.{last}
use Rattle.placing.specs.Arrivals.{is_news}
use Rattle.placing.specs.Receiving.{Inbound, new_receiver, receive}

module _ {M : Type 0} (k : Meaning M) where
  -- what a payload that was read says, and when it arrived
  pub record Arrival : Type 0 where
    pub time : ℕ
    pub says : Payload M

  pub record Heard : Type 0 where
    pub arrival : Arrival
    pub answer : Result (Novelty (MessageNews M)) Refusal

  abbrev pub heard : Inbound M → List Arrival → List Heard
  heard s [] = []
  heard s (x ∷ xs) = let r = receive k s x.time x.says in record { arrival = x; answer = r.0 } ∷ heard r.1 xs

  abbrev pub after : Inbound M → List Arrival → Inbound M
  after s [] = s
  after s (x ∷ xs) = after (receive k s x.time x.says).1 xs

  -- on a new stream, the message in force is that of the latest news, and there is none before any
  abbrev pub InForceIsTheLatestNews : Type 0
  InForceIsTheLatestNews =
      (xs : List Arrival) → (after new_receiver xs).force
      ≡ option_map (λ h. h.arrival.says.message) (last (filter (λ h. is_news h.answer) (heard new_receiver xs)))
