-- Receiving messages. Assumes nothing.
use Rattle.std.specs.Prelude.{ℕ, Bool, false, cond, List, codes, Some, None, Ok, Err, Option, Result, nat_lt}
use Rattle.refusal.specs.declared.Refusal.{Refusal}
use Rattle.type3.specs.Kinds.{Meaning}
use Rattle.type3.specs.Stamps.{stamp_modulus}
use Rattle.type3.specs.declared.payload.Payload.{Payload}
use Rattle.placing.specs.declared.stream.LatestNews.{LatestNews}
use Rattle.placing.specs.declared.stream.Advance.{Advance}
use Rattle.placing.specs.declared.stream.Novelty.{Novelty}
use Rattle.placing.specs.declared.stream.Novelty.TheVariants.{News, Repeat, Late}
use Rattle.placing.specs.declared.receiver.Class.{Class}
use Rattle.placing.specs.declared.receiver.Class.TheVariants.{Event, Confirmed, Recovered}
use Rattle.placing.specs.declared.receiver.MessageNews.{MessageNews}
use Rattle.placing.specs.Placing.{place}

-- what is printed of news' class
abbrev pub text_of : Class → List ℕ
text_of Event = codes "event"
text_of Confirmed = codes "confirmed"
text_of Recovered = codes "recovered"

-- The receiving half of a message stream: the latest news, and the message in force.
pub record Inbound (M : Type 0) : Type 0 where
  pub last_news : Option LatestNews
  pub force : Option M

module _ {M : Type 0} where
  abbrev pub new_receiver : Inbound M
  new_receiver = record { last_news = None; force = None }

  module _ (k : Meaning M) where
    -- whether a message is in force already
    abbrev pub in_force : Option M → M → Bool
    in_force None m = false
    in_force (Some n) m = k.same n m

    -- a copy of an event is an event; a refresh confirms what is in force, or recovers what was lost
    abbrev pub class_of : Option M → Payload M → Class
    class_of force x = cond (nat_lt x.redundancy 3) Event (cond (in_force force x.message) Confirmed Recovered)

    abbrev pub novelty_as : Option M → Payload M → Novelty Advance → Novelty (MessageNews M)
    novelty_as force x (News m) =
        News (record { class = class_of force x; redundancy = x.redundancy; advance = m; message = x.message })
    novelty_as force x Repeat = Repeat
    novelty_as force x Late = Late

    -- the message of news is in force then
    abbrev pub force_after : Option M → M → Novelty Advance → Option M
    force_after force m (News n) = Some m
    force_after force m Repeat = force
    force_after force m Late = force

    abbrev pub receive_by : Inbound M → Payload M → Result (Novelty Advance) Refusal → Option LatestNews
        → Result (Novelty (MessageNews M)) Refusal × Inbound M
    receive_by s x (Err f) last_news = (Err f, s)
    receive_by s x (Ok n) last_news =
        (Ok (novelty_as s.force x n), record { last_news = last_news; force = force_after s.force x.message n })

    -- what a payload that was read says, arriving at a time
    abbrev pub receive : Inbound M → ℕ → Payload M → Result (Novelty (MessageNews M)) Refusal × Inbound M
    receive s a x = let p = place stamp_modulus 1 s.last_news x.stamp a in receive_by s x p.0 p.1
