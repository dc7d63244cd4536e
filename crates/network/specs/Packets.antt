-- What the calls of a list made and took, read off the calls and their answers. Assumes nothing.
use Rattle.std.specs.Prelude.{ℕ, cond, List, [], take, Some, None, Ok, Err, Option, Result, ◌==◌, nat_le}
use Rattle.std.specs.List.{slice_get, filter}
use Rattle.std.specs.Option.{option_map}
use Rattle.refusal.specs.declared.Refusal.{Refusal}
use Rattle.type3.specs.Octets.{redundancy_in}
use Rattle.type3.specs.declared.payload.Either.{Either}
use Rattle.type3.specs.declared.payload.Either.TheVariants.{First, Second}
use Rattle.sending.specs.declared.event.Event.{Event}
use Rattle.placing.specs.Lists.{greatest, gather}
use Rattle.trunk.specs.declared.answer.WhichKind.{WhichKind}
use Rattle.trunk.specs.declared.answer.Arrived.{Arrived}
use Rattle.trunk.specs.declared.answer.Arrived.TheVariants as arrived
use Rattle.trunk.specs.declared.answer.Stream.{Stream}
use Rattle.trunk.specs.declared.answer.Stream.TheVariants.{Audio, Messages}
use Rattle.network.specs.declared.side.Side.{Side}
use Rattle.network.specs.Names.{same_side, same_kind, kind_of}
use Rattle.network.specs.Runs.{Call, audio, event, due, arrive, AnswerTo, Moment}

-- what a packet carries: audio under the entry at a place, or a message
pub data Content (P Q : Type 0) : Type 0 where
  entry : ℕ → Content P Q
  message : Either P Q → Content P Q

-- a packet that was made: the time that it was made for, what it carries, and what goes over the network
pub record Packet (P Q : Type 0) : Type 0 where
  pub time : ℕ
  pub content : Content P Q
  pub uui : ℕ
  pub octets : List ℕ

-- what news names, and the time since the news before
pub record Named (P Q : Type 0) : Type 0 where
  pub content : Content P Q
  pub elapsed : ℕ

-- an arrival: its side and time, the packet's UUI and octets, the call whose packet it copies, if any, and what its answer names, if
-- it is news
pub record Arrival (P Q : Type 0) : Type 0 where
  pub side : Side
  pub time : ℕ
  pub uui : ℕ
  pub octets : List ℕ
  pub copies : Option ℕ
  pub news : Option (Named P Q)

-- of the events up to a time, the message of the latest
abbrev pub had_of : {M : Type 0} → ℕ → List (Event M) → Option M
had_of t es = option_map (λ e. e.message) (greatest (λ e. e.time) (filter (λ e. nat_le e.time t) es))

module _ {P Q : Type 0} where
  -- ---- events, and what a side had

  -- the event that a call brought, if it was accepted
  abbrev pub accepted : (c : Call P Q) → AnswerTo c → Option (Event (Either P Q))
  accepted (event t m) (Ok x) = Some (record { time = t; message = m })
  accepted (event t m) (Err f) = None
  accepted (audio t place payload) r = None
  accepted (due which t room) r = None
  accepted (arrive t uui octets copies) r = None

  -- the accepted events of a kind at a side
  abbrev pub events : Side → WhichKind → List (Moment P Q) → List (Event (Either P Q))
  events side which h =
      filter (λ e. same_kind (kind_of e.message) which)
      (gather (λ before m. cond (same_side side m.side) (accepted m.call m.answer) None) [] h)

  -- the message that a side had at a time: of the events that it accepted, that of the latest up to then
  abbrev pub had : Side → WhichKind → ℕ → List (Moment P Q) → Option (Either P Q)
  had side which t h = had_of t (events side which h)

  -- ---- packets

  -- a packet of an event: a refresh, made for when it is sent, or a copy, made for when the event was
  abbrev pub of_event : ℕ → List ℕ → Event (Either P Q) → Packet P Q
  of_event t o e = record { time = cond (redundancy_in o == 3) t e.time; content = message e.message; uui = 24; octets = o }

  -- the packet that a call made, if it made one: of audio, or of the latest event before it
  abbrev pub made : List (Moment P Q) → Side → (c : Call P Q) → AnswerTo c → Option (Packet P Q)
  made before side (audio t place payload) (Ok uui) = Some (record { time = t; content = entry place; uui = uui; octets = payload })
  made before side (audio t place payload) (Err f) = None
  made before side (due which t room) (Ok (Some o)) = option_map (of_event t o) (greatest (λ e. e.time) (events side which before))
  made before side (due which t room) (Ok None) = None
  made before side (due which t room) (Err f) = None
  made before side (event t m) r = None
  made before side (arrive t uui octets copies) r = None

  -- the packet that the call at a place of the list made, if the call was a side's
  abbrev pub made_at : Side → List (Moment P Q) → Option (Moment P Q) → Option (Packet P Q)
  made_at side before None = None
  made_at side before (Some m) = cond (same_side side m.side) (made before side m.call m.answer) None

  abbrev pub packet_from : Side → List (Moment P Q) → Option ℕ → Option (Packet P Q)
  packet_from side h None = None
  packet_from side h (Some i) = made_at side (take i h) (slice_get h i)

  abbrev pub stream_of : Content P Q → Stream
  stream_of (entry place) = Audio
  stream_of (message m) = Messages (kind_of m)

  -- ---- arrivals

  -- what an answer names, if it is news
  abbrev pub named : Arrived P Q → Option (Named P Q)
  named (arrived.Audio n) = Some (record { content = entry n.place; elapsed = n.advance.elapsed })
  named (arrived.First n) = Some (record { content = message (First n.message); elapsed = n.advance.elapsed })
  named (arrived.Second n) = Some (record { content = message (Second n.message); elapsed = n.advance.elapsed })
  named (arrived.Repeat stream) = None
  named (arrived.Late stream) = None

  -- a refusal is no news
  abbrev pub news_of : Result (Arrived P Q) Refusal → Option (Named P Q)
  news_of (Ok x) = named x
  news_of (Err f) = None

  abbrev pub arrival_by : Side → (c : Call P Q) → AnswerTo c → Option (Arrival P Q)
  arrival_by side (arrive t uui o copies) r =
      Some (record { side = side; time = t; uui = uui; octets = o; copies = copies; news = news_of r })
  arrival_by side (audio t place payload) r = None
  arrival_by side (event t m) r = None
  arrival_by side (due which t room) r = None

  -- the arrival of a moment, if its call is one
  abbrev pub arrival : Moment P Q → Option (Arrival P Q)
  arrival m = arrival_by m.side m.call m.answer

  -- the arrivals at a side
  abbrev pub arrivals : Side → List (Moment P Q) → List (Arrival P Q)
  arrivals side h = filter (λ x. same_side side x.side) (gather (λ before m. arrival m) [] h)
