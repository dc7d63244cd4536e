-- Sending messages: what the calls on a message stream answer, and the stream after them. Assumes nothing.
use Rattle.std.specs.Prelude.{ℕ, ◌+◌, ◌*◌, ◌%◌, min, Bool, true, cond, ◌&&◌, List, [], ◌∷◌, Some, None, Ok, Option, Result, ◌==◌, nat_le}
use Rattle.std.specs.Prelude.{nat_lt}
use Rattle.std.specs.Option.{option_map}
use Rattle.refusal.specs.Questions.{first_no, unless, is_time}
use Rattle.refusal.specs.declared.Refusal.{Refusal}
use Rattle.refusal.specs.declared.Refusal.TheVariants.{Sending}
use Rattle.refusal.specs.declared.SendingFault.TheVariants.{TimeOutOfRange, BehindClock, NotLater, BufferTooShort}
use Rattle.type3.specs.Kinds.{Meaning}
use Rattle.type3.specs.Stamps.{stamp_modulus}
use Rattle.type3.specs.Octets.{written}
use Rattle.type3.specs.declared.payload.Payload.{Payload}
use Rattle.sending.specs.declared.event.Event.{Event}
use Rattle.sending.specs.declared.event.DuePacket.{DuePacket}

-- The sending half of a message stream: the time of the latest call that was not refused, the latest event, how many copies of
-- it went out, when the next refresh is due, and when the last refresh went out.
pub record Outbound (M : Type 0) : Type 0 where
  pub clock : ℕ
  pub latest : Option (Event M)
  pub copies : ℕ
  pub refresh : Option ℕ
  pub refreshed : Option ℕ

-- the time of the latest event is in the range of times
abbrev pub event_in_range : {M : Type 0} → Option (Event M) → Bool
event_in_range None = true
event_in_range (Some e) = is_time e.time

-- later than another time, if there is one
abbrev pub later : Option ℕ → ℕ → Bool
later None t = true
later (Some u) t = nat_lt u t

abbrev pub later_than_event : {M : Type 0} → Option (Event M) → ℕ → Bool
later_than_event None t = true
later_than_event (Some e) t = nat_lt e.time t

module _ {M : Type 0} where
  abbrev pub new_sender : Outbound M
  new_sender = record { clock = 0; latest = None; copies = 0; refresh = None; refreshed = None }

  -- later than the latest event and than the last refresh, so than all that the stream's packets are made for
  abbrev pub later_than_made : Outbound M → ℕ → Bool
  later_than_made s t = later_than_event s.latest t && later s.refreshed t

  -- ---- an event

  abbrev pub event_questions : Outbound M → ℕ → List (Bool × Refusal)
  event_questions s t =
      (is_time t, Sending TimeOutOfRange)
      ∷ (nat_le s.clock t, Sending BehindClock)
      ∷ (later_than_made s t, Sending NotLater)
      ∷ []

  -- it ends what was due of an earlier one
  abbrev pub after_event : Outbound M → Event M → Outbound M
  after_event s e = record { clock = e.time; latest = Some e; copies = 0; refresh = None; refreshed = s.refreshed }

  abbrev pub event : Outbound M → ℕ → M → Result (Unit {0}) Refusal × Outbound M
  event s t m = unless (first_no (event_questions s t)) s (Ok tt, after_event s (record { time = t; message = m }))

  -- ---- what is due

  -- the refresh at a call at t, if it is due by then; what it is made for is t too
  abbrev pub refresh_due : Option ℕ → ℕ → M → Option (DuePacket M)
  refresh_due None t m = None
  refresh_due (Some moment) t m = cond (nat_le moment t) (Some (record { redundancy = 3; time = t; message = m })) None

  -- the next copy while any is left, 5 ms after the copy before it and the first at once, with the time of the event; after them a
  -- refresh
  abbrev pub due_by : Outbound M → ℕ → Option (Event M) → Option (DuePacket M)
  due_by s t None = None
  due_by s t (Some e) =
      cond (nat_lt s.copies 3)
      (cond (nat_le (e.time + 5 * s.copies) t) (Some (record { redundancy = s.copies; time = e.time; message = e.message })) None)
      (refresh_due s.refresh t e.message)

  -- the packet that a call at t sends, if one is due
  abbrev pub due_of : Outbound M → ℕ → Option (DuePacket M)
  due_of s t = due_by s t s.latest

  -- what a packet says: its stamp is that of the time that it is made for
  abbrev pub said_by : DuePacket M → Payload M
  said_by d = record { redundancy = d.redundancy; stamp = d.time % stamp_modulus; message = d.message }

  abbrev pub after_nothing : Outbound M → ℕ → Outbound M
  after_nothing s t = record { clock = t; latest = s.latest; copies = s.copies; refresh = s.refresh; refreshed = s.refreshed }

  module _ (k : Meaning M) where
    abbrev pub octets_of : DuePacket M → List ℕ
    octets_of d = written k (said_by d)

    -- when a refresh is due after a packet was sent at t, the last copy or a refresh: a gap later, or never
    abbrev pub next_refresh : ℕ → M → Option ℕ
    next_refresh t m = option_map (λ gap. t + gap) (k.gap m)

    abbrev pub after_packet : Outbound M → ℕ → DuePacket M → Outbound M
    after_packet s t d = record {
      clock = t;
      latest = s.latest;
      copies = min (d.redundancy + 1) 3;
      refresh = cond (nat_le 2 d.redundancy) (next_refresh t d.message) s.refresh;
      refreshed = cond (d.redundancy == 3) (Some t) s.refreshed;
    }

    abbrev pub sent : Outbound M → ℕ → Option (DuePacket M) → Result (Option (List ℕ)) Refusal × Outbound M
    sent s t None = (Ok None, after_nothing s t)
    sent s t (Some d) = (Ok (Some (octets_of d)), after_packet s t d)

    abbrev pub due_questions : Outbound M → ℕ → ℕ → List (Bool × Refusal)
    due_questions s t room =
        (is_time t, Sending TimeOutOfRange)
        ∷ (nat_le s.clock t, Sending BehindClock)
        ∷ (nat_le (k.len + 4) room, Sending BufferTooShort)
        ∷ []

    -- What is due at a time, in so much room: the octets of a packet, or nothing. All is asked whether or not anything is due.
    abbrev pub due : Outbound M → ℕ → ℕ → Result (Option (List ℕ)) Refusal × Outbound M
    due s t room = unless (first_no (due_questions s t room)) s (sent s t (due_of s t))
