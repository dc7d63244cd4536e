-- Lists of calls on a new message stream, and what is true of what they send, in terms of events, packets and times.
-- Assumes nothing.
use Rattle.std.specs.Prelude.{◌≡◌, ℕ, zero, suc, ◌+◌, ◌-◌, ◌*◌, ◌%◌, ◌<◌, ◌≤◌, min, true, cond, ◌&&◌, List, [], ◌∷◌, ◌++◌, length, Some}
use Rattle.std.specs.Prelude.{None, Ok, Err, Option, Result, ◌==◌, nat_le, nat_lt}
use Rattle.refusal.specs.Questions.{is_time}
use Rattle.refusal.specs.declared.Refusal.{Refusal}
use Rattle.type3.specs.Kinds.{Meaning}
use Rattle.sending.specs.declared.event.Event.{Event}
use Rattle.sending.specs.Sending as on
use Rattle.sending.specs.Sending.{Outbound, new_sender, due_of}
use Rattle.sending.specs.declared.event.DuePacket.{DuePacket}

-- an event with its time and message, or a due call with its time and the room in its buffer
pub data SenderCall (M : Type 0) : Type 0 where
  event : ℕ → M → SenderCall M
  due : ℕ → ℕ → SenderCall M

-- what a call did: its event was accepted, or it made a packet at its time, or neither
pub data Outcome (M : Type 0) : Type 0 where
  accepted : Event M → Outcome M
  made : ℕ → DuePacket M → Outcome M
  neither : Outcome M

module _ {M : Type 0} where
  abbrev pub did_event : Event M → Result (Unit {0}) Refusal → Outcome M
  did_event e (Ok x) = accepted e
  did_event e (Err f) = neither

  -- the answer of a due call, beside the packet that was due
  abbrev pub did_due : ℕ → Option (DuePacket M) → Result (Option (List ℕ)) Refusal → Outcome M
  did_due t d (Err f) = neither
  did_due t None (Ok o) = neither
  did_due t (Some d) (Ok o) = made t d

  module _ (k : Meaning M) where
    abbrev pub does : Outbound M → SenderCall M → Outcome M
    does s (event t m) = did_event (record { time = t; message = m }) (on.event s t m).0
    does s (due t room) = did_due t (due_of s t) (on.due k s t room).0

    abbrev pub step : Outbound M → SenderCall M → Outbound M
    step s (event t m) = (on.event s t m).1
    step s (due t room) = (on.due k s t room).1

    -- what each call of a list did, in order
    abbrev pub history : Outbound M → List (SenderCall M) → List (Outcome M)
    history s [] = []
    history s (c ∷ cs) = does s c ∷ history (step s c) cs

-- ---- words for a history

module _ {M : Type 0} where
  -- the latest event that was accepted
  abbrev pub latest_from : Option (Event M) → List (Outcome M) → Option (Event M)
  latest_from o [] = o
  latest_from o (accepted e ∷ ds) = latest_from (Some e) ds
  latest_from o (made t d ∷ ds) = latest_from o ds
  latest_from o (neither ∷ ds) = latest_from o ds

  abbrev pub latest : List (Outcome M) → Option (Event M)
  latest ds = latest_from None ds

  -- when the packets since that event were sent, the newest first
  abbrev pub since_from : List ℕ → List (Outcome M) → List ℕ
  since_from ts [] = ts
  since_from ts (accepted e ∷ ds) = since_from [] ds
  since_from ts (made t d ∷ ds) = since_from (t ∷ ts) ds
  since_from ts (neither ∷ ds) = since_from ts ds

  abbrev pub since : List (Outcome M) → List ℕ
  since ds = since_from [] ds

  -- The message that the stream had at a time: of the events accepted for that time or an earlier one, that of the latest. (Events
  -- are accepted in the order of their times.)
  abbrev pub had_from : Option M → ℕ → List (Outcome M) → Option M
  had_from o x [] = o
  had_from o x (accepted e ∷ ds) = had_from (cond (nat_le e.time x) (Some e.message) o) x ds
  had_from o x (made t d ∷ ds) = had_from o x ds
  had_from o x (neither ∷ ds) = had_from o x ds

  abbrev pub had : ℕ → List (Outcome M) → Option M
  had x ds = had_from None x ds

-- ---- the laws

module _ {M : Type 0} (k : Meaning M) where
  -- a refresh goes out at least a gap after the packet before it, and only if the message has a gap
  abbrev pub GapAfter : List ℕ → M → ℕ → Type 0
  GapAfter [] m call = ⊥
  GapAfter (t ∷ ts) m call = (gap : ℕ) × (k.gap m ≡ Some gap) × (t + gap ≤ call)

  -- A packet made by a call, after those of its event that were sent at the times ts: it carries the event's message. The first
  -- three are copies, numbered in order, made for the event's time, each not before its moment; all others are refreshes.
  pub record OfEvent (e : Event M) (ts : List ℕ) (call : ℕ) (d : DuePacket M) : Type 0 where
    pub message : d.message ≡ e.message
    pub in_order : d.redundancy ≡ min (length ts) 3
    pub copy_for_event : length ts < 3 → d.time ≡ e.time
    pub copy_at_its_moment : length ts < 3 → e.time + 5 * length ts ≤ call
    pub refresh_for_call : 3 ≤ length ts → d.time ≡ call
    pub refresh_after_gap : 3 ≤ length ts → GapAfter ts d.message call

  pub record LawfulHistory (ds : List (Outcome M)) : Type 0 where
    -- an accepted event is later than the time that every packet before it was made for
    pub events_are_later : (b1 b2 rest : List (Outcome M)) (call : ℕ) (d : DuePacket M) (e : Event M) →
        ds ≡ b1 ++ (made call d ∷ (b2 ++ (accepted e ∷ rest))) → d.time < e.time
    -- a packet is of the latest event before it, and comes in its turn and at its moment
    pub packets_are_of_the_latest_event : (before rest : List (Outcome M)) (call : ℕ) (d : DuePacket M) →
        ds ≡ before ++ (made call d ∷ rest) → (e : Event M) × (latest before ≡ Some e) × OfEvent e (since before) call d
    -- a packet's message is the one that the stream had at the time that the packet was made for, whatever was accepted later
    pub packets_tell_what_was_had : (before rest : List (Outcome M)) (call : ℕ) (d : DuePacket M) →
        ds ≡ before ++ (made call d ∷ rest) → had d.time ds ≡ Some d.message

  -- every list of calls on a new stream has a lawful history
  abbrev pub SendsLawfully : Type 0
  SendsLawfully = (cs : List (SenderCall M)) → LawfulHistory (history k new_sender cs)

  -- ---- due called at every millisecond

  -- due calls at the n milliseconds from t on
  abbrev pub each_millisecond : ℕ → ℕ → ℕ → List (SenderCall M)
  each_millisecond t room zero = []
  each_millisecond t room (suc n) = due t room ∷ each_millisecond (t + 1) room n

  -- a refresh, where whole gaps have passed since the last copy
  abbrev pub refresh_plan : Option ℕ → ℕ → Option ℕ
  refresh_plan None i = None
  refresh_plan (Some gap) i = cond (nat_lt 10 i && (i - 10) % gap == 0) (Some 3) None

  -- which packet goes out i milliseconds after an event, if any: copies after 0, 5 and 10, and then a refresh after each gap
  abbrev pub plan : M → ℕ → Option ℕ
  plan m i = cond (i == 0) (Some 0) (cond (i == 5) (Some 1) (cond (i == 10) (Some 2) (refresh_plan (k.gap m) i)))

  -- a planned packet, as what was done i milliseconds after the event
  abbrev pub goes : Event M → ℕ → Option ℕ → Outcome M
  goes e i None = neither
  goes e i (Some r) = made (e.time + i) (record { redundancy = r; time = cond (r == 3) (e.time + i) e.time; message = e.message })

  -- the plan, as what was done at the n milliseconds from i on, after an event
  abbrev pub planned : Event M → ℕ → ℕ → List (Outcome M)
  planned e i zero = []
  planned e i (suc n) = goes e i (plan e.message i) ∷ planned e (i + 1) n

  -- After an accepted event, with no other, and with due called at every millisecond from its time on, packets go out exactly
  -- as planned, for as long as times go.
  abbrev pub KeepsItsMoments : Type 0
  KeepsItsMoments =
      (s : Outbound M) (t : ℕ) (m : M) (room n : ℕ) → (on.event s t m).0 ≡ Ok tt → nat_le (k.len + 4) room ≡ true
      → is_time (t + n - 1) ≡ true
      → history k (on.event s t m).1 (each_millisecond t room n) ≡ planned (record { time = t; message = m }) 0 n
