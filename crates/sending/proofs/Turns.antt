-- What a call on a message stream does: it is refused, or its event is accepted, or nothing is due, or a packet is made.
-- Assumes nothing.
use Rattle.std.proofs.Common.{◌≡◌, ℕ, ◌≤◌, true, Some, None, Ok, Option, Result, refl, arith}
use Rattle.std.proofs.lemmas.Bool.Decides.{nat_tests}
use Rattle.refusal.specs.Questions.{first_no, unless}
use Rattle.refusal.specs.declared.Refusal.{Refusal}
use Rattle.type3.specs.Kinds.{Meaning}
use Rattle.sending.specs.declared.event.Event.{Event}
use Rattle.sending.specs.Sending.{Outbound, later_than_made, event_questions, after_event, due_of, after_nothing, after_packet, sent}
use Rattle.sending.specs.Sending.{due_questions}
use Rattle.sending.specs.declared.event.DuePacket.{DuePacket}
use Rattle.sending.specs.Runs.{SenderCall, event, due, Outcome, accepted, made, neither, did_event, did_due, does, step}

-- a call that was not refused: its time is in the range, and not behind the clock
pub record Current (clock t : ℕ) : Type 0 where
  pub in_time : t ≤ 1099511627775
  pub not_behind : clock ≤ t

module _ {M : Type 0} where
  abbrev pub taken : Outbound M → Event M → Result (Unit {0}) Refusal × Outbound M
  taken s e = (Ok tt, after_event s e)

  module _ (k : Meaning M) (s : Outbound M) (P : Outcome M → Outbound M → Type 0)
      (refused : P neither s)
      (event_taken : (e : Event M) → Current s.clock e.time → later_than_made s e.time ≡ true → P (accepted e) (after_event s e))
      (nothing_due : (t : ℕ) → Current s.clock t → P neither (after_nothing s t))
      (packet_made : (t : ℕ) (d : DuePacket M) → Current s.clock t → due_of s t ≡ Some d → P (made t d) (after_packet k s t d)) where
    -- what is so of each of these is so of every call
    pub each_call : (c : SenderCall M) → P (does k s c) (step k s c)
    each_call (event t m) = by (first_no (event_questions s t)) refl
      where
        e : Event M
        e = record { time = t; message = m }

        by : (o : Option Refusal) → first_no (event_questions s t) ≡ o
            → P (did_event e (unless o s (taken s e)).0) (unless o s (taken s e)).1
        by None is = event_taken e (record { in_time = grind (arith, nat_tests); not_behind = grind (arith, nat_tests) })
            (grind (arith, nat_tests))
        by (Some f) is = refused
    each_call (due t room) = by (first_no (due_questions k s t room)) refl (due_of s t) refl
      where
        by : (o : Option Refusal) → first_no (due_questions k s t room) ≡ o → (d : Option (DuePacket M)) → due_of s t ≡ d →
            P (did_due t d (unless o s (sent k s t d)).0) (unless o s (sent k s t d)).1
        by None is None not_due = nothing_due t (record { in_time = grind (arith, nat_tests); not_behind = grind (arith, nat_tests) })
        by None is (Some d) is_due =
            packet_made t d (record { in_time = grind (arith, nat_tests); not_behind = grind (arith, nat_tests) }) is_due
        by (Some f) is d now = refused
