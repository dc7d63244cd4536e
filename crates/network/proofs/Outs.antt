-- What the calls on one message stream do to what is known of it. Assumes nothing.
use Rattle.std.proofs.Common.{◌≡◌, ℕ, List, [], ◌∷◌, ◌++◌, Some, None, Ok, Err, Option, Result, sym, refl, ap, ◌∙◌, append-nil, arith}
use Rattle.std.proofs.lemmas.Grind.{common_steps}
use Rattle.std.proofs.lemmas.Option.{none-some, same_Some}
use Rattle.refusal.specs.Questions.{first_no, unless}
use Rattle.refusal.specs.declared.Refusal.{Refusal}
use Rattle.type3.specs.Kinds.{Meaning}
use Rattle.type3.specs.declared.payload.Either.{Either}
use Rattle.sending.specs.declared.event.Event.{Event}
use Rattle.sending.specs.Sending as on
use Rattle.sending.specs.Sending.{Outbound, due_of, octets_of, due_questions, sent}
use Rattle.sending.specs.declared.event.DuePacket.{DuePacket as Due}
use Rattle.sending.specs.Runs as calls
use Rattle.sending.specs.Runs.{Outcome, made, neither, did_event, did_due, does, step}
use Rattle.sending.proofs.Kept.{due_is}
use Rattle.trunk.specs.declared.answer.WhichKind.{WhichKind}
use Rattle.trunk.specs.declared.answer.Stream.TheVariants.{Messages}
use Rattle.network.specs.declared.side.Side.{Side}
use Rattle.network.specs.Names.{kind_of}
use Rattle.network.specs.Runs.{event, due, Moment}
use Rattle.network.specs.Packets as packets
use Rattle.network.specs.Packets.{message, Packet, stream_of, accepted, events, of_event, made_at}
use Rattle.network.proofs.Sameness.{itself, kind_itself}
use Rattle.network.proofs.Longer.{of_kind, events_snoc, events_stay}
use Rattle.network.proofs.Sends.{packet, brought, gave, Sends, on_stream, read_off}

-- a call that brings no event
pub brings_none : {P Q : Type 0} (h : List (Moment P Q)) (m : Moment P Q) (side : Side) (which : WhichKind)
    → accepted m.call m.answer ≡ None
    → events side which (h ++ (m ∷ [])) ≡ events side which h
brings_none h m side which e = events_stay h m side which (grind (arith, common_steps))

module _ {P Q M : Type 0} {k : Meaning M} {inj : M → Either P Q} {side : Side} {which : WhichKind} {h : List (Moment P Q)} {s : Outbound M}
    (held : Sends k inj side which h s) (kind_is : (m : M) → kind_of (inj m) ≡ which) where
  -- ---- an event

  module _ (t : ℕ) (x : M) where
    abbrev pub event_moment : Moment P Q
    event_moment = record { side = side; call = event t (inj x); answer = (on.event s t x).0 }

    abbrev e : Event M
    e = record { time = t; message = x }

    of_this : (r : Result (Unit {0}) Refusal) → of_kind h event_moment which (accepted (event t (inj x)) r) ≡ brought inj (did_event e r)
    of_this (Ok u) = rw (kind_is x, kind_itself which) refl
    of_this (Err f) = refl

    pub event_on : Sends k inj side which (h ++ (event_moment ∷ [])) (on.event s t x).1
    event_on = on_stream event_moment held (calls.event t x)
        (events_snoc h event_moment side which ∙ ap (λ l. events side which h ++ l) (rw (itself side) (of_this (on.event s t x).0)))
        (λ y is. absurd (none-some y (rw (itself side) at is)))

  -- ---- what is due

  module _ (t room : ℕ) where
    abbrev pub due_moment : Moment P Q
    due_moment = record { side = side; call = due which t room; answer = (on.due k s t room).0 }

    brings_nothing : (d : Option (Due M)) (r : Result (Option (List ℕ)) Refusal) → brought inj (did_due t d r) ≡ []
    brings_nothing d r = grind (arith, common_steps)

    made_so : (y : Packet P Q) (d : Option (Due M)) → due_of s t ≡ d → packets.made h side (due which t room) (sent k s t d).0 ≡ Some y
        → gave k inj (did_due t d (sent k s t d).0) ≡ Some y
    made_so y None is e = absurd (none-some y e)
    made_so y (Some d) is e =
        let of = due_is k s held.sent held.kept t d is in
        rw (held.latest, of.1, read_off k inj of.0 held.sent t d of.2) at e

    asked_so : (y : Packet P Q) (o : Option Refusal)
        → packets.made h side (due which t room) (unless o s (sent k s t (due_of s t))).0 ≡ Some y
        → gave k inj (did_due t (due_of s t) (unless o s (sent k s t (due_of s t))).0) ≡ Some y
    asked_so y None e = made_so y (due_of s t) refl e
    asked_so y (Some f) e = absurd (none-some y e)

    makes : (y : Packet P Q) → made_at side h (Some due_moment) ≡ Some y → gave k inj (does k s (calls.due t room)) ≡ Some y
    makes y e = asked_so y (first_no (due_questions k s t room)) (rw (itself side) at e)

    pub due_on : Sends k inj side which (h ++ (due_moment ∷ [])) (on.due k s t room).1
    due_on = on_stream due_moment held (calls.due t room)
        (rw (brings_none h due_moment side which refl, brings_nothing (due_of s t) (on.due k s t room).0)
        (sym (append-nil (events side which h)))) makes

    -- a packet that is made is of this stream
    pub due_kind : (y : Packet P Q) → made_at side h (Some due_moment) ≡ Some y → stream_of y.content ≡ Messages which
    due_kind y e = by (does k s (calls.due t room)) (makes y e)
      where
        by : (d : Outcome M) → gave k inj d ≡ Some y → stream_of y.content ≡ Messages which
        by (made u d) g = ap (λ (z : Packet P Q). stream_of z.content) (sym (same_Some (packet k inj d) y g))
            ∙ ap Messages (kind_is d.message)
        by d g = absurd (none-some y g)
