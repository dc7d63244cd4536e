-- A history with one more moment: what was made, what arrived and what was accepted then. Assumes nothing.
use Rattle.std.proofs.Common.{◌≡◌, ℕ, zero, suc, Bool, true, cond, ◌&&◌, List, [], ◌∷◌, ◌++◌, take, Some, None, Option, refl, ap, ◌∙◌}
use Rattle.std.proofs.Common.{append-nil}
use Rattle.std.specs.List.{slice_get, filter, cons_option}
use Rattle.std.specs.Option.{option_map, option_flatten}
use Rattle.std.proofs.lemmas.Option.{none-some}
use Rattle.std.proofs.lemmas.List.Elements.{filter-append}
use Rattle.type3.specs.declared.payload.Either.{Either}
use Rattle.sending.specs.declared.event.Event.{Event}
use Rattle.placing.proofs.Snoc.{gather_snoc}
use Rattle.trunk.specs.declared.answer.WhichKind.{WhichKind}
use Rattle.trunk.specs.declared.answer.Stream.{Stream}
use Rattle.network.specs.declared.side.Side.{Side}
use Rattle.network.specs.Names.{same_side, same_kind, kind_of, same_stream}
use Rattle.network.specs.Runs.{Moment}
use Rattle.network.specs.Packets.{Packet, stream_of, accepted, events, made_at, packet_from, arrival, arrivals}
use Rattle.network.specs.Law.{Sound, sound, sounds}

-- ---- where the call at a place stands

data Place {X : Type 0} (h : List X) (m : X) (i : ℕ) : Type 0 where
  inside : take i (h ++ (m ∷ [])) ≡ take i h → slice_get (h ++ (m ∷ [])) i ≡ slice_get h i → Place h m i
  new : take i (h ++ (m ∷ [])) ≡ h → slice_get (h ++ (m ∷ [])) i ≡ Some m → slice_get h i ≡ None → Place h m i
  beyond : slice_get (h ++ (m ∷ [])) i ≡ None → slice_get h i ≡ None → Place h m i

place_of : {X : Type 0} (h : List X) (m : X) (i : ℕ) → Place h m i
place_of [] m zero = new refl refl refl
place_of [] m (suc i) = beyond refl refl
place_of (y ∷ h) m zero = inside refl refl
place_of (y ∷ h) m (suc i) =
    elim (place_of h m i) [ inside t n ↦ inside (cc) n | new t n past ↦ new (cc) n past | beyond n past ↦ beyond n past ]

-- where there was no call, there is no packet
pub unmade : {P Q : Type 0} (side : Side) (i : Option ℕ) (x : Packet P Q) → packet_from side [] i ≡ Some x → ⊥
unmade side None x e = none-some x e
unmade side (Some i) x e = none-some x e

module _ {P Q : Type 0} (h : List (Moment P Q)) (m : Moment P Q) where
  -- ---- packets

  -- a packet of the longer list is one of the shorter, or the last call made it
  pub data Whence (side : Side) (i : Option ℕ) (x : Packet P Q) : Type 0 where
    old : packet_from side h i ≡ Some x → Whence side i x
    made_now : made_at side h (Some m) ≡ Some x → Whence side i x

  pub whence : (side : Side) (i : Option ℕ) (x : Packet P Q) → packet_from side (h ++ (m ∷ [])) i ≡ Some x → Whence side i x
  whence side None x e = absurd (none-some x e)
  whence side (Some i) x e = elim (place_of h m i) [
    | inside t n ↦ old (rw (t, n) at e)
    | new t n past ↦ made_now (rw (t, n) at e)
    | beyond n past ↦ absurd (none-some x (rw n at e))
  ]

  -- a packet that was made stays
  pub packet_stays : (side : Side) (i : Option ℕ) (x : Packet P Q) → packet_from side h i ≡ Some x
      → packet_from side (h ++ (m ∷ [])) i ≡ Some x
  packet_stays side None x e = absurd (none-some x e)
  packet_stays side (Some i) x e = elim (place_of h m i) [
    | inside t n ↦ rw (t, n) e
    | new t n past ↦ absurd (none-some x (rw past at e))
    | beyond n past ↦ absurd (none-some x (rw past at e))
  ]

  -- ---- events

  abbrev pub accepted_at : Side → Option (Event (Either P Q))
  accepted_at side = cond (same_side side m.side) (accepted m.call m.answer) None

  abbrev pub of_kind : WhichKind → Option (Event (Either P Q)) → List (Event (Either P Q))
  of_kind which o = filter (λ e. same_kind (kind_of e.message) which) (cons_option o [])

  pub events_snoc : (side : Side) (which : WhichKind)
      → events side which (h ++ (m ∷ [])) ≡ events side which h ++ of_kind which (accepted_at side)
  events_snoc side which = rw (gather_snoc, filter-append) refl

  -- a call that brings no event of a kind
  pub events_stay : (side : Side) (which : WhichKind) → of_kind which (accepted_at side) ≡ []
      → events side which (h ++ (m ∷ [])) ≡ events side which h
  events_stay side which e = events_snoc side which ∙ ap (λ es. events side which h ++ es) e ∙ append-nil (events side which h)

  -- ---- arrivals

  pub arrivals_snoc : (side : Side)
      → arrivals side (h ++ (m ∷ [])) ≡ arrivals side h ++ filter (λ x. same_side side x.side) (cons_option (arrival m) [])
  arrivals_snoc side = rw (gather_snoc, filter-append) refl

  -- the sound arrival of the last call, if it is one
  abbrev pub sound_now : Option (Sound P Q)
  sound_now = option_flatten (option_map (sound h) (arrival m))

  abbrev pub on_it : Side → Stream → Sound P Q → Bool
  on_it side stream s = same_side side s.arrival.side && same_stream (stream_of s.packet.content) stream

  sounds_snoc : (side : Side) (stream : Stream)
      → sounds side stream (h ++ (m ∷ [])) ≡ sounds side stream h ++ filter (on_it side stream) (cons_option sound_now [])
  sounds_snoc side stream = rw (gather_snoc, filter-append) refl

  -- what is not sound, or on another stream, or at the other side, leaves a stream as it was; what is on it is one more
  pub sounds_stay : (side : Side) (stream : Stream) → filter (on_it side stream) (cons_option sound_now []) ≡ []
      → sounds side stream (h ++ (m ∷ [])) ≡ sounds side stream h
  sounds_stay side stream e = rw (sounds_snoc side stream, e) (append-nil (sounds side stream h))

  pub sounds_more : (side : Side) (stream : Stream) (z : Sound P Q) → sound_now ≡ Some z → on_it side stream z ≡ true
      → sounds side stream (h ++ (m ∷ [])) ≡ sounds side stream h ++ (z ∷ [])
  sounds_more side stream z e f = rw (sounds_snoc side stream, e, f) refl
