-- What is kept from call to call: what is known of all that the two ends have sent and received. Assumes nothing.
use Rattle.std.proofs.Common.{◌≡◌, ℕ, false, List, [], ◌∷◌, ◌++◌, length, Some, None, Ok, Err, Option, Result, sym, refl, ap, ◌∙◌}
use Rattle.std.proofs.Common.{subst, true≢false, arith}
use Rattle.std.specs.List.{filter, cons_option}
use Rattle.std.proofs.lemmas.Grind.{common_steps}
use Rattle.std.specs.Option.{option_map, option_flatten}
use Rattle.std.proofs.lemmas.Option.{none-some, same_Some}
use Rattle.refusal.specs.declared.Refusal.{Refusal}
use Rattle.type3.specs.Kinds.{Meaning}
use Rattle.type3.specs.declared.payload.Either.{Either}
use Rattle.type3.specs.declared.payload.Either.TheVariants as either
use Rattle.profile.specs.declared.entry.Entry.{Entry}
use Rattle.sending.specs.Audio as sending-audio
use Rattle.sending.specs.Sending as sending
use Rattle.trunk.specs.declared.answer.WhichKind.{WhichKind}
use Rattle.trunk.specs.declared.answer.WhichKind.TheVariants.{First, Second}
use Rattle.trunk.specs.End as trunk
use Rattle.trunk.specs.End.{End, started, with_outs, with_ins, arrive_audio, arrive_read, arrive_questions}
use Rattle.trunk.specs.declared.answer.Stream.{Stream}
use Rattle.trunk.specs.declared.answer.Stream.TheVariants.{Audio, Messages}
use Rattle.network.specs.declared.side.Side.{Side}
use Rattle.network.specs.Names.{other, same_side, same_kind, same_stream}
use Rattle.network.specs.Runs.{Call, audio, event, due, arrive, AnswerTo, Moment, Ends, end_at}
use Rattle.network.specs.Packets.{entry, Packet, Arrival, stream_of, accepted, events, made, made_at, packet_from, news_of, arrival_by}
use Rattle.network.specs.Packets.{arrival}
use Rattle.network.specs.Law.{sound, sounds, sound_if}
use Rattle.network.proofs.Sameness.{itself, kind_itself}
use Rattle.network.proofs.Longer.{unmade, old, made_now, whence, of_kind, events_stay, sounds_stay, on_it}
use Rattle.network.proofs.Sends.{Sends, new_sends, idle}
use Rattle.network.proofs.Outs.{brings_none, event_on, due_on, due_kind}
use Rattle.network.proofs.Audios.{AudioMade, audio_made}
use Rattle.network.proofs.Ins.{arriving}
use Rattle.network.proofs.Lanes.{Of, inj, kind_is, lane_by_lane, out, with_out, meaning}
use Rattle.network.proofs.Heard.{heard_stays, new_heard}
use Rattle.network.proofs.Arrives.{Sent, HeldAt}

-- ---- a call at one side leaves the other as it was

module _ {P Q : Type 0} where
  -- no sound arrival is at the other side
  none_if : (b : Side) (n : Stream) (h : List (Moment P Q)) (m : Moment P Q) (x : Arrival P Q) (o : Option (Packet P Q))
      → same_side b x.side ≡ false
      → filter (on_it h m b n) (cons_option (sound_if x o) []) ≡ []
  none_if b n h m x None f = refl
  none_if b n h m x (Some k) f = grind (arith, common_steps)

  -- nor does a call there bring one
  none_by : (b : Side) (n : Stream) (h : List (Moment P Q)) (m : Moment P Q) (side : Side) (c : Call P Q) (r : AnswerTo c)
      → same_side b side ≡ false
      → filter (on_it h m b n) (cons_option (option_flatten (option_map (sound h) (arrival_by side c r))) []) ≡ []
  none_by b n h m side (arrive t u o i) r f = none_if b n h m (arriving side t u o i (news_of r)) (packet_from (other side) h i) f
  none_by b n h m side c r f = refl

module _ {P Q : Type 0} (p : Meaning P) (q : Meaning Q) (es : List Entry) where
  abbrev pub Held : List (Moment P Q) → Ends P Q → Type 0
  Held h w = (a : Side) → HeldAt p q es h a (end_at w a)

  pub new_held : (b : Side) → HeldAt p q es [] b (started es)
  new_held b = record {
    profile_is = refl;
    heard = new_heard es b;
    sent = record {
      of_audio = λ i x e f. absurd (unmade b i x e);
      of_kinds = λ w. elim w as (λ v. Sends (meaning p q v) (inj P Q v) b v [] (out v (started es))) [
        | First ↦ new_sends p (inj P Q First) b First
        | Second ↦ new_sends q (inj P Q Second) b Second
      ];
    };
  }

module _ {P Q : Type 0} {p : Meaning P} {q : Meaning Q} {es : List Entry} where
  -- audio packets, with one more call
  pub more_audio : {h : List (Moment P Q)} (m : Moment P Q) {b : Side} {s : End P Q} → Sent p q es h b s
      → ((x : Packet P Q) → made_at b h (Some m) ≡ Some x → stream_of x.content ≡ Audio → AudioMade es x)
      → (i : Option ℕ) (x : Packet P Q) → packet_from b (h ++ (m ∷ [])) i ≡ Some x → stream_of x.content ≡ Audio → AudioMade es x
  more_audio {h} m {b} sent now i x e f = elim (whence h m b i x e) [ old is ↦ sent.of_audio i x is f | made_now is ↦ now x is f ]

  -- a call after which the same is received, by the packet that it makes and the streams after it
  held_by : {h : List (Moment P Q)} (m : Moment P Q) {b : Side} {s : End P Q} → HeldAt p q es h b s
      → ((n : Stream) → sounds b n (h ++ (m ∷ [])) ≡ sounds b n h)
      → (free : ℕ) (first : sending.Outbound P) (second : sending.Outbound Q)
      → ((x : Packet P Q) → made_at b h (Some m) ≡ Some x → stream_of x.content ≡ Audio → AudioMade es x)
      → ((w : WhichKind) → Sends (meaning p q w) (inj P Q w) b w (h ++ (m ∷ [])) (out w (with_outs s free first second)))
      → HeldAt p q es (h ++ (m ∷ [])) b (with_outs s free first second)
  held_by m x same free first second of_audio of_kinds = record {
    profile_is = x.profile_is;
    heard = heard_stays m same x.heard free first second;
    sent = record { of_audio = more_audio m x.sent of_audio; of_kinds = of_kinds };
  }

  pub held_away : {h : List (Moment P Q)} (m : Moment P Q) {b : Side} {s : End P Q} → same_side b m.side ≡ false → HeldAt p q es h b s
      → HeldAt p q es (h ++ (m ∷ [])) b s
  held_away {h} m {b} {s} away x =
      held_by m x (λ n. sounds_stay h m b n (none_by b n h m m.side m.call m.answer away)) s.audio_out s.first_out s.second_out
      (λ y e f. absurd (none-some y (rw away at e)))
      (λ w. idle m (x.sent.of_kinds w) (events_stay h m b w (rw away refl)) (λ y e f. none-some y (rw away at e)))

  -- ---- the side that is called: audio, event and due

  module _ {h : List (Moment P Q)} {a : Side} {s : End P Q} (x : HeldAt p q es h a s) where
    -- a call that is no arrival leaves what is received as it was
    hears_on : (m : Moment P Q) → arrival m ≡ None → (n : Stream) → sounds a n (h ++ (m ∷ [])) ≡ sounds a n h
    hears_on m e n = sounds_stay h m a n (rw e refl)

    -- a call on the stream of a kind leaves that of the other kind as it was
    on_lane : (m : Moment P Q) → arrival m ≡ None → (w : WhichKind) (r : sending.Outbound (Of P Q w))
        → ((y : Packet P Q) → made_at a h (Some m) ≡ Some y → stream_of y.content ≡ Messages w)
        → ((v : WhichKind) → same_kind w v ≡ false → events a v (h ++ (m ∷ [])) ≡ events a v h)
        → Sends (meaning p q w) (inj P Q w) a w (h ++ (m ∷ [])) r → HeldAt p q es (h ++ (m ∷ [])) a (with_out w s r)
    on_lane m e w r stream others new =
        held_by m x (hears_on m e) s.audio_out _ _ (λ y i f. absurd (true≢false (ap (same_stream Audio) (sym f ∙ stream y i))))
        (lane_by_lane sending.Outbound w r s.first_out s.second_out (λ v. Sends (meaning p q v) (inj P Q v) a v (h ++ (m ∷ []))) new
        (λ v f. idle m (x.sent.of_kinds v) (others v f)
        (λ y i g. true≢false (sym (kind_itself w) ∙ ap (same_stream (Messages w)) (sym (stream y i) ∙ g) ∙ f))))

    module _ (t place : ℕ) (o : List ℕ) where
      abbrev by_audio : Result ℕ Refusal × ℕ
      by_audio = sending-audio.audio s.profile s.audio_out t place (length o)

      abbrev ma : Moment P Q
      ma = record { side = a; call = audio t place o; answer = by_audio.0 }

      made_audio : (y : Packet P Q) (r : Result ℕ Refusal) → by_audio.0 ≡ r → made h a (audio t place o) r ≡ Some y
          → (stream_of y.content ≡ Audio) × AudioMade es y
      made_audio y (Ok u) is e =
          subst (λ z. (stream_of z.content ≡ Audio) × AudioMade es z)
          (same_Some (record { time = t; content = entry place; uui = u; octets = o }) y e)
          (refl, audio_made es s.audio_out t place u o (rw x.profile_is at is))
      made_audio y (Err f) is e = absurd (none-some y e)

      pub held_audio : HeldAt p q es (h ++ (ma ∷ [])) a (with_outs s by_audio.1 s.first_out s.second_out)
      held_audio =
          held_by ma x (hears_on ma refl) by_audio.1 s.first_out s.second_out
          (λ y e f. (made_audio y by_audio.0 refl (rw (itself a) at e)).1)
          (λ w. idle ma (x.sent.of_kinds w) (brings_none h ma a w refl)
          (λ y e f. true≢false (ap (same_stream Audio) (sym (made_audio y by_audio.0 refl (rw (itself a) at e)).0 ∙ f))))

    -- an event of a kind
    module _ (w : WhichKind) (t : ℕ) (y : Of P Q w) where
      abbrev by_event : Result (Unit {0}) Refusal × sending.Outbound (Of P Q w)
      by_event = sending.event (out w s) t y

      abbrev me : Moment P Q
      me = record { side = a; call = event t (inj P Q w y); answer = by_event.0 }

      other_kind : (v : WhichKind) → same_kind w v ≡ false → events a v (h ++ (me ∷ [])) ≡ events a v h
      other_kind v f = events_stay h me a v (rw (itself a) (none by_event.0))
        where
          none : (r : Result (Unit {0}) Refusal) → of_kind h me v (accepted (event t (inj P Q w y)) r) ≡ []
          none (Ok u) = rw (kind_is P Q w y, f) refl
          none (Err g) = refl

      event_lane : HeldAt p q es (h ++ (me ∷ [])) a (with_out w s by_event.1)
      event_lane = on_lane me refl w by_event.1 (λ z e. absurd (none-some z (rw (itself a) at e))) other_kind
          (event_on (x.sent.of_kinds w) (kind_is P Q w) t y)

    pub held_event : (t : ℕ) (y : Either P Q)
        → HeldAt p q es (h ++ (record { side = a; call = event t y; answer = (trunk.event s t y).0 } ∷ [])) a (trunk.event s t y).1
    held_event t (either.First y) = event_lane First t y
    held_event t (either.Second y) = event_lane Second t y

    -- what is due of a kind
    module _ (w : WhichKind) (t room : ℕ) where
      abbrev by_due : Result (Option (List ℕ)) Refusal × sending.Outbound (Of P Q w)
      by_due = sending.due (meaning p q w) (out w s) t room

      abbrev md : Moment P Q
      md = record { side = a; call = due w t room; answer = by_due.0 }

      due_lane : HeldAt p q es (h ++ (md ∷ [])) a (with_out w s by_due.1)
      due_lane = on_lane md refl w by_due.1 (due_kind (x.sent.of_kinds w) (kind_is P Q w) t room)
          (λ v f. brings_none h md a v refl) (due_on (x.sent.of_kinds w) (kind_is P Q w) t room)

    pub held_due : (w : WhichKind) (t room : ℕ)
        → HeldAt p q es (h ++ (record { side = a; call = due w t room; answer = (trunk.due p q s w t room).0 } ∷ [])) a
        (trunk.due p q s w t room).1
    held_due First t room = due_lane First t room
    held_due Second t room = due_lane Second t room
