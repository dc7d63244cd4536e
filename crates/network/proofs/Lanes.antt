-- The two kinds of an end, told by which: their meanings, their streams, and what a payload of theirs does. Assumes nothing.
use Rattle.std.proofs.Common.{◌≡◌, ℕ, false, cond, Some, Ok, Option, Result, refl, arith}
use Rattle.std.proofs.lemmas.Grind.{common_steps}
use Rattle.refusal.specs.declared.Refusal.{Refusal}
use Rattle.type3.specs.Kinds.{Meaning, Lawful}
use Rattle.type3.specs.Octets.{written, read_either}
use Rattle.type3.specs.declared.payload.Payload.{Payload}
use Rattle.type3.specs.declared.payload.Either.{Either}
use Rattle.type3.specs.declared.payload.Either.TheVariants as either
use Rattle.type3.specs.Exactly.{Fits}
use Rattle.type3.proofs.Exactly.{first_written, second_written}
use Rattle.sending.specs.Sending.{Outbound}
use Rattle.placing.specs.declared.stream.LatestNews.{LatestNews}
use Rattle.placing.specs.declared.stream.Advance.{Advance}
use Rattle.placing.specs.declared.stream.Novelty.{Novelty}
use Rattle.placing.specs.declared.receiver.MessageNews.{MessageNews}
use Rattle.placing.specs.Placing.{latest_after}
use Rattle.placing.specs.Receiving.{Inbound, receive_by, receive}
use Rattle.placing.specs.Arrivals.{is_news}
use Rattle.trunk.specs.declared.answer.WhichKind.{WhichKind}
use Rattle.trunk.specs.declared.answer.WhichKind.TheVariants.{First, Second}
use Rattle.trunk.specs.declared.answer.Arrived.{Arrived}
use Rattle.trunk.specs.declared.answer.Arrived.TheVariants as arrived
use Rattle.trunk.specs.End.{End, with_outs, with_ins, arrive_read}
use Rattle.trunk.specs.Streams.{answer_on}
use Rattle.trunk.specs.declared.answer.Stream.TheVariants.{Audio, Messages}
use Rattle.network.specs.Names.{same_kind, kind_of}
use Rattle.network.specs.Packets.{message, news_of}
use Rattle.network.proofs.Ins.{naming}

-- the messages of a kind
abbrev pub Of : Type 0 → Type 0 → WhichKind → Type 0
Of P Q First = P
Of P Q Second = Q

module _ (P Q : Type 0) where
  -- a message, and what a payload says, as of one of the two kinds
  abbrev pub inj : (w : WhichKind) → Of P Q w → Either P Q
  inj First m = either.First m
  inj Second m = either.Second m

  abbrev pub saying : (w : WhichKind) → Payload (Of P Q w) → Either (Payload P) (Payload Q)
  saying First x = either.First x
  saying Second x = either.Second x

  pub kind_is : (w : WhichKind) (m : Of P Q w) → kind_of (inj w m) ≡ w
  kind_is First m = refl
  kind_is Second m = refl

  -- the first and the second of two, with that of a kind replaced
  abbrev pub new_first : (F : Type 0 → Type 0) (w : WhichKind) → F (Of P Q w) → F P → F P
  new_first F First r x = r
  new_first F Second r x = x

  abbrev pub new_second : (F : Type 0 → Type 0) (w : WhichKind) → F (Of P Q w) → F Q → F Q
  new_second F First r y = y
  new_second F Second r y = r

  -- an answer on the stream of a kind
  abbrev pub on_lane : (w : WhichKind) → Result (Novelty (MessageNews (Of P Q w))) Refusal → Result (Arrived P Q) Refusal
  on_lane First r = answer_on (Messages First) arrived.First r
  on_lane Second r = answer_on (Messages Second) arrived.Second r

  -- an answer on the stream of audio, under the entry at a place
  abbrev pub on_audio : ℕ → Result (Novelty Advance) Refusal → Result (Arrived P Q) Refusal
  on_audio i r = answer_on Audio (λ m. arrived.Audio (record { place = i; advance = m })) r

module _ {P Q : Type 0} where
  -- of two, that of a kind
  abbrev pub of_both : (F : Type 0 → Type 0) (w : WhichKind) → F P → F Q → F (Of P Q w)
  of_both F First x y = x
  of_both F Second x y = y

  -- what is so of the new one, and of the other as it was, is so of both
  pub lane_by_lane : (F : Type 0 → Type 0) (w : WhichKind) (r : F (Of P Q w)) (x : F P) (y : F Q)
      (So : (v : WhichKind) → F (Of P Q v) → Type 0)
      → So w r → ((v : WhichKind) → same_kind w v ≡ false → So v (of_both F v x y)) → (v : WhichKind)
      → So v (of_both F v (new_first P Q F w r x) (new_second P Q F w r y))
  lane_by_lane F First r x y So new others First = new
  lane_by_lane F First r x y So new others Second = others Second refl
  lane_by_lane F Second r x y So new others First = others First refl
  lane_by_lane F Second r x y So new others Second = new

  -- the streams of a kind, and an end with a new one
  abbrev pub out : (w : WhichKind) → End P Q → Outbound (Of P Q w)
  out w s = of_both Outbound w s.first_out s.second_out

  abbrev pub into : (w : WhichKind) → End P Q → Inbound (Of P Q w)
  into w s = of_both Inbound w s.first_in s.second_in

  abbrev pub with_out : (w : WhichKind) → End P Q → Outbound (Of P Q w) → End P Q
  with_out w s r = with_outs s s.audio_out (new_first P Q Outbound w r s.first_out) (new_second P Q Outbound w r s.second_out)

  abbrev pub with_in : (w : WhichKind) → End P Q → Inbound (Of P Q w) → End P Q
  with_in w s r = with_ins s s.audio_in (new_first P Q Inbound w r s.first_in) (new_second P Q Inbound w r s.second_in)

  module _ (p : Meaning P) (q : Meaning Q) where
    abbrev pub meaning : (w : WhichKind) → Meaning (Of P Q w)
    meaning w = of_both Meaning w p q

    pub lawful : Lawful p → Lawful q → (w : WhichKind) → Lawful (meaning w)
    lawful lp lq First = lp
    lawful lp lq Second = lq

    -- a payload of a kind is read as such
    pub read_lane : Lawful p → Lawful q → (p.message_type ≡ q.message_type → ⊥) → (w : WhichKind) (x : Payload (Of P Q w)) → Fits x
        → read_either p q (written (meaning w) x) ≡ Ok (saying P Q w x)
    read_lane lp lq ne First x fit = first_written p q lp lq x fit
    read_lane lp lq ne Second x fit = second_written p q lp lq x fit ne

    -- and goes to its stream
    abbrev pub received : (w : WhichKind) → End P Q → ℕ → Payload (Of P Q w)
        → Result (Novelty (MessageNews (Of P Q w))) Refusal × Inbound (Of P Q w)
    received w s a x = receive (meaning w) (into w s) a x

    pub arrive_lane : (w : WhichKind) (s : End P Q) (a : ℕ) (x : Payload (Of P Q w))
        → arrive_read p q s a (Ok (saying P Q w x)) ≡ (on_lane P Q w (received w s a x).0, with_in w s (received w s a x).1)
    arrive_lane First s a x = refl
    arrive_lane Second s a x = refl

    -- what is news there names the message
    pub news_lane : (w : WhichKind) (r : Inbound (Of P Q w)) (x : Payload (Of P Q w)) (novelty : Result (Novelty Advance) Refusal)
        (last_news : Option LatestNews)
        → news_of (on_lane P Q w (receive_by (meaning w) r x novelty last_news).0) ≡ naming (message (inj P Q w x.message)) novelty
    news_lane First r x novelty last_news = grind (arith, common_steps)
    news_lane Second r x novelty last_news = grind (arith, common_steps)

-- the stream after a payload: where it stands, and what is in force
module _ {M : Type 0} (k : Meaning M) (s : Inbound M) (x : Payload M) (label a : ℕ) where
  pub placed_by : (r : Result (Novelty Advance) Refusal)
      → (receive_by k s x r (latest_after s.last_news label a r)).1.last_news ≡ latest_after s.last_news label a r
  placed_by r = grind (arith, common_steps)

  pub force_by : (r : Result (Novelty Advance) Refusal) (last_news : Option LatestNews)
      → (receive_by k s x r last_news).1.force ≡ cond (is_news r) (Some x.message) s.force
  force_by r last_news = grind (arith, common_steps)
