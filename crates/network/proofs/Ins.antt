-- What a list of calls tells of a stream that is received, and what one more sound arrival is there. Assumes nothing.
use Rattle.std.proofs.Common.{◌≡◌, ℕ, ◌≤◌, Bool, true, false, cond, ◌&&◌, leb, List, [], ◌∷◌, ◌++◌, is_some, Some, None, Ok, Err}
use Rattle.std.proofs.Common.{Option, Result, sym, refl, ap, ◌∙◌, subst, arith}
use Rattle.std.specs.List.{list_all, filter, cons_option}
use Rattle.std.proofs.lemmas.Grind.{common_steps}
use Rattle.std.proofs.lemmas.Bool.{leb-true, ltb-true, and_parts}
use Rattle.std.proofs.lemmas.Option.{none-some, same_Some}
use Rattle.refusal.specs.declared.Refusal.{Refusal}
use Rattle.profile.specs.declared.entry.Entry.{Entry}
use Rattle.placing.specs.declared.stream.LatestNews.{LatestNews}
use Rattle.placing.specs.declared.stream.Advance.{Advance}
use Rattle.placing.specs.declared.stream.Novelty.{Novelty}
use Rattle.placing.specs.declared.stream.Novelty.TheVariants.{News, Repeat, Late}
use Rattle.placing.specs.Lists.{greatest}
use Rattle.placing.specs.Placing.{novelty, latest_after}
use Rattle.placing.specs.Arrivals.{Point, Tells, is_news}
use Rattle.placing.proofs.Hearing.{Hears, Passed, Near, Next, next}
use Rattle.trunk.specs.declared.answer.Arrived.{Arrived}
use Rattle.trunk.specs.declared.answer.Stream.{Stream}
use Rattle.network.specs.declared.side.Side.{Side}
use Rattle.network.specs.Names.{other, same_side, same_stream}
use Rattle.network.specs.Runs.{arrive, Moment}
use Rattle.network.specs.Packets.{Content, Packet, Named, Arrival, stream_of, packet_from, news_of, arrival, arrivals}
use Rattle.network.specs.Law.{Sound, sound, sounds, intact, span, age_rule, latest_news, Since, Origin}
use Rattle.network.proofs.Sameness.{itself, stream_itself}
use Rattle.network.proofs.Frame.{Right}
use Rattle.network.proofs.Longer.{packet_stays, arrivals_snoc, sound_now, on_it, sounds_stay, sounds_more}

-- all of two lists pass a test where all of each do
all_append : {X : Type 0} (test : X → Bool) (xs ys : List X) → list_all test (xs ++ ys) ≡ list_all test xs && list_all test ys
all_append test [] ys = refl
all_append test (x ∷ xs) ys = grind (arith, common_steps, all_append test xs ys)

module _ {P Q : Type 0} where
  abbrev pub made_for : Sound P Q → ℕ
  made_for s = s.packet.time

  abbrev pub is_told : Sound P Q → Bool
  is_told s = is_some s.arrival.news

  abbrev pub point : (Packet P Q → ℕ) → Sound P Q → Point
  point label s = record { label = label s.packet; arrival = s.arrival.time; time = s.packet.time }

  -- all that arrived at a side came by a time
  abbrev pub Come : Side → List (Moment P Q) → ℕ → Type 0
  Come a h t = list_all (λ x. leb x.time t) (arrivals a h) ≡ true

  -- If all came by a time, the last call included, so did all before it, and the arrival that it brought, if any.
  come_parts : (h : List (Moment P Q)) (m : Moment P Q) (a : Side) (t : ℕ) → Come a (h ++ (m ∷ [])) t
      → Come a h t × (list_all (λ x. leb x.time t) (filter (λ x. same_side a x.side) (cons_option (arrival m) [])) ≡ true)
  come_parts h m a t e = and_parts (list_all (λ x. leb x.time t) (arrivals a h)) _ (rw (arrivals_snoc h m a, all_append) at e)

  pub come_before : (h : List (Moment P Q)) (m : Moment P Q) (a : Side) (t : ℕ) → Come a (h ++ (m ∷ [])) t → Come a h t
  come_before h m a t e = (come_parts h m a t e).0

  -- the last to arrive came by then too
  pub come_now : (h : List (Moment P Q)) (m : Moment P Q) (x : Arrival P Q) → arrival m ≡ Some x → (t : ℕ) → Come x.side (h ++ (m ∷ [])) t
      → x.time ≤ t
  come_now h m x arrives t e =
      let last = (come_parts h m x.side t e).1 in
      leb-true x.time t (and_parts (leb x.time t) true (rw (itself x.side) at (rw arrives at last))).0

  -- a sound arrival copies a packet of the other side, and came in its order
  pub record Traced (h : List (Moment P Q)) (a : Side) (y : Sound P Q) : Type 0 where
    pub from : Option ℕ
    pub made : packet_from (other a) h from ≡ Some y.packet
    pub order : (t : ℕ) → Come a h t → y.arrival.time ≤ t

  traced_stays : {h : List (Moment P Q)} (m : Moment P Q) {a : Side} {y : Sound P Q} → Traced h a y → Traced (h ++ (m ∷ [])) a y
  traced_stays {h} m {a} {y} r =
      record { from = r.from; made = packet_stays h m (other a) r.from y.packet r.made; order = λ t e. r.order t (come_before h m a t e) }

  -- a stream that is received holds the sound arrival with the latest time
  pub record On (label : Packet P Q → ℕ) (turn unit : ℕ) (h : List (Moment P Q)) (a : Side) (stream : Stream)
      (last_news : Option LatestNews) : Type 0 where
    pub heard : Hears (point label) is_told turn unit (sounds a stream h) last_news
    pub traced : (y : Sound P Q) → greatest made_for (sounds a stream h) ≡ Some y → Traced h a y

  pub new_on : (label : Packet P Q → ℕ) (turn unit : ℕ) (a : Side) (stream : Stream) → On label turn unit [] a stream None
  new_on label turn unit a stream = record { heard = refl; traced = λ y e. absurd (none-some y e) }

  pub on_stays : {label : Packet P Q → ℕ} {turn unit : ℕ} {h : List (Moment P Q)} (m : Moment P Q) {a : Side} {stream : Stream}
      {last_news : Option LatestNews}
      → sounds a stream (h ++ (m ∷ [])) ≡ sounds a stream h → On label turn unit h a stream last_news
      → On label turn unit (h ++ (m ∷ [])) a stream last_news
  on_stays m e r = record { heard = rw e r.heard; traced = λ y f. traced_stays m (r.traced y (rw e at f)) }

  -- ---- answers

  -- what news of a packet names
  abbrev pub naming : Content P Q → Result (Novelty Advance) Refusal → Option (Named P Q)
  naming c (Ok (News n)) = Some (record { content = c; elapsed = n.elapsed })
  naming c (Ok Repeat) = None
  naming c (Ok Late) = None
  naming c (Err f) = None

  some_naming : (c : Content P Q) (r : Result (Novelty Advance) Refusal) → is_some (naming c r) ≡ is_news r
  some_naming c r = grind (arith, common_steps)

  -- ---- an arrival at a side

  module _ (a : Side) (t uui : ℕ) (o : List ℕ) (c : Option ℕ) where
    abbrev pub arriving : Option (Named P Q) → Arrival P Q
    arriving n = record { side = a; time = t; uui = uui; octets = o; copies = c; news = n }

    abbrev pub arrive_moment : Result (Arrived P Q) Refusal → Moment P Q
    arrive_moment r = record { side = a; call = arrive t uui o c; answer = r }

  -- ---- one sound arrival

  -- The call m brings the sound arrival z on a stream: what is told of it is right, it leaves the other streams as they were, and on
  -- its own it is
  -- the one with the latest time where it is news.
  pub record OneMore (label : Packet P Q → ℕ) (turn unit : ℕ) (h : List (Moment P Q)) (a : Side) (stream : Stream)
      (last_news : Option LatestNews) (news : Bool) (m : Moment P Q)
      (z : Sound P Q) : Type 0 where
    pub right : Right h z.arrival
    pub apart : (n : Stream) → same_stream stream n ≡ false → sounds a n (h ++ (m ∷ [])) ≡ sounds a n h
    pub leads : greatest made_for (sounds a stream (h ++ (m ∷ []))) ≡ cond news (Some z) (greatest made_for (sounds a stream h))
    pub on_after : On label turn unit (h ++ (m ∷ [])) a stream last_news

  module _ {label : Packet P Q → ℕ} {turn unit : ℕ} {h : List (Moment P Q)} {a : Side} {stream : Stream} {last_news : Option LatestNews}
      (on : On label turn unit h a stream last_news) (es : List Entry) (t uui : ℕ) (o : List ℕ) (i : Option ℕ) (pk : Packet P Q) where
    abbrev pub copying : Option (Named P Q) → Sound P Q
    copying n = record { arrival = arriving a t uui o i n; packet = pk }

    module _ (made : packet_from (other a) h i ≡ Some pk) (whole : intact pk (arriving a t uui o i None) ≡ true)
        (stream_is : stream_of pk.content ≡ stream)
        (in_time : pk.time ≤ 1099511627775) (tells : Tells turn unit (point label (copying None))) (span_is : span es pk.content ≡ turn)
        (in_order : Come a h t)
        (n : Option (Named P Q)) (ages : age_rule es h (arriving a t uui o i n) ≡ true) where
      is_sound : (n : Option (Named P Q)) → sound h (arriving a t uui o i n) ≡ Some (copying n)
      is_sound n = rw (made, whole) refl

      near : (y : Sound P Q) → greatest made_for (sounds a stream h) ≡ Some y
          → Near (point label) is_told turn unit y (point label (copying None))
      near y leads = record {
        order = (on.traced y leads).order t in_order;
        ages = ltb-true _ turn (rw (is_sound n, stream_is, leads, span_is) at ages);
      }

      abbrev pub answer : Result (Novelty Advance) Refusal
      answer = novelty turn unit last_news (label pk) t

      heard_next : Next (point label) is_told turn unit (sounds a stream h) last_news (point label (copying None)) answer
      heard_next =
          next (point label) is_told turn unit (sounds a stream h) last_news (point label (copying None)) on.heard tells in_time near

      since_of : (x : Option (Sound P Q)) (c : Option (Named P Q)) (n : ℕ)
          → Passed (point label) is_told turn unit x (point label (copying None)) n → Since x (copying c) n
      since_of None c n p = p
      since_of (Some y) c n p = p

      module _ (r : Result (Arrived P Q) Refusal) (names : news_of r ≡ naming pk.content answer) where
        abbrev pub m : Moment P Q
        m = arrive_moment a t uui o i r

        abbrev pub z : Sound P Q
        z = copying (news_of r)

        flag : is_told z ≡ is_news answer
        flag = ap is_some names ∙ some_naming pk.content answer

        is_now : sound_now h m ≡ Some z
        is_now = is_sound (news_of r)

        on_which : (n : Stream) → on_it h m a n z ≡ same_stream stream n
        on_which n = rw (itself a, stream_is) refl

        grown : sounds a stream (h ++ (m ∷ [])) ≡ sounds a stream h ++ (z ∷ [])
        grown = sounds_more h m a stream z is_now (on_which stream ∙ stream_itself stream)

        leads_after : greatest made_for (sounds a stream (h ++ (m ∷ []))) ≡ cond (is_news answer) (Some z)
            (greatest made_for (sounds a stream h))
        leads_after = ap (greatest made_for) grown ∙ heard_next.leads z refl

        on_after : On label turn unit (h ++ (m ∷ [])) a stream (latest_after last_news (label pk) t answer)
        on_after = record {
          heard = rw grown (heard_next.hears z refl flag);
          traced = λ y e. by (is_news answer) y (sym leads_after ∙ e);
        }
          where
            by : (b : Bool) (y : Sound P Q) → cond b (Some z) (greatest made_for (sounds a stream h)) ≡ Some y → Traced (h ++ (m ∷ [])) a y
            by true y e = subst (Traced (h ++ (m ∷ [])) a) (same_Some z y e)
                (record {
                  from = i;
                  made = packet_stays h m (other a) i pk made;
                  order = come_now h m (arriving a t uui o i (news_of r)) refl;
                })
            by false y e = traced_stays m (on.traced y e)

        right : Right h (arriving a t uui o i (news_of r))
        right = record {
          exactly = rw (is_sound (news_of r), stream_is) (flag ∙ heard_next.exactly);
          origin = λ n e. by n answer refl (sym names ∙ e);
        }
          where
            by : (n : Named P Q) (x : Result (Novelty Advance) Refusal) → answer ≡ x → naming pk.content x ≡ Some n
                → Origin h (arriving a t uui o i (news_of r)) n
            by n (Ok (News k)) is e =
                let same = same_Some (record { content = pk.content; elapsed = k.elapsed }) n e in
                record {
                  copy = z;
                  is_sound = is_sound (news_of r);
                  content = ap (λ (v : Named P Q). v.content) (sym same);
                  elapsed =
                      rw (stream_is, ← ap (λ (v : Named P Q). v.elapsed) same)
                      (since_of (latest_news (sounds a stream h)) (news_of r) k.elapsed (heard_next.since k is));
                }
            by n x is e = absurd (none-some n e)

        pub one_more : OneMore label turn unit h a stream (latest_after last_news (label pk) t answer) (is_news answer) m z
        one_more =
            record {
              apart = λ n e. sounds_stay h m a n (rw (is_now, on_which n, e) refl);
              leads = leads_after;
              on_after = on_after;
              right = right;
            }
