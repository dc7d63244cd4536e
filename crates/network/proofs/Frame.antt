-- The law follows from what is kept from call to call. Assumes nothing.
use Rattle.std.proofs.Common.{◌≡◌, true, List, [], ◌∷◌, ◌++◌, is_some, Some, append_assoc, append-nil}
use Rattle.std.proofs.lemmas.Bool.{and_parts}
use Rattle.type3.specs.Kinds.{Meaning}
use Rattle.profile.specs.declared.entry.Entry.{Entry}
use Rattle.placing.specs.Lists.{everywhere, Everywhere}
use Rattle.trunk.specs.declared.answer.WhichKind.{WhichKind}
use Rattle.trunk.specs.End.{in_force}
use Rattle.trunk.specs.declared.answer.Stream.TheVariants.{Messages}
use Rattle.network.specs.declared.side.Side.{Side}
use Rattle.network.specs.Names.{other}
use Rattle.network.specs.Runs.{Turn, Moment, Ends, begun, end_at, taken, moment, after, history}
use Rattle.network.specs.Packets.{Named, Arrival, had, arrival}
use Rattle.network.specs.Law.{Sound, Origin, sound, sounds, latest_news, later_than_all, passes, each_arrival, network_rule, age_rule}
use Rattle.network.specs.Law.{ToldRightly}

module _ {P Q : Type 0} where
  -- what is told of one arrival is right
  pub record Right (before : List (Moment P Q)) (x : Arrival P Q) : Type 0 where
    pub exactly : is_some x.news ≡ later_than_all before (sound before x)
    pub origin : (n : Named P Q) → x.news ≡ Some n → Origin before x n

  -- what is in force is right
  abbrev pub Forced : List (Moment P Q) → Ends P Q → Type 0
  Forced h w =
      (side : Side) (which : WhichKind) (s : Sound P Q) → latest_news (sounds side (Messages which) h) ≡ Some s
      → in_force (end_at w side) which ≡ had (other side) which s.packet.time h

  -- Something is kept: it holds at the start, each call keeps it and is answered rightly, and what is in force is right.
  pub record Keeps (p : Meaning P) (q : Meaning Q) (es : List Entry) (Held : List (Moment P Q) → Ends P Q → Type 0) : Type 0 where
    pub start : Held [] (begun es es)
    pub right : (h : List (Moment P Q)) (w : Ends P Q) (x : Turn P Q) → Held h w → (y : Arrival P Q) → arrival (moment p q w x) ≡ Some y
        → network_rule h y ≡ true → age_rule es h y ≡ true → Right h y
    pub next : (h : List (Moment P Q)) (w : Ends P Q) (x : Turn P Q) → Held h w → passes (network_rule h) (moment p q w x) ≡ true
        → passes (age_rule es h) (moment p q w x) ≡ true → Held (h ++ (moment p q w x ∷ [])) (taken p q w x)
    pub forced : (h : List (Moment P Q)) (w : Ends P Q) → Held h w → Forced h w

  module _ (p : Meaning P) (q : Meaning Q) (es : List Entry) (Held : List (Moment P Q) → Ends P Q → Type 0) (k : Keeps p q es Held) where
    record Rest (h : List (Moment P Q)) (w : Ends P Q) (xs : List (Turn P Q)) : Type 0 where
      exactly : Everywhere (λ before m. (x : Arrival P Q) → arrival m ≡ Some x → is_some x.news ≡ later_than_all before (sound before x))
          h (history p q w xs)
      origin : Everywhere (λ before m. (x : Arrival P Q) → arrival m ≡ Some x → (n : Named P Q) → x.news ≡ Some n → Origin before x n) h
          (history p q w xs)
      held : Held (h ++ history p q w xs) (after p q w xs)

    rest : (xs : List (Turn P Q)) (h : List (Moment P Q)) (w : Ends P Q) → Held h w
        → everywhere (λ before m. passes (network_rule before) m) h (history p q w xs) ≡ true
        → everywhere (λ before m. passes (age_rule es before) m) h (history p q w xs) ≡ true → Rest h w xs
    rest [] h w held c a = record { exactly = tt; origin = tt; held = rw (append-nil h) held }
    rest (x ∷ xs) h w held c a =
        let m = moment p q w x in
        let c2 = and_parts (passes (network_rule h) m) _ c in
        let a2 = and_parts (passes (age_rule es h) m) _ a in
        let more = rest xs (h ++ (m ∷ [])) (taken p q w x) (k.next h w x held c2.0 a2.0) c2.1 a2.1 in
        let here : (y : Arrival P Q) → arrival m ≡ Some y → Right h y =
        λ y e. k.right h w x held y e (rw e at c2.0) (rw e at a2.0) in
        record {
          exactly = (λ y e. (here y e).exactly, more.exactly);
          origin = (λ y e. (here y e).origin, more.origin);
          held = rw (← append_assoc h (m ∷ []) (history p q (taken p q w x) xs)) more.held;
        }

    pub told_rightly : (calls : List (Turn P Q)) → each_arrival network_rule (history p q (begun es es) calls) ≡ true
        → each_arrival (age_rule es) (history p q (begun es es) calls) ≡ true
        → ToldRightly (history p q (begun es es) calls) (λ side which. in_force (end_at (after p q (begun es es) calls) side) which)
    told_rightly calls c a =
        let r = rest calls [] (begun es es) k.start c a in
        record {
          news_exactly_when_later = r.exactly;
          news_names_its_origin = r.origin;
          in_force_is_what_the_far_end_had = k.forced (history p q (begun es es) calls) (after p q (begun es es) calls) r.held;
        }
