-- The message in force is that of the latest news. Assumes nothing.
use Rattle.std.proofs.Common.{◌≡◌, Bool, cond, List, [], ◌∷◌, Some, None, Option, Result, refl, ap, ◌∙◌, arith}
use Rattle.std.specs.List.{filter}
use Rattle.std.proofs.lemmas.Grind.{common_steps}
use Rattle.std.specs.Option.{option_or, option_map}
use Rattle.refusal.specs.declared.Refusal.{Refusal}
use Rattle.type3.specs.Kinds.{Meaning}
use Rattle.type3.specs.declared.payload.Payload.{Payload}
use Rattle.placing.specs.declared.stream.LatestNews.{LatestNews}
use Rattle.placing.specs.declared.stream.Advance.{Advance}
use Rattle.placing.specs.declared.stream.Novelty.{Novelty}
use Rattle.placing.specs.Lists.{last}
use Rattle.placing.specs.Placing.{place}
use Rattle.placing.specs.Receiving.{Inbound, new_receiver, receive_by, receive}
use Rattle.placing.specs.Arrivals.{is_news}
use Rattle.placing.specs.InForce.{Arrival, Heard, heard, after, InForceIsTheLatestNews}

or_none : {X : Type 0} (o : Option X) → option_or o None ≡ o
or_none o = grind (arith, common_steps)

-- one more at the front, if it passes
one_more : {X Y : Type 0} (f : X → Y) (x : X) (xs : List X) (o : Option Y) (b : Bool)
    → option_or (option_map f (last xs)) (cond b (Some (f x)) o) ≡ option_or (option_map f (last (cond b (x ∷ xs) xs))) o
one_more f x xs o b = grind (arith, common_steps)

module _ {M : Type 0} (k : Meaning M) where
  -- one arrival puts its message in force where it is news
  forced : (s : Inbound M) (x : Payload M) (r : Result (Novelty Advance) Refusal) (last_news : Option LatestNews)
      → (receive_by k s x r last_news).1.force ≡ cond (is_news (receive_by k s x r last_news).0) (Some x.message) s.force
  forced s x r last_news = grind (arith, common_steps)

  abbrev latest_of : List (Heard k) → Option M
  latest_of hs = option_map (λ h. h.arrival.says.message) (last (filter (λ h. is_news h.answer) hs))

  from : (s : Inbound M) (xs : List (Arrival k)) → (after k s xs).force ≡ option_or (latest_of (heard k s xs)) s.force
  from s [] = refl
  from s (x ∷ xs) =
      let p = place 16384 1 s.last_news x.says.stamp x.time in
      let r = receive k s x.time x.says in
      let h : Heard k = record { arrival = x; answer = r.0 } in
      from r.1 xs
      ∙ ap (option_or (latest_of (heard k r.1 xs))) (forced s x.says p.0 p.1)
      ∙ one_more (λ h. h.arrival.says.message) h (filter (λ h. is_news h.answer) (heard k r.1 xs)) s.force (is_news r.0)

  pub in_force_is_the_latest_news : InForceIsTheLatestNews k
  in_force_is_the_latest_news xs = from new_receiver xs ∙ or_none (latest_of (heard k new_receiver xs))
