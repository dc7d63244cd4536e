-- Every list of calls on a new message stream has a lawful history. Assumes nothing.
use Rattle.std.proofs.Common.{◌≡◌, ℕ, ◌<◌, ◌≤◌, cond, leb, List, [], ◌∷◌, ◌++◌, Some, None, Option, sym, refl, ◌∙◌, subst, arith}
use Rattle.std.proofs.lemmas.Bool.Decides.{nat_tests}
use Rattle.type3.specs.Kinds.{Meaning}
use Rattle.sending.specs.declared.event.Event.{Event}
use Rattle.sending.specs.Sending.{Outbound, new_sender}
use Rattle.sending.specs.declared.event.DuePacket.{DuePacket}
use Rattle.sending.specs.Runs.{SenderCall, Outcome, accepted, made, neither, does, step, history, latest_from, since_from, since}
use Rattle.sending.specs.Runs.{had_from, had}
use Rattle.sending.specs.Runs.{SendsLawfully}
use Rattle.sending.proofs.Turns.{each_call}
use Rattle.sending.proofs.Kept.{Kept, kept_new, kept_on}
use Rattle.sending.proofs.Behind.{Behind, stays, accepted_ahead, Making, making}

module _ {M : Type 0} where
  -- ---- the words for a history, one thing after another

  latest_more : (o : Option (Event M)) (d : Outcome M) (ds : List (Outcome M))
      → latest_from o (d ∷ ds) ≡ latest_from (latest_from o (d ∷ [])) ds
  latest_more o d ds = grind arith

  since_more : (ts : List ℕ) (d : Outcome M) (ds : List (Outcome M)) → since_from ts (d ∷ ds) ≡ since_from (since_from ts (d ∷ [])) ds
  since_more ts d ds = grind arith

  had_append : (o : Option M) (x : ℕ) (ds es : List (Outcome M)) → had_from o x (ds ++ es) ≡ had_from (had_from o x ds) x es
  had_append o x [] es = refl
  had_append o x (d ∷ ds) es = let more = λ (p : Option M). had_append p x ds es in grind arith

  -- an event after a time changes nothing of what was had at it
  had_same : (o : Option M) (x : ℕ) (d : Outcome M) (ds : List (Outcome M)) → ((e : Event M) → d ≡ accepted e → x < e.time)
      → had_from o x (d ∷ ds) ≡ had_from o x ds
  had_same o x d ds h = grind (arith, nat_tests)

  -- the latest event is had at its time and after
  had_latest : (q : Option (Event M)) (o : Option M) (x : ℕ) (ds : List (Outcome M)) →
      ((e : Event M) → q ≡ Some e → e.time ≤ x → o ≡ Some e.message) →
      (e : Event M) → latest_from q ds ≡ Some e → e.time ≤ x → had_from o x ds ≡ Some e.message
  had_latest q o x [] tie e is low = tie e is low
  had_latest q o x (accepted a ∷ ds) tie e is low =
      had_latest (Some a) (cond (leb a.time x) (Some a.message) o) x ds
      (λ f same below. grind (arith, nat_tests))
      e is low
  had_latest q o x (made t p ∷ ds) tie e is low = had_latest q o x ds tie e is low
  had_latest q o x (neither ∷ ds) tie e is low = had_latest q o x ds tie e is low

  module _ (k : Meaning M) where
    latest_after : (s : Outbound M) (c : SenderCall M) → (step k s c).latest ≡ latest_from s.latest (does k s c ∷ [])
    latest_after s = each_call k s (λ d u. u.latest ≡ latest_from s.latest (d ∷ [])) refl (λ e on ok. refl) (λ t on. refl)
        (λ t d on due. refl)

    -- ---- the stream at which a call did something

    record Reached (s : Outbound M) (ts : List ℕ) (before rest : List (Outcome M)) (d : Outcome M) : Type 0 where
      state : Outbound M
      call : SenderCall M
      calls : List (SenderCall M)
      event : state.latest ≡ latest_from s.latest before
      kept : Kept k state (since_from ts before)
      did : does k state call ≡ d
      then : rest ≡ history k (step k state call) calls

    reach : (s : Outbound M) (ts : List ℕ) → Kept k s ts → (cs : List (SenderCall M)) (before rest : List (Outcome M)) (d : Outcome M) →
        history k s cs ≡ before ++ (d ∷ rest) → Reached s ts before rest d
    reach s ts kept [] [] rest d h = cc
    reach s ts kept [] (x ∷ before) rest d h = cc
    reach s ts kept (c ∷ cs) [] rest d h = record { state = s; call = c; calls = cs; event = refl; kept = kept; did = cc; then = cc }
    reach s ts kept (c ∷ cs) (x ∷ before) rest d h =
        let first : does k s c ≡ x = cc in
        let after : history k (step k s c) cs ≡ before ++ (d ∷ rest) = cc in
        let r = reach (step k s c) (since_from ts (does k s c ∷ [])) (kept_on k s ts kept c) cs before rest d after in
        record {
          state = r.state;
          call = r.call;
          calls = r.calls;
          event = let so = r.event in let on = latest_after s c in let more = latest_more s.latest (does k s c) before in cc;
          kept = subst (λ us. Kept k r.state us) (let more = since_more ts (does k s c) before in cc) r.kept;
          did = r.did;
          then = r.then;
        }

    -- ---- calls after a time is behind

    later_events : (s : Outbound M) (ts : List ℕ) (x : ℕ) → Kept k s ts → Behind s x
        → (cs : List (SenderCall M)) (before rest : List (Outcome M))
        (e : Event M) →
        history k s cs ≡ before ++ (accepted e ∷ rest) → x < e.time
    later_events s ts x kept b [] [] rest e h = cc
    later_events s ts x kept b [] (y ∷ before) rest e h = cc
    later_events s ts x kept b (c ∷ cs) [] rest e h = accepted_ahead k s ts kept x b c e (cc)
    later_events s ts x kept b (c ∷ cs) (y ∷ before) rest e h =
        let after : history k (step k s c) cs ≡ before ++ (accepted e ∷ rest) = cc in
        later_events (step k s c) (since_from ts (does k s c ∷ [])) x (kept_on k s ts kept c)
        (stays k s ts kept x b c) cs before rest e after

    had_on : (s : Outbound M) (ts : List ℕ) (x : ℕ) → Kept k s ts → Behind s x → (cs : List (SenderCall M)) (o : Option M)
        → had_from o x (history k s cs) ≡ o
    had_on s ts x kept b [] o = refl
    had_on s ts x kept b (c ∷ cs) o =
        had_same o x (does k s c) (history k (step k s c) cs) (accepted_ahead k s ts kept x b c)
        ∙ had_on (step k s c) (since_from ts (does k s c ∷ [])) x (kept_on k s ts kept c) (stays k s ts kept x b c) cs o

    -- ---- the laws

    module _ (cs : List (SenderCall M)) (before rest : List (Outcome M)) (call : ℕ) (d : DuePacket M)
        (h : history k new_sender cs ≡ before ++ (made call d ∷ rest)) where
      at : Reached new_sender [] before rest (made call d)
      at = reach new_sender [] (kept_new k) cs before rest (made call d) h

      making_at : Making k at.state (since before) at.kept (step k at.state at.call) call d
      making_at = making k at.state (since before) at.kept at.call call d at.did

      kept_then : Kept k (step k at.state at.call) (since_from (since before) (does k at.state at.call ∷ []))
      kept_then = kept_on k at.state (since before) at.kept at.call

      tell : had d.time (history k new_sender cs) ≡ Some d.message
      tell =
          let x = d.time in
          let of = making_at.of in
          let then = at.then in
          let split = had_append None x before (made call d ∷ rest) in
          let on = had_on (step k at.state at.call) _ x kept_then making_at.behind at.calls (had_from None x before) in
          let had = had_latest None None x before (λ f is low. cc) making_at.from (sym at.event ∙ making_at.is) making_at.not_before in
          let message = of.message in
          cc

    pub sends_lawfully : SendsLawfully k
    sends_lawfully cs = record {
      events_are_later = λ b1 b2 rest call d e h.
          let b3 = b2 ++ (accepted e ∷ rest) in
          later_events _ _ d.time (kept_then cs b1 b3 call d h) (making_at cs b1 b3 call d h).behind _ b2 rest e
          (sym (at cs b1 b3 call d h).then);
      packets_are_of_the_latest_event = λ before rest call d h.
          let m = making_at cs before rest call d h in
          (m.from, sym (at cs before rest call d h).event ∙ m.is, m.of);
      packets_tell_what_was_had = tell cs;
    }
