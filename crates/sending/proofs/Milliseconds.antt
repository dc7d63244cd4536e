-- After an accepted event, with due called at every millisecond, packets go out exactly as planned. Assumes nothing.
use Rattle.std.proofs.Common.{◌≡◌, ℕ, zero, suc, ◌+◌, ◌-◌, ◌≤◌, true, leb, Some, None, Ok, Option, refl, ap, ◌∙◌, inl, arith, leb-true}
use Rattle.std.proofs.lemmas.Bool.Decides.{nat_tests}
use Rattle.refusal.specs.Questions.{first_no, unless}
use Rattle.refusal.specs.declared.Refusal.{Refusal}
use Rattle.type3.specs.Kinds.{Meaning, Lawful}
use Rattle.sending.specs.declared.event.Event.{Event}
use Rattle.sending.specs.Sending as on
use Rattle.sending.specs.Sending.{Outbound, event_questions, after_event, due_of, sent, due_questions}
use Rattle.sending.specs.Runs.{due, does, step, history, each_millisecond, plan, goes, planned, KeepsItsMoments}
use Rattle.sending.proofs.Turns.{taken}
use Rattle.sending.proofs.Moments.{as_due, Copying, At, at_clock, turn}

module _ {M : Type 0} (k : Meaning M) (law : Lawful k) (e : Event M) where
  module _ (room : ℕ) (fits : leb (k.len + 4) room ≡ true) where
    not_refused : (s : Outbound M) (t : ℕ) → t ≤ 1099511627775 → s.clock ≤ t → on.due k s t room ≡ sent k s t (due_of s t)
    not_refused s t in_range later = grind (arith, nat_tests)

    run : (n i : ℕ) (s : Outbound M) → At k law e i s → e.time + i + n ≤ 1099511627776
        → history k s (each_millisecond k (e.time + i) room n) ≡ planned k e i n
    run zero i s a in_range = refl
    run (suc n) i s a in_range =
        let t = e.time + i in
        let r = turn k law e i s a in
        let u = (sent k s t (as_due k law e i r.packet)).1 in
        let ok = not_refused s t (omega arith) (at_clock k law e i s a) in
        let did : does k s (due t room) ≡ goes k e i (plan k e.message i) =
        let due = r.is_due in let planned = r.is_planned in grind arith in
        let after : step k s (due t room) ≡ u = let due = r.is_due in cc in
        let next : e.time + i + 1 ≡ e.time + (i + 1) = omega arith in
        let rest = run n (i + 1) u r.after (omega arith) in
        cc

module _ {M : Type 0} (k : Meaning M) (law : Lawful k) where
  pub keeps_its_moments : KeepsItsMoments k
  keeps_its_moments s t m room n ok fits in_range = by (first_no (event_questions s t)) ok
    where
      e : Event M
      e = record { time = t; message = m }

      by : (o : Option Refusal) → (unless o s (taken s e)).0 ≡ Ok tt
          → history k (unless o s (taken s e)).1 (each_millisecond k t room n) ≡ planned k e 0 n
      by None ok =
          let start : t ≡ t + 0 = omega arith in
          let last = leb-true (t + n - 1) 1099511627775 in_range in
          let new : Copying k law e 0 (after_event s e) = record {
            clock = omega arith;
            latest = refl;
            few = omega arith;
            low = omega arith;
            high = omega arith;
          } in
          ap (λ x. history k (after_event s e) (each_millisecond k x room n)) start
          ∙ run k law e room fits n 0 (after_event s e) (inl new) (omega arith)
      by (Some f) ok = cc
