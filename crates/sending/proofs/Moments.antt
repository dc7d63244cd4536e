-- The stream at a millisecond after an event, where due was called at each before it, and what a call then does. Assumes
-- nothing.
use Rattle.std.proofs.Common.{◌≡◌, ℕ, zero, suc, ◌+◌, ◌-◌, ◌*◌, ◌%◌, ◌<◌, ◌≤◌, cond, eqb, ◌⊎◌, Some, None, Option, sym, refl, ap, ◌∙◌}
use Rattle.std.proofs.Common.{subst, inl, inr, suc-mul, zero-mul, arith}
use Rattle.std.proofs.lemmas.Bool.Decides.{nat_tests}
use Rattle.std.proofs.lemmas.Bool.{cases_lt}
use Rattle.std.specs.Option.{option_map}
use Rattle.type3.specs.Kinds.{Meaning, Lawful}
use Rattle.sending.specs.declared.event.Event.{Event}
use Rattle.sending.specs.Sending.{Outbound, due_of, next_refresh, sent}
use Rattle.sending.specs.declared.event.DuePacket.{DuePacket}
use Rattle.sending.specs.Runs.{plan}
use native.Mathlib.Nat.{mul-mod_left}
use lib.Arith.{digits_mod}

-- strictly between two multiples of a gap there is none
no_multiple : (q g j : ℕ) → j < q * g → q * g < j + g → j % g ≡ 0 → ⊥
no_multiple zero g j below above h = omega (arith, zero-mul g)
no_multiple (suc p) g j below above h =
    let split = suc-mul p g in
    let small : j - p * g < g = omega arith in
    let same : p * g + (j - p * g) ≡ j = omega arith in
    let rest : j % g ≡ j - p * g = ap (λ n. n % g) (sym same) ∙ digits_mod p small in
    omega arith

module _ {M : Type 0} (k : Meaning M) (law : Lawful k) (e : Event M) where
  -- the planned packet, as the stream has it
  abbrev pub as_due : ℕ → Option ℕ → Option (DuePacket M)
  as_due i None = None
  as_due i (Some r) = Some (record { redundancy = r; time = cond (eqb r 3) (e.time + i) e.time; message = e.message })

  -- ---- the stream i milliseconds after the event

  -- before the call that sends copy c, where c were sent
  pub record Copying (i : ℕ) (s : Outbound M) : Type 0 where
    pub clock : s.clock ≤ e.time + i
    pub latest : s.latest ≡ Some e
    pub few : s.copies < 3
    pub low : 5 * s.copies ≤ i + 4
    pub high : i ≤ 5 * s.copies

  -- the next refresh is due a number of gaps after the last copy, and not a gap or more from now
  abbrev pub Next : Option ℕ → ℕ → Option ℕ → Type 0
  Next None i o = o ≡ None
  Next (Some g) i o = (q : ℕ) × (o ≡ Some (e.time + (10 + q * g))) × (i ≤ 10 + q * g) × (10 + q * g < i + g)

  pub record Refreshing (i : ℕ) (s : Outbound M) : Type 0 where
    pub clock : s.clock ≤ e.time + i
    pub latest : s.latest ≡ Some e
    pub copies : s.copies ≡ 3
    pub late : 11 ≤ i
    pub next : Next (k.gap e.message) i s.refresh

  abbrev pub At : ℕ → Outbound M → Type 0
  At i s = Copying i s ⊎ Refreshing i s

  pub at_clock : (i : ℕ) (s : Outbound M) → At i s → s.clock ≤ e.time + i
  at_clock i s (inl a) = a.clock
  at_clock i s (inr a) = a.clock

  -- ---- a call at that millisecond

  pub record Turn (i : ℕ) (s : Outbound M) : Type 0 where
    pub packet : Option ℕ
    pub is_planned : plan k e.message i ≡ packet
    pub is_due : due_of s (e.time + i) ≡ as_due i packet
    pub after : At (i + 1) (sent k s (e.time + i) (as_due i packet)).1

  module _ (i : ℕ) (s : Outbound M) (a : Copying i s) where
    first_refresh : (r : Option ℕ) → i ≡ 10 → r ≡ next_refresh k (e.time + i) e.message → (o : Option ℕ) → k.gap e.message ≡ o
        → Next o (i + 1) r
    first_refresh r now next None is = grind arith
    first_refresh r now next (Some g) is = let some = law.gaps e.message g is in (1, grind arith, omega arith, omega arith)

    copy_turn : (i < 5 * s.copies) ⊎ (5 * s.copies ≤ i) → Turn i s
    copy_turn (inl early) = record {
      packet = None;
      is_planned = grind (arith, nat_tests);
      is_due = grind (arith, nat_tests);
      after = inl (record { clock = omega arith; latest = a.latest; few = a.few; low = omega arith; high = omega arith });
    }
    copy_turn (inr come) = record {
      packet = Some s.copies;
      is_planned = grind (arith, nat_tests);
      is_due = grind (arith, nat_tests);
      after = by (cases_lt s.copies 2);
    }
      where
        by : (s.copies < 2) ⊎ (2 ≤ s.copies) → At (i + 1) (sent k s (e.time + i) (as_due i (Some s.copies))).1
        by (inl more) = inl (record { clock = omega arith; latest = a.latest; few = omega arith; low = omega arith; high = omega arith })
        by (inr last) = inr (record {
          clock = omega arith;
          latest = a.latest;
          copies = omega arith;
          late = omega arith;
          next = first_refresh _ (omega arith) (grind (arith, nat_tests)) (k.gap e.message) refl;
        })

  module _ (i : ℕ) (s : Outbound M) (a : Refreshing i s) where
    refresh_turn : (o : Option ℕ) → k.gap e.message ≡ o → Next o i s.refresh → Turn i s
    refresh_turn None is none = record {
      packet = None;
      is_planned = grind (arith, nat_tests);
      is_due = grind (arith, nat_tests);
      after = inr (record {
        clock = omega arith;
        latest = a.latest;
        copies = a.copies;
        late = omega arith;
        next = subst (λ o. Next o (i + 1) s.refresh) (sym is) none;
      });
    }
    refresh_turn (Some g) is (q, moment, low, high) = by (cases_lt i (10 + q * g))
      where
        by : (i < 10 + q * g) ⊎ (10 + q * g ≤ i) → Turn i s
        by (inl early) = record {
          packet = None;
          is_planned = let none = no_multiple q g (i - 10) (omega arith) (omega arith) in grind (arith, nat_tests);
          is_due = grind (arith, nat_tests);
          after = inr (record {
            clock = omega arith;
            latest = a.latest;
            copies = a.copies;
            late = omega arith;
            next = subst (λ o. Next o (i + 1) s.refresh) (sym is) (q, moment, omega arith, omega arith);
          });
        }
        by (inr come) =
            let some = law.gaps e.message g is in
            let more = suc-mul q g in
            record {
              packet = Some 3;
              is_planned = let whole = mul-mod_left q g in grind (arith, nat_tests);
              is_due = grind (arith, nat_tests);
              after = inr (record {
                clock = omega arith;
                latest = a.latest;
                copies = refl;
                late = omega arith;
                next = subst (λ o. Next o (i + 1) (option_map (λ gap. e.time + i + gap) o)) (sym is)
                    (suc q, grind arith, omega arith, omega arith);
              });
            }

  pub turn : (i : ℕ) (s : Outbound M) → At i s → Turn i s
  turn i s (inl a) = copy_turn i s a (cases_lt i (5 * s.copies))
  turn i s (inr a) = refresh_turn i s a (k.gap e.message) refl a.next
