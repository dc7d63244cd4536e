-- A packet needs no more room than twelve octets. Assumes nothing.
use Rattle.std.proofs.Common.{◌≡◌, ℕ, ◌+◌, min, List, length, take, Some, None, Ok, Err, Option, Result, nat_le, sym, refl, ap, ◌∙◌}
use Rattle.std.proofs.Common.{arith, length-take}
use Rattle.std.proofs.lemmas.Bool.Decides.{nat_tests}
use Rattle.refusal.specs.declared.Refusal.{Refusal}
use Rattle.type3.specs.Kinds.{Meaning, Lawful}
use Rattle.sending.specs.Sending as on
use Rattle.sending.specs.Sending.{Outbound}
use Rattle.sending.specs.Answered.{counted}
use Rattle.trunk.specs.declared.answer.WhichKind.{WhichKind}
use Rattle.trunk.specs.declared.answer.WhichKind.TheVariants.{First, Second}
use Rattle.trunk.specs.End.{End, due, with_outs}

module _ {M : Type 0} (k : Meaning M) (law : Lawful k) where
  fits : (room : ℕ) → nat_le (k.len + 4) (min room 12) ≡ nat_le (k.len + 4) room
  fits room = let small = law.small_body in grind (arith, nat_tests)

  due_fits : (s : Outbound M) (t room : ℕ) → on.due k s t (min room 12) ≡ on.due k s t room
  due_fits s t room = rw (fits room) refl

-- what is told of a count was told of the octets
refused_back : (r : Result (Option (List ℕ)) Refusal) (f : Refusal) → counted r ≡ Err f
    → ◌≡◌ {A = Result (Option (List ℕ)) Refusal} (Err f) r
refused_back (Ok (Some o)) f e = cc
refused_back (Ok None) f e = cc
refused_back (Err g) f e = cc

module _ {P Q : Type 0} (p : Meaning P) (q : Meaning Q) (lp : Lawful p) (lq : Lawful q) (s : End P Q) where
  in_twelve : (which : WhichKind) (t room : ℕ) → due p q s which t (min room 12) ≡ due p q s which t room
  in_twelve First t room = ap (λ r. (r.0, with_outs s s.audio_out r.1 s.second_out)) (due_fits p lp s.first_out t room)
  in_twelve Second t room = ap (λ r. (r.0, with_outs s s.audio_out s.first_out r.1)) (due_fits q lq s.second_out t room)

  -- in the first of twelve octets
  module _ (which : WhichKind) (t room n : ℕ) (xs : List ℕ) (twelve : length xs ≡ 12) where
    in_first : n ≡ min room 12 → due p q s which t (length (take n xs)) ≡ due p q s which t room
    in_first e =
        let count : length (take n xs) ≡ min room 12 = length-take n xs ∙ ap (min n) twelve ∙ omega arith in
        ap (due p q s which t) count ∙ in_twelve which t room

    pub refused_in_first : (r : Result (Option ℕ) Refusal) (f : Refusal) → r ≡ counted (due p q s which t (length (take n xs))).0
        → r ≡ Err f
        → n ≡ min room 12 → ◌≡◌ {A = Result (Option (List ℕ)) Refusal} (Err f) (due p q s which t room).0
    refused_in_first r f is refused e = refused_back (due p q s which t room).0 f (sym (rw (in_first e) at is) ∙ refused)

    pub after_in_first : (w : End P Q) → w ≡ (due p q s which t (length (take n xs))).1 → n ≡ min room 12 → w ≡ (due p q s which t room).1
    after_in_first w is e = rw (in_first e) at is
