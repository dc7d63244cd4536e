-- The refusal of a list of entries, unrolled by one entry, for the loop of `check_entries`. Assumes nothing.
use Rattle.std.proofs.Common.{◌≡◌, suc, ◌+◌, ◌<◌, ◌≤◌, true, cond, List, [], length, get_or, take, drop, Some, None, Ok, Err, Option, ℕ}
use Rattle.std.proofs.Common.{sym, ap, ◌∙◌, add-one, arith, drop-cons}
use Rattle.std.specs.Option.{option_or, option_map}
use Rattle.std.proofs.lemmas.List.{take_more}
use Rattle.std.proofs.lemmas.Bool.Decides.{nat_tests}
use Rattle.refusal.specs.Questions.{first_no, allowed, from_to}
use Rattle.refusal.specs.declared.Refusal.{Refusal}
use Rattle.refusal.specs.declared.Refusal.TheVariants.{Profile}
use Rattle.refusal.specs.declared.ProfileFault.{ProfileFault}
use Rattle.refusal.specs.declared.ProfileFault.TheVariants.{EntryCount}
use Rattle.refusal.proofs.Asked.{allowed_err, allowed_ok, first_no_map}
use Rattle.profile.specs.declared.entry.Entry.{Entry}
use Rattle.profile.specs.Questions.{faults, questions, refusal_from, refusal}

-- what a slice's element is read as past its end
abbrev pub blank : Entry
blank = record { index = None; format = 0; first = 0; last = 0; length = 0; packet_time = 0; interval = 0 }

pub counted : (es : List Entry) → 1 ≤ length es → length es ≤ 32 → refusal es ≡ refusal_from [] 0 es
counted es low high =
    let so : from_to 1 32 (length es) ≡ true = grind (arith, nat_tests) in
    ap (λ b. cond b (refusal_from [] 0 es) (Some (Profile EntryCount 0))) so

module _ (es : List Entry) (i : ℕ) (h : i < length es) where
  abbrev fault : Option ProfileFault
  fault = first_no (faults (take i es) (get_or es i blank))

  abbrev here : List Entry → Option Refusal
  here before = first_no (questions before i (get_or es i blank))

  abbrev rest : Option Refusal
  rest = refusal_from (take (i + 1) es) (i + 1) (drop (i + 1) es)

  unrolled : refusal_from (take i es) i (drop i es) ≡ option_or (here (take i es)) rest
  unrolled =
      ap (λ l. refusal_from (take i es) i l) (drop-cons es i blank h)
      ∙ ap (λ l. option_or (here (take i es)) (refusal_from l (i + 1) (drop (suc i) es))) (sym (take_more es i blank h))
      ∙ ap (λ n. option_or (here (take i es)) (refusal_from (take (i + 1) es) (i + 1) (drop n es))) (sym (add-one i))

  by_fault : {o : Option ProfileFault} → fault ≡ o → here (take i es) ≡ option_map (λ f. Profile f i) o
  by_fault e = first_no_map (λ f. Profile f i) (faults (take i es) (get_or es i blank)) ∙ ap (option_map (λ f. Profile f i)) e

  pub no_here : (f : ProfileFault) → Err f ≡ allowed fault → refusal_from (take i es) i (drop i es) ≡ Some (Profile f i)
  no_here f s = unrolled ∙ ap (λ o. option_or o rest) (by_fault (allowed_err fault f (sym s)))

  pub no_later : (x : Unit {0}) → Ok x ≡ allowed fault
      → refusal_from (take i es) i (drop i es) ≡ refusal_from (take (i + 1) es) (i + 1) (drop (i + 1) es)
  no_later tt s = unrolled ∙ ap (λ o. option_or o rest) (by_fault (allowed_ok fault (sym s)))
