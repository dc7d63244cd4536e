-- Questions: either one was answered no, or all were answered yes. Assumes nothing.
use Rattle.std.proofs.Common.{◌≡◌, Bool, true, false, cond, List, [], ◌∷◌, map, Ok, Err, Some, None, Option, Result, sym, refl, ap, ◌∙◌}
use Rattle.std.proofs.Common.{subst}
use Rattle.std.specs.List.{AllByRecursion}
use Rattle.std.specs.Option.{option_map}
use Rattle.refusal.specs.Questions.{asked, first_no, allowed}

-- each is answered yes
abbrev pub Yes : {X : Type 0} → List (Bool × X) → Type 0
Yes [] = Unit {0}
Yes (q ∷ qs) = (q.0 ≡ true) × Yes qs

pub data Way {X Y : Type 0} (qs : List (Bool × X)) (refuse : X → Y) (does r : Y) : Type 0 where
  refused : (x : X) → r ≡ refuse x → Way qs refuse does r
  passed : Yes qs → r ≡ does → Way qs refuse does r

module _ {X Y : Type 0} (refuse : X → Y) (does : Y) where
  pub asked_way : (qs : List (Bool × X)) → Way qs refuse does (asked qs refuse does)
  asked_way [] = passed tt refl
  asked_way (q ∷ qs) = by q.0 refl (asked_way qs)
    where
      by : (b : Bool) → q.0 ≡ b → Way qs refuse does (asked qs refuse does)
          → Way (q ∷ qs) refuse does (cond q.0 (asked qs refuse does) (refuse q.1))
      by true e (refused x is) = refused x (ap (λ c. cond c (asked qs refuse does) (refuse q.1)) e ∙ is)
      by true e (passed y is) = passed (e, y) (ap (λ c. cond c (asked qs refuse does) (refuse q.1)) e ∙ is)
      by false e w = refused q.1 (ap (λ c. cond c (asked qs refuse does) (refuse q.1)) e)

  -- an answer that no refusal gives was given after all were answered yes
  pub accepted : (qs : List (Bool × X)) (r : Y) → ((x : X) → refuse x ≡ r → ⊥) → asked qs refuse does ≡ r → Yes qs × (does ≡ r)
  accepted qs r never e = by (asked_way qs)
    where
      by : Way qs refuse does (asked qs refuse does) → Yes qs × (does ≡ r)
      by (refused x is) = absurd (never x (sym is ∙ e))
      by (passed y is) = (y, sym is ∙ e)

-- what is so of the refusals of all questions, and of the call's own, is so of the refusal that is given
module _ {F T : Type 0} (So : F → Type 0) (f : F) where
  given : (b : Bool) (x : F) (r : Result T F) → So x → (r ≡ Err f → So f) → cond b r (Err x) ≡ Err f → So f
  given true x r so rest e = rest e
  given false x r so rest e = let i : x ≡ f = cc in subst So i so

  pub refusal_so : (qs : List (Bool × F)) (does : Result T F) → AllByRecursion (λ q. So q.1) qs → (does ≡ Err f → So f)
      → asked {Y = Result T F} qs (λ x. Err x) does ≡ Err f → So f
  refusal_so [] does so own e = own e
  refusal_so (q ∷ qs) does so own e = given q.0 q.1 (asked qs (λ x. Err x) does) so.0 (refusal_so qs does so.1 own) e

-- a test by its answer
module _ {F : Type 0} where
  map_one : {G : Type 0} (make : F → G) (b : Bool) (x : F) (o : Option F) (p : Option G) → p ≡ option_map make o
      → cond b p (Some (make x)) ≡ option_map make (cond b o (Some x))
  map_one make true x o p e = e
  map_one make false x o p e = refl

  pub allowed_err : (o : Option F) (f : F) → allowed o ≡ Err f → o ≡ Some f
  allowed_err None f e = cc
  allowed_err (Some x) f e = let i : x ≡ f = cc in ap (λ y. Some y) i

  pub allowed_ok : (o : Option F) → allowed o ≡ Ok tt → o ≡ None
  allowed_ok None e = refl
  allowed_ok (Some x) e = cc

  -- the refusals made of the questions' own
  pub first_no_map : {G : Type 0} (make : F → G) (qs : List (Bool × F))
      → first_no (map (λ q. (q.0, make q.1)) qs) ≡ option_map make (first_no qs)
  first_no_map make [] = refl
  first_no_map make (q ∷ qs) = map_one make q.0 q.1 (first_no qs) _ (first_no_map make qs)
