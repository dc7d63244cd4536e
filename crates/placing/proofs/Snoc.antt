-- Lists with one more at the end. Assumes nothing.
use Rattle.std.proofs.Common.{◌≡◌, Bool, true, false, List, [], ◌∷◌, ◌++◌, Some, Option, refl, ap, arith, append_assoc}
use Rattle.std.specs.List.{filter, cons_option}
use Rattle.std.proofs.lemmas.Grind.{common_steps}
use Rattle.std.proofs.lemmas.List.Elements.{filter-append}
use Rattle.placing.specs.Lists.{last, last_or, gather}

last_or_snoc : {X : Type 0} (y : X) (xs : List X) (x : X) → last_or y (xs ++ (x ∷ [])) ≡ x
last_or_snoc y [] x = refl
last_or_snoc y (z ∷ xs) x = last_or_snoc z xs x

last_snoc : {X : Type 0} (xs : List X) (x : X) → last (xs ++ (x ∷ [])) ≡ Some x
last_snoc [] x = refl
last_snoc (y ∷ xs) x = ap Some (last_or_snoc y xs x)

-- the last of those that pass: the new one, if it passes
module _ {X : Type 0} (test : X → Bool) (xs : List X) (x : X) where
  pub passes_now : test x ≡ true → last (filter test (xs ++ (x ∷ []))) ≡ Some x
  passes_now e = grind (arith, common_steps, filter-append test xs (x ∷ []), last_snoc (filter test xs) x)

  pub passes_not : test x ≡ false → last (filter test (xs ++ (x ∷ []))) ≡ last (filter test xs)
  passes_not e = grind (arith, common_steps, filter-append test xs (x ∷ []))

cons_option_append : {Y : Type 0} (o : Option Y) (xs ys : List Y) → cons_option o (xs ++ ys) ≡ cons_option o xs ++ ys
cons_option_append o xs ys = grind (arith, common_steps)

pub gather_snoc : {X Y : Type 0} (find : List X → X → Option Y) (before xs : List X) (x : X)
    → gather find before (xs ++ (x ∷ [])) ≡ gather find before xs ++ cons_option (find (before ++ xs) x) []
gather_snoc find before [] x = grind (arith, common_steps)
gather_snoc find before (y ∷ xs) x =
    grind (arith, common_steps, cons_option_append, append_assoc, gather_snoc find (before ++ (y ∷ [])) xs x)
