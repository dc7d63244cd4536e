-- The one with the greatest number, of several the first: with one more at the end, and who is below a number. Assumes nothing.
use Rattle.std.proofs.Common.{◌≡◌, ℕ, Bool, true, cond, ◌&&◌, ltb, List, [], ◌∷◌, ◌++◌, Some, None, Option, sym, refl, ap, ◌∙◌, arith}
use Rattle.std.specs.List.{list_all}
use Rattle.std.proofs.lemmas.Bool.{and_parts}
use Rattle.std.proofs.lemmas.Bool.Decides.{nat_tests}
use Rattle.std.proofs.lemmas.Grind.{common_steps}
use Rattle.placing.specs.Lists.{greater, greatest}

module _ {X : Type 0} (number : X → ℕ) where
  abbrev pub below : Option X → ℕ → Bool
  below None k = true
  below (Some y) k = ltb (number y) k

  below_more : (x : X) (o : Option X) (k : ℕ) → ltb (number x) k && below o k ≡ ltb (number (greater number x o)) k
  below_more x None k = grind (arith, nat_tests)
  below_more x (Some y) k = grind (arith, nat_tests)

  -- all are below a number exactly where the greatest is
  pub all_below : (xs : List X) (k : ℕ) → list_all (λ y. ltb (number y) k) xs ≡ below (greatest number xs) k
  all_below [] k = refl
  all_below (x ∷ xs) k = ap (λ c. ltb (number x) k && c) (all_below xs k) ∙ below_more x (greatest number xs) k

  -- one more at the end is the greatest where it is greater than that before
  abbrev pub newer : Option X → X → X
  newer None x = x
  newer (Some y) x = cond (ltb (number y) (number x)) x y

  newer_more : (x : X) (o : Option X) (z : X) → greater number x (Some (newer o z)) ≡ newer (Some (greater number x o)) z
  newer_more x None z = refl
  newer_more x (Some y) z = grind (arith, nat_tests)

  pub greatest_snoc : (xs : List X) (x : X) → greatest number (xs ++ (x ∷ [])) ≡ Some (newer (greatest number xs) x)
  greatest_snoc [] x = refl
  greatest_snoc (y ∷ xs) x = ap (λ o. Some (greater number y o)) (greatest_snoc xs x) ∙ ap Some (newer_more y (greatest number xs) x)

  -- what all pass, the greatest passes
  module _ (passes : X → Bool) where
    abbrev passed : Option X → Bool
    passed None = true
    passed (Some y) = passes y

    more_passes : (x : X) (o : Option X) → passes x ≡ true → passed o ≡ true → passes (greater number x o) ≡ true
    more_passes x None p q = p
    more_passes x (Some y) p q = grind (arith, common_steps)

    all_passed : (xs : List X) → list_all passes xs ≡ true → passed (greatest number xs) ≡ true
    all_passed [] h = refl
    all_passed (x ∷ xs) h =
        let p = and_parts (passes x) (list_all passes xs) h in
        more_passes x (greatest number xs) p.0 (all_passed xs p.1)

    pub greatest_passes : (xs : List X) (y : X) → list_all passes xs ≡ true → greatest number xs ≡ Some y → passes y ≡ true
    greatest_passes xs y h e = sym (ap passed e) ∙ all_passed xs h
