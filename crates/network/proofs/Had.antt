-- The latest of the events up to a time, in a list of events that grows. Assumes nothing.
use Rattle.std.proofs.Common.{◌≡◌, ℕ, suc, ◌<◌, ◌≤◌, true, ltb, leb, List, [], ◌∷◌, ◌++◌, Some, refl, ◌∙◌, append-nil, arith}
use Rattle.std.specs.List.{list_all, filter}
use Rattle.std.proofs.lemmas.Bool.{lt-ltb, lt-leb}
use Rattle.std.proofs.lemmas.Bool.Decides.{nat_tests}
use Rattle.std.proofs.lemmas.Grind.{common_steps}
use Rattle.std.proofs.lemmas.List.Elements.{filter-append}
use Rattle.sending.specs.declared.event.Event.{Event}
use Rattle.placing.specs.Lists.{greatest}
use Rattle.placing.proofs.Leader.{all_below}
use Rattle.network.specs.Packets.{had_of}

module _ {X : Type 0} where
  abbrev time : Event X → ℕ
  time e = e.time

  filter_whole : (es : List (Event X)) (t : ℕ) → list_all (λ e. ltb (time e) (suc t)) es ≡ true → filter (λ e. leb (time e) t) es ≡ es
  filter_whole [] t h = refl
  filter_whole (e ∷ es) t h = grind (arith, nat_tests, common_steps, filter_whole es t)

  -- the latest of all, at its time and after
  pub had_latest : (es : List (Event X)) (y : Event X) (t : ℕ) → greatest time es ≡ Some y → y.time ≤ t → had_of t es ≡ Some y.message
  had_latest es y t e h =
      rw (filter_whole es t (all_below time es (suc t) ∙ rw e (lt-ltb y.time (suc t) (omega arith))), e) refl

  -- an event after the time does not count
  pub had_before : (es : List (Event X)) (y : Event X) (t : ℕ) → t < y.time → had_of t (es ++ (y ∷ [])) ≡ had_of t es
  had_before es y t h =
      rw (filter-append (λ e. leb (time e) t) es (y ∷ []), lt-leb y.time t h, append-nil (filter (λ e. leb (time e) t) es)) refl
