-- The payload stands in the first octets of a buffer of twelve. Assumes nothing.
use Rattle.std.proofs.Common.{◌≡◌, ℕ, ◌+◌, true, leb, List, length, take, drop, Ok, Result, ap, sym, ◌∙◌, arith}
use Rattle.std.proofs.lemmas.Bool.Decides.{nat_tests}
use Rattle.std.proofs.lemmas.List.{take_at}
use Rattle.refusal.specs.declared.Refusal.{Refusal}
use Rattle.type3.specs.Kinds.{Meaning, Lawful}
use Rattle.type3.specs.Octets.{written, write}
use Rattle.type3.specs.declared.payload.Payload.{Payload}
use Rattle.type3.proofs.Writes.{room_yes}
use Rattle.type3.proofs.RoundTrip.{length_written}

count_of : (a b : ℕ) → ◌≡◌ {A = Result ℕ Refusal} (Ok a) (Ok b) → a ≡ b
count_of a b e = cc

module _ {M : Type 0} (k : Meaning M) (law : Lawful k) (x : Payload M) where
  fits : (out : List ℕ) → length out ≡ 12 → leb (k.len + 4) (length out) ≡ true
  fits out twelve = let small = law.small_body in grind (arith, nat_tests)

  pub first_octets : (n : ℕ) (r : Result ℕ Refusal) (out after : List ℕ) → r ≡ (write k x out).0 → r ≡ Ok n → after ≡ (write k x out).1
      → length out ≡ 12 → take n after ≡ written k x
  first_octets n r out after is ok e twelve =
      let both = room_yes k law x out (fits out twelve) in
      let count : n ≡ k.len + 4 = count_of n (k.len + 4) (sym ok ∙ is ∙ ap (λ w. w.0) both) in
      let long = length_written k law x in
      ap (take n) (e ∙ ap (λ w. w.1) both) ∙ take_at (written k x) (drop (k.len + 4) out) n (omega arith)
