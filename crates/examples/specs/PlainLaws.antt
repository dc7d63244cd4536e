-- The laws of the kind of plain numbers. Assumes nothing.
use Rattle.std.specs.Prelude.{◌≡◌, ◌↔◌, ℕ, ◌+◌, ◌*◌, ◌/◌, ◌%◌, true, List, [], ◌∷◌, length, Ok, nat_eq, refl}
use Rattle.std.proofs.Common.{ap, sym, ◌∙◌, arith}
use Rattle.std.proofs.lemmas.Bool.{eqb-true, eq-eqb}
use Rattle.type3.specs.Kinds.{Lawful, cleared, AreOctets}
use Rattle.examples.specs.Plain.{plain}
use Rattle.examples.specs.WideLaws.{all_kept}

reads : (o : List ℕ) (m : ℕ) → cleared [] o ≡ cleared [] (plain.body m) → plain.read o ≡ Ok m
reads o m e =
    let is : m / 256 * 256 + m % 256 ≡ m = omega arith in
    ap plain.read (sym (all_kept o) ∙ e ∙ all_kept (plain.body m)) ∙ ap Ok is

writes : (o : List ℕ) (m : ℕ) → AreOctets o → length o ≡ 2 → plain.read o ≡ Ok m → plain.body m ≡ o
writes [] m h n e = absurd (omega arith)
writes (a ∷ []) m h n e = absurd (omega arith)
writes (a ∷ b ∷ []) m h n e =
    let first = h.0 in
    let second = h.1.0 in
    let is : a * 256 + b ≡ m = cc in
    let high : m / 256 ≡ a = omega arith in
    let low : m % 256 ≡ b = omega arith in
    ap (λ x. x ∷ (m % 256) ∷ []) high ∙ ap (λ x. a ∷ x ∷ []) low
writes (a ∷ b ∷ c ∷ o) m h n e = absurd (omega arith)

pub plain_lawful : Lawful plain
plain_lawful = record {
  type_fits = omega arith;
  some_body = omega arith;
  small_body = omega arith;
  gaps = λ m g e. grind arith;
  body_len = λ _. refl;
  reads = λ o m n e. reads o m e;
  writes = λ o m h n e. writes o m h n e ∙ sym (all_kept o);
  refuses = λ o c h n e. cc;
  alike = λ m n e. eqb-true m n e;
  itself = λ m. eq-eqb m m refl;
}

-- `==` of the program
pub plain_compare : (m n : ℕ) → (nat_eq m n ≡ true) ↔ (m ≡ n)
plain_compare m n = (eqb-true m n, eq-eqb m n)
