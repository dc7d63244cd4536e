use Rattle.std.proofs.Common.{ℕ, List, [], ◌∷◌, ◌≡◌, rules, tests, refl, ◌∙◌, arith}
use Rattle.std.specs.List.{fold}
use Rattle.std.proofs.lemmas.Iterator.{YieldsList-from_slice}
use Rattle.std.proofs.lemmas.Iterator.Consumers.{fold_from_yields_List}
use Rattle.crc10.specs.Division.{divide_on}
use Rattle.crc10.specs.Check.{bits, octet_bits}
use Rattle.crc10.proofs.Laws.{divide_append}
use Rattle.crc10.proofs.remainder.Remainder.after_all.Goals as goal

by_octets : (r : ℕ) (os : List ℕ) → fold (λ rest o. divide_on rest (octet_bits o)) r os ≡ divide_on r (bits os)
by_octets r [] = refl
by_octets r (o ∷ os) = grind (arith, by_octets (divide_on r (octet_bits o)) os, divide_append)

pub returns : goal.returns
returns c =
    fold_from_yields_List _ (λ rest o. divide_on rest (octet_bits o)) _ _ c.fold.ensures.ran
    (YieldsList-from_slice c.args.octets.now cc) (λ a x b q k. search (rules, tests))
    ∙ by_octets c.args.self c.args.octets.now
