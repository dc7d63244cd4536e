use Rattle.std.proofs.Common.{ℕ, ◌≡◌, ◌/◌, List, length, rules, tests}
use Rattle.std.specs.List.{fold}
use Rattle.std.proofs.lemmas.Iterator.{YieldsList-from_slice}
use Rattle.std.proofs.lemmas.Iterator.Consumers.{fold_from_yields_List}
use Rattle.crc10.specs.Division.{divide_on}
use Rattle.crc10.specs.Check.{bits}
use Rattle.crc10.proofs.Words.{word_by_word}
use Rattle.crc10.proofs.by_words.Goals as goal

pub returns : goal.returns
returns c =
    let os : List ℕ = c.args.octets.now in
    let k : ℕ = length os / 4 in
    let folded : c.fold.result ≡ fold (λ so_far word. divide_on so_far (bits word)) c.zero.result c.as_chunks.result.0.now =
    fold_from_yields_List _ (λ so_far word. divide_on so_far (bits word)) _ _ c.fold.ensures.ran
    (YieldsList-from_slice c.as_chunks.result.0.now cc) (λ a x b q k. search (rules, tests)) in
    rw (c.after_all.ensures, folded, c.zero.ensures, c.as_chunks.ensures.front, c.as_chunks.ensures.back) (word_by_word k 0 os)
