-- The answers to cases. Assumes nothing.
use Rattle.std.specs.Prelude.{ℕ, List, Ok, Err, Result}
use Rattle.refusal.specs.declared.Refusal.{Refusal}
use Rattle.type3.specs.Octets as type3
use Rattle.type3.specs.Octets.{read_either, written}
use Rattle.type3.specs.declared.payload.Payload.{Payload}
use Rattle.type3.specs.declared.payload.Either.{Either}
use Rattle.type3.specs.declared.payload.Either.TheVariants.{First, Second}
use Rattle.kinds.specs.declared.digit.Digit.{Digit}
use Rattle.kinds.specs.declared.cas.CasBits.{CasBits}
use Rattle.kinds.specs.Digits.{digits}
use Rattle.kinds.specs.Cas.{cas}
use Rattle.kinds.specs.Export.{number_for_c}
use Rattle.examples.specs.declared.wide.Mark.{Mark}
use Rattle.examples.specs.Wide.{wide}
use Rattle.vectors.specs.declared.answer.Answer.{Answer}
use Rattle.vectors.specs.declared.answer.Answer.TheVariants as answer
use Rattle.vectors.specs.declared.writing.WriteRequest.{WriteRequest}
use Rattle.vectors.specs.declared.writing.Message.{Message}
use Rattle.vectors.specs.declared.writing.Message.TheVariants.{Cas, Digit as OfDigit, Wide}

-- what octets say: of a digit or of signalling bits, of a mark, and for a C program
abbrev pub answer_either : Result (Either (Payload Digit) (Payload CasBits)) Refusal → Answer
answer_either (Ok (First x)) = answer.Digit x
answer_either (Ok (Second x)) = answer.Cas x
answer_either (Err f) = answer.Refused f

abbrev pub answer_wide : Result (Payload Mark) Refusal → Answer
answer_wide (Ok x) = answer.Wide x
answer_wide (Err f) = answer.Refused f

abbrev pub read : List ℕ → Answer
read octets = answer_either (read_either digits cas octets)

abbrev pub read_wide : List ℕ → Answer
read_wide octets = answer_wide (type3.read wide octets)

abbrev pub export : List ℕ → Answer
export octets = answer.Number (number_for_c octets)

-- what is written of a request with a message
abbrev pub payload_of : {M : Type 0} → WriteRequest → M → Payload M
payload_of r m = record { redundancy = r.redundancy; stamp = r.stamp; message = m }

abbrev pub write : WriteRequest → Message → Answer
write r (Cas m) = answer.Octets (written cas (payload_of r m))
write r (OfDigit (Ok d)) = answer.Octets (written digits (payload_of r d))
write r (OfDigit (Err f)) = answer.Refused f
write r (Wide m) = answer.Octets (written wide (payload_of r m))
