-- What an arrival is on its stream, as the end's answer. Assumes nothing.
use Rattle.std.specs.Prelude.{Ok, Err, Result}
use Rattle.refusal.specs.declared.Refusal.{Refusal}
use Rattle.placing.specs.declared.stream.Novelty.{Novelty}
use Rattle.placing.specs.declared.stream.Novelty.TheVariants.{News, Repeat, Late}
use Rattle.trunk.specs.declared.answer.Stream.{Stream}
use Rattle.trunk.specs.declared.answer.Arrived.{Arrived}
use Rattle.trunk.specs.declared.answer.Arrived.TheVariants as arrived

module _ {P Q T : Type 0} where
  -- what is told of an arrival on a stream: news by its case, and a repeat or a late one with the stream's name
  abbrev pub on_stream : Stream → (T → Arrived P Q) → Novelty T → Arrived P Q
  on_stream stream news (News x) = news x
  on_stream stream news Repeat = arrived.Repeat stream
  on_stream stream news Late = arrived.Late stream

  -- a stream's answer as the end's; its refusal is the end's
  abbrev pub answer_on : Stream → (T → Arrived P Q) → Result (Novelty T) Refusal → Result (Arrived P Q) Refusal
  answer_on stream news (Ok x) = Ok (on_stream stream news x)
  answer_on stream news (Err f) = Err f
