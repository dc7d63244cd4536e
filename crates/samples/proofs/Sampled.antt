-- Made by tests/law/make.py: the samples, by computing. Assumes nothing.
use Rattle.std.proofs.Common.{refl}
use Rattle.samples.specs.Samples.{SamplesHold}

pub samples_hold : SamplesHold
samples_hold = record {
  sample_1_is_answered_so = refl;
  sample_2_is_answered_so = refl;
  sample_3_is_answered_so = refl;
  sample_4_is_answered_so = refl;
  sample_5_is_answered_so = refl;
  sample_6_is_answered_so = refl;
  sample_7_is_answered_so = refl;
  offers_are_refused_so = refl;
}
