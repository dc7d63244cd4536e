-- Numbers below 65,536, each in two octets. Assumes nothing.
use Rattle.std.specs.Prelude.{ℕ, ◌+◌, ◌*◌, ◌/◌, ◌%◌, [], ◌∷◌, None, Ok, ◌==◌, slice_index}
use Rattle.type3.specs.Kinds.{Meaning}

-- No bit is reserved, any two octets are read, and nothing is refreshed.
abbrev pub plain : Meaning ℕ
plain = record {
  message_type = 62;
  len = 2;
  reserved = [];
  body = λ n. (n / 256) ∷ (n % 256) ∷ [];
  gap = λ n. None;
  read = λ o. Ok (slice_index o 0 * 256 + slice_index o 1);
  causes = [];
  same = λ m n. (m == n);
}
