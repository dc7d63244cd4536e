-- What writing a payload leaves in the buffer. Assumes nothing.
use Rattle.std.proofs.Common.{◌≡◌, ℕ, ◌+◌, ◌-◌, ◌*◌, ◌/◌, ◌%◌, ◌≤◌, true, leb, List, [], ◌∷◌, ◌++◌, length, take, drop, set, Ok, ap, ◌∙◌}
use Rattle.std.proofs.Common.{arith}
use borrow.Rule.Slice.PartMut.{put_mid}
use Rattle.std.proofs.lemmas.List.{take_at}
use Rattle.crc10.specs.Check.{crc_of}
use Rattle.type3.specs.Kinds.{Meaning, Lawful}
use Rattle.type3.specs.Octets.{framed, written, write}
use Rattle.type3.specs.declared.payload.Payload.{Payload}
use Rattle.type3.proofs.Buffers.{framed_over, last_two}
use Rattle.type3.proofs.Parts.{length_framed}

module _ {M : Type 0} (k : Meaning M) (law : Lawful k) (x : Payload M) (out : List ℕ) where
  -- with an empty check field
  pub frame_is : (r s n t : ℕ) (b : List ℕ) → k.len + 4 ≤ length out → r ≡ x.redundancy → s ≡ x.stamp → n ≡ k.len
      → b ≡ k.body x.message → t ≡ k.message_type
      → set (set (put_mid 2 (n + 2 - 2) (set (set out 0 (r * 64 + s / 256)) 1 (s % 256)) b) (n + 2) (t * 4)) (n + 3) 0
      ≡ framed k x 0 ++ drop (k.len + 4) out
  frame_is r s n t b room er es en eb et =
      let none : k.message_type * 4 ≡ k.message_type * 4 + 0 = omega arith in
      rw (er, es, en, eb, et)
      (framed_over out (k.body x.message) k.len (x.redundancy * 64 + x.stamp / 256) (x.stamp % 256) (k.message_type * 4) 0
      (law.body_len x.message) room
      ∙ ap (λ z. ((x.redundancy * 64 + x.stamp / 256) ∷ (x.stamp % 256) ∷ (k.body x.message ++ z ∷ 0 ∷ [])) ++ drop (k.len + 4) out) none)

  -- and then with the check of that
  pub payload_is : (one : List ℕ) (n t check : ℕ) → n ≡ k.len + 4 → t ≡ k.message_type → one ≡ framed k x 0 ++ drop (k.len + 4) out
      → check ≡ crc_of (take n one)
      → set (set one (n - 2) (t * 4 + check / 256)) (n - 1) (check % 256) ≡ written k x ++ drop (k.len + 4) out
  payload_is one n t check en et e f =
      let long = length_framed k law x 0 in
      let low : n - 2 ≡ k.len + 2 = omega arith in
      let high : n - 1 ≡ k.len + 2 + 1 = omega arith in
      let head : length ((x.redundancy * 64 + x.stamp / 256) ∷ (x.stamp % 256) ∷ k.body x.message) ≡ k.len + 2 =
      omega (arith, law.body_len x.message) in
      let front : take n one ≡ framed k x 0 = ap (take n) e ∙ take_at (framed k x 0) (drop (k.len + 4) out) n (omega arith) in
      let is : check ≡ crc_of (framed k x 0) = f ∙ ap crc_of front in
      rw (low, high, e, et)
      (last_two ((x.redundancy * 64 + x.stamp / 256) ∷ (x.stamp % 256) ∷ k.body x.message) (drop (k.len + 4) out) (k.len + 2)
      _ _ (k.message_type * 4 + check / 256) (check % 256) head
      ∙ ap (λ c. framed k x c ++ drop (k.len + 4) out) is)

  pub room_yes : leb (k.len + 4) (length out) ≡ true → write k x out ≡ (Ok (k.len + 4), written k x ++ drop (k.len + 4) out)
  room_yes e = grind arith
