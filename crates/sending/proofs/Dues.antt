-- What a due call that sends a packet does. Assumes nothing.
use Rattle.std.proofs.Common.{◌≡◌, ℕ, ◌+◌, true, leb, List, length, Some, Ok, ◌∙◌, arith}
use Rattle.refusal.specs.Questions.{first_no, allowed}
use Rattle.std.proofs.lemmas.Bool.Decides.{nat_tests}
use Rattle.type3.specs.Kinds.{Meaning, Lawful}
use Rattle.type3.specs.Octets.{write}
use Rattle.type3.specs.declared.payload.Payload.{Payload}
use Rattle.type3.proofs.Writes.{room_yes}
use Rattle.type3.proofs.RoundTrip.{length_written}
use Rattle.sending.specs.Sending.{Outbound, due_of, said_by, octets_of, due_questions, due}
use Rattle.sending.specs.declared.event.DuePacket.{DuePacket}
use Rattle.sending.specs.Answered.{put}

module _ {M : Type 0} (k : Meaning M) (law : Lawful k) (s : Outbound M) (u t : ℕ) (out : List ℕ) (d : DuePacket M) (x : Payload M) where
  sends : u ≡ t → Ok tt ≡ allowed (first_no (due_questions k s u (length out))) → Some d ≡ due_of s u →
      ((due k s t (length out)).0 ≡ Ok (Some (octets_of k d))) × (leb (k.len + 4) (length out) ≡ true)
  sends is asked is_due = (grind (arith, nat_tests), grind (arith, nat_tests))

  -- it writes the octets that were due
  pub octets_are : u ≡ t → Ok tt ≡ allowed (first_no (due_questions k s u (length out))) → Some d ≡ due_of s u → x ≡ said_by d →
      (after : List ℕ) → after ≡ (write k x out).1 → after ≡ put out (due k s t (length out)).0
  octets_are is asked is_due says after e =
      let both = sends is asked is_due in
      e ∙ rw (says, room_yes k law (said_by d) out both.1, both.0, ← length_written k law (said_by d))
