-- A list of calls on two ends, with its answers, for which every premise of the law holds: the law is not empty. Assumes nothing.
use Rattle.std.specs.Prelude.{◌≡◌, ℕ, Bool, true, false, not, ◌&&◌, List, [], ◌∷◌, take, is_some, Some, None, Ok, Err, Option, ◌==◌, refl}
use Rattle.std.specs.List.{slice_get, list_all}
use Rattle.std.specs.Option.{option_map, option_map_or, option_and_then}
use Rattle.refusal.specs.declared.Refusal.TheVariants.{Sending, Type3, Arrival as AtArrival}
use Rattle.refusal.specs.declared.SendingFault.TheVariants.{NotLater}
use Rattle.refusal.specs.declared.ArrivalFault.TheVariants.{UnknownUui}
use Rattle.refusal.specs.declared.Type3Fault.TheVariants.{WrongCrc}
use Rattle.type3.specs.declared.payload.Either.TheVariants.{First, Second}
use Rattle.kinds.specs.declared.system.System.TheVariants.{Dtmf}
use Rattle.kinds.specs.declared.digit.Digit.{Digit}
use Rattle.kinds.specs.declared.cas.CasBits.{CasBits}
use Rattle.kinds.specs.Digits.{digits}
use Rattle.kinds.specs.Cas.{cas}
use Rattle.profile.specs.Examples.{entries_of}
use Rattle.profile.specs.Questions.{refusal}
use Rattle.profile.specs.declared.entry.Entry.{Entry}
use Rattle.profile.specs.declared.examples.Example.TheVariants.{A}
use Rattle.placing.specs.declared.receiver.Class.TheVariants.{Event, Confirmed, Recovered}
use Rattle.placing.specs.Lists.{gather}
use Rattle.trunk.specs.declared.answer.WhichKind.TheVariants as which
use Rattle.trunk.specs.End.{in_force}
use Rattle.trunk.specs.declared.answer.Stream.TheVariants.{Audio, Messages}
use Rattle.network.specs.declared.side.Side.TheVariants.{Near, Far}
use Rattle.network.specs.Runs.{audio, event, due, arrive, Moment, Ends, begun, end_at, after, history}
use Rattle.network.specs.Packets.{Arrival, had, packet_from, arrival, arrivals}
use Rattle.network.specs.Law.{spoiled, foreign, original, sound, sounds, Premises, later_than_all, latest_news}
use Rattle.samples.specs.Notation.{digit, signal, near, far, audio_news, digit_news, bits_news, calls_of, Answered, repeat, late, of_digits}

-- ---- what is sent

-- keys 5 and 7 at -10 dBm0, and signalling bits
abbrev pub five : Digit
five = digit 10 Dtmf 5 refl refl

abbrev pub seven : Digit
seven = digit 10 Dtmf 7 refl refl

abbrev pub bits : CasBits
bits = signal true false false true

-- the payloads of 5, made for 1,000, and its refresh, made for 1,510
abbrev pub five_copy_0 : List ℕ
five_copy_0 = 0x03 ∷ 0xE8 ∷ 0x0A ∷ 0x05 ∷ 0x0B ∷ 0x4F ∷ []

abbrev pub five_copy_1 : List ℕ
five_copy_1 = 0x43 ∷ 0xE8 ∷ 0x0A ∷ 0x05 ∷ 0x08 ∷ 0xB8 ∷ []

abbrev pub five_copy_2 : List ℕ
five_copy_2 = 0x83 ∷ 0xE8 ∷ 0x0A ∷ 0x05 ∷ 0x0A ∷ 0x92 ∷ []

abbrev pub five_refresh : List ℕ
five_refresh = 0xC5 ∷ 0xE6 ∷ 0x0A ∷ 0x05 ∷ 0x0B ∷ 0x4D ∷ []

-- the same with the lowest bit of the message changed
abbrev pub five_spoiled : List ℕ
five_spoiled = 0xC5 ∷ 0xE6 ∷ 0x0A ∷ 0x04 ∷ 0x0B ∷ 0x4D ∷ []

-- those of 7, made for 18,000 (the stamp is 1,616), and its refresh, made for 18,510
abbrev pub seven_copy_0 : List ℕ
seven_copy_0 = 0x06 ∷ 0x50 ∷ 0x0A ∷ 0x07 ∷ 0x08 ∷ 0x06 ∷ []

abbrev pub seven_copy_1 : List ℕ
seven_copy_1 = 0x46 ∷ 0x50 ∷ 0x0A ∷ 0x07 ∷ 0x0B ∷ 0xF1 ∷ []

abbrev pub seven_copy_2 : List ℕ
seven_copy_2 = 0x86 ∷ 0x50 ∷ 0x0A ∷ 0x07 ∷ 0x09 ∷ 0xDB ∷ []

abbrev pub seven_refresh : List ℕ
seven_refresh = 0xC8 ∷ 0x4E ∷ 0x0A ∷ 0x07 ∷ 0x09 ∷ 0x71 ∷ []

-- the first copy of the signalling bits, made for 5
abbrev pub bits_copy_0 : List ℕ
bits_copy_0 = 0x00 ∷ 0x05 ∷ 0x09 ∷ 0x0D ∷ 0x04 ∷ []

-- audio of the entries at place 4, which are ten octets, and at place 5, which is one
abbrev pub speech : List ℕ
speech = 8 ∷ 8 ∷ 7 ∷ 7 ∷ 6 ∷ 6 ∷ 5 ∷ 5 ∷ 4 ∷ 4 ∷ []

abbrev pub silence : List ℕ
silence = 30 ∷ []

-- ---- the calls and their answers

-- Each call, with its answer. Digits and audio go from near to far, and signalling bits come back.
abbrev pub witness : List (Moment Digit CasBits)
witness =
    -- 0: 5 is pressed
    near (event 1000 (First five)) (Ok tt)
    -- 1: its copy 0, which is held up
    ∷ near (due which.First 1000 6) (Ok (Some five_copy_0))
    -- 2: copy 1 is not due yet
    ∷ near (due which.First 1004 6) (Ok None)
    -- 3: copy 1
    ∷ near (due which.First 1005 6) (Ok (Some five_copy_1))
    -- 4: which is heard first
    ∷ far (arrive 50 24 five_copy_1 (Some 3)) (digit_news Event 1 0 0 five)
    -- 5: copy 2
    ∷ near (due which.First 1010 6) (Ok (Some five_copy_2))
    -- 6: a repeat
    ∷ far (arrive 56 24 five_copy_2 (Some 5)) (repeat of_digits)
    -- 7: a refresh
    ∷ near (due which.First 1510 6) (Ok (Some five_refresh))
    -- 8: spoiled
    ∷ far (arrive 560 24 five_spoiled (Some 7)) (Err (Type3 WrongCrc))
    -- 9: a foreign packet
    ∷ far (arrive 561 16 [] None) (Err (AtArrival UnknownUui))
    -- 10: the refresh
    ∷ far (arrive 562 24 five_refresh (Some 7)) (digit_news Confirmed 3 510 510 five)
    -- 11: copy 0, late
    ∷ far (arrive 563 24 five_copy_0 (Some 1)) (late of_digits)
    -- 12: no event at the time of the refresh
    ∷ near (event 1510 (First seven)) (Err (Sending NotLater))
    -- 13: 7 is pressed, when the stamp has gone round
    ∷ near (event 18000 (First seven)) (Ok tt)
    -- 14, 15, 16: all its copies are lost
    ∷ near (due which.First 18000 6) (Ok (Some seven_copy_0))
    ∷ near (due which.First 18005 6) (Ok (Some seven_copy_1))
    ∷ near (due which.First 18010 6) (Ok (Some seven_copy_2))
    -- 17: its refresh
    ∷ near (due which.First 18510 6) (Ok (Some seven_refresh))
    -- 18: recovers it, more than a span after the news before
    ∷ far (arrive 17565 24 seven_refresh (Some 17)) (digit_news Recovered 3 17000 17510 seven)
    -- 19: audio
    ∷ near (audio 85 4 speech) (Ok 1)
    -- 20: is news, whose octets may have changed
    ∷ far (arrive 17600 1 (9 ∷ 8 ∷ 7 ∷ 7 ∷ 6 ∷ 6 ∷ 5 ∷ 5 ∷ 4 ∷ 4 ∷ []) (Some 19)) (audio_news 4 0 0)
    -- 21: silence
    ∷ near (audio 90 5 silence) (Ok 2)
    -- 22: is news, 5 ms after the audio
    ∷ far (arrive 17606 2 silence (Some 21)) (audio_news 5 5 5)
    -- 23: the audio once more
    ∷ far (arrive 17606 1 speech (Some 19)) (late Audio)
    -- 24: signalling bits, the other way
    ∷ far (event 5 (Second bits)) (Ok tt)
    -- 25: their copy 0
    ∷ far (due which.Second 5 5) (Ok (Some bits_copy_0))
    -- 26: is heard
    ∷ near (arrive 3 24 bits_copy_0 (Some 25)) (bits_news Event 0 0 0 bits)
    ∷ []

abbrev pub profile : List Entry
profile = entries_of A

abbrev pub ends : Ends Digit CasBits
ends = after digits cas (begun profile profile) (calls_of witness)

-- ---- what is true of them

abbrev pub run : List (Moment Digit CasBits)
run = history digits cas (begun profile profile) (calls_of witness)

-- of the arrival at a place of the list, beside the calls before it
abbrev pub at : {Y : Type 0} → ℕ → (List (Moment Digit CasBits) → Arrival Digit CasBits → Y) → Option Y
at i find = option_map (find (take i witness)) (option_and_then arrival (slice_get witness i))

-- the near end made a packet at a place of the list, and no arrival at the far end copies it
abbrev pub lost : ℕ → Bool
lost i =
    is_some (packet_from Near witness (Some i)) && list_all (λ x. not (option_map_or (λ j. i == j) x.copies false)) (arrivals Far witness)

-- What the answers alone do not show, in the words of the law.
pub record SortsOccur : Type 0 where
  pub copies_of_7_are_lost : list_all lost (14 ∷ 15 ∷ 16 ∷ []) ≡ true
  pub arrival_8_is_spoiled : at 8 (λ before x. option_map_or (λ p. spoiled p x) (original before x) false) ≡ Some true
  pub arrival_9_is_foreign : at 9 (λ before x. foreign x) ≡ Some true
  pub arrival_11_is_a_sound_copy : at 11 (λ before x. is_some (sound before x)) ≡ Some true
  pub arrival_18_is_made_for_18510 : at 18 (λ before x. option_map (λ s. s.packet.time) (sound before x)) ≡ Some (Some 18510)
  -- at 4, 6, 8, 9, 10, 11, 18, 20, 22, 23 and 26
  pub later_than_all_before :
      gather (λ before m. option_map (λ x. later_than_all before (sound before x)) (arrival m)) [] witness
      ≡ true ∷ false ∷ false ∷ false ∷ true ∷ false ∷ true ∷ true ∷ true ∷ false ∷ true ∷ []

-- The key 7 is in force at the far end, whose latest news was made for 18,510, as the near end had it then; and the bits at the near
-- end, as the far end had them.
pub record InForce : Type 0 where
  pub at_the_far_end : in_force (end_at ends Far) which.First ≡ Some (First seven)
  pub latest_news_there : option_map (λ s. s.packet.time) (latest_news (sounds Far (Messages which.First) witness)) ≡ Some 18510
  pub what_the_near_end_had : had Near which.First 18510 witness ≡ Some (First seven)
  pub at_the_near_end : in_force (end_at ends Near) which.Second ≡ Some (Second bits)
  pub what_the_far_end_had : had Far which.Second 5 witness ≡ Some (Second bits)

pub record LawIsNotEmpty : Type 0 where
  pub profile_loads : refusal profile ≡ None
  pub premises : Premises digits cas profile profile run
  pub answers : Answered profile witness
  pub sorts : SortsOccur
  pub in_force : InForce
