-- What the network does. Assumes nothing.
use Rattle.std.specs.Prelude.{ℕ, ◌+◌, ◌-◌, ◌/◌, ◌%◌, ◌^◌, min, cond, bit_xor, List, [], ◌∷◌, slice_set, slice_index, Some, None, Option}
use Rattle.std.specs.Prelude.{◌==◌, nat_lt}
use Rattle.dialling.specs.declared.deliveries.Sort.{Sort}
use Rattle.dialling.specs.declared.deliveries.Sort.TheVariants.{Message, Audio}
use Rattle.dialling.specs.declared.deliveries.Treatment.{Treatment}
use Rattle.dialling.specs.declared.deliveries.Treatment.TheVariants.{Lost, Arrives, Twice, HeldBack, Spoiled, WithForeign}
use Rattle.dialling.specs.declared.deliveries.Condition.{Condition}
use Rattle.dialling.specs.declared.deliveries.Condition.TheVariants as arrives
use Rattle.dialling.specs.declared.deliveries.Delivery.{Delivery}

-- a time of the near end's clock, on the far end's (times are below 2^64 in the program)
abbrev pub far_time : ℕ → ℕ
far_time time = min (time + 5000000) (2 ^ 64 - 1)

-- what happens to the packet of a number
abbrev pub message_treatment : ℕ → Treatment
message_treatment n =
    cond (nat_lt n 3) Lost
    (cond (n % 8 == 0) Lost
    (cond (n % 8 == 2) Twice
    (cond (n % 8 == 4) HeldBack
    (cond (n % 8 == 6) Spoiled
    (cond (n % 8 == 7) WithForeign
    Arrives)))))

abbrev pub audio_treatment : ℕ → Treatment
audio_treatment n =
    cond (n % 5 == 1) Lost
    (cond (n % 5 == 2) Twice
    (cond (n % 5 == 3) HeldBack
    Arrives))

abbrev pub treatment : Sort → ℕ → Treatment
treatment Message n = message_treatment n
treatment Audio n = audio_treatment n

-- when a packet arrives to which nothing happens
abbrev pub arrival : Sort → ℕ → ℕ
arrival Message sent = sent + 40 + sent / 2
arrival Audio sent = sent + 30

-- how long after that it arrives once more
abbrev pub repeat_delay : Sort → ℕ
repeat_delay Message = 700
repeat_delay Audio = 3

-- for how long it is held back
abbrev pub holding_delay : Sort → ℕ
holding_delay Message = 1000
holding_delay Audio = 8

-- what arrives of a packet that by itself would arrive at a time
abbrev pub delivery_at : Condition → ℕ → Option Delivery
delivery_at condition time = Some (record { time = time; condition = condition })

abbrev pub sound_at : ℕ → Option Delivery
sound_at time = delivery_at arrives.Sound time

abbrev pub deliveries_by : Sort → ℕ → Treatment → List (Option Delivery)
deliveries_by sort time Lost = None ∷ None ∷ []
deliveries_by sort time Arrives = sound_at time ∷ None ∷ []
deliveries_by sort time Twice = sound_at time ∷ sound_at (time + repeat_delay sort) ∷ []
deliveries_by sort time HeldBack = sound_at (time + holding_delay sort) ∷ None ∷ []
deliveries_by sort time Spoiled = delivery_at arrives.Spoiled time ∷ sound_at (time + 20) ∷ []
deliveries_by sort time WithForeign = sound_at time ∷ delivery_at arrives.Foreign time ∷ []

abbrev pub deliveries : Sort → ℕ → ℕ → List (Option Delivery)
deliveries sort number sent = deliveries_by sort (arrival sort sent) (treatment sort number)

-- the lowest bit of the third octet, if there is one, is changed
abbrev pub spoiled_octets : List ℕ → List ℕ
spoiled_octets octets = slice_set octets 2 (bit_xor (slice_index octets 2) 1)
