-- The number and the layer of each refusal, and what else it tells. Assumes nothing.
use Rattle.std.specs.Prelude.{ℕ, List, ◌++◌, codes, decimal, Some, None, Option}
use Rattle.refusal.specs.declared.Refusal.{Refusal}
use Rattle.refusal.specs.declared.Refusal.TheVariants.{Profile, Sending, Arrival, Type3, Kind, Placing}
use Rattle.refusal.specs.declared.ProfileFault.TheVariants.{EntryCount, UuiRange, EntryLength, Width, Times, Unlike, Duplicate}
use Rattle.refusal.specs.declared.SendingFault.TheVariants.{TimeOutOfRange, NoEntry, PayloadLength, OffInterval, Overlap, BehindClock}
use Rattle.refusal.specs.declared.SendingFault.TheVariants.{NotLater, BufferTooShort}
use Rattle.refusal.specs.declared.ArrivalFault.TheVariants as arrival
use Rattle.refusal.specs.declared.ArrivalFault.TheVariants.{RunsBack, UnknownUui, NoSuchAudio}
use Rattle.refusal.specs.declared.Type3Fault.TheVariants.{PayloadSize, WrongCrc, UnknownType, KindLength}
use Rattle.refusal.specs.declared.KindFault.TheVariants.{DigitType, DigitCode, Body}
use Rattle.refusal.specs.declared.PlacingFault.TheVariants.{EquallyNear, PositionOutOfRange}
use Rattle.refusal.specs.declared.Layer.{Layer}
use Rattle.refusal.specs.declared.Layer.TheVariants as layer

abbrev pub number_of : Refusal → ℕ
number_of (Profile EntryCount place) = 1
number_of (Profile UuiRange place) = 2
number_of (Profile EntryLength place) = 3
number_of (Profile Width place) = 4
number_of (Profile Times place) = 5
number_of (Profile Unlike place) = 6
number_of (Profile Duplicate place) = 7
number_of (Sending TimeOutOfRange) = 10
number_of (Sending NoEntry) = 11
number_of (Sending PayloadLength) = 12
number_of (Sending OffInterval) = 13
number_of (Sending Overlap) = 14
number_of (Sending BehindClock) = 15
number_of (Sending NotLater) = 16
number_of (Sending BufferTooShort) = 19
number_of (Arrival arrival.TimeOutOfRange) = 10
number_of (Arrival RunsBack) = 20
number_of (Arrival UnknownUui) = 21
number_of (Arrival NoSuchAudio) = 22
number_of (Type3 PayloadSize) = 23
number_of (Type3 WrongCrc) = 24
number_of (Type3 UnknownType) = 25
number_of (Type3 KindLength) = 26
number_of (Kind DigitType) = 17
number_of (Kind DigitCode) = 18
number_of (Kind (Body cause)) = 27
number_of (Placing EquallyNear) = 28
number_of (Placing PositionOutOfRange) = 29

-- what is printed of it
abbrev pub text_of : Refusal → List ℕ
text_of refusal = codes "refused with " ++ decimal (number_of refusal)

abbrev pub layer_of : Refusal → Layer
layer_of (Profile fault place) = layer.Profile
layer_of (Sending fault) = layer.Sending
layer_of (Arrival fault) = layer.Arrival
layer_of (Type3 fault) = layer.Type3
layer_of (Kind fault) = layer.Kind
layer_of (Placing fault) = layer.Placing

-- the place of the entry that a profile was refused for, and 0 where the number of entries is wrong
abbrev pub place_of : Refusal → Option ℕ
place_of (Profile fault place) = Some place
place_of (Sending fault) = None
place_of (Arrival fault) = None
place_of (Type3 fault) = None
place_of (Kind fault) = None
place_of (Placing fault) = None

-- why a kind does not read a body
abbrev pub cause_of : Refusal → Option ℕ
cause_of (Kind (Body cause)) = Some cause
cause_of (Kind DigitType) = None
cause_of (Kind DigitCode) = None
cause_of (Profile fault place) = None
cause_of (Sending fault) = None
cause_of (Arrival fault) = None
cause_of (Type3 fault) = None
cause_of (Placing fault) = None
