-- The first values of a list that meet in a register.
use Rattle.std.specs.Prelude.{◌≡◌, ◌≢◌, ℕ, ℤ, pos, ◌<◌, ◌≤◌, List, take, slice_index}
use Rattle.registers.specs.Physical.{physical}
use Rattle.registers.specs.declared.lifetime.Lifetime.{Lifetime}
use Rattle.registers.specs.declared.meeting.Meeting.{Meeting}
use Rattle.registers.specs.Allotments.{DoMeet, IsLawfulAllotment}

-- an instance of the earlier value meets instance 0 of the later one, and is another instance; the values before the later one have
-- lawful numbers, and none before the earlier one meets it
pub record IsFirstMeeting (ii registers : ℕ) (lives : List Lifetime) (numbers : List ℕ) (meeting : Meeting) : Type 0 where
  pub in_order : meeting.earlier ≤ meeting.later
  pub iteration : ℤ
  pub different : meeting.earlier ≡ meeting.later → iteration ≢ pos 0
  pub meet : DoMeet ii registers lives numbers meeting.earlier iteration meeting.later (pos 0)
  pub is_cycle : meet.cycle ≡ pos meeting.cycle
  pub is_register : physical registers (slice_index numbers meeting.later) (pos 0) ≡ meeting.register
  pub lawful_before : IsLawfulAllotment ii registers (take meeting.later lives) (take meeting.later numbers)
  pub none_before : (k : ℕ) (i j : ℤ) → k < meeting.earlier → ¬ DoMeet ii registers lives numbers k i meeting.later j

-- law: then the numbers are not lawful

abbrev pub MeetingsAreUnlawful : Type 0
MeetingsAreUnlawful = (ii registers : ℕ) (lives : List Lifetime) (numbers : List ℕ) (meeting : Meeting) → IsFirstMeeting ii registers lives numbers meeting
    → ¬ IsLawfulAllotment ii registers lives numbers
