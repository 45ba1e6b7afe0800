-- Why intervals that are tried one after another give no kernel, while they are tried.
use Rattle.std.specs.Prelude.{◌≡◌, ℕ, ◌+◌, Bool, true, false, not, ◌&&◌, ◌||◌, List, [], ◌∷◌, ◌++◌, length}
use Rattle.std.specs.List.{AllZip, list_any, range_with_len}
use Rattle.loop_schedules.specs.Problems.{ProblemData, mii_of}
use Rattle.loop_schedules.specs.Schedules.{ScheduleData}
use Rattle.registers.specs.declared.lifetime.Lifetime.{Lifetime}
use Rattle.told_intervals.specs.declared.evidence.Reason.TheVariants as reason
use Rattle.told_intervals.specs.Reasons.{FailsFor}
use Rattle.told_choices.specs.declared.failures.Lack.{Lack}
use Rattle.told_choices.specs.declared.failures.Lack.TheVariants.{Never, Once, Again}
use Rattle.told_choices.specs.declared.why.Why.{Why}
use Rattle.told_choices.specs.declared.why.Why.TheVariants.{Register}
use Rattle.told_choices.specs.Whys.{FailsAs, TellNeeds, lacks, tells_need}

-- of the intervals that fail for registers, the first tells its need, and no other; `before` tells whether one did before these
abbrev pub FirstTells : Bool → List Why → Type 0
FirstTells before [] = Unit {0}
FirstTells before (why ∷ whys) = (tells_need why ≡ (lacks why && not before)) × FirstTells (before || lacks why) whys

-- one interval fails for registers
pub record HasOne (whys : List Why) : Type 0 where
  pub front : List Why
  pub why : Why
  pub rest : List Why
  pub is : whys ≡ front ++ why ∷ rest
  pub does : lacks why ≡ true
  pub none_before : list_any lacks front ≡ false
  pub none_after : list_any lacks rest ≡ false

-- several do, and this is the last one
pub record HasLast (problem : ProblemData) (whys : List Why) (place : ℕ) (life : Lifetime) (schedule : ScheduleData) : Type 0 where
  pub front : List Why
  pub rest : List Why
  pub is : whys ≡ front ++ Register life ∷ rest
  pub is_place : place ≡ length front
  pub some_before : list_any lacks front ≡ true
  pub none_after : list_any lacks rest ≡ false
  pub fails : FailsFor problem (mii_of problem + place) (reason.Register life schedule)

-- which ones fail for registers
abbrev pub IsLack : ProblemData → List Why → Lack → Type 0
IsLack problem whys Never = list_any lacks whys ≡ false
IsLack problem whys Once = HasOne whys
IsLack problem whys (Again place life schedule) = HasLast problem whys place life schedule

-- why each interval from the least one on gives none
pub record AreFailures (problem : ProblemData) (whys : List Why) (lack : Lack) : Type 0 where
  pub each : AllZip (FailsAs problem) (range_with_len (mii_of problem) (length whys)) whys
  pub first_tells : FirstTells false whys
  pub is_lack : IsLack problem whys lack

-- the same of so many intervals, with the needs of the first and the last one that fail for registers
pub record AreReasons (problem : ProblemData) (intervals : ℕ) (whys : List Why) : Type 0 where
  pub each : AllZip (FailsAs problem) (range_with_len (mii_of problem) intervals) whys
  pub tell_needs : TellNeeds false whys

-- none fails for registers
abbrev pub is_never : Lack → Bool
is_never Never = true
is_never Once = false
is_never (Again place life schedule) = false

-- the need of the last one is not told yet
abbrev pub is_again : Lack → Bool
is_again Never = false
is_again Once = false
is_again (Again place life schedule) = true
