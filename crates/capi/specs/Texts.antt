-- What a call with texts does for its caller.
use Rattle.std.specs.Prelude.{◌≡◌, ◌≢◌, ◌⊎◌, ℕ, nat_lt, if◌then◌else◌, List, ◌++◌, take, drop, length, Ok, Err}
use Rattle.machine_data.specs.declared.limits.TheConstants.{MAX_CEILING, MAX_RATIO, MAX_TRIP}
use Rattle.file_faults.specs.declared.fault.FileFault.{FileFault}
use Rattle.file_faults.specs.declared.fault.FileFault.TheVariants.{Loops, Memory}
use Rattle.exit_status.specs.Statuses.{line_of, refusal_of_file, status_number}
use Rattle.printouts.specs.Outcomes.{Outcome}
use Rattle.capi.specs.declared.telling.Told.{Told}

-- the first number that is out of its range: 1 the ratio, 2 the ceiling, 3 the trip count; 0 where each is within
abbrev pub trip_misfit : ℕ → ℕ
trip_misfit trip = if nat_lt MAX_TRIP trip then 3 else 0

abbrev pub search_misfit : ℕ → ℕ → ℕ
search_misfit ratio ceiling =
    if nat_lt ratio 1 then 1
    else if nat_lt MAX_RATIO ratio then 1
    else if nat_lt MAX_CEILING ceiling then 2
    else 0

abbrev pub run_misfit : ℕ → ℕ → ℕ → ℕ
run_misfit ratio ceiling trip =
    if nat_lt ratio 1 then 1
    else if nat_lt MAX_RATIO ratio then 1
    else if nat_lt MAX_CEILING ceiling then 2
    else if nat_lt MAX_TRIP trip then 3
    else 0

-- what is told: how many bytes a text has with the line at fault, a number that is out of its range, or nothing
abbrev pub told_text : List ℕ → ℕ → Told
told_text text line = record { bytes = length text; line = line; misfit = 0 }

abbrev pub told_misfit : ℕ → Told
told_misfit misfit = record { bytes = 0; line = 0; misfit = misfit }

abbrev pub told_nothing : Told
told_nothing = record { bytes = 0; line = 0; misfit = 0 }

-- as much of a text as there is room for; what is after it is as before
abbrev pub filled : List ℕ → List ℕ → List ℕ
filled text room = take (length room) text ++ drop (length text) room

-- a text is handed over, with the line at fault and a status of this number
pub record HandsText (text : List ℕ) (line number : ℕ) (before after : List ℕ) (told : Told) (status : ℕ) : Type 0 where
  pub is_status : status ≡ number
  pub is_told : told ≡ told_text text line
  pub is_room : after ≡ filled text before

-- memory ran out, and nothing is handed over
pub record HandsNothing (before after : List ℕ) (told : Told) (status : ℕ) : Type 0 where
  pub is_status : status ≡ 7
  pub is_told : told ≡ told_nothing
  pub same : after ≡ before

-- the line at fault of the loops' text, from 1; 0 where something else is refused
abbrev pub line_at : FileFault → ℕ
line_at (Loops fault) = fault.line
line_at fault = 0

-- the line that tells of a refusal, and the number of the status with which a run of the program ends by it
abbrev pub HandsRefusal : FileFault → List ℕ → List ℕ → Told → ℕ → Type 0
HandsRefusal fault before after told status =
    HandsText (line_of (refusal_of_file fault)) (line_at fault) (status_number (refusal_of_file fault)) before after told status

-- an outcome of texts is handed over: a text that is written, with 0 where every loop is met and else 1; or a refusal
abbrev pub Hands : Outcome → List ℕ → List ℕ → Told → ℕ → Type 0
Hands (Ok written) before after told status = HandsText written.text 0 (if written.all_met then 0 else 1) before after told status
Hands (Err Memory) before after told status = HandsNothing before after told status
Hands (Err fault) before after told status = HandsRefusal fault before after told status

-- the texts bring about an outcome like that, and it is handed over
pub record HandsBrought (IsBrought : Outcome → Type 0) (before after : List ℕ) (told : Told) (status : ℕ) : Type 0 where
  pub outcome : Outcome
  pub is_brought : IsBrought outcome
  pub hands : Hands outcome before after told status

-- a number is out of its range
pub record IsOutside (misfit : ℕ) (before after : List ℕ) (told : Told) (status : ℕ) : Type 0 where
  pub is_status : status ≡ 2
  pub outside : misfit ≢ 0
  pub is_told : told ≡ told_misfit misfit
  pub same : after ≡ before

-- the first number that is out of its range, and else an outcome of the texts
abbrev pub AnswersTexts : ℕ → (Outcome → Type 0) → List ℕ → List ℕ → Told → ℕ → Type 0
AnswersTexts misfit IsBrought before after told status = IsOutside misfit before after told status ⊎ ((misfit ≡ 0) × HandsBrought IsBrought before after told status)
