-- What is so of the status of each refusal.
use Rattle.std.specs.Global.{Global}
use Rattle.std.specs.Prelude.{◌≡◌, ◌⊎◌, string_bytes, String, List, Some, option_map, Result, Ok, Err}
use Rattle.exit_status.specs.Statuses.{refusal_of_loops, status_number}
use Rattle.reader_faults.specs.declared.loops.LoopFault.{LoopFault}
use Rattle.loop_data.specs.Loops.{LoopData}
use Rattle.modsched.specs.Naming.{first_unknown}
use Rattle.exit_status.specs.declared.status.Status.{Status}
use Rattle.exit_status.specs.declared.status.Status.TheVariants.{Machine, Loops, NoTable, NoLoop, Problems, Solutions, OutOfMemory}

-- it tells of a text or of memory, and one status alone tells that memory ran out
abbrev pub IsRefusal : Status → Type 0
IsRefusal (Machine fault) = status_number (Machine fault) ≡ 4
IsRefusal (Loops fault) = status_number (Loops fault) ≡ 5
IsRefusal (NoTable name opcode) = Unit {0}
IsRefusal (NoLoop name) = Unit {0}
IsRefusal (Problems fault) = status_number (Problems fault) ≡ 4
IsRefusal (Solutions fault) = status_number (Solutions fault) ≡ 5
IsRefusal OutOfMemory = Unit {0}
IsRefusal status = ⊥

-- the status of loops that can't be told by names: of the text's fault, or of the first name that no loop has
abbrev pub NamesNone : List (String Global) → Result (List LoopData) LoopFault → Status → Type 0
NamesNone names (Err fault) status = status ≡ refusal_of_loops fault
NamesNone names (Ok loops) status = (name : String Global) × (status ≡ NoLoop name) × (option_map string_bytes (first_unknown names loops) ≡ Some (string_bytes name))

-- .. unless memory ran out
abbrev pub IsUnnamed : List (String Global) → Result (List LoopData) LoopFault → Status → Type 0
IsUnnamed names loops status = (status ≡ OutOfMemory) ⊎ NamesNone names loops status
