-- How the writing of a text ended.
use Rattle.std.specs.Prelude.{Result, Ok, Err}
use Rattle.devices.specs.declared.device.Fault.{Fault}
use Rattle.exit_status.specs.declared.status.Status.{Status}
use Rattle.exit_status.specs.declared.status.Status.TheVariants as status
use Rattle.exit_status.specs.declared.verdict.Verdict.{Verdict}
use Rattle.exit_status.specs.declared.verdict.Verdict.TheVariants as verdict

-- the status of a text that is written whole and tells this
abbrev pub status_told : Verdict → Status
status_told verdict.Fine = status.Done
status_told verdict.Unmet = status.Unmet
status_told verdict.MachineFaulty = status.MachineFaulty
status_told verdict.LoopsFaulty = status.LoopsFaulty

-- the status where it was written, or the output failed
abbrev pub status_of : Result (Unit {0}) Fault → Verdict → Status
status_of (Ok done) told = status_told told
status_of (Err fault) told = status.Unwritten
