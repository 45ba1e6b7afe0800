-- Where something stands that has no fault yet, as the place of a fault.
use Rattle.std.specs.Prelude.{ℕ, List}
use Rattle.reader_faults.specs.declared.machine.MachineFault.{MachineFault}
use Rattle.reader_faults.specs.declared.machine.MachineFault.TheVariants as fault
use Rattle.machine_lint.specs.Spots.{key_of, limit_of}
use Rattle.machine_lint.specs.declared.judge.Wrong.{Wrong}
use Rattle.machine_lint.specs.declared.judge.Wrong.TheVariants as wrong
use Rattle.machine_lint.specs.declared.place.MachineLint.{MachineLint}
use Rattle.machine_lint.specs.declared.place.Place.{Place}
use Rattle.machine_lint.specs.declared.spots.At.{At}
use Rattle.machine_lint.specs.declared.spots.At.TheVariants as at
use Rattle.machine_lint.specs.declared.spots.Found.{Found}
use Rattle.machine_lint.specs.declared.spots.Spot.{Spot}
use Rattle.machine_lint.specs.declared.spots.Spot.TheVariants as spot

abbrev pub spot_at : At → Spot
spot_at (at.TopKey key) = spot.TopKey key.now
spot_at at.Units = spot.Units
spot_at (at.Unit n) = spot.Unit n
spot_at at.Registers = spot.Registers
spot_at at.Ops = spot.Ops
spot_at (at.Table word) = spot.Table word.now
spot_at (at.TableKey word key) = spot.TableKey word.now key.now
spot_at (at.Latency word) = spot.Latency word.now
spot_at (at.Alternatives word) = spot.Alternatives word.now
spot_at (at.Alternative word n) = spot.Alternative word.now n
spot_at (at.Row word n m) = spot.Row word.now n m

-- a fault at a place
abbrev pub lint_on : Place → Spot → Found → MachineFault → MachineLint
lint_on place at found fault = record { line = place.line; column = place.column; spot = at; found = found; fault = fault }

-- .. where a key is that of the word, or of the name at the top
abbrev pub spot_with : At → List ℕ → Spot
spot_with (at.TopKey name) key = spot.TopKey key
spot_with (at.Latency word) key = spot.Latency key
spot_with (at.Alternatives word) key = spot.Alternatives key
spot_with (at.Alternative word n) key = spot.Alternative key n
spot_with (at.Row word n m) key = spot.Row key n m
spot_with _ key = spot.Table key

-- the key, or the name, that is told of what is wrong
abbrev pub name_of : Spot → Wrong → List ℕ
name_of at (wrong.Repeated name) = name.now
name_of at (wrong.Unit name) = name.now
name_of at (wrong.Opcode name) = name.now
name_of at wrong.Limit = limit_of at
name_of at _ = key_of at

-- the fault of what is wrong
abbrev pub fault_of : Wrong → List ℕ → MachineFault
fault_of wrong.Type name = fault.WrongType name
fault_of wrong.Limit name = fault.Limit name
fault_of wrong.Key name = fault.UnknownKey name
fault_of wrong.Row name = fault.RepeatedRow name
fault_of (wrong.Repeated own) name = fault.RepeatedUnit name
fault_of (wrong.Unit own) name = fault.UnknownUnit name
fault_of (wrong.Opcode own) name = fault.UnknownOpcode name
