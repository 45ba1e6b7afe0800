-- A fault of a machine text in words: where it is, what stands there, and what is expected.
use Rattle.std.specs.Prelude.{ℕ, codes, decimal, List, [], ◌++◌, Option, Some, None}
use Rattle.std.specs.Fmt.{signed_decimal}
use Rattle.reader_faults.specs.MachineFaults.{key_text}
use Rattle.reader_faults.specs.declared.machine.MachineFault.{MachineFault}
use Rattle.reader_faults.specs.declared.machine.MachineFault.TheVariants as fault
use Rattle.machine_lint.specs.Hints.{near_name}
use Rattle.machine_lint.specs.declared.place.MachineLint.{MachineLint}
use Rattle.machine_lint.specs.declared.spots.Found.{Found}
use Rattle.machine_lint.specs.declared.spots.Found.TheVariants as found
use Rattle.machine_lint.specs.declared.spots.Spot.{Spot}
use Rattle.machine_lint.specs.declared.spots.Spot.TheVariants as spot
use Rattle.lint_text.specs.What.{name_text}

-- the number of an element, from 0
abbrev pub index_text : ℕ → List ℕ
index_text n = (codes "[" ++ decimal n) ++ codes "]"

abbrev pub table_text : List ℕ → List ℕ
table_text word = codes "ops." ++ key_text word

-- the key in full
abbrev pub spot_text : Spot → List ℕ
spot_text spot.Whole = []
spot_text (spot.TopKey key) = key_text key
spot_text spot.Units = codes "units"
spot_text (spot.Unit n) = codes "units" ++ index_text n
spot_text spot.Registers = codes "registers"
spot_text spot.Ops = codes "ops"
spot_text (spot.Table word) = table_text word
spot_text (spot.TableKey word key) = (table_text word ++ codes ".") ++ key_text key
spot_text (spot.Latency word) = table_text word ++ codes ".latency"
spot_text (spot.Alternatives word) = table_text word ++ codes ".alts"
spot_text (spot.Alternative word n) = (table_text word ++ codes ".alts") ++ index_text n
spot_text (spot.Row word n m) = ((table_text word ++ codes ".alts") ++ index_text n) ++ index_text m

-- what stands there
abbrev pub found_text : Found → List ℕ
found_text found.Nothing = []
found_text (found.Word text) = (codes " = \"" ++ key_text text) ++ codes "\""
found_text (found.Number z) = codes " = " ++ signed_decimal z
found_text (found.Elements n) = (codes " (elements: " ++ decimal n) ++ codes ")"

-- what has to stand there
abbrev pub wanted_text : Spot → List ℕ
wanted_text spot.Units = codes "an array of names"
wanted_text (spot.Unit n) = codes "a name"
wanted_text spot.Registers = codes "an integer"
wanted_text (spot.Latency word) = codes "an integer"
wanted_text (spot.Alternatives word) = codes "an array of alternatives"
wanted_text (spot.Alternative word n) = codes "an array of rows"
wanted_text (spot.Row word n m) = codes "a row UNIT@NUM"
wanted_text _ = codes "a table"

-- the limits of what stands there
abbrev pub limits_text : Spot → List ℕ
limits_text spot.Units = codes "1 to 64 units"
limits_text (spot.Unit n) = codes "a lower-case letter, and at most 15 lower-case letters, digits or _ after it"
limits_text spot.Registers = codes "1 to 256"
limits_text (spot.Latency word) = codes "1 to 64"
limits_text (spot.Alternatives word) = codes "1 to 8 alternatives"
limits_text (spot.Alternative word n) = codes "1 to 16 rows"
limits_text (spot.Row word n m) = codes "an offset of 0 to 63"
limits_text _ = codes "a text of at most 1048576 bytes"

-- what is wrong
abbrev pub machine_what : Spot → MachineFault → List ℕ
machine_what at (fault.MissingKey key) = codes "missing key"
machine_what at (fault.WrongType key) = codes "wrong type: expected " ++ wanted_text at
machine_what at (fault.UnknownKey key) = codes "unknown key"
machine_what at (fault.UnknownUnit unit) = codes "unknown unit " ++ key_text unit
machine_what at (fault.UnknownOpcode word) = codes "unknown opcode"
machine_what at (fault.RepeatedUnit unit) = codes "repeated unit: an earlier element has this name"
machine_what at (fault.RepeatedRow key) = codes "repeated row: an earlier row has this unit and offset"
machine_what at (fault.Limit name) = codes "limit: expected " ++ limits_text at
machine_what at fault.NotUtf8 = codes "not UTF-8"
machine_what at fault.NotToml = codes "not TOML"
machine_what at fault.Memory = codes "out of memory"

-- the key with what stands there
abbrev pub machine_word : MachineLint → List ℕ
machine_word lint = spot_text lint.spot ++ found_text lint.found

-- the name that may be meant, if one is near
abbrev pub near_text : Option (List ℕ) → List ℕ
near_text None = []
near_text (Some name) = name_text name

-- what is said of a fault of a text that declares these units
abbrev pub machine_message : List (List ℕ) → MachineLint → List ℕ
machine_message units lint = machine_what lint.spot lint.fault ++ near_text (near_name units lint)
