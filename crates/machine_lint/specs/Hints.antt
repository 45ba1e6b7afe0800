-- The name that may be meant where a machine text names what is not known: the nearest of those that may stand there.
use Rattle.std.specs.Prelude.{ℕ, ◌==◌, nat_lt, not, if◌then◌else◌, codes, List, [], length, map, take, Option, Some, None}
use Rattle.std.specs.Str.Lossy.{utf8_valid_len}
use Rattle.toml.specs.Data.{Members, get_member}
use Rattle.toml.specs.Parse.{parse_document}
use Rattle.near_names.specs.Nearest.{nearest}
use Rattle.machine_data.specs.Opcodes.{all_opcodes, word_of}
use Rattle.machine_data.specs.declared.limits.TheConstants.{MAX_TEXT, MAX_UNITS}
use Rattle.machine.specs.MachineText.{text_of}
use Rattle.reader_faults.specs.declared.machine.MachineFault.{MachineFault}
use Rattle.reader_faults.specs.declared.machine.MachineFault.TheVariants.{UnknownKey, UnknownOpcode, UnknownUnit}
use Rattle.machine_lint.specs.Tree.{known_keys}
use Rattle.machine_lint.specs.Values.{items_of}
use Rattle.machine_lint.specs.declared.place.MachineLint.{MachineLint}
use Rattle.machine_lint.specs.declared.spots.Spot.{Spot}
use Rattle.machine_lint.specs.declared.spots.Spot.TheVariants as spot

-- the texts that the first elements of `units` are, as many as a machine may have. What is no text stands for one without bytes, to which nothing is near
abbrev pub units_in : Option Members → List (List ℕ)
units_in None = []
units_in (Some top) = map text_of (take MAX_UNITS (items_of (get_member (codes "units") top)))

-- the units that a text declares: none where it is too long, or not UTF-8, or not TOML
unfoldable pub declared_units : List ℕ → List (List ℕ)
declared_units text =
    if nat_lt MAX_TEXT (length text) then []
    else if not (utf8_valid_len text == length text) then []
    else units_in (parse_document text)

-- the words of the opcodes, by their numbers
abbrev pub opcode_words : List (List ℕ)
opcode_words = map word_of all_opcodes

-- the nearest of the keys that may stand where a key means nothing
abbrev pub near_key : Spot → Option (List ℕ)
near_key (spot.TopKey key) = nearest key (known_keys None)
near_key (spot.TableKey word key) = nearest key (known_keys (Some word))
near_key _ = None

-- the nearest of the names that may stand where a text with these units has a fault, if the fault is a name that is not known
abbrev pub near_for : List (List ℕ) → Spot → MachineFault → Option (List ℕ)
near_for units at (UnknownKey key) = near_key at
near_for units at (UnknownUnit unit) = nearest unit units
near_for units at (UnknownOpcode word) = nearest word opcode_words
near_for units at _ = None

unfoldable pub near_name : List (List ℕ) → MachineLint → Option (List ℕ)
near_name units lint = near_for units lint.spot lint.fault
