-- Where in the tree of a machine text something stands, and what stands there.
use Rattle.std.specs.Prelude.{ℕ, List, codes, length}
use Rattle.toml.specs.Data.{Data, string, integer, array}
use Rattle.machine.specs.MachineText.{data_of, path_in, path_of}
use Rattle.machine_lint.specs.declared.spots.Found.{Found}
use Rattle.machine_lint.specs.declared.spots.Found.TheVariants as found
use Rattle.machine_lint.specs.declared.spots.Spot.{Spot}
use Rattle.machine_lint.specs.declared.spots.Spot.TheVariants as spot

-- what is shown of a value
abbrev pub shown : Data → Found
shown (string text) = found.Word text
shown (integer number) = found.Number number
shown (array elements) = found.Elements (length (data_of elements))
shown _ = found.Nothing

-- the key at which the reader of machine texts tells a fault there
abbrev pub key_of : Spot → List ℕ
key_of spot.Whole = codes "text"
key_of (spot.TopKey key) = key
key_of spot.Units = codes "units"
key_of (spot.Unit n) = codes "units"
key_of spot.Registers = codes "registers"
key_of spot.Ops = codes "ops"
key_of (spot.Table word) = path_of word
key_of (spot.TableKey word key) = path_in word key
key_of (spot.Latency word) = path_in word (codes "latency")
key_of (spot.Alternatives word) = path_in word (codes "alts")
key_of (spot.Alternative word n) = path_in word (codes "alts")
key_of (spot.Row word n m) = path_in word (codes "alts")

-- the limit that a value there has to keep
abbrev pub limit_of : Spot → List ℕ
limit_of spot.Units = codes "units"
limit_of (spot.Unit n) = codes "unit name"
limit_of spot.Registers = codes "registers"
limit_of (spot.Latency word) = codes "latency"
limit_of (spot.Alternatives word) = codes "alternatives"
limit_of (spot.Alternative word n) = codes "rows"
limit_of (spot.Row word n m) = codes "offset"
limit_of _ = codes "text"
