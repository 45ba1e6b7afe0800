-- The units that a text declares, by its tests.
use Rattle.std.proofs.Common.{◌≡◌, ℕ, ◌≤◌, List, length, Some, refl, eq-eqb, le-ltb}
use Rattle.std.proofs.lemmas.Str.{utf8_valid_len-IsUtf8}
use Rattle.std.specs.Str.{IsUtf8}
use Rattle.toml.specs.Data.{Members}
use Rattle.toml.specs.Parse.{parse_document}
use Rattle.machine_lint.specs.Hints.{declared_units, units_in}

pub units_parsed : (text : List ℕ) (top : Members) → length text ≤ 1048576 → IsUtf8 text → parse_document text ≡ Some top → units_in (Some top) ≡ declared_units text
unfolding declared_units
units_parsed text top short utf8 parsed = rw (le-ltb 1048576 (length text) short, utf8_valid_len-IsUtf8 text utf8, eq-eqb (length text) (length text) refl, parsed) refl
