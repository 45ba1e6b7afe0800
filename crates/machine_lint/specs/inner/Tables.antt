-- The keys of a table, if there is one.
use Rattle.std.specs.Prelude.{Option, Some, None}
use Rattle.toml.specs.Data.{Members, no_members}

abbrev pub table_or : Option Members → Members
table_or None = no_members
table_or (Some keys) = keys
