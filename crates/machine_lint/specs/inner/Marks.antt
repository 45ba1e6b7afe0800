-- The marks of the offsets of a text.
use Rattle.std.specs.Prelude.{ℕ, List}
use Rattle.machine_lint.specs.Places.{place_at}
use Rattle.machine_lint.specs.declared.index.Mark.{Mark}

abbrev pub mark_at : List ℕ → ℕ → Mark
mark_at text offset = record { at = offset; place = place_at text offset }
