-- The names of a block in the table of the reader.
use Rattle.std.specs.Prelude.{◌≡◌, ℕ, Bool, true, List, Option, option_map}
use Rattle.std.specs.BTreeMap.{get_by}
use Rattle.std.specs.Cmp.Lexicographic.{slice_cmp}
use Rattle.std.specs.Option.{option_or}
use Rattle.std.specs.Ordering.{nat_cmp}
use Rattle.loop_reader.specs.Meaning.{declared}
use Rattle.loop_reader.specs.Declarations.{declared_seen}
use Rattle.loop_reader.specs.inner.Blocks.{forms_in, DeclaresOnce}
use Rattle.loop_reader.specs.inner.Chains.{chained_as}
use Rattle.loop_reader.specs.declared.lines.entry.LineEntry.{LineEntry}
use Rattle.loop_reader.specs.declared.names.index.Declared.{Declared}
use Rattle.loop_reader.specs.declared.names.known.Names.{Names}

-- what a name stands for
abbrev pub known_as : Names → List ℕ → Option Declared
known_as names q = option_or (chained_as names.chains q) (get_by (λ k. slice_cmp nat_cmp q k.now) names.others)

-- a table has the names of some lines, each with its first declaration, and a flag is set only where none is declared twice
pub record IsIndexed (lines : List LineEntry) (names : Names) (once : Bool) : Type 0 where
  pub known : (q : List ℕ) → option_map declared_seen (known_as names q) ≡ declared (forms_in lines) q
  pub distinct : once ≡ true → DeclaresOnce (forms_in lines)
