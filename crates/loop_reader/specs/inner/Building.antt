-- The loop of a block as the reader makes it.
use Rattle.std.specs.Prelude.{ℕ, zero, suc, ℤ, ◌+◌, ◌<◌, ◌≤◌, List, [], ◌∷◌, ◌++◌, Option, Some, None, option_to_list, option_map}
use Rattle.loop_lines.specs.Forms.{Form, ArrayLine, ParamLine, StatementLine, StatementForm}
use Rattle.loop_data.specs.Loops.{IsName}
use Rattle.loop_reader.specs.Meaning.{Declared, AnArray, AParam, AValue, how_many, is_array, is_param, is_statement}
use Rattle.loop_reader.specs.inner.Checks.{slot}
use Rattle.loop_data.specs.declared.language.lists.Initial.{Initial}

-- so few lines of each form that their numbers fit a byte
pub record IsFew (block : List Form) : Type 0 where
  pub arrays : how_many is_array block ≤ 32
  pub params : how_many is_param block ≤ 64
  pub statements : how_many is_statement block ≤ 128

abbrev pub IsFewNumber : Option Declared → Type 0
IsFewNumber None = Unit {0}
IsFewNumber (Some (AnArray number)) = number < 256
IsFewNumber (Some (AParam number)) = number < 256
IsFewNumber (Some (AValue number)) = number < 256

abbrev pub IsNamed : Option (List ℕ) → Type 0
IsNamed None = Unit {0}
IsNamed (Some name) = IsName name

-- the initial values of a statement's value from 1 to a number
abbrev pub row_of : List (Option ℤ) → ℕ → ℕ → List Initial
row_of inits statement zero = []
row_of inits statement (suc m) = row_of inits statement m ++ option_to_list (option_map (λ value. record { statement = statement; number = m + 1; value = value }) (slot inits statement m))

-- the same of the statements from this number on that have a name
abbrev pub row_if : List (Option ℤ) → ℕ → Option (List ℕ) → List Initial
row_if inits statement None = []
row_if inits statement (Some name) = row_of inits statement 16

abbrev pub rows_of : List (Option ℤ) → ℕ → List StatementForm → List Initial
rows_of inits statement [] = []
rows_of inits statement (source ∷ sources) = row_if inits statement source.name ++ rows_of inits (statement + 1) sources

-- the name that a line declares
abbrev pub name_in : Form → Option (List ℕ)
name_in (ArrayLine name cells) = Some name
name_in (ParamLine name value) = Some name
name_in (StatementLine source) = source.name
name_in _ = None
