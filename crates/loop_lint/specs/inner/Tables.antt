-- What lines of a block say of names, in a table.
use Rattle.std.specs.Prelude.{◌≡◌, ℕ, zero, suc, ◌&&◌, ◌+◌, ◌++◌, [], ◌∷◌, map, nat_lt, Bool, true, false, if◌then◌else◌, List, length, not, Option, Some, None, option_map, replicate, slice_index_or, slice_set, unwrap_or}
use Rattle.std.specs.Borrow.{Bor}
use Rattle.std.specs.BTreeMap.{BTreeMap, get_by}
use Rattle.std.specs.Cmp.Lexicographic.{slice_cmp}
use Rattle.std.specs.List.{list_any}
use Rattle.std.specs.Option.{option_or}
use Rattle.std.specs.Ordering.{nat_cmp}
use Rattle.machine_data.specs.Opcodes.{same_word}
use Rattle.loop_lines.specs.Forms.{Form, ArrayLine, ParamLine, InitLine, StatementLine, OutLine}
use Rattle.loop_reader.specs.Declarations.{declared_seen}
use Rattle.loop_reader.specs.Meaning.{any_name, declared, has_out, has_statement, how_many, is_array, is_init, is_out_of, is_param, is_statement}
use Rattle.machine_data.specs.declared.limits.TheConstants.{MAX_ARRAYS, MAX_PARAMETERS, MAX_STATEMENTS}
use Rattle.loop_lint.specs.Hints.{names_of}
use Rattle.loop_lines.specs.Near.{IsNear}
use Rattle.loop_reader.specs.declared.names.index.Declared.{Declared}
use Rattle.loop_reader.specs.declared.names.index.Declared.TheVariants as variants
use Rattle.loop_lint.specs.declared.block.Known.{Known}
use Rattle.loop_lint.specs.declared.block.Table.{Table}

abbrev pub one_if : Bool → ℕ
one_if b = if b then 1 else 0

-- the flag of a number
abbrev pub place_of : Option ℕ → ℕ
place_of None = 17
place_of (Some number) = number

abbrev pub nothing : Known
nothing = record { declared = None; inits = replicate 18 false; out = false }

-- what a table has at a name
abbrev pub known_at : BTreeMap (Bor (List ℕ)) Known → List ℕ → Known
known_at names q = unwrap_or (get_by (λ k. slice_cmp nat_cmp q k.now) names) nothing

abbrev pub flag_of : List Bool → Option ℕ → Bool
flag_of flags number = slice_index_or flags (place_of number) false

-- the flags from 1 to a distance are set
abbrev pub covers : List Bool → ℕ → Bool
covers flags zero = true
covers flags (suc n) = slice_index_or flags (suc n) false && covers flags n

-- some flag from 1 to a distance is not set
abbrev pub is_bare : List Bool → Option ℕ → Bool
is_bare flags None = false
is_bare flags (Some distance) = not (covers flags distance)

-- what is known of a name with one more thing of it
abbrev pub with_declared : Declared → Known → Known
with_declared what known = record known { declared = option_or known.declared (Some what) }

abbrev pub with_init : Option ℕ → Known → Known
with_init number known = record known { inits = slice_set known.inits (place_of number) true }

abbrev pub with_out : Known → Known
with_out known = record known { out = true }

-- what is known of a name with one more line, after `arrays` arrays, `params` parameters and `statements` statements
abbrev pub known_with : List ℕ → ℕ → ℕ → ℕ → Form → Known → Known
known_with q arrays params statements (ArrayLine name cells) known = if same_word q name then with_declared (variants.Array arrays) known else known
known_with q arrays params statements (ParamLine name value) known = if same_word q name then with_declared (variants.Param params) known else known
known_with q arrays params statements (InitLine name number value) known = if same_word q name then with_init number known else known
known_with q arrays params statements (StatementLine source) known = if any_name (same_word q) source.name then with_declared (variants.Value statements) known else known
known_with q arrays params statements (OutLine name) known = if same_word q name then with_out known else known
known_with q arrays params statements form known = known

-- names with one more, unless there are enough
abbrev pub with_name : List (List ℕ) → List ℕ → List (List ℕ)
with_name names name = if nat_lt (length names) (MAX_ARRAYS + MAX_PARAMETERS + MAX_STATEMENTS) then names ++ name ∷ [] else names

abbrev pub with_names : List (List ℕ) → List (List ℕ) → List (List ℕ)
with_names names [] = names
with_names names (other ∷ others) = with_names (with_name names other) others

-- a table has what some lines say
pub record IsTable (lines : List Form) (table : Table) : Type 0 where
  pub declares : (q : List ℕ) → option_map declared_seen (known_at table.names q).declared ≡ declared lines q
  pub gives : (q : List ℕ) (number : Option ℕ) → IsNear number → flag_of (known_at table.names q).inits number ≡ list_any (is_init q number) lines
  pub lives : (q : List ℕ) → (known_at table.names q).out ≡ list_any (is_out_of q) lines
  pub long : (q : List ℕ) → length (known_at table.names q).inits ≡ 18
  pub order : map (λ (n : Bor (List ℕ)). n.now) table.order.items ≡ names_of lines
  pub arrays : table.arrays ≡ how_many is_array lines
  pub params : table.params ≡ how_many is_param lines
  pub statements : table.statements ≡ how_many is_statement lines
  pub statement : table.statement ≡ has_statement lines
  pub out : table.out ≡ has_out lines
