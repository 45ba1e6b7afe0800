-- What is read of a text: its solutions, with the names that their lines tell.
use Rattle.std.specs.Prelude.{ℕ, Bool, List, map, Option}
use Rattle.std.specs.List.{list_any, position}
use Rattle.machine_data.specs.Opcodes.{same_word}
use Rattle.loop_lines.specs.Columns.{Placed}

-- the name of a problem, the number of the line where its solution begins, and the interval, in cycles
pub record HeadData : Type 0 where
  pub name : Placed
  pub line : ℕ
  pub ii : ℕ

-- an operation, the number of its line, and its issue time, in cycles, and alternative
pub record OpData : Type 0 where
  pub name : Placed
  pub line : ℕ
  pub time : ℕ
  pub alternative : ℕ

-- a value, the number of its line, and its number
pub record ValueData : Type 0 where
  pub name : Placed
  pub line : ℕ
  pub number : ℕ

pub record SolutionData : Type 0 where
  pub head : HeadData
  pub ops : List OpData
  pub values : List ValueData

abbrev pub op_names : List OpData → List (List ℕ)
op_names ops = map (λ (o : OpData). o.name.bytes) ops

abbrev pub value_names : List ValueData → List (List ℕ)
value_names values = map (λ (v : ValueData). v.name.bytes) values

abbrev pub solution_names : List SolutionData → List (List ℕ)
solution_names solutions = map (λ (s : SolutionData). s.head.name.bytes) solutions

abbrev pub has_name : List (List ℕ) → List ℕ → Bool
has_name names name = list_any (same_word name) names

-- the number of a name among names, from 0, if it is one of them
abbrev pub number_of_name : List (List ℕ) → List ℕ → Option ℕ
number_of_name names name = position (same_word name) names
