-- The first words of lines.
use Rattle.std.specs.Prelude.{ℕ, codes, if◌then◌else◌, List, Option, Some, None}
use Rattle.machine_data.specs.Opcodes.{same_word}
use Rattle.problem_lines.specs.declared.keyword.Keyword.{Keyword}
use Rattle.problem_lines.specs.declared.keyword.Keyword.TheVariants as words
use Rattle.problem_lines.specs.declared.keyword.SolutionKeyword.{SolutionKeyword}
use Rattle.problem_lines.specs.declared.keyword.SolutionKeyword.TheVariants as solution_words

abbrev pub keyword_named : List ℕ → Option Keyword
keyword_named word =
    if same_word word (codes "machine") then Some words.Machine
    else if same_word word (codes "units") then Some words.Units
    else if same_word word (codes "file") then Some words.File
    else if same_word word (codes "kind") then Some words.Kind
    else if same_word word (codes "problem") then Some words.Problem
    else if same_word word (codes "op") then Some words.Op
    else if same_word word (codes "value") then Some words.Value
    else if same_word word (codes "read") then Some words.Read
    else if same_word word (codes "edge") then Some words.Edge
    else if same_word word (codes "end") then Some words.End
    else None

-- in a text of solutions
abbrev pub solution_keyword_named : List ℕ → Option SolutionKeyword
solution_keyword_named word =
    if same_word word (codes "solution") then Some solution_words.Solution
    else if same_word word (codes "op") then Some solution_words.Op
    else if same_word word (codes "value") then Some solution_words.Value
    else if same_word word (codes "end") then Some solution_words.End
    else None
