-- The lines of the register files of a solution.
use Rattle.std.specs.Prelude.{ℕ, if◌then◌else◌, Bool, true, false, codes, List, [], ◌++◌, length, Option, Some, None, slice_get}
use Rattle.std.specs.List.{flat_map, list_any, range_with_len}
use Rattle.problems.specs.declared.draft.File.{File}
use Rattle.problems.specs.declared.draft.File.TheVariants.{Rotating, Unallotted}
use Rattle.solutions.specs.Copies.{max_live_of, unroll_of}
use Rattle.solutions.specs.Solutions.{SolutionData}
use Rattle.writing.specs.Words.{told}
use Rattle.solution_text.specs.Names.{file_name}

-- ` of REGISTERS`, nothing of an unallotted file
abbrev pub size_text : Option File → List ℕ
size_text None = []
size_text (Some (Rotating registers)) = told (codes " of ") registers
size_text (Some Unallotted) = []

-- `# file FILE max_live N of REGISTERS`: how many instances of the file's values live in one cycle at the most
unfoldable pub file_line : SolutionData → ℕ → List ℕ
file_line s file =
    (((codes "# file " ++ file_name s.problem.draft file) ++ told (codes " max_live ") (max_live_of s file)) ++ size_text (slice_get s.problem.draft.files.items file)) ++ codes "\n"

-- the lines of all files, in order
abbrev pub file_lines : SolutionData → List ℕ
file_lines s = flat_map (file_line s) (range_with_len 0 (length s.problem.draft.files.items))

abbrev pub is_free : File → Bool
is_free (Rotating registers) = false
is_free Unallotted = true

-- `# unroll U`, where some file is unallotted: how often the body of a loop is repeated, so that each instance has a name of its own
abbrev pub unroll_line : SolutionData → List ℕ
unroll_line s = if list_any is_free s.problem.draft.files.items then told (codes "# unroll ") (unroll_of s) ++ codes "\n" else []
