-- What may stand where, and what is told where another word stands there.
use Rattle.std.specs.Prelude.{ℕ, codes, ◌||◌, Bool, false, if◌then◌else◌, List, [], ◌∷◌, length, Option, Some, None, is_some}
use Rattle.machine_data.specs.Opcodes.{same_word}
use Rattle.loop_lines.specs.Forms.{int_of, is_number}
use Rattle.problem_lines.specs.Keywords.{keyword_named, solution_keyword_named}
use Rattle.problem_lines.specs.Names.{is_name, is_unit_name, is_hold}
use Rattle.loop_lines.specs.Columns.{Placed}
use Rattle.problem_faults.specs.declared.expected.Expected.{Expected}
use Rattle.problem_faults.specs.declared.expected.Expected.TheVariants as expected
use Rattle.problem_lines.specs.declared.fault.LineFault.{LineFault}

-- a word may stand where this is expected
abbrev pub fits : Expected → List ℕ → Bool
fits expected.Keyword word = is_some (keyword_named word)
fits expected.Name word = is_name word
fits expected.UnitName word = is_unit_name word
fits expected.Number word = is_number word
fits expected.Integer word = is_some (int_of word)
fits expected.Hold word = is_hold word
fits expected.Latency word = same_word word (codes "latency")
fits expected.Storage word = same_word word (codes "rotating") || same_word word (codes "unallotted")
fits expected.Bar word = same_word word (codes "|")
fits expected.Of word = same_word word (codes "of")
fits expected.Lands word = same_word word (codes "lands")
fits expected.In word = same_word word (codes "in")
fits expected.Distance word = same_word word (codes "distance")
fits expected.Offset word = same_word word (codes "offset")
fits expected.Delay word = same_word word (codes "delay")
fits expected.SolutionKeyword word = is_some (solution_keyword_named word)
fits expected.Ii word = same_word word (codes "ii")
fits expected.Time word = same_word word (codes "time")
fits expected.By word = same_word word (codes "by")
fits expected.NumberWord word = same_word word (codes "number")
fits expected.Nothing word = false

-- a word that stands where something else has to stand
abbrev pub fault_on : Expected → Placed → LineFault
fault_on what w = record { column = w.column; width = length w.bytes; what = what }

-- something has to stand in front of these words, after the word that ends before a column
abbrev pub misfit : ℕ → Expected → List Placed → Option LineFault
misfit column what [] = Some (record { column = column; width = 0; what = what })
misfit column what (w ∷ ws) = if fits what w.bytes then None else Some (fault_on what w)

-- nothing may follow
abbrev pub surplus : List Placed → Option LineFault
surplus [] = None
surplus (w ∷ ws) = Some (fault_on expected.Nothing w)
