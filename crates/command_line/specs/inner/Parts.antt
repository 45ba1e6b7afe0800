-- The parts of the program's line.
use Rattle.std.specs.Prelude.{List, [], ◌∷◌, Option, Some, None, codes, if◌then◌else◌}
use Rattle.std.specs.Str.{bytes_eq}
use Rattle.clap.specs.Words.{App, Rule, Text, new_app, with_rule, with_subcommand}
use Rattle.command_line.specs.Lines.{bare_line, check_line, dot_line, either_with_names, explain_line, lint_line, plain_line, run_line, schedule_line, search_line, solve_line, vary_line, with_paths}
use Rattle.command_line.specs.Lines.{ceiling_rule, cut_rule, format_rule, loop_rule, machine_only_rule, path_rule, ratio_rule, scheduled_rule, spare_rule, total_rule, trip_rule, workers_rule}
use Rattle.command_line.specs.declared.line.form.Argument.{Argument}
use Rattle.command_line.specs.declared.line.form.Argument.TheVariants as argument
use Rattle.command_line.specs.declared.line.form.TheConstants.{SUBCOMMANDS}
use Rattle.command_line.specs.declared.line.form.Subcommand.{Subcommand}
use Rattle.command_line.specs.declared.line.form.Subcommand.TheVariants as subcommand

-- the word of a subcommand
abbrev pub word_of : Subcommand → Text
word_of subcommand.Schedule = codes "schedule"
word_of subcommand.Run = codes "run"
word_of subcommand.Json = codes "json"
word_of subcommand.Explain = codes "explain"
word_of subcommand.Vary = codes "vary"
word_of subcommand.Bounds = codes "bounds"
word_of subcommand.Edges = codes "edges"
word_of subcommand.Dot = codes "dot"
word_of subcommand.Plain = codes "plain"
word_of subcommand.Lint = codes "lint"
word_of subcommand.Solve = codes "solve"
word_of subcommand.Check = codes "check"

-- the line of a subcommand
abbrev pub line_of : Subcommand → App
line_of subcommand.Schedule = schedule_line
line_of subcommand.Run = run_line
line_of subcommand.Json = search_line (codes "json")
line_of subcommand.Explain = explain_line
line_of subcommand.Vary = vary_line
line_of subcommand.Bounds = with_paths (codes "bounds")
line_of subcommand.Edges = either_with_names (codes "edges")
line_of subcommand.Dot = dot_line
line_of subcommand.Plain = plain_line
line_of subcommand.Lint = lint_line
line_of subcommand.Solve = solve_line
line_of subcommand.Check = check_line

-- the rule of an argument
abbrev pub rule_by : Argument → Rule
rule_by argument.Machine = path_rule (codes "machine")
rule_by argument.MachineOrProblems = path_rule (codes "machine")
rule_by argument.MachineOrLoops = path_rule (codes "machine")
rule_by argument.Loops = path_rule (codes "loops")
rule_by argument.SpareLoops = spare_rule (codes "loops")
rule_by argument.SecondLoops = spare_rule (codes "loops")
rule_by argument.Problems = path_rule (codes "problems")
rule_by argument.Solutions = path_rule (codes "solutions")
rule_by argument.Names = loop_rule
rule_by argument.Trip = trip_rule
rule_by argument.Ratio = ratio_rule
rule_by argument.Ceiling = ceiling_rule
rule_by argument.Workers = workers_rule
rule_by argument.Cut = cut_rule
rule_by argument.Format = format_rule
rule_by argument.FormatOrPage = format_rule
rule_by argument.MachineOnly = machine_only_rule
rule_by argument.Total = total_rule
rule_by argument.Scheduled = scheduled_rule

-- a line with these arguments in turn
abbrev pub with_arguments : App → List Argument → App
with_arguments line [] = line
with_arguments line (argument ∷ arguments) = with_arguments (with_rule line (rule_by argument)) arguments

-- the line of a subcommand; where another one is wanted, without its arguments
abbrev pub needed_line : Option Subcommand → Subcommand → App
needed_line None name = line_of name
needed_line (Some wanted) name = if bytes_eq (word_of name) (word_of wanted) then line_of name else new_app (word_of name)

-- a line with these subcommands in turn
abbrev pub with_subcommands : Option Subcommand → App → List Subcommand → App
with_subcommands wanted line [] = line
with_subcommands wanted line (name ∷ names) = with_subcommands wanted (with_subcommand line (needed_line wanted name).top) names

-- the line of the program, where one subcommand is wanted, or each may be
abbrev pub line_for : Option Subcommand → App
line_for wanted = with_subcommands wanted bare_line SUBCOMMANDS
