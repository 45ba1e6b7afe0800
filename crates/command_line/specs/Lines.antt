-- What the words of a command line mean. The words themselves are read as `clap` reads them.
use Rattle.std.specs.Prelude.{◌≡◌, ◌≢◌, ◌⊎◌, ℕ, ◌≤◌, List, [], ◌∷◌, map, Option, Some, None, unwrap_or, Result, Ok, Err, Bool, true, false, codes, string_bytes, ⊤}
use Rattle.std.specs.Str.Parse.{IsNumeral, digits_value, without_leading_plus}
use Rattle.clap.specs.Words.{App, IsAmong, Kinds, Row, Rule, Text, all_of, first_of, new_app, new_rule, with_rule, with_subcommand}
use Rattle.clap.specs.declared.builder.action.ArgAction.TheVariants.{Append, SetTrue}
use Rattle.clap.specs.declared.builder.value_parser.ValueParser.TheVariants.{Unsigned}
use Rattle.clap.specs.declared.error.kind.ErrorKind.{ErrorKind}
use Rattle.clap.specs.declared.error.kind.ErrorKind.TheVariants as kind
use Rattle.command_line.specs.declared.command.Command.{Command}
use Rattle.command_line.specs.declared.command.Command.TheVariants as command
use Rattle.settings.specs.Formats.{format_word}
use Rattle.settings.specs.declared.format.Format.{Format}
use Rattle.settings.specs.declared.format.Format.TheVariants as format
use Rattle.command_line.specs.declared.command.LintTexts.{LintTexts}
use Rattle.command_line.specs.declared.command.LintTexts.TheVariants as lint
use Rattle.command_line.specs.declared.command.Report.{Report}
use Rattle.command_line.specs.declared.command.Report.TheVariants as report
use Rattle.command_line.specs.declared.command.Work.{Work}
use Rattle.command_line.specs.declared.command.Work.TheVariants.{Plain, OnMachine}
use Rattle.command_line.specs.declared.command.Task.{Task}
use Rattle.command_line.specs.declared.command.Task.TheVariants as task
use Rattle.command_line.specs.declared.command.Search.{Search}
use Rattle.command_line.specs.declared.command.Search.TheVariants.{Schedule, Json, Explain, Page, Scheduled, Vary, Total, Run}
use Rattle.command_line.specs.declared.line.Usage.{Usage}
use Rattle.command_line.specs.declared.line.Usage.TheVariants.{Help, Refused, Memory}
use Rattle.machine_data.specs.declared.limits.TheConstants.{MAX_CEILING, MAX_CUT, MAX_RATIO, MAX_TRIP, MAX_WORKERS}
use Rattle.settings.specs.Settings.{AreSettings, SettingsData}

-- a path that has to be given
abbrev pub path_rule : Text → Rule
path_rule id = record (new_rule id) { value_names = 1; required = true }

-- one that may be left out
abbrev pub spare_rule : Text → Rule
spare_rule id = record (new_rule id) { value_names = 1 }

-- `--loop NAME`, which may be given several times
abbrev pub loop_rule : Rule
loop_rule = record (new_rule (codes "loop")) { long = Some (codes "loop"); value_names = 1; action = Some Append }

-- a subcommand with the paths of both files and the names of loops: `NAME MACHINE LOOPS --loop NAME`
abbrev pub with_paths : Text → App
with_paths name = with_rule (with_rule (with_rule (new_app name) (path_rule (codes "machine"))) (path_rule (codes "loops"))) loop_rule

-- a subcommand with the paths of both files, or with one path alone: `NAME MACHINE LOOPS`, `NAME PROBLEMS`
unfoldable pub either_line : Text → App
either_line name = with_rule (with_rule (new_app name) (path_rule (codes "machine"))) (spare_rule (codes "loops"))

-- such a subcommand with the names of loops
unfoldable pub either_with_names : Text → App
either_with_names name = with_rule (either_line name) loop_rule

-- `--trip N`, which has to be given: a number from 0 to 100,000
abbrev pub trip_rule : Rule
trip_rule = record (new_rule (codes "trip")) {
  long = Some (codes "trip");
  value_names = 1;
  required = true;
  parser = Some (Unsigned 0 MAX_TRIP);
}

-- an option that may be left out: its default stands for it then
abbrev pub option_rule : Text → Text → Rule
option_rule name default = record (new_rule name) { long = Some name; value_names = 1; defaults = default ∷ [] }

-- such an option that takes a number from a least to a greatest one
abbrev pub number_rule : Text → Text → ℕ → ℕ → Rule
number_rule name default least greatest = record (option_rule name default) { parser = Some (Unsigned least greatest) }

-- `--ratio R`, `--ceiling C`, `--workers W` and `--cut N`
abbrev pub ratio_rule : Rule
ratio_rule = number_rule (codes "ratio") (codes "6") 1 MAX_RATIO

abbrev pub ceiling_rule : Rule
ceiling_rule = number_rule (codes "ceiling") (codes "32") 0 MAX_CEILING

abbrev pub workers_rule : Rule
workers_rule = number_rule (codes "workers") (codes "4") 1 MAX_WORKERS

abbrev pub cut_rule : Rule
cut_rule = number_rule (codes "cut") (codes "4") 1 MAX_CUT

-- `plain LOOPS --loop NAME --trip N`, and `--workers W`
unfoldable pub plain_line : App
plain_line = with_rule (with_rule (with_rule (with_rule (new_app (codes "plain")) (path_rule (codes "loops"))) loop_rule) trip_rule) workers_rule

-- a subcommand with the four options of a search
abbrev pub with_search : App → App
with_search app = with_rule (with_rule (with_rule (with_rule app ratio_rule) ceiling_rule) workers_rule) cut_rule

-- a subcommand that looks for kernels: `NAME MACHINE LOOPS`, and the four
unfoldable pub search_line : Text → App
search_line name = with_search (with_paths name)

-- `run MACHINE LOOPS --trip N`, and the four
unfoldable pub run_line : App
run_line = with_search (with_rule (with_paths (codes "run")) trip_rule)

-- `--format FORMAT`, which is looked at where the command is made
abbrev pub format_rule : Rule
format_rule = option_rule (codes "format") (codes "text")

-- `explain MACHINE LOOPS` and `explain PROBLEMS`, the four, and `--format FORMAT`
unfoldable pub explain_line : App
explain_line = with_rule (with_search (either_with_names (codes "explain"))) format_rule

-- `--scheduled`, which has no value
abbrev pub scheduled_rule : Rule
scheduled_rule = record (new_rule (codes "scheduled")) { long = Some (codes "scheduled"); action = Some SetTrue }

-- `dot MACHINE LOOPS` and `dot PROBLEMS`, the four, and `--scheduled`
unfoldable pub dot_line : App
dot_line = with_rule (with_search (either_with_names (codes "dot"))) scheduled_rule

-- `schedule MACHINE LOOPS`, the four, and `--format FORMAT`
unfoldable pub schedule_line : App
schedule_line = with_rule (search_line (codes "schedule")) format_rule

-- `--total`, which has no value
abbrev pub total_rule : Rule
total_rule = record (new_rule (codes "total")) { long = Some (codes "total"); action = Some SetTrue }

-- `vary MACHINE LOOPS`, the four, `--total` and `--format FORMAT`
unfoldable pub vary_line : App
vary_line = with_rule (with_rule (search_line (codes "vary")) total_rule) format_rule

-- the program's line without its subcommands, of which one has to be given
abbrev pub bare_line : App
bare_line =
    let empty = new_app (codes "modsched") in
    record empty {
      top = record empty.top {
        no_binary_name = true;
        has_version = true;
        subcommand_required = true;
        arg_required_else_help = true;
      };
    }

-- a line with the subcommands that look for kernels
abbrev pub with_kernels : App → App
with_kernels app =
    with_subcommand (with_subcommand (with_subcommand (with_subcommand (with_subcommand app schedule_line.top) run_line.top) (search_line (codes "json")).top) explain_line.top) vary_line.top

-- `--machine-only`, which has no value
abbrev pub machine_only_rule : Rule
machine_only_rule = record (new_rule (codes "machine-only")) { long = Some (codes "machine-only"); action = Some SetTrue }

-- `lint MACHINE LOOPS` and `lint LOOPS`, `--machine-only` for `lint MACHINE --machine-only`, and `--format FORMAT`
unfoldable pub lint_line : App
lint_line = with_rule (with_rule (either_line (codes "lint")) machine_only_rule) format_rule

-- a line with those that look for none
abbrev pub with_reports : App → App
with_reports app =
    with_subcommand (with_subcommand (with_subcommand (with_subcommand (with_subcommand app (with_paths (codes "bounds")).top) (either_with_names (codes "edges")).top) dot_line.top) plain_line.top) lint_line.top

-- `solve PROBLEMS`, the four, and `--format FORMAT`
unfoldable pub solve_line : App
solve_line = with_rule (with_search (with_rule (new_app (codes "solve")) (path_rule (codes "problems")))) format_rule

-- `check PROBLEMS SOLUTIONS`
unfoldable pub check_line : App
check_line = with_rule (with_rule (new_app (codes "check")) (path_rule (codes "problems"))) (path_rule (codes "solutions"))

-- a line with those that take problems
abbrev pub with_problems : App → App
with_problems app = with_subcommand (with_subcommand app solve_line.top) check_line.top

-- the program's line, with all of its subcommands
unfoldable pub program_line : App
program_line = with_problems (with_reports (with_kernels bare_line))

-- the path of the machine's file, where one is read
abbrev pub machine_of_work : Work → Option Text
machine_of_work (Plain trip workers) = None
machine_of_work (OnMachine machine task) = Some (string_bytes machine)

-- the path of the machine's file, where its faults and those of loops are told
abbrev pub first_lint_path : LintTexts → Option Text
first_lint_path (lint.Machine machine) = None
first_lint_path (lint.Loops loops) = None
first_lint_path (lint.Both machine loops) = Some (string_bytes machine)

-- the path of the loops' file, or of a machine's whose faults alone are told
abbrev pub last_lint_path : LintTexts → Text
last_lint_path (lint.Machine machine) = string_bytes machine
last_lint_path (lint.Loops loops) = string_bytes loops
last_lint_path (lint.Both machine loops) = string_bytes loops

-- the path of the file that is read first, where a command reads two: the machine's, or the problems' of a check
abbrev pub first_path : Command → Option Text
first_path (command.Loops loops names work) = machine_of_work work
first_path (command.Solve problems settings format) = None
first_path (command.Problems problems told) = None
first_path (command.Check problems solutions) = Some (string_bytes problems)
first_path (command.Lint texts format) = first_lint_path texts

-- the path of the file that is read last: the loops', the problems' where they are not checked, the solutions' of a check, or that of a machine
-- whose faults alone are told
abbrev pub last_path : Command → Text
last_path (command.Loops loops names work) = string_bytes loops
last_path (command.Solve problems settings format) = string_bytes problems
last_path (command.Problems problems told) = string_bytes problems
last_path (command.Check problems solutions) = string_bytes solutions
last_path (command.Lint texts format) = last_lint_path texts

-- a word is a number in decimal digits, with or without a plus before them
abbrev pub Says : Text → ℕ → Type 0
Says word number = IsNumeral 10 (without_leading_plus word) × (digits_value 10 (without_leading_plus word) ≡ number)

-- the word that an option was given, or that stands for it, says a number
abbrev pub SaysNumber : Option Text → ℕ → Type 0
SaysNumber None number = ⊥
SaysNumber (Some word) number = Says word number

-- the word that an option was given is a trip count
abbrev pub SaysTrip : Option Text → ℕ → Type 0
SaysTrip word trip = SaysNumber word trip × (trip ≤ MAX_TRIP)

-- the word that an option was given is a number of workers
abbrev pub SaysWorkers : Option Text → ℕ → Type 0
SaysWorkers word workers = SaysNumber word workers × (1 ≤ workers) × (workers ≤ MAX_WORKERS)

-- the options say the four settings, all within their ranges
abbrev pub SaySettings : SettingsData → List Row → Type 0
SaySettings settings given = SaysNumber (first_of (codes "ratio") given) settings.ratio
    × SaysNumber (first_of (codes "ceiling") given) settings.ceiling
    × SaysNumber (first_of (codes "workers") given) settings.workers
    × SaysNumber (first_of (codes "cut") given) settings.cut
    × AreSettings settings

-- the word that an option was given, or that stands for it, names the format
abbrev pub SaysFormat : Option Text → Format → Type 0
SaysFormat word format = word ≡ Some (format_word format)

-- the word that stands for an option without a value: it was given, or left out
abbrev pub switch_word : Bool → Text
switch_word true = codes "true"
switch_word false = codes "false"

abbrev pub SaysSwitch : Option Text → Bool → Type 0
SaysSwitch word is_given = word ≡ Some (switch_word is_given)

-- the subcommand of this name tells that of the kernels, and was given what it needs
abbrev pub IsSearchGiven : Search → Text → List Row → Type 0
IsSearchGiven Schedule name given = (name ≡ codes "schedule") × SaysFormat (first_of (codes "format") given) format.Text
IsSearchGiven Json name given = (name ≡ codes "json") ⊎ ((name ≡ codes "schedule") × SaysFormat (first_of (codes "format") given) format.Json)
IsSearchGiven (Explain format) name given = (name ≡ codes "explain") × SaysFormat (first_of (codes "format") given) format
IsSearchGiven Page name given = (name ≡ codes "explain") × (first_of (codes "format") given ≡ Some (codes "html"))
IsSearchGiven Scheduled name given = (name ≡ codes "dot") × SaysSwitch (first_of (codes "scheduled") given) true
IsSearchGiven (Vary format) name given = (name ≡ codes "vary")
    × SaysSwitch (first_of (codes "total") given) false
    × SaysFormat (first_of (codes "format") given) format
IsSearchGiven Total name given = (name ≡ codes "vary")
    × SaysSwitch (first_of (codes "total") given) true
    × SaysFormat (first_of (codes "format") given) format.Text
IsSearchGiven (Run trip) name given = (name ≡ codes "run") × SaysTrip (first_of (codes "trip") given) trip

-- .. tells that of the loops on a machine: where it looks for kernels, by the settings that it was given
abbrev pub IsTaskGiven : Task → Text → List Row → Type 0
IsTaskGiven task.Bounds name given = name ≡ codes "bounds"
IsTaskGiven task.Edges name given = name ≡ codes "edges"
IsTaskGiven task.Dot name given = (name ≡ codes "dot") × SaysSwitch (first_of (codes "scheduled") given) false
IsTaskGiven (task.Search settings search) name given = SaySettings settings given × IsSearchGiven search name given

-- .. does that with the loops: `plain` runs them by itself, and the others were given a machine
abbrev pub IsWorkGiven : Work → Text → List Row → Type 0
IsWorkGiven (Plain trip workers) name given = (name ≡ codes "plain")
    × SaysTrip (first_of (codes "trip") given) trip
    × SaysWorkers (first_of (codes "workers") given) workers
IsWorkGiven (OnMachine machine task) name given = (first_of (codes "machine") given ≡ Some (string_bytes machine)) × IsTaskGiven task name given

-- the names that `--loop` was given, in the order of the line; none where it was left out
abbrev pub names_in : List Row → List Text
names_in given = unwrap_or (all_of (codes "loop") given) []

-- .. was given the path of loops and the names of some, and does that with them
abbrev pub AreLoopsGiven : Text → List Text → Work → Text → List Row → Type 0
AreLoopsGiven path names work name given = (first_of (codes "loops") given ≡ Some path) × (names_in given ≡ names) × IsWorkGiven work name given

-- .. tells that of problems, and was given what it needs
abbrev pub IsReportGiven : Report → Text → List Row → Type 0
IsReportGiven report.Edges name given = name ≡ codes "edges"
IsReportGiven report.Dot name given = (name ≡ codes "dot") × SaysSwitch (first_of (codes "scheduled") given) false
IsReportGiven (report.Scheduled settings) name given = (name ≡ codes "dot") × SaysSwitch (first_of (codes "scheduled") given) true × SaySettings settings given
IsReportGiven (report.Explain settings) name given = (name ≡ codes "explain") × SaySettings settings given × SaysFormat (first_of (codes "format") given) format.Text

-- .. was given one path alone, that of problems, and no name of a loop, and tells that of them
abbrev pub AreProblemsGiven : Text → Report → Text → List Row → Type 0
AreProblemsGiven path told name given = (first_of (codes "machine") given ≡ Some path)
    × (first_of (codes "loops") given ≡ None)
    × (all_of (codes "loop") given ≡ None)
    × IsReportGiven told name given

-- two paths are those of a machine and of loops. One path is that of loops, or with `--machine-only` that of a machine
abbrev pub AreTexts : LintTexts → Text → Option Text → Bool → Type 0
AreTexts (lint.Machine machine) first second machine_only = (string_bytes machine ≡ first) × (second ≡ None) × (machine_only ≡ true)
AreTexts (lint.Loops loops) first second machine_only = (string_bytes loops ≡ first) × (second ≡ None) × (machine_only ≡ false)
AreTexts (lint.Both machine loops) first second machine_only = (string_bytes machine ≡ first) × (second ≡ Some (string_bytes loops)) × (machine_only ≡ false)

-- .. was given these texts, whose faults are to be told
abbrev pub AreTextsGiven : LintTexts → List Row → Type 0
AreTextsGiven texts given = (first : Text) × (machine_only : Bool)
    × (first_of (codes "machine") given ≡ Some first)
    × SaysSwitch (first_of (codes "machine-only") given) machine_only
    × AreTexts texts first (first_of (codes "loops") given) machine_only

-- a command is of a subcommand of this name, and has what that was given
abbrev pub MeansNamed : Command → Text → List Row → Type 0
MeansNamed (command.Loops loops names work) name given = AreLoopsGiven (string_bytes loops) (map string_bytes names.items) work name given
MeansNamed (command.Solve problems settings format) name given = (name ≡ codes "solve")
    × (first_of (codes "problems") given ≡ Some (string_bytes problems))
    × SaySettings settings given
    × SaysFormat (first_of (codes "format") given) format
MeansNamed (command.Problems problems told) name given = AreProblemsGiven (string_bytes problems) told name given
MeansNamed (command.Check problems solutions) name given = (name ≡ codes "check")
    × (first_of (codes "problems") given ≡ Some (string_bytes problems))
    × (first_of (codes "solutions") given ≡ Some (string_bytes solutions))
MeansNamed (command.Lint texts format) name given = (name ≡ codes "lint") × AreTextsGiven texts given × SaysFormat (first_of (codes "format") given) format

abbrev pub Means : Command → Option (Text × List Row) → Type 0
Means command None = ⊥
Means command (Some subcommand) = MeansNamed command subcommand.0 subcommand.1

-- help or the version was requested
abbrev pub IsRequest : ErrorKind → Type 0
IsRequest kind.DisplayHelp = ⊤
IsRequest kind.DisplayVersion = ⊤
IsRequest _ = ⊥

-- what is told of an error of this kind: the help or the version, or else a refusal
abbrev pub IsToldBy : Usage → ErrorKind → Type 0
IsToldBy (Help text) k = IsRequest k
IsToldBy (Refused text) k = (¬ IsRequest k) × (k ≢ kind.OutOfMemory)
IsToldBy Memory k = ⊤

-- a line gives the command that its subcommand means; it is answered with help or the version, or refused, as `clap` does; or
-- refused where `clap` takes it and no command is meant
abbrev pub IsRead : Result Command Usage → Kinds → Option (Text × List Row) → Type 0
IsRead (Ok c) kinds subcommand = (kinds ≡ []) × Means c subcommand
IsRead (Err (Help text)) kinds subcommand = (k : ErrorKind) × IsAmong k kinds × IsRequest k
IsRead (Err (Refused text)) kinds subcommand = ((k : ErrorKind) × IsAmong k kinds × (¬ IsRequest k))
    ⊎ ((kinds ≡ []) × ((c : Command) → ¬ Means c subcommand))
IsRead (Err Memory) kinds subcommand = ⊤
