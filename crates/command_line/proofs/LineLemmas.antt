-- The line's arguments as `clap` sees them, and what its matches mean.
use Rattle.std.proofs.lemmas.List.{take_more}
use Rattle.std.proofs.Common.{[], ◌∷◌, ◌++◌, ◌+◌, ◌<◌, length, take, ◌≡◌, ◌⊎◌, ap, ℕ, List, Option, Some, None, Err, Ok, Result, IfOk, true, false, Bool, ◌||◌, ◌≤◌, ◌∙◌, codes, refl, sym, ap₂, subst, inl, inr, IfSome, IfNone, arith, get_or}
use Rattle.clap.specs.declared.builder.command.Command as clap
use Rattle.clap.specs.declared.builder.arg.Arg.{Arg}
use Rattle.clap.specs.Words.{AddsArg, AddsSubcommand, App, HasKind, Kinds, Row, Text, app_of, rule_of, with_rule, with_subcommand, all_of, first_of, is_simple_and_free, kind_of}
use Rattle.clap.specs.declared.error.Error.{Error}
use Rattle.command_line.specs.declared.line.Usage.{Usage}
use Rattle.command_line.specs.declared.line.Usage.TheVariants.{Help, Refused, Memory}
use Rattle.clap.proofs.OnLiterals.{clap_on_literals}
use Rattle.clap.specs.declared.error.kind.ErrorKind.TheVariants.{OutOfMemory}
use Rattle.command_line.specs.Lines.{IsRead, IsRequest, IsSearchGiven, IsTaskGiven, IsToldBy, IsWorkGiven, AreLoopsGiven, AreProblemsGiven, AreTexts, AreTextsGiven, IsReportGiven, Means, MeansNamed, SaysFormat, SaysNumber, SaysSwitch, SaySettings, switch_word}
use Rattle.command_line.specs.Lines.{program_line, search_line, run_line, plain_line, schedule_line, vary_line, explain_line, dot_line, either_line, either_with_names, lint_line, solve_line, check_line}
use Rattle.settings.specs.Settings.{AreSettings, SettingsData}
use Rattle.command_line.specs.inner.Made.{HasLine, MakesLine, MakesProgram}
use Rattle.command_line.specs.inner.Parts.{needed_line, rule_by, with_arguments, with_subcommands}
use Rattle.command_line.specs.declared.line.form.Argument.{Argument}
use Rattle.command_line.specs.declared.line.form.Subcommand.{Subcommand}
use Rattle.std.proofs.lemmas.Result.{IfOk-weaker}
use Rattle.command_line.specs.declared.command.Command.{Command}
use Rattle.command_line.specs.declared.command.Command.TheVariants as command
use Rattle.settings.specs.declared.format.Format.{Format}
use Rattle.settings.specs.declared.format.Format.TheVariants as format
use Rattle.command_line.specs.declared.command.LintTexts.{LintTexts}
use Rattle.command_line.specs.declared.command.Report.{Report}
use Rattle.command_line.specs.declared.command.Report.TheVariants as report
use Rattle.command_line.specs.declared.command.Search.{Search}
use Rattle.command_line.specs.declared.command.Search.TheVariants.{Schedule, Json, Explain, Page, Scheduled, Vary, Total, Run}
use Rattle.command_line.specs.declared.command.Task.{Task}
use Rattle.command_line.specs.declared.command.Task.TheVariants as task
use Rattle.command_line.specs.declared.command.Work.{Work}
use Rattle.command_line.specs.declared.command.Work.TheVariants.{Plain, OnMachine}

pub program_is_free : is_simple_and_free program_line ≡ true
unfolding program_line search_line schedule_line vary_line explain_line either_line either_with_names run_line plain_line lint_line solve_line check_line dot_line clap_on_literals
program_is_free = refl

-- an argument that is not global adds its rule, and makes nothing global
pub adds : {E : Type 0} {made new : Result clap.Command E} (old : clap.Command) (arg : Arg) {line : App} → made ≡ Ok old → IfOk new (λ c. AddsArg old arg c)
    → arg.global ≡ false → MakesLine line made → MakesLine (with_rule line (rule_of arg)) new
adds {E = E} {made = made} {new = new} old arg {line = line} is added local has =
    let at : HasLine line old = subst (λ (m : Result clap.Command E). IfOk m (λ c. HasLine line c)) is has.has_line in record {
      has_line = IfOk-weaker new _ _
          (λ c h. (h.shape local ∙ ap (λ (a : App). with_rule a (rule_of arg)) at.0, h.globals ∙ ap₂ (λ (a b : Bool). a || b) at.1 local)) added;
    }

-- a subcommand that has no global argument adds its line
pub adds_subcommand : {E : Type 0} {made other new : Result clap.Command E} (old sub : clap.Command) {line sub_line : App} → made ≡ Ok old → other ≡ Ok sub
    → IfOk new (λ c. AddsSubcommand old sub c) → MakesProgram line made → MakesLine sub_line other → MakesProgram (with_subcommand line sub_line.top) new
adds_subcommand {E = E} {made = made} {other = other} {new = new} old sub {line = line} {sub_line = sub_line} is sub_is added has sub_has =
    let at : app_of old ≡ line = subst (λ (m : Result clap.Command E). IfOk m (λ c. app_of c ≡ line)) is has.is_line in
    let sub_at : HasLine sub_line sub = subst (λ (m : Result clap.Command E). IfOk m (λ c. HasLine sub_line c)) sub_is sub_has.has_line in record {
      is_line = IfOk-weaker new _ _ (λ c h. h.shape sub_at.1 ∙ ap₂ with_subcommand at (ap (λ (a : App). a.top) sub_at.0)) added;
    }

-- arguments in turn are some first, and then the others
with_arguments-append : (line : App) (some others : List Argument) → with_arguments line (some ++ others) ≡ with_arguments (with_arguments line some) others
with_arguments-append line [] others = refl
with_arguments-append line (argument ∷ some) others = with_arguments-append (with_rule line (rule_by argument)) some others

-- a line with one more of its arguments
pub with_next_argument : (line : App) (arguments : List Argument) (k : ℕ) (default : Argument) → k < length arguments
    → with_rule (with_arguments line (take k arguments)) (rule_by (get_or arguments k default)) ≡ with_arguments line (take (k + 1) arguments)
with_next_argument line arguments k default is_there =
    sym (ap (with_arguments line) (take_more arguments k default is_there) ∙ with_arguments-append line (take k arguments) (get_or arguments k default ∷ []))

-- and so it is with subcommands
with_subcommands-append : (wanted : Option Subcommand) (line : App) (some others : List Subcommand)
    → with_subcommands wanted line (some ++ others) ≡ with_subcommands wanted (with_subcommands wanted line some) others
with_subcommands-append wanted line [] others = refl
with_subcommands-append wanted line (name ∷ some) others = with_subcommands-append wanted (with_subcommand line (needed_line wanted name).top) some others

pub with_next_subcommand : (wanted : Option Subcommand) (line : App) (names : List Subcommand) (k : ℕ) (default : Subcommand) → k < length names
    → with_subcommand (with_subcommands wanted line (take k names)) (needed_line wanted (get_or names k default)).top ≡ with_subcommands wanted line (take (k + 1) names)
with_next_subcommand wanted line names k default is_there =
    sym (ap (with_subcommands wanted line) (take_more names k default is_there) ∙ with_subcommands-append wanted line (take k names) (get_or names k default ∷ []))

-- a word says one number
says-one : (word : Option Text) (m n : ℕ) → SaysNumber word m → SaysNumber word n → m ≡ n
says-one None m n one other = absurd one
says-one (Some word) m n one other = sym one.1 ∙ other.1

-- and so the options say one list of settings
pub say-one : (given : List Row) (ratio ceiling workers cut : ℕ) (settings : SettingsData)
    → SaysNumber (first_of (codes "ratio") given) ratio → SaysNumber (first_of (codes "ceiling") given) ceiling
    → SaysNumber (first_of (codes "workers") given) workers → SaysNumber (first_of (codes "cut") given) cut
    → SaySettings settings given → AreSettings (record { ratio = ratio; ceiling = ceiling; workers = workers; cut = cut })
say-one given ratio ceiling workers cut settings r c w u h =
    let same_ratio = says-one _ _ _ h.0 r in
    let same_ceiling = says-one _ _ _ h.1 c in
    let same_workers = says-one _ _ _ h.2 w in
    let same_cut = says-one _ _ _ h.3 u in record {
      ratio_some = subst (λ (n : ℕ). 1 ≤ n) same_ratio h.4.ratio_some;
      ratio_few = subst (λ (n : ℕ). n ≤ 64) same_ratio h.4.ratio_few;
      ceiling_few = subst (λ (n : ℕ). n ≤ 255) same_ceiling h.4.ceiling_few;
      workers_some = subst (λ (n : ℕ). 1 ≤ n) same_workers h.4.workers_some;
      workers_few = subst (λ (n : ℕ). n ≤ 64) same_workers h.4.workers_few;
      cut_some = subst (λ (n : ℕ). 1 ≤ n) same_cut h.4.cut_some;
      cut_few = subst (λ (n : ℕ). n ≤ 256) same_cut h.4.cut_few;
    }

-- where there is a value, or none, another fact that follows
pub some-weaker : {T : Type 0} (o : Option T) (P Q : T → Type 0) → ((x : T) → P x → Q x) → IfSome o P → IfSome o Q
some-weaker None P Q f h = tt
some-weaker (Some x) P Q f h = f x h

pub none-weaker : {T : Type 0} (o : Option T) (A B : Type 0) → (A → B) → IfNone o A → IfNone o B
none-weaker None A B f h = f h
none-weaker (Some x) A B f h = tt

-- a word that an option was given names what it says, or nothing
pub some-says : {T : Type 0} (word_of : T → Text) (found : Option T) (word : Text) → IfSome found (λ x. word ≡ word_of x) → IfSome found (λ x. Some word ≡ Some (word_of x))
some-says word_of None word h = tt
some-says word_of (Some x) word h = ap (λ (t : Text). Some t) h

pub none-says : {T : Type 0} (word_of : T → Text) (found : Option T) (word : Text) → IfNone found ((x : T) → ¬ (word ≡ word_of x)) → IfNone found ((x : T) → ¬ (Some word ≡ Some (word_of x)))
none-says word_of None word h = λ x says. let same : word ≡ word_of x = cc in h x same
none-says word_of (Some x) word h = tt

-- no work is given by a subcommand but `plain`, where the path of the machine is missing or no task is given
pub work-none : (rows : List Row) (name : Text) → (name ≡ codes "plain" → ⊥) → (first_of (codes "machine") rows ≡ None) ⊎ ((t : Task) → ¬ IsTaskGiven t name rows)
    → (w : Work) → IsWorkGiven w name rows → ⊥
work-none rows name other missing (Plain trip workers) h = other h.0
work-none rows name other (inl none) (OnMachine machine task) h = let there = h.0 in absurd (cc)
work-none rows name other (inr none) (OnMachine machine task) h = none task h.1

-- a name that is one word is no other, which has another letter at some place
other-word : (place : ℕ) (name word other : Text) → (get_or word place 0 ≡ get_or other place 0 → ⊥) → name ≡ word → name ≡ other → ⊥
other-word place name word other apart is same = apart (ap (λ (t : Text). get_or t place 0) (sym is ∙ same))

-- it is none of the subcommands that take neither a machine with loops nor a report
abbrev IsOther : Text → Type 0
IsOther name = (name ≡ codes "solve" → ⊥) × (name ≡ codes "check" → ⊥) × (name ≡ codes "lint" → ⊥)

-- `schedule` is none of them
other-schedule : (name : Text) → name ≡ codes "schedule" → IsOther name
other-schedule name h = (other-word 1 name (codes "schedule") (codes "solve") (λ e. omega arith) h, other-word 0 name (codes "schedule") (codes "check") (λ e. omega arith) h, other-word 0 name (codes "schedule") (codes "lint") (λ e. omega arith) h)

-- .. nor `vary`
other-vary : (name : Text) → name ≡ codes "vary" → IsOther name
other-vary name h = (other-word 0 name (codes "vary") (codes "solve") (λ e. omega arith) h, other-word 0 name (codes "vary") (codes "check") (λ e. omega arith) h, other-word 0 name (codes "vary") (codes "lint") (λ e. omega arith) h)

-- another subcommand is none that `schedule` may be
schedule-word : (place : ℕ) (name word : Text) → name ≡ codes "schedule" → (get_or (codes "schedule") place 0 ≡ get_or word place 0 → ⊥) → name ≡ word → ⊥
schedule-word place name word is apart other = other-word place name (codes "schedule") word apart is other

-- `schedule` tells nothing where its option says no format
pub schedule-formless : (rows : List Row) (name : Text) → name ≡ codes "schedule" → ((f : Format) → ¬ SaysFormat (first_of (codes "format") rows) f) → (s : Search) → ¬ IsSearchGiven s name rows
schedule-formless rows name is none Schedule h = none format.Text h.1
schedule-formless rows name is none Json (inl h) = schedule-word 0 name (codes "json") is (λ e. omega arith) h
schedule-formless rows name is none Json (inr h) = none format.Json h.1
schedule-formless rows name is none (Explain format) h = schedule-word 0 name (codes "explain") is (λ e. omega arith) h.0
schedule-formless rows name is none Page h = schedule-word 0 name (codes "explain") is (λ e. omega arith) h.0
schedule-formless rows name is none Scheduled h = schedule-word 0 name (codes "dot") is (λ e. omega arith) h.0
schedule-formless rows name is none (Vary format) h = schedule-word 0 name (codes "vary") is (λ e. omega arith) h.0
schedule-formless rows name is none Total h = schedule-word 0 name (codes "vary") is (λ e. omega arith) h.0
schedule-formless rows name is none (Run trip) h = schedule-word 0 name (codes "run") is (λ e. omega arith) h.0

-- the word that stands for a switch says one thing
one-switch : (a b : Bool) → Some (switch_word a) ≡ Some (switch_word b) → a ≡ b
one-switch true true same = refl
one-switch false false same = refl
one-switch true false same = let words : codes "true" ≡ codes "false" = cc in absurd (other-word 0 (codes "true") (codes "true") (codes "false") (λ e. omega arith) refl words)
one-switch false true same = let words : codes "false" ≡ codes "true" = cc in absurd (other-word 0 (codes "false") (codes "false") (codes "true") (λ e. omega arith) refl words)

-- another search is none of `vary`
apart-vary : (word : Text) → (get_or (codes "vary") 0 0 ≡ get_or word 0 0 → ⊥) → codes "vary" ≡ word → ⊥
apart-vary word apart same = other-word 0 (codes "vary") (codes "vary") word apart refl same

vary-others : (rows : List Row) → ((f : Format) → ¬ IsSearchGiven (Vary f) (codes "vary") rows) → ¬ IsSearchGiven Total (codes "vary") rows
    → (s : Search) → ¬ IsSearchGiven s (codes "vary") rows
vary-others rows one all (Vary f) h = one f h
vary-others rows one all Total h = all h
vary-others rows one all Schedule h = apart-vary (codes "schedule") (λ e. omega arith) h.0
vary-others rows one all Json (inl h) = apart-vary (codes "json") (λ e. omega arith) h
vary-others rows one all Json (inr h) = apart-vary (codes "schedule") (λ e. omega arith) h.0
vary-others rows one all (Explain format) h = apart-vary (codes "explain") (λ e. omega arith) h.0
vary-others rows one all Page h = apart-vary (codes "explain") (λ e. omega arith) h.0
vary-others rows one all Scheduled h = apart-vary (codes "dot") (λ e. omega arith) h.0
vary-others rows one all (Run trip) h = apart-vary (codes "run") (λ e. omega arith) h.0

-- `vary` tells nothing where an option of it says nothing
pub vary-unswitched : (rows : List Row) → ((b : Bool) → ¬ SaysSwitch (first_of (codes "total") rows) b) → (s : Search) → ¬ IsSearchGiven s (codes "vary") rows
vary-unswitched rows none = vary-others rows (λ f h. none false h.1) (λ h. none true h.1)

pub vary-formless : (rows : List Row) → ((f : Format) → ¬ SaysFormat (first_of (codes "format") rows) f) → (s : Search) → ¬ IsSearchGiven s (codes "vary") rows
vary-formless rows none = vary-others rows (λ f h. none f h.2) (λ h. none format.Text h.2)

other-explain : (name : Text) → name ≡ codes "explain" → IsOther name
other-explain name is = (other-word 0 name (codes "explain") (codes "solve") (λ e. omega arith) is, other-word 0 name (codes "explain") (codes "check") (λ e. omega arith) is, other-word 0 name (codes "explain") (codes "lint") (λ e. omega arith) is)

other-dot : (name : Text) → name ≡ codes "dot" → IsOther name
other-dot name is = (other-word 0 name (codes "dot") (codes "solve") (λ e. omega arith) is, other-word 0 name (codes "dot") (codes "check") (λ e. omega arith) is, other-word 0 name (codes "dot") (codes "lint") (λ e. omega arith) is)

-- what is done with loops is given by other subcommands
other-search : (s : Search) (name : Text) (rows : List Row) → IsSearchGiven s name rows → IsOther name
other-search Schedule name rows h = other-schedule name h.0
other-search Json name rows (inr h) = other-schedule name h.0
other-search Json name rows (inl h) = (other-word 0 name (codes "json") (codes "solve") (λ e. omega arith) h, other-word 0 name (codes "json") (codes "check") (λ e. omega arith) h, other-word 0 name (codes "json") (codes "lint") (λ e. omega arith) h)
other-search (Explain format) name rows h = other-explain name h.0
other-search Page name rows h = other-explain name h.0
other-search Scheduled name rows h = other-dot name h.0
other-search (Vary format) name rows h = other-vary name h.0
other-search Total name rows h = other-vary name h.0
other-search (Run trip) name rows h = (other-word 0 name (codes "run") (codes "solve") (λ e. omega arith) h.0, other-word 0 name (codes "run") (codes "check") (λ e. omega arith) h.0, other-word 0 name (codes "run") (codes "lint") (λ e. omega arith) h.0)

other-task : (t : Task) (name : Text) (rows : List Row) → IsTaskGiven t name rows → IsOther name
other-task task.Bounds name rows h = (other-word 0 name (codes "bounds") (codes "solve") (λ e. omega arith) h, other-word 0 name (codes "bounds") (codes "check") (λ e. omega arith) h, other-word 0 name (codes "bounds") (codes "lint") (λ e. omega arith) h)
other-task task.Edges name rows h = (other-word 0 name (codes "edges") (codes "solve") (λ e. omega arith) h, other-word 0 name (codes "edges") (codes "check") (λ e. omega arith) h, other-word 0 name (codes "edges") (codes "lint") (λ e. omega arith) h)
other-task task.Dot name rows h = other-dot name h.0
other-task (task.Search settings search) name rows h = other-search search name rows h.1

other-work : (w : Work) (name : Text) (rows : List Row) → IsWorkGiven w name rows → IsOther name
other-work (Plain trip workers) name rows h = (other-word 0 name (codes "plain") (codes "solve") (λ e. omega arith) h.0, other-word 0 name (codes "plain") (codes "check") (λ e. omega arith) h.0, other-word 0 name (codes "plain") (codes "lint") (λ e. omega arith) h.0)
other-work (OnMachine machine t) name rows h = other-task t name rows h.1

other-report : (told : Report) (name : Text) (rows : List Row) → IsReportGiven told name rows → IsOther name
other-report report.Edges name rows h = (other-word 0 name (codes "edges") (codes "solve") (λ e. omega arith) h, other-word 0 name (codes "edges") (codes "check") (λ e. omega arith) h, other-word 0 name (codes "edges") (codes "lint") (λ e. omega arith) h)
other-report report.Dot name rows h = other-dot name h.0
other-report (report.Scheduled settings) name rows h = other-dot name h.0
other-report (report.Explain settings) name rows h = other-explain name h.0

-- `solve`, `check` and `lint` are three words
apart-solve-check : codes "solve" ≡ codes "check" → ⊥
apart-solve-check same = other-word 0 (codes "solve") (codes "solve") (codes "check") (λ e. omega arith) refl same

apart-solve-lint : codes "solve" ≡ codes "lint" → ⊥
apart-solve-lint same = other-word 0 (codes "solve") (codes "solve") (codes "lint") (λ e. omega arith) refl same

apart-check-lint : codes "check" ≡ codes "lint" → ⊥
apart-check-lint same = other-word 0 (codes "check") (codes "check") (codes "lint") (λ e. omega arith) refl same

-- no command is given by `solve` where the path is missing, or the options say no settings
pub solve-none : (rows : List Row) → (first_of (codes "problems") rows ≡ None) ⊎ ((s : SettingsData) → ¬ SaySettings s rows)
    → (c : Command) → MeansNamed c (codes "solve") rows → ⊥
solve-none rows missing (command.Loops loops names work) h = (other-work work (codes "solve") rows h.2).0 refl
solve-none rows (inl none) (command.Solve problems settings format) h = let there = h.1 in absurd (cc)
solve-none rows (inr none) (command.Solve problems settings format) h = none settings h.2
solve-none rows missing (command.Problems problems told) h = (other-report told (codes "solve") rows h.3).0 refl
solve-none rows missing (command.Check problems solutions) h = apart-solve-check h.0
solve-none rows missing (command.Lint texts format) h = apart-solve-lint h.0

-- .. or its option says no format
pub solve-formless : (rows : List Row) → ((f : Format) → ¬ SaysFormat (first_of (codes "format") rows) f) → (c : Command) → MeansNamed c (codes "solve") rows → ⊥
solve-formless rows none (command.Loops loops names work) h = (other-work work (codes "solve") rows h.2).0 refl
solve-formless rows none (command.Solve problems settings format) h = none format h.3
solve-formless rows none (command.Problems problems told) h = (other-report told (codes "solve") rows h.3).0 refl
solve-formless rows none (command.Check problems solutions) h = apart-solve-check h.0
solve-formless rows none (command.Lint texts format) h = apart-solve-lint h.0

-- .. by `check` where a path is missing
pub check-none : (rows : List Row) → (first_of (codes "problems") rows ≡ None) ⊎ (first_of (codes "solutions") rows ≡ None)
    → (c : Command) → MeansNamed c (codes "check") rows → ⊥
check-none rows missing (command.Loops loops names work) h = (other-work work (codes "check") rows h.2).1 refl
check-none rows missing (command.Solve problems settings format) h = apart-solve-check (sym h.0)
check-none rows missing (command.Problems problems told) h = (other-report told (codes "check") rows h.3).1 refl
check-none rows (inl none) (command.Check problems solutions) h = let there = h.1 in absurd (cc)
check-none rows (inr none) (command.Check problems solutions) h = let there = h.2 in absurd (cc)
check-none rows missing (command.Lint texts format) h = apart-check-lint h.0

-- .. by `lint` where it was given no texts
pub lint-none : (rows : List Row) → ((texts : LintTexts) → ¬ AreTextsGiven texts rows) → (c : Command) → MeansNamed c (codes "lint") rows → ⊥
lint-none rows none (command.Loops loops names work) h = (other-work work (codes "lint") rows h.2).2 refl
lint-none rows none (command.Solve problems settings format) h = apart-solve-lint (sym h.0)
lint-none rows none (command.Problems problems told) h = (other-report told (codes "lint") rows h.3).2 refl
lint-none rows none (command.Check problems solutions) h = apart-check-lint (sym h.0)
lint-none rows none (command.Lint texts format) h = none texts h.1

-- the texts that `lint` was given are those of the paths and the option that were found
pub no-texts : (rows : List Row) (path : Text) (is_given : Bool) (second : Option Text) → Some path ≡ first_of (codes "machine") rows
    → SaysSwitch (first_of (codes "machine-only") rows) is_given → second ≡ first_of (codes "loops") rows
    → ((texts : LintTexts) → ¬ AreTexts texts path second is_given) → (texts : LintTexts) → ¬ AreTextsGiven texts rows
no-texts rows path is_given second at says same none texts (first, machine_only, there, said, are) =
    let paths : first ≡ path = cc in
    let switches : machine_only ≡ is_given = one-switch machine_only is_given (sym said ∙ says) in
    let at_path : AreTexts texts path (first_of (codes "loops") rows) machine_only = subst (λ (t : Text). AreTexts texts t (first_of (codes "loops") rows) machine_only) paths are in
    let at_second : AreTexts texts path second machine_only = subst (λ (t : Option Text). AreTexts texts path t machine_only) (sym same) at_path in
    none texts (subst (λ (is_only : Bool). AreTexts texts path second is_only) switches at_second)

-- there are none where the path is missing, or the word of the option says nothing
pub no-machine : (rows : List Row) → first_of (codes "machine") rows ≡ None → (texts : LintTexts) → ¬ AreTextsGiven texts rows
no-machine rows none texts (first, machine_only, there, said, are) = absurd (cc)

pub no-switch : (rows : List Row) → ((is_given : Bool) → ¬ SaysSwitch (first_of (codes "machine-only") rows) is_given) → (texts : LintTexts) → ¬ AreTextsGiven texts rows
no-switch rows none texts (first, machine_only, there, said, are) = none machine_only said

-- .. by another subcommand where what loops need is missing
pub loops-none : (rows : List Row) (name : Text) → (name ≡ codes "solve" → ⊥) → (name ≡ codes "check" → ⊥) → (name ≡ codes "lint" → ⊥)
    → ((path : Text) (names : List Text) (w : Work) → ¬ AreLoopsGiven path names w name rows) → ((path : Text) (told : Report) → ¬ AreProblemsGiven path told name rows)
    → (c : Command) → MeansNamed c name rows → ⊥
loops-none rows name solve check lint none alone (command.Loops loops names work) h = none _ _ work h
loops-none rows name solve check lint none alone (command.Problems problems told) h = alone _ told h
loops-none rows name solve check lint none alone (command.Solve problems settings format) h = solve h.0
loops-none rows name solve check lint none alone (command.Check problems solutions) h = check h.0
loops-none rows name solve check lint none alone (command.Lint texts format) h = lint h.0

-- .. where loops are given, or none, what needs the other is not meant
pub no-problems : (rows : List Row) (name : Text) (loops : Text) → Some loops ≡ first_of (codes "loops") rows → (path : Text) (told : Report) → ¬ AreProblemsGiven path told name rows
no-problems rows name loops is path told h = let there = h.1 in absurd (cc)

pub no-loops : (rows : List Row) (name : Text) → first_of (codes "loops") rows ≡ None → (path : Text) (names : List Text) (w : Work) → ¬ AreLoopsGiven path names w name rows
no-loops rows name is path names w h = let there = h.0 in absurd (cc)

-- a report is told of problems alone, where its path is given
pub problems-none : (rows : List Row) (name : Text) → (first_of (codes "machine") rows ≡ None) ⊎ ((told : Report) → ¬ IsReportGiven told name rows)
    → (path : Text) (told : Report) → ¬ AreProblemsGiven path told name rows
problems-none rows name (inl none) path told h = let there = h.0 in absurd (cc)
problems-none rows name (inr none) path told h = none told h.3

-- .. and no name of a loop
pub problems-unnamed : (rows : List Row) (name : Text) (names : List Text) → all_of (codes "loop") rows ≡ Some names → (path : Text) (told : Report) → ¬ AreProblemsGiven path told name rows
problems-unnamed rows name names is path told h = let none = h.2 in absurd (cc)

-- what was found, said of equal matches
pub Means-at : (found : Option Command) (c : Command) (s t : Option (Text × List Row)) → found ≡ Some c
    → IfSome found (λ x. Means x s) → s ≡ t → Means c t
Means-at found c s t is h same =
    let at : IfSome (Some c) (λ x. Means x s) = subst (λ (o : Option Command). IfSome o (λ x. Means x s)) is h in
    subst (λ (o : Option (Text × List Row)). Means c o) same at

pub Means-nowhere : (found : Option Command) (s t : Option (Text × List Row)) → found ≡ None
    → IfNone found ((x : Command) → ¬ Means x s) → s ≡ t → (c : Command) → ¬ Means c t
Means-nowhere found s t is h same =
    let at : IfNone {T = Command} None ((x : Command) → ¬ Means x s) = subst (λ (o : Option Command). IfNone o ((x : Command) → ¬ Means x s)) is h in
    subst (λ (o : Option (Text × List Row)). (c : Command) → ¬ Means c o) same at

-- what is told of an error of the parser
pub IsRead-error : (u : Usage) (e : Error) (kinds : Kinds) (s : Option (Text × List Row)) → IsToldBy u (kind_of e)
    → HasKind kinds e → IsRead (Err u) kinds s
IsRead-error (Help text) e kinds s told (inl memory) = let request : IsRequest OutOfMemory = subst IsRequest memory told in absurd request
IsRead-error (Help text) e kinds s told (inr among) = (kind_of e, among, told)
IsRead-error (Refused text) e kinds s told (inl memory) = absurd (told.1 memory)
IsRead-error (Refused text) e kinds s told (inr among) = inl (kind_of e, among, told.0)
IsRead-error Memory e kinds s told has = tt

-- another word is none of `dot`, nor of `explain`
apart-dot : (word : Text) → (get_or (codes "dot") 0 0 ≡ get_or word 0 0 → ⊥) → codes "dot" ≡ word → ⊥
apart-dot word apart same = other-word 0 (codes "dot") (codes "dot") word apart refl same

apart-explain : (place : ℕ) (word : Text) → (get_or (codes "explain") place 0 ≡ get_or word place 0 → ⊥) → codes "explain" ≡ word → ⊥
apart-explain place word apart same = other-word place (codes "explain") (codes "explain") word apart refl same

-- `dot` searches for no kernel but where the schedule is wanted
pub dot-searches : (rows : List Row) → ¬ SaysSwitch (first_of (codes "scheduled") rows) true → (s : Search) → ¬ IsSearchGiven s (codes "dot") rows
dot-searches rows none Scheduled h = none h.1
dot-searches rows none Schedule h = apart-dot (codes "schedule") (λ e. omega arith) h.0
dot-searches rows none Json (inl h) = apart-dot (codes "json") (λ e. omega arith) h
dot-searches rows none Json (inr h) = apart-dot (codes "schedule") (λ e. omega arith) h.0
dot-searches rows none (Explain format) h = apart-dot (codes "explain") (λ e. omega arith) h.0
dot-searches rows none Page h = apart-dot (codes "explain") (λ e. omega arith) h.0
dot-searches rows none (Vary format) h = apart-dot (codes "vary") (λ e. omega arith) h.0
dot-searches rows none Total h = apart-dot (codes "vary") (λ e. omega arith) h.0
dot-searches rows none (Run trip) h = apart-dot (codes "run") (λ e. omega arith) h.0

-- a switch that is on is not off
pub on-is-not-off : (rows : List Row) (name : Text) (given : Bool) → SaysSwitch (first_of name rows) given → given ≡ true → ¬ SaysSwitch (first_of name rows) false
on-is-not-off rows name given says on off =
    let same : false ≡ given = one-switch false given (sym off ∙ says) in
    let apart : false ≡ true = same ∙ on in absurd (cc)

-- what `dot` may tell of loops, and of problems
pub dot-tasks : (rows : List Row) → ¬ SaysSwitch (first_of (codes "scheduled") rows) false
    → ((settings : SettingsData) (s : Search) → ¬ IsTaskGiven (task.Search settings s) (codes "dot") rows) → (t : Task) → ¬ IsTaskGiven t (codes "dot") rows
dot-tasks rows on none task.Bounds h = apart-dot (codes "bounds") (λ e. omega arith) h
dot-tasks rows on none task.Edges h = apart-dot (codes "edges") (λ e. omega arith) h
dot-tasks rows on none task.Dot h = on h.1
dot-tasks rows on none (task.Search settings s) h = none _ s h

pub dot-reports : (rows : List Row) → ¬ SaysSwitch (first_of (codes "scheduled") rows) false
    → ((settings : SettingsData) → ¬ (SaysSwitch (first_of (codes "scheduled") rows) true × SaySettings settings rows)) → (told : Report) → ¬ IsReportGiven told (codes "dot") rows
dot-reports rows on none report.Edges h = apart-dot (codes "edges") (λ e. omega arith) h
dot-reports rows on none report.Dot h = on h.1
dot-reports rows on none (report.Scheduled settings) h = none _ (h.1, h.2)
dot-reports rows on none (report.Explain settings) h = apart-dot (codes "explain") (λ e. omega arith) h.0

-- .. and `explain`
pub explain-reports : (rows : List Row) → ((settings : SettingsData) → SaySettings settings rows → ¬ SaysFormat (first_of (codes "format") rows) format.Text)
    → (told : Report) → ¬ IsReportGiven told (codes "explain") rows
explain-reports rows none report.Edges h = apart-explain 1 (codes "edges") (λ e. omega arith) h
explain-reports rows none report.Dot h = apart-explain 0 (codes "dot") (λ e. omega arith) h.0
explain-reports rows none (report.Scheduled settings) h = apart-explain 0 (codes "dot") (λ e. omega arith) h.0
explain-reports rows none (report.Explain settings) h = none _ h.1 h.2

pub explain-searches : (rows : List Row) → ((f : Format) → ¬ SaysFormat (first_of (codes "format") rows) f) → ¬ (first_of (codes "format") rows ≡ Some (codes "html"))
    → (s : Search) → ¬ IsSearchGiven s (codes "explain") rows
explain-searches rows none page Schedule h = apart-explain 0 (codes "schedule") (λ e. omega arith) h.0
explain-searches rows none page Json (inl h) = apart-explain 0 (codes "json") (λ e. omega arith) h
explain-searches rows none page Json (inr h) = apart-explain 0 (codes "schedule") (λ e. omega arith) h.0
explain-searches rows none page (Explain f) h = none f h.1
explain-searches rows none page Page h = page h.1
explain-searches rows none page Scheduled h = apart-explain 0 (codes "dot") (λ e. omega arith) h.0
explain-searches rows none page (Vary f) h = apart-explain 0 (codes "vary") (λ e. omega arith) h.0
explain-searches rows none page Total h = apart-explain 0 (codes "vary") (λ e. omega arith) h.0
explain-searches rows none page (Run trip) h = apart-explain 0 (codes "run") (λ e. omega arith) h.0

-- a subcommand that is none of these three tells of loops what a search gives
pub searches-alone : (rows : List Row) (name : Text) → (name ≡ codes "bounds" → ⊥) → (name ≡ codes "edges" → ⊥) → (name ≡ codes "dot" → ⊥)
    → ((settings : SettingsData) (s : Search) → ¬ IsTaskGiven (task.Search settings s) name rows) → (t : Task) → ¬ IsTaskGiven t name rows
searches-alone rows name bounds edges dot none task.Bounds h = bounds h
searches-alone rows name bounds edges dot none task.Edges h = edges h
searches-alone rows name bounds edges dot none task.Dot h = dot h.0
searches-alone rows name bounds edges dot none (task.Search settings s) h = none _ s h

-- what is so where there is nothing brings what follows from it
pub none-further : {A P Q : Type 0} (found : Option A) → (P → Q) → IfNone found P → IfNone found Q
none-further None follows h = follows h
none-further (Some x) follows h = tt
