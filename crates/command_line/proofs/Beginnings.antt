-- Words that begin with a subcommand mean the same to a line in which the others have no argument.
use Rattle.std.proofs.Common.{◌≡◌, true, List, [], ◌∷◌, ◌++◌, Option, Some, None, is_some, find, fold, option_map, refl, sym, ap, ap₂, ◌∙◌, subst, false}
use Rattle.std.specs.Option.{IfSome, option_map_or}
use Rattle.std.specs.List.{slice_get}
use Rattle.std.proofs.lemmas.Option.{none-some, same_Some}
use Rattle.clap.specs.Words.{App, Kinds, Row, Shape, Text, built, fault_of, is_simple_and_free, subcommand_of}
use Rattle.clap.specs.Walk.{Names, Rule, Walk, answers_to, nothing_held, stop_after, walk_from, walked, walked_from}
use Rattle.clap.specs.Simple.{argument_words, entered, label_of, names_of, rows_at}
use Rattle.clap.specs.Faults.{built_fault, entered_fault, level_fault}
use Rattle.clap.proofs.OnLiterals.{clap_on_literals}
use Rattle.command_line.specs.Lines.{program_line, search_line, run_line, plain_line, schedule_line, vary_line, explain_line, dot_line, either_line, either_with_names, lint_line, solve_line, check_line}
use Rattle.command_line.specs.inner.Parts.{line_for, word_of}
use Rattle.command_line.specs.declared.line.form.Subcommand.{Subcommand}
use Rattle.command_line.specs.declared.line.form.Subcommand.TheVariants as subcommand
use Rattle.command_line.proofs.LineLemmas.{program_is_free}

-- ---- a walk that has stopped at a subcommand keeps it
stays : (rules : List Rule) (names : Names) (w : Walk) (name : Text) (more : List Text) (word : Text) → w.stopped ≡ Some (name, more)
    → (walked rules names w word).stopped ≡ Some (name, more ++ word ∷ [])
unfolding walked
stays rules names w name more word is = ap (λ p. (walked_from rules names p w word).stopped) is

keeps : (rules : List Rule) (names : Names) (w : Walk) (name : Text) (words more : List Text) → w.stopped ≡ Some (name, more)
    → (all : List Text) × ((fold (walked rules names) w words).stopped ≡ Some (name, all))
keeps rules names w name [] more is = (more, is)
keeps rules names w name (word ∷ words) more is = keeps rules names (walked rules names w word) name words (more ++ word ∷ []) (stays rules names w name more word is)

-- ---- commands that differ in other subcommands alone
module _ (a b : App) (word : Text) (rest : List Text) where
  abbrev met : App → Option Shape
  met app = find (λ s. answers_to word (label_of s)) app.subs

  abbrev start : App → Walk
  start app = walked app.top.rules (names_of app) (walk_from nothing_held) word

  abbrev stop : App → Option (Text × List Text)
  stop app = (fold (walked app.top.rules (names_of app)) (start app) rest).stopped

  same_stop : a.top ≡ b.top → names_of a ≡ names_of b → stop a ≡ stop b
  same_stop top names = ap₂ (λ (t : Shape) (n : Names). (fold (walked t.rules n) (walked t.rules n (walk_from nothing_held) word) rest).stopped) top names

  module _ (top : a.top ≡ b.top) (names : names_of a ≡ names_of b) (found : met a ≡ met b) (begins : (start a).stopped ≡ Some (word, [])) where
    pub same_entered : entered a (stop a) ≡ entered b (stop b)
    same_entered =
        let at = keeps a.top.rules (names_of a) (start a) word rest [] begins in
        ap (entered a) at.1 ∙ ap (option_map (λ s. rows_at s at.0)) found ∙ ap (entered b) (sym at.1 ∙ same_stop top names)

    same_below : entered_fault a (stop a) ≡ entered_fault b (stop b)
    same_below =
        let at = keeps a.top.rules (names_of a) (start a) word rest [] begins in
        let below : Option Shape → Kinds = λ s. option_map_or (λ s. level_fault s [] nothing_held at.0 false []) s [] in
        ap (entered_fault a) at.1 ∙ ap below found ∙ ap (entered_fault b) (sym at.1 ∙ same_stop top names)

    pub same_fault : built_fault a nothing_held (word ∷ rest) ≡ built_fault b nothing_held (word ∷ rest)
    same_fault =
        ap₂ (λ (t : Shape) (n : Names). level_fault t n nothing_held (word ∷ rest) (is_some (entered a (stop a))) (entered_fault a (stop a))) top names
        ∙ ap₂ (λ (o : Option (Text × List Row)) (k : Kinds). level_fault b.top (names_of b) nothing_held (word ∷ rest) (is_some o) k) same_entered same_below

-- ---- the program's line
top_of : (name : Subcommand) → (built (line_for (Some name))).top ≡ (built program_line).top
unfolding program_line search_line schedule_line vary_line explain_line either_line either_with_names run_line plain_line lint_line solve_line check_line dot_line clap_on_literals
top_of subcommand.Schedule = refl
top_of subcommand.Run = refl
top_of subcommand.Json = refl
top_of subcommand.Explain = refl
top_of subcommand.Vary = refl
top_of subcommand.Bounds = refl
top_of subcommand.Edges = refl
top_of subcommand.Dot = refl
top_of subcommand.Plain = refl
top_of subcommand.Lint = refl
top_of subcommand.Solve = refl
top_of subcommand.Check = refl

names_are : (name : Subcommand) → names_of (built (line_for (Some name))) ≡ names_of (built program_line)
unfolding program_line search_line schedule_line vary_line explain_line either_line either_with_names run_line plain_line lint_line solve_line check_line dot_line clap_on_literals
names_are subcommand.Schedule = refl
names_are subcommand.Run = refl
names_are subcommand.Json = refl
names_are subcommand.Explain = refl
names_are subcommand.Vary = refl
names_are subcommand.Bounds = refl
names_are subcommand.Edges = refl
names_are subcommand.Dot = refl
names_are subcommand.Plain = refl
names_are subcommand.Lint = refl
names_are subcommand.Solve = refl
names_are subcommand.Check = refl

found_is : (name : Subcommand) → find (λ s. answers_to (word_of name) (label_of s)) (built (line_for (Some name))).subs ≡ find (λ s. answers_to (word_of name) (label_of s)) (built program_line).subs
unfolding program_line search_line schedule_line vary_line explain_line either_line either_with_names run_line plain_line lint_line solve_line check_line dot_line clap_on_literals
found_is subcommand.Schedule = refl
found_is subcommand.Run = refl
found_is subcommand.Json = refl
found_is subcommand.Explain = refl
found_is subcommand.Vary = refl
found_is subcommand.Bounds = refl
found_is subcommand.Edges = refl
found_is subcommand.Dot = refl
found_is subcommand.Plain = refl
found_is subcommand.Lint = refl
found_is subcommand.Solve = refl
found_is subcommand.Check = refl

stops_at : (name : Subcommand) → (walked (built (line_for (Some name))).top.rules (names_of (built (line_for (Some name)))) (walk_from nothing_held) (word_of name)).stopped ≡ Some (word_of name, [])
unfolding program_line search_line schedule_line vary_line explain_line either_line either_with_names run_line plain_line lint_line solve_line check_line dot_line clap_on_literals
stops_at subcommand.Schedule = refl
stops_at subcommand.Run = refl
stops_at subcommand.Json = refl
stops_at subcommand.Explain = refl
stops_at subcommand.Vary = refl
stops_at subcommand.Bounds = refl
stops_at subcommand.Edges = refl
stops_at subcommand.Dot = refl
stops_at subcommand.Plain = refl
stops_at subcommand.Lint = refl
stops_at subcommand.Solve = refl
stops_at subcommand.Check = refl

is_free_for : (name : Subcommand) → is_simple_and_free (line_for (Some name)) ≡ true
unfolding program_line search_line schedule_line vary_line explain_line either_line either_with_names run_line plain_line lint_line solve_line check_line dot_line clap_on_literals
is_free_for subcommand.Schedule = refl
is_free_for subcommand.Run = refl
is_free_for subcommand.Json = refl
is_free_for subcommand.Explain = refl
is_free_for subcommand.Vary = refl
is_free_for subcommand.Bounds = refl
is_free_for subcommand.Edges = refl
is_free_for subcommand.Dot = refl
is_free_for subcommand.Plain = refl
is_free_for subcommand.Lint = refl
is_free_for subcommand.Solve = refl
is_free_for subcommand.Check = refl

-- all subcommands make the program's line
all_needed : line_for None ≡ program_line
unfolding program_line
all_needed = refl

pub line_is_free : (wanted : Option Subcommand) → is_simple_and_free (line_for wanted) ≡ true
line_is_free None = ap is_simple_and_free all_needed ∙ program_is_free
line_is_free (Some name) = is_free_for name

-- the words that are read, and what is read of them
all_words_for : (name : Subcommand) (words : List Text) → argument_words (line_for (Some name)) words ≡ words
all_words_for name words = refl

all_words : (words : List Text) → argument_words program_line words ≡ words
unfolding program_line
all_words words = refl

fault_at : (app : App) (words : List Text) → argument_words app words ≡ words → fault_of app words ≡ built_fault (built app) nothing_held words
fault_at app words all = ap (built_fault (built app) nothing_held) all

subcommand_at : (app : App) (words : List Text) → argument_words app words ≡ words
    → subcommand_of app words ≡ entered (built app) (stop_after (built app).top.rules (names_of (built app)) words)
subcommand_at app words all = ap (λ ws. entered (built app) (stop_after (built app).top.rules (names_of (built app)) ws)) all

begun_alike : (name : Subcommand) (rest : List Text) → let words = word_of name ∷ rest in
    (fault_of (line_for (Some name)) words ≡ fault_of program_line words) × (subcommand_of (line_for (Some name)) words ≡ subcommand_of program_line words)
begun_alike name rest =
    let a = built (line_for (Some name)) in
    let b = built program_line in
    let words = word_of name ∷ rest in (
      fault_at (line_for (Some name)) words (all_words_for name words)
          ∙ same_fault a b (word_of name) rest (top_of name) (names_are name) (found_is name) (stops_at name)
          ∙ sym (fault_at program_line words (all_words words)),
      subcommand_at (line_for (Some name)) words (all_words_for name words)
          ∙ same_entered a b (word_of name) rest (top_of name) (names_are name) (found_is name) (stops_at name)
          ∙ sym (subcommand_at program_line words (all_words words)),
    )

-- what words mean that begin with the subcommand which is wanted
pub same_meaning : (wanted : Option Subcommand) (words : List Text) → IfSome wanted (λ name. slice_get words 0 ≡ Some (word_of name))
    → (fault_of (line_for wanted) words ≡ fault_of program_line words) × (subcommand_of (line_for wanted) words ≡ subcommand_of program_line words)
same_meaning None words begins = (ap (λ a. fault_of a words) all_needed, ap (λ a. subcommand_of a words) all_needed)
same_meaning (Some name) [] begins = absurd (none-some (word_of name) begins)
same_meaning (Some name) (word ∷ rest) begins =
    let P : Text → Type 0 = λ w. (fault_of (line_for (Some name)) (w ∷ rest) ≡ fault_of program_line (w ∷ rest)) × (subcommand_of (line_for (Some name)) (w ∷ rest) ≡ subcommand_of program_line (w ∷ rest)) in
    subst P (sym (same_Some word (word_of name) begins)) (begun_alike name rest)
