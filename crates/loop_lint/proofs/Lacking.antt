-- Statements without a table, line by line, and when there are none.
use Rattle.std.proofs.Common.{◌≡◌, ◌↔◌, ℕ, ◌+◌, ◌≤◌, ◌<◌, ◌&&◌, Bool, true, false, cond, List, [], ◌∷◌, ◌++◌, length, map, drop, take, get_or, Option, Some, None, Result, Ok, Err, refl, sym, ◌∙◌, ap, subst, append_assoc, ltb, is_some, is_none, filter_map}
use Rattle.std.specs.List.{list_all}
use Rattle.std.proofs.lemmas.Bool.{le-ltb, lt-ltb}
use Rattle.std.proofs.lemmas.Bool.{true≢false}
use Rattle.std.proofs.lemmas.List.{map-append, take_more}
use Rattle.machine_data.specs.Machines.{MachineData, OperationData, table_of}
use Rattle.loop_lines.specs.Forms.{Form, LoopLine, ArrayLine, ParamLine, InitLine, StatementLine, OutLine, EndLine, Malformed, line_form}
use Rattle.loop_lines.specs.Words.{words_of}
use Rattle.loop_data.specs.Loops.{LoopData}
use Rattle.loop_data.specs.declared.language.statement.Statement.{Statement}
use Rattle.loop_reader.specs.Meaning.{at_line, blocks_from, blocks_of, faults_of, first_fault, forms_of, inside_faults, line_faults, loop_of, loops_in, outside_faults, stands, statement_in, statement_of, whole, with_line}
use Rattle.reader_faults.specs.declared.loops.LoopFault.{LoopFault}
use Rattle.reader_faults.specs.declared.loops.LoopFaultKind.TheVariants.{Limit, Syntax}
use Rattle.loop_lint.specs.Lacks.{AreToldOn, HasTables, MeansLoops, SilentWith, count_before, faults_among, has_tables, inside_after, lack, lacks_for, lacks_from, lacks_in, merged}
use Rattle.loop_lint.specs.Lints.{AreFaults, BeginsAs, TextLine, Blank, Words, faults_in, forms_in, line_with, plain, text_lines}
use Rattle.loop_lines.specs.Columns.{Placed, placed_words}
use Rattle.loop_lint.specs.declared.fault.LintFault.{LintFault}
use Rattle.loop_lint.specs.declared.lacks.LoopLint.{LoopLint}
use Rattle.loop_lint.specs.declared.lacks.LoopLint.TheVariants as lint
use Rattle.loop_lint.specs.declared.lacks.NoTable.{NoTable}
use Rattle.loop_lint.specs.inner.Lacking.{IsPassed}
use Rattle.loop_lint.proofs.Passing.{forms_read}

-- one statement more

pub lacks_more : (lacks : List NoTable) (i : ℕ) (d : NoTable) (all old new : List LoopLint) → i < length lacks → new ≡ old ++ lint.NoTable (get_or lacks i d) ∷ []
    → old ≡ all ++ map lint.NoTable (take i lacks) → new ≡ all ++ map lint.NoTable (take (i + 1) lacks)
lacks_more lacks i d all old new below is was =
    is ∙ ap (λ ls. ls ++ lint.NoTable (get_or lacks i d) ∷ []) was
    ∙ append_assoc all (map lint.NoTable (take i lacks)) (lint.NoTable (get_or lacks i d) ∷ [])
    ∙ ap (λ ls. all ++ ls) (sym (ap (map lint.NoTable) (take_more lacks i d below) ∙ map-append lint.NoTable (take i lacks) (get_or lacks i d ∷ [])))

-- one line

pub passes_blank : (machine : MachineData) (number : ℕ) (inside : Bool) (line : List ℕ) (old : List NoTable) → line_form (words_of line) ≡ None → IsPassed machine number inside line old inside old
passes_blank machine number inside line old h lines = ap (λ form. old ++ lacks_from machine number inside (line_with (placed_words line) form ∷ lines)) h

pub passes_line : (machine : MachineData) (number : ℕ) (inside after : Bool) (line : List ℕ) (form : Form) (old new : List NoTable) → line_form (words_of line) ≡ Some form → after ≡ inside_after inside form
    → new ≡ old ++ cond inside (lack machine number (placed_words line) form) [] → IsPassed machine number inside line old after new
passes_line machine number inside after line form old new h a n lines =
    let words = placed_words line in
    let here = cond inside (lack machine number words form) [] in
    let more = lacks_from machine (number + 1) (inside_after inside form) lines in
    ap (λ form. old ++ lacks_from machine number inside (line_with words form ∷ lines)) h
    ∙ sym (append_assoc old here more)
    ∙ ap (λ ls. ls ++ more) (sym n)
    ∙ ap (λ b. new ++ lacks_from machine (number + 1) b lines) (sym a)

-- a text that is not too long, and one that is

pub lacks_short : (machine : MachineData) (text : List ℕ) → length text ≤ 1048576 → lacks_from machine 1 false (text_lines text) ≡ lacks_in machine text
unfolding lacks_in
lacks_short machine text h = rw (le-ltb 1048576 (length text) h) refl

pub lacks_long : (machine : MachineData) (text : List ℕ) → 1048576 < length text → lacks_in machine text ≡ []
unfolding lacks_in
lacks_long machine text h = rw (lt-ltb 1048576 (length text) h) refl

-- faults among them

among-lacks : (lacks : List NoTable) (lints : List LoopLint) → faults_among (map lint.NoTable lacks ++ lints) ≡ faults_among lints
among-lacks [] lints = refl
among-lacks (l ∷ ls) lints = among-lacks ls lints

among-none : (lacks : List NoTable) → faults_among (map lint.NoTable lacks) ≡ []
among-none [] = refl
among-none (l ∷ ls) = among-none ls

pub among_merged : (faults : List LintFault) (lacks : List NoTable) → faults_among (merged faults lacks) ≡ faults
among_merged [] lacks = among-none lacks
among_merged (fault ∷ faults) lacks =
    among-lacks (take (count_before fault.line lacks) lacks) (lint.Fault fault ∷ merged faults (drop (count_before fault.line lacks) lacks))
    ∙ ap (λ fs. fault ∷ fs) (among_merged faults (drop (count_before fault.line lacks) lacks))

pub told_on : (machine : Option MachineData) (text : List ℕ) (faults : List LintFault) (lints : List LoopLint) → AreFaults text faults → BeginsAs (loops_in text) (map plain faults)
    → lints ≡ merged faults (lacks_for machine text) → AreToldOn machine text lints
told_on machine text faults lints are begins is =
    let among : faults_among lints ≡ faults = ap faults_among is ∙ among_merged faults (lacks_for machine text) in record {
      faults = subst (AreFaults text) (sym among) are;
      first = subst (λ fs. BeginsAs (loops_in text) (map plain fs)) (sym among) begins;
      all = is ∙ ap (λ fs. merged fs (lacks_for machine text)) (sym among);
    }

-- when there are none

abbrev is_nil : {A : Type 0} → List A → Bool
is_nil [] = true
is_nil (x ∷ xs) = false

nil-append : {A : Type 0} (xs ys : List A) → is_nil (xs ++ ys) ≡ (is_nil xs && is_nil ys)
nil-append [] ys = refl
nil-append (x ∷ xs) ys = refl

nil-yes : {A : Type 0} (xs : List A) → is_nil xs ≡ true → xs ≡ []
nil-yes [] h = refl
nil-yes (x ∷ xs) h = absurd (true≢false (sym h))

nil-last : {A : Type 0} (xs ys : List A) → xs ++ ys ≡ [] → ys ≡ []
nil-last [] ys h = h
nil-last (x ∷ xs) ys h = absurd (true≢false (sym (ap is_nil h)))

nil-first : {A : Type 0} (xs ys : List A) → xs ++ ys ≡ [] → xs ≡ []
nil-first [] ys h = refl
nil-first (x ∷ xs) ys h = absurd (true≢false (sym (ap is_nil h)))

-- the machine has a table for a statement's opcode
abbrev form_has : MachineData → Form → Bool
form_has machine (LoopLine name) = true
form_has machine (ArrayLine name cells) = true
form_has machine (ParamLine name value) = true
form_has machine (InitLine name number value) = true
form_has machine (StatementLine source) = is_some (table_of machine source.opcode)
form_has machine (OutLine name) = true
form_has machine EndLine = true
form_has machine Malformed = true

abbrev block_has : MachineData → List ℕ × List Form → Bool
block_has machine block = list_all (form_has machine) block.1

lack-none : (table : Option OperationData) (l : NoTable) → is_nil (cond (is_none table) (l ∷ []) []) ≡ is_some table
lack-none None l = refl
lack-none (Some t) l = refl

lack-nil : (machine : MachineData) (line : ℕ) (words : List Placed) (form : Form) → is_nil (lack machine line words form) ≡ form_has machine form
lack-nil machine line words (LoopLine name) = refl
lack-nil machine line words (ArrayLine name cells) = refl
lack-nil machine line words (ParamLine name value) = refl
lack-nil machine line words (InitLine name number value) = refl
lack-nil machine line words (StatementLine source) = lack-none (table_of machine source.opcode) _
lack-nil machine line words (OutLine name) = refl
lack-nil machine line words EndLine = refl
lack-nil machine line words Malformed = refl

and-assoc : (a b c : Bool) → (a && (b && c)) ≡ ((a && b) && c)
and-assoc true b c = refl
and-assoc false b c = refl

and-true : (b : Bool) → (b && true) ≡ b
and-true true = refl
and-true false = refl

all-push : (test : Form → Bool) (forms : List Form) (form : Form) → list_all test (forms ++ form ∷ []) ≡ (list_all test forms && test form)
all-push test [] form = and-true (test form)
all-push test (f ∷ fs) form = ap (λ b. test f && b) (all-push test fs form) ∙ and-assoc (test f) (list_all test fs) (test form)

stands-when : (before block : List Form) (form : Form) (line : ℕ) (b : Bool) → stands before form ≡ b → at_line line (line_faults before block form) ≡ [] → b ≡ true
stands-when before block form line true s h = refl
stands-when before block form line false s h =
    let one : at_line line (line_faults before block form) ≡ record { line = line; kind = Syntax } ∷ [] = ap (λ b. at_line line (cond b (faults_of before block form) (Syntax ∷ []))) s in
    absurd (true≢false (sym (ap is_nil (sym one ∙ h))))

-- of lines without a fault
record Silent (machine : MachineData) (lines : List TextLine) : Type 0 where
  outside : (number line : ℕ) (names : List (List ℕ)) → outside_faults number names (forms_in lines) ≡ []
      → is_nil (lacks_from machine line false lines) ≡ list_all (block_has machine) (blocks_of (forms_in lines))
  inside : (number line : ℕ) (names : List (List ℕ)) (name : List ℕ) (before : List Form) → inside_faults number names before (forms_in lines) ≡ []
      → (list_all (form_has machine) before && is_nil (lacks_from machine line true lines)) ≡ list_all (block_has machine) (blocks_from name before (forms_in lines))

-- the line stands, and so the block goes on with it
goes : (machine : MachineData) (words : List Placed) (form : Form) (lines : List TextLine) (number line : ℕ) (name : List ℕ) (before block : List Form) → Silent machine lines
    → inside_after true form ≡ true
    → (names : List (List ℕ)) → at_line number (line_faults before block form) ++ inside_faults (number + 1) names (with_line before form) (forms_in lines) ≡ []
    → (list_all (form_has machine) before && is_nil (lack machine line words form ++ lacks_from machine (line + 1) (inside_after true form) lines))
    ≡ list_all (block_has machine) (blocks_from name (with_line before form) (forms_in lines))
goes machine words form lines number line name before block s on names h =
    let stand : stands before form ≡ true = stands-when before block form number (stands before form) refl (nil-first _ _ h) in
    let with : with_line before form ≡ before ++ form ∷ [] = ap (λ b. cond b (before ++ form ∷ []) before) stand in
    let more = is_nil (lacks_from machine (line + 1) true lines) in
    ap (λ b. list_all (form_has machine) before && is_nil (lack machine line words form ++ lacks_from machine (line + 1) b lines)) on
    ∙ ap (λ b. list_all (form_has machine) before && b) (nil-append (lack machine line words form) (lacks_from machine (line + 1) true lines))
    ∙ ap (λ b. list_all (form_has machine) before && (b && more)) (lack-nil machine line words form)
    ∙ and-assoc (list_all (form_has machine) before) (form_has machine form) more
    ∙ ap (λ b. b && more) (sym (all-push (form_has machine) before form))
    ∙ ap (λ b. list_all (form_has machine) b && more) (sym with)
    ∙ s.inside (number + 1) (line + 1) names name (with_line before form) (nil-last _ _ h)

some-fault : {A : Type 0} (fault : LoopFault) (faults : List LoopFault) → fault ∷ faults ≡ [] → A
some-fault fault faults h = absurd (true≢false (sym (ap is_nil h)))

silent-outside : (machine : MachineData) (words : List Placed) (form : Form) (lines : List TextLine) → Silent machine lines → (number line : ℕ) (names : List (List ℕ))
    → outside_faults number names (Some form ∷ forms_in lines) ≡ []
    → is_nil (lacks_from machine line false (Words words form ∷ lines)) ≡ list_all (block_has machine) (blocks_of (Some form ∷ forms_in lines))
silent-outside machine words (LoopLine name) lines s number line names h = s.inside (number + 1) (line + 1) (names ++ name ∷ []) name [] (nil-last _ _ h)
silent-outside machine words (ArrayLine name cells) lines s number line names h = some-fault _ _ h
silent-outside machine words (ParamLine name value) lines s number line names h = some-fault _ _ h
silent-outside machine words (InitLine name n value) lines s number line names h = some-fault _ _ h
silent-outside machine words (StatementLine source) lines s number line names h = some-fault _ _ h
silent-outside machine words (OutLine name) lines s number line names h = some-fault _ _ h
silent-outside machine words EndLine lines s number line names h = some-fault _ _ h
silent-outside machine words Malformed lines s number line names h = some-fault _ _ h

silent-inside : (machine : MachineData) (words : List Placed) (form : Form) (lines : List TextLine) → Silent machine lines → (number line : ℕ) (names : List (List ℕ)) (name : List ℕ) (before : List Form)
    → inside_faults number names before (Some form ∷ forms_in lines) ≡ []
    → (list_all (form_has machine) before && is_nil (lacks_from machine line true (Words words form ∷ lines))) ≡ list_all (block_has machine) (blocks_from name before (Some form ∷ forms_in lines))
silent-inside machine words (LoopLine other) lines s number line names name before h = goes machine words (LoopLine other) lines number line name before (whole before (Some (LoopLine other) ∷ forms_in lines)) s refl names h
silent-inside machine words (ArrayLine other cells) lines s number line names name before h = goes machine words (ArrayLine other cells) lines number line name before (whole before (Some (ArrayLine other cells) ∷ forms_in lines)) s refl names h
silent-inside machine words (ParamLine other value) lines s number line names name before h = goes machine words (ParamLine other value) lines number line name before (whole before (Some (ParamLine other value) ∷ forms_in lines)) s refl names h
silent-inside machine words (InitLine other n value) lines s number line names name before h = goes machine words (InitLine other n value) lines number line name before (whole before (Some (InitLine other n value) ∷ forms_in lines)) s refl names h
silent-inside machine words (StatementLine source) lines s number line names name before h = goes machine words (StatementLine source) lines number line name before (whole before (Some (StatementLine source) ∷ forms_in lines)) s refl names h
silent-inside machine words (OutLine other) lines s number line names name before h = goes machine words (OutLine other) lines number line name before (whole before (Some (OutLine other) ∷ forms_in lines)) s refl names h
silent-inside machine words EndLine lines s number line names name before h = ap (λ b. list_all (form_has machine) before && b) (s.outside (number + 1) (line + 1) names (nil-last _ _ h))
silent-inside machine words Malformed lines s number line names name before h = goes machine words Malformed lines number line name before (whole before (Some Malformed ∷ forms_in lines)) s refl names h

silent : (machine : MachineData) (lines : List TextLine) → Silent machine lines
silent machine [] = record { outside = λ number line names h. refl; inside = λ number line names name before h. some-fault _ _ h }
silent machine (Blank ∷ lines) =
    let s = silent machine lines in
    record { outside = λ number line names h. s.outside (number + 1) (line + 1) names h; inside = λ number line names name before h. s.inside (number + 1) (line + 1) names name before h }
silent machine (Words words form ∷ lines) =
    let s = silent machine lines in
    record { outside = silent-outside machine words form lines s; inside = silent-inside machine words form lines s }

-- tables of loops

statements-have : (machine : MachineData) (block forms : List Form) → list_all (λ (s : Statement). is_some (table_of machine s.opcode)) (map (statement_of block) (filter_map statement_in forms)) ≡ list_all (form_has machine) forms
statements-have machine block [] = refl
statements-have machine block (LoopLine name ∷ forms) = statements-have machine block forms
statements-have machine block (ArrayLine name cells ∷ forms) = statements-have machine block forms
statements-have machine block (ParamLine name value ∷ forms) = statements-have machine block forms
statements-have machine block (InitLine name n value ∷ forms) = statements-have machine block forms
statements-have machine block (StatementLine source ∷ forms) = ap (λ b. is_some (table_of machine source.opcode) && b) (statements-have machine block forms)
statements-have machine block (OutLine name ∷ forms) = statements-have machine block forms
statements-have machine block (EndLine ∷ forms) = statements-have machine block forms
statements-have machine block (Malformed ∷ forms) = statements-have machine block forms

loop-has : (machine : MachineData) (block : List ℕ × List Form) → has_tables machine (loop_of block) ≡ block_has machine block
unfolding loop_of
loop-has machine block = statements-have machine block.1 block.1

loops-have : (machine : MachineData) (blocks : List (List ℕ × List Form)) → list_all (has_tables machine) (map loop_of blocks) ≡ list_all (block_has machine) blocks
loops-have machine [] = refl
loops-have machine (block ∷ blocks) = ap (λ b. b && list_all (has_tables machine) (map loop_of blocks)) (loop-has machine block) ∙ ap (λ b. block_has machine block && b) (loops-have machine blocks)

-- a text without faults
silent-text : (machine : MachineData) (text : List ℕ) → outside_faults 1 [] (forms_of text) ≡ []
    → is_nil (lacks_from machine 1 false (text_lines text)) ≡ list_all (has_tables machine) (map loop_of (blocks_of (forms_of text)))
silent-text machine text h =
    (silent machine (text_lines text)).outside 1 1 [] (ap (outside_faults 1 []) (forms_read text) ∙ h)
    ∙ ap (λ forms. list_all (block_has machine) (blocks_of forms)) (forms_read text)
    ∙ sym (loops-have machine (blocks_of (forms_of text)))

first-none : (faults : List LoopFault) (loops others : List LoopData) → first_fault faults loops ≡ Ok others → (faults ≡ []) × (loops ≡ others)
first-none [] loops others h = (refl, cc)
first-none (fault ∷ faults) loops others h = absurd (cc)

-- what is told of a text whose length is this far
record Read (machine : MachineData) (text : List ℕ) (long : Bool) : Type 0 where
  to : faults_in text ≡ [] → lacks_in machine text ≡ [] → HasTables machine text
  back : HasTables machine text → lacks_in machine text ≡ []

read : (machine : MachineData) (text : List ℕ) (long : Bool) → ltb 1048576 (length text) ≡ long → Read machine text long
unfolding faults_in lacks_in loops_in
read machine text true e = record {
  to = λ f l. some-fault (record { line = 0; kind = Limit }) [] (sym (ap (λ b. cond b (record { line = 0; kind = Limit } ∷ []) (outside_faults 1 [] (forms_of text))) e) ∙ f);
  back = λ has. ap (λ b. cond b [] (lacks_from machine 1 false (text_lines text))) e;
}
read machine text false e =
    let loops = map loop_of (blocks_of (forms_of text)) in
    let meant : loops_in text ≡ first_fault (outside_faults 1 [] (forms_of text)) loops = ap (λ b. cond b (Err (record { line = 0; kind = Limit })) (first_fault (outside_faults 1 [] (forms_of text)) loops)) e in
    let told : lacks_in machine text ≡ lacks_from machine 1 false (text_lines text) = ap (λ b. cond b [] (lacks_from machine 1 false (text_lines text))) e in record {
      to = λ f l.
          let none : outside_faults 1 [] (forms_of text) ≡ [] = sym (ap (λ b. cond b (record { line = 0; kind = Limit } ∷ []) (outside_faults 1 [] (forms_of text))) e) ∙ f in
          record { loops = loops; read = meant ∙ ap (λ fs. first_fault fs loops) none; tables = sym (silent-text machine text none) ∙ ap is_nil (sym told ∙ l) };
      back = λ has.
          let both = first-none (outside_faults 1 [] (forms_of text)) loops has.loops (sym meant ∙ has.read) in
          told ∙ nil-yes _ (silent-text machine text both.0 ∙ ap (list_all (has_tables machine)) both.1 ∙ has.tables);
    }

merged-nil : (faults : List LintFault) (lacks : List NoTable) → merged faults lacks ≡ [] → (faults ≡ []) × (lacks ≡ [])
merged-nil [] [] h = (refl, refl)
merged-nil [] (l ∷ ls) h = absurd (true≢false (sym (ap is_nil h)))
merged-nil (fault ∷ faults) lacks h = absurd (true≢false (sym (ap is_nil (nil-last (map lint.NoTable (take (count_before fault.line lacks) lacks)) _ h))))

plain-nil : (faults : List LintFault) → map plain faults ≡ [] → faults ≡ []
plain-nil [] h = refl
plain-nil (fault ∷ faults) h = absurd (true≢false (sym (ap is_nil h)))

none-begins : (faults : List LoopFault) (loops : List LoopData) (meaning : Result (List LoopData) LoopFault) → meaning ≡ Ok loops → BeginsAs meaning faults → faults ≡ []
none-begins faults loops (Ok others) h begins = begins
none-begins faults loops (Err fault) h begins = absurd (cc)

silent-on : (machine : MachineData) (text : List ℕ) (faults : List LintFault) (lints : List LoopLint) → AreFaults text faults → BeginsAs (loops_in text) (map plain faults)
    → lints ≡ merged faults (lacks_in machine text) → (lints ≡ []) ↔ HasTables machine text
silent-on machine text faults lints are begins is =
    let r = read machine text (ltb 1048576 (length text)) refl in (
      λ none.
          let both = merged-nil faults (lacks_in machine text) (sym is ∙ none) in
          r.to (sym are.all ∙ ap (map plain) both.0) both.1,
      λ has.
          let no : faults ≡ [] = plain-nil faults (none-begins (map plain faults) has.loops (loops_in text) has.read begins) in
          is ∙ ap (λ fs. merged fs (lacks_in machine text)) no ∙ ap (map lint.NoTable) (r.back has),
    )

silent-alone : (text : List ℕ) (faults : List LintFault) (lints : List LoopLint) (meaning : Result (List LoopData) LoopFault) → loops_in text ≡ meaning → BeginsAs meaning (map plain faults)
    → lints ≡ merged faults [] → (lints ≡ []) ↔ MeansLoops text
silent-alone text faults lints (Ok loops) meant begins is = (
  λ none. record { loops = loops; read = meant },
  λ means. is ∙ ap (λ fs. merged fs []) (plain-nil faults begins),
)
silent-alone text faults lints (Err fault) meant begins is = (
  λ none. absurd (told-first fault faults begins (merged-nil faults [] (sym is ∙ none)).0),
  λ (means : MeansLoops text). absurd (cc),
)
  where
    told-first : (fault : LoopFault) (faults : List LintFault) → BeginsAs (Err fault) (map plain faults) → faults ≡ [] → ⊥
    told-first fault [] begins none = cc
    told-first fault (first ∷ faults) begins none = cc

pub silent_with : (machine : Option MachineData) (text : List ℕ) (faults : List LintFault) (lints : List LoopLint) → AreFaults text faults → BeginsAs (loops_in text) (map plain faults)
    → lints ≡ merged faults (lacks_for machine text) → SilentWith machine text lints
silent_with None text faults lints are begins is = silent-alone text faults lints (loops_in text) refl begins is
silent_with (Some machine) text faults lints are begins is = silent-on machine text faults lints are begins is
