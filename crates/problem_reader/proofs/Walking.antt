-- The tables of the lines so far, by look-ups, with one more line.
use Rattle.std.proofs.Common.{◌≡◌, ℕ, suc, ◌-◌, Bool, true, false, not, List, [], ◌∷◌, ◌++◌, length, refl, sym, ap, ◌∙◌, arith, append_assoc, subst, if◌then◌else◌, Some, None}
use Rattle.std.specs.Prelude.{◌||◌, ◌&&◌, nat_lt, option_to_list}
use Rattle.std.specs.List.{All, list_any}
use Rattle.std.proofs.lemmas.Bool.{false≢true}
use Rattle.std.proofs.lemmas.Bool.Decides.{Decides-ltb}
use Rattle.std.proofs.lemmas.List.{append-nil}
use Rattle.std.proofs.lemmas.List.Folds.{list_any-append}
use Rattle.problem_lines.specs.Forms.{Form, MachineLine, UnitsLine, FileLine, KindLine, ProblemLine, OpLine, ValueLine, ReadLine, EdgeLine, EndLine}
use Rattle.problem_tables.specs.Data.{MachineData, ProblemData}
use Rattle.problem_tables.specs.Names.{last_name}
use Rattle.problem_tables.specs.Tables as tables
use Rattle.problem_tables.specs.Tables.{MachineParts, ProblemParts, TablesData, no_machine, no_problem, with_form, with_machine, with_machine_ended}
use Rattle.problem_reader.specs.Files.{last_machine, machine_of, problem_of, problems_from}
use Rattle.problem_reader.specs.Sofar.{files_in, has_machine, inside, is_inside, is_machine, is_problem, is_served, kinds_in, machine_lines, machine_name, machines_in, problem_lines, problem_name, problems_in}
use Rattle.problem_reader.proofs.Pushes.{filter-push, inside-push, since-push}
use Rattle.problem_reader.proofs.Machines.{IsKindOf, machine_in, machine_step, machine-push, machine-with}
use Rattle.problem_reader.proofs.Problems.{AreKnown, problem_in, problem_step, problem-push, problem-with}

-- the machines that have ended before the last
abbrev pub ended_from : List Form → List Form → List MachineData
ended_from before [] = []
ended_from before (MachineLine name ∷ forms) = last_machine before ++ ended_from (before ++ MachineLine name ∷ []) forms
ended_from before (form ∷ forms) = ended_from (before ++ form ∷ []) forms

-- the problem under way
abbrev pub problem_now : List Form → ProblemParts
problem_now before = if is_inside before then problem_in (kinds_in before) (files_in before) (problem_lines before) else no_problem

abbrev pub tables_of : List Form → TablesData
tables_of before = record {
  machines = machines_in before;
  problems = problems_in before;
  machine = machine_in (machine_lines before);
  problem = problem_now before;
  served = is_served before;
  inside = is_inside before;
  ended = record { machines = ended_from [] before; problems = problems_from [] before };
}

pub tables-same : (a b : TablesData) → a.machines ≡ b.machines → a.problems ≡ b.problems → a.machine ≡ b.machine → a.problem ≡ b.problem → a.served ≡ b.served → a.inside ≡ b.inside
    → a.ended.machines ≡ b.ended.machines → a.ended.problems ≡ b.ended.problems → a ≡ b
tables-same a b m p q r s i e f =
    ap (λ x. record { machines = x; problems = a.problems; machine = a.machine; problem = a.problem; served = a.served; inside = a.inside; ended = a.ended }) m
    ∙ ap (λ x. record { machines = b.machines; problems = x; machine = a.machine; problem = a.problem; served = a.served; inside = a.inside; ended = a.ended }) p
    ∙ ap (λ x. record { machines = b.machines; problems = b.problems; machine = x; problem = a.problem; served = a.served; inside = a.inside; ended = a.ended }) q
    ∙ ap (λ x. record { machines = b.machines; problems = b.problems; machine = b.machine; problem = x; served = a.served; inside = a.inside; ended = a.ended }) r
    ∙ ap (λ x. record { machines = b.machines; problems = b.problems; machine = b.machine; problem = b.problem; served = x; inside = a.inside; ended = a.ended }) s
    ∙ ap (λ x. record { machines = b.machines; problems = b.problems; machine = b.machine; problem = b.problem; served = b.served; inside = x; ended = a.ended }) i
    ∙ ap (λ x. record { machines = b.machines; problems = b.problems; machine = b.machine; problem = b.problem; served = b.served; inside = b.inside; ended = record { machines = x; problems = a.ended.problems } }) e
    ∙ ap (λ x. record { machines = b.machines; problems = b.problems; machine = b.machine; problem = b.problem; served = b.served; inside = b.inside; ended = record { machines = b.ended.machines; problems = x } }) f

-- the parts with one more line

abbrev if_machine : Form → List Form → List MachineData
if_machine (MachineLine name) before = last_machine before
if_machine form before = []

abbrev if_end : Form → List Form → List ProblemData
if_end EndLine before = problem_of before ∷ []
if_end form before = []

-- after one line more
ended-after : (before : List Form) (first : Form) (forms : List Form) (form : Form)
    → ended_from (before ++ first ∷ []) (forms ++ form ∷ []) ≡ ended_from (before ++ first ∷ []) forms ++ if_machine form ((before ++ first ∷ []) ++ forms)
    → ended_from (before ++ first ∷ []) (forms ++ form ∷ []) ≡ ended_from (before ++ first ∷ []) forms ++ if_machine form (before ++ first ∷ forms)
ended-after before first forms form h = h ∙ ap (λ b. ended_from (before ++ first ∷ []) forms ++ if_machine form b) (append_assoc before (first ∷ []) forms)

problems-after : (before : List Form) (first : Form) (forms : List Form) (form : Form)
    → problems_from (before ++ first ∷ []) (forms ++ form ∷ []) ≡ problems_from (before ++ first ∷ []) forms ++ if_end form ((before ++ first ∷ []) ++ forms)
    → problems_from (before ++ first ∷ []) (forms ++ form ∷ []) ≡ problems_from (before ++ first ∷ []) forms ++ if_end form (before ++ first ∷ forms)
problems-after before first forms form h = h ∙ ap (λ b. problems_from (before ++ first ∷ []) forms ++ if_end form b) (append_assoc before (first ∷ []) forms)

ended-push : (before forms : List Form) (form : Form) → ended_from before (forms ++ form ∷ []) ≡ ended_from before forms ++ if_machine form (before ++ forms)
ended-push before [] (MachineLine name) = append-nil (last_machine before) ∙ ap last_machine (sym (append-nil before))
ended-push before [] (UnitsLine names) = refl
ended-push before [] (FileLine name storage) = refl
ended-push before [] (KindLine name latency alternatives) = refl
ended-push before [] (ProblemLine name) = refl
ended-push before [] (OpLine name kind) = refl
ended-push before [] (ValueLine name maker lands file out) = refl
ended-push before [] (ReadLine reader value distance offset) = refl
ended-push before [] (EdgeLine from to delay distance) = refl
ended-push before [] EndLine = refl
ended-push before (MachineLine name ∷ forms) form =
    ap (λ ms. last_machine before ++ ms) (ended-push (before ++ MachineLine name ∷ []) forms form)
    ∙ sym (append_assoc (last_machine before) (ended_from (before ++ MachineLine name ∷ []) forms) (if_machine form ((before ++ MachineLine name ∷ []) ++ forms)))
    ∙ ap (λ b. (last_machine before ++ ended_from (before ++ MachineLine name ∷ []) forms) ++ if_machine form b) (append_assoc before (MachineLine name ∷ []) forms)
ended-push before (UnitsLine names ∷ forms) form = ended-after before (UnitsLine names) forms form (ended-push (before ++ UnitsLine names ∷ []) forms form)
ended-push before (FileLine name storage ∷ forms) form = ended-after before (FileLine name storage) forms form (ended-push (before ++ FileLine name storage ∷ []) forms form)
ended-push before (KindLine name latency alternatives ∷ forms) form = ended-after before (KindLine name latency alternatives) forms form (ended-push (before ++ KindLine name latency alternatives ∷ []) forms form)
ended-push before (ProblemLine name ∷ forms) form = ended-after before (ProblemLine name) forms form (ended-push (before ++ ProblemLine name ∷ []) forms form)
ended-push before (OpLine name kind ∷ forms) form = ended-after before (OpLine name kind) forms form (ended-push (before ++ OpLine name kind ∷ []) forms form)
ended-push before (ValueLine name maker lands file out ∷ forms) form = ended-after before (ValueLine name maker lands file out) forms form (ended-push (before ++ ValueLine name maker lands file out ∷ []) forms form)
ended-push before (ReadLine reader value distance offset ∷ forms) form = ended-after before (ReadLine reader value distance offset) forms form (ended-push (before ++ ReadLine reader value distance offset ∷ []) forms form)
ended-push before (EdgeLine from to delay distance ∷ forms) form = ended-after before (EdgeLine from to delay distance) forms form (ended-push (before ++ EdgeLine from to delay distance ∷ []) forms form)
ended-push before (EndLine ∷ forms) form = ended-after before EndLine forms form (ended-push (before ++ EndLine ∷ []) forms form)

problems-push : (before forms : List Form) (form : Form) → problems_from before (forms ++ form ∷ []) ≡ problems_from before forms ++ if_end form (before ++ forms)
problems-push before [] (MachineLine name) = refl
problems-push before [] (UnitsLine names) = refl
problems-push before [] (FileLine name storage) = refl
problems-push before [] (KindLine name latency alternatives) = refl
problems-push before [] (ProblemLine name) = refl
problems-push before [] (OpLine name kind) = refl
problems-push before [] (ValueLine name maker lands file out) = refl
problems-push before [] (ReadLine reader value distance offset) = refl
problems-push before [] (EdgeLine from to delay distance) = refl
problems-push before [] EndLine = ap (λ b. problem_of b ∷ []) (sym (append-nil before))
problems-push before (MachineLine name ∷ forms) form = problems-after before (MachineLine name) forms form (problems-push (before ++ MachineLine name ∷ []) forms form)
problems-push before (UnitsLine names ∷ forms) form = problems-after before (UnitsLine names) forms form (problems-push (before ++ UnitsLine names ∷ []) forms form)
problems-push before (FileLine name storage ∷ forms) form = problems-after before (FileLine name storage) forms form (problems-push (before ++ FileLine name storage ∷ []) forms form)
problems-push before (KindLine name latency alternatives ∷ forms) form = problems-after before (KindLine name latency alternatives) forms form (problems-push (before ++ KindLine name latency alternatives ∷ []) forms form)
problems-push before (ProblemLine name ∷ forms) form = problems-after before (ProblemLine name) forms form (problems-push (before ++ ProblemLine name ∷ []) forms form)
problems-push before (OpLine name kind ∷ forms) form = problems-after before (OpLine name kind) forms form (problems-push (before ++ OpLine name kind ∷ []) forms form)
problems-push before (ValueLine name maker lands file out ∷ forms) form = problems-after before (ValueLine name maker lands file out) forms form (problems-push (before ++ ValueLine name maker lands file out ∷ []) forms form)
problems-push before (ReadLine reader value distance offset ∷ forms) form = problems-after before (ReadLine reader value distance offset) forms form (problems-push (before ++ ReadLine reader value distance offset ∷ []) forms form)
problems-push before (EdgeLine from to delay distance ∷ forms) form = problems-after before (EdgeLine from to delay distance) forms form (problems-push (before ++ EdgeLine from to delay distance ∷ []) forms form)
problems-push before (EndLine ∷ forms) form =
    ap (λ ps. problem_of before ∷ ps) (problems-push (before ++ EndLine ∷ []) forms form
    ∙ ap (λ b. problems_from (before ++ EndLine ∷ []) forms ++ if_end form b) (append_assoc before (EndLine ∷ []) forms))

or-true : (b : Bool) → (b || true) ≡ true
or-true true = refl
or-true false = refl

or-false : (b : Bool) → (b || false) ≡ b
or-false true = refl
or-false false = refl

kept-machines : (before : List Form) (form : Form) → machine_name form ≡ None → machines_in (before ++ form ∷ []) ≡ machines_in before
kept-machines before form none = filter-push machine_name before form ∙ ap (λ o. machines_in before ++ option_to_list o) none ∙ append-nil (machines_in before)

kept-problems : (before : List Form) (form : Form) → problem_name form ≡ None → problems_in (before ++ form ∷ []) ≡ problems_in before
kept-problems before form none = filter-push problem_name before form ∙ ap (λ o. problems_in before ++ option_to_list o) none ∙ append-nil (problems_in before)

machine-lines : (before : List Form) (form : Form) → is_machine form ≡ false → machine_lines (before ++ form ∷ []) ≡ machine_lines before ++ form ∷ []
machine-lines before form other = since-push is_machine [] before form ∙ ap (λ b. if b then [] else machine_lines before ++ form ∷ []) other

problem-lines : (before : List Form) (form : Form) → is_problem form ≡ false → problem_lines (before ++ form ∷ []) ≡ problem_lines before ++ form ∷ []
problem-lines before form other = since-push is_problem [] before form ∙ ap (λ b. if b then [] else problem_lines before ++ form ∷ []) other

abbrev AreKinds : List Form → Type 0
AreKinds before = All (IsKindOf (length (machine_in (machine_lines before)).units)) (machine_in (machine_lines before)).kinds

step-machine : (before : List Form) (form : Form) → is_machine form ≡ false → AreKinds before → machine_in (machine_lines (before ++ form ∷ [])) ≡ machine_step (machine_in (machine_lines before)) form
step-machine before form other known = ap machine_in (machine-lines before form other) ∙ machine-push (machine_lines before) form known ∙ machine-with (machine_in (machine_lines before)) form

step-served : (before : List Form) (form : Form) → is_machine form ≡ false → is_served (before ++ form ∷ []) ≡ (is_served before || is_problem form)
step-served before form other =
    ap (list_any is_problem) (machine-lines before form other) ∙ list_any-append is_problem (machine_lines before) (form ∷ []) ∙ ap (λ b. is_served before || b) (or-false (is_problem form))

kept-served : (before : List Form) (form : Form) → is_machine form ≡ false → is_problem form ≡ false → is_served (before ++ form ∷ []) ≡ is_served before
kept-served before form other none = step-served before form other ∙ ap (λ b. is_served before || b) none ∙ or-false (is_served before)

kept-ended : (before : List Form) (form : Form) → if_machine form before ≡ [] → ended_from [] (before ++ form ∷ []) ≡ ended_from [] before
kept-ended before form none = ended-push [] before form ∙ ap (λ ms. ended_from [] before ++ ms) none ∙ append-nil (ended_from [] before)

kept-done : (before : List Form) (form : Form) → if_end form before ≡ [] → problems_from [] (before ++ form ∷ []) ≡ problems_from [] before
kept-done before form none = problems-push [] before form ∙ ap (λ ps. problems_from [] before ++ ps) none ∙ append-nil (problems_from [] before)

step-inside : (before : List Form) (form : Form) (now : Bool) → is_inside before ≡ now → is_inside (before ++ form ∷ []) ≡ inside now (form ∷ [])
step-inside before form now e = inside-push false before form ∙ ap (λ b. inside b (form ∷ [])) e

now-none : (before : List Form) → is_inside before ≡ false → problem_now before ≡ no_problem
now-none before e = ap (λ b. if b then problem_in (kinds_in before) (files_in before) (problem_lines before) else no_problem) e

pub now-some : (before : List Form) → is_inside before ≡ true → problem_now before ≡ problem_in (kinds_in before) (files_in before) (problem_lines before)
now-some before e = ap (λ b. if b then problem_in (kinds_in before) (files_in before) (problem_lines before) else no_problem) e

step-problem : (before : List Form) (form : Form) → is_machine form ≡ false → is_problem form ≡ false → machine_step (machine_in (machine_lines before)) form ≡ machine_in (machine_lines before)
    → AreKinds before → AreKnown (problem_in (kinds_in before) (files_in before) (problem_lines before))
    → problem_in (kinds_in (before ++ form ∷ [])) (files_in (before ++ form ∷ [])) (problem_lines (before ++ form ∷ []))
    ≡ problem_step (machine_in (machine_lines before)) (problem_in (kinds_in before) (files_in before) (problem_lines before)) form
step-problem before form other none same kinds known =
    let m = machine_in (machine_lines before) in
    ap (λ (x : MachineParts). problem_in x.kind_names x.file_names (problem_lines (before ++ form ∷ []))) (step-machine before form other kinds ∙ same)
    ∙ ap (problem_in m.kind_names m.file_names) (problem-lines before form none)
    ∙ problem-push m (problem_lines before) form known
    ∙ problem-with m (problem_in m.kind_names m.file_names (problem_lines before)) form

-- a line of a problem
walk-inside : (before : List Form) (form : Form) → machine_name form ≡ None → problem_name form ≡ None → is_machine form ≡ false → is_problem form ≡ false → if_machine form before ≡ [] → if_end form before ≡ []
    → inside true (form ∷ []) ≡ true → machine_step (machine_in (machine_lines before)) form ≡ machine_in (machine_lines before)
    → is_inside before ≡ true → AreKinds before → AreKnown (problem_now before)
    → record (tables_of before) { problem = problem_step (machine_in (machine_lines before)) (problem_now before) form } ≡ tables_of (before ++ form ∷ [])
walk-inside before form a b c d e f g same here kinds known =
    let now = now-some before here in
    let after : is_inside (before ++ form ∷ []) ≡ true = step-inside before form true here ∙ g in
    tables-same (record (tables_of before) { problem = problem_step (machine_in (machine_lines before)) (problem_now before) form }) (tables_of (before ++ form ∷ []))
    (sym (kept-machines before form a)) (sym (kept-problems before form b))
    (sym (step-machine before form c kinds ∙ same))
    (ap (λ p. problem_step (machine_in (machine_lines before)) p form) now ∙ sym (step-problem before form c d same kinds (subst AreKnown now known)) ∙ sym (now-some (before ++ form ∷ []) after))
    (sym (kept-served before form c d)) (here ∙ sym after) (sym (kept-ended before form e)) (sym (kept-done before form f))

-- a line of a machine
walk-parts : (before : List Form) (form : Form) → machine_name form ≡ None → problem_name form ≡ None → is_machine form ≡ false → is_problem form ≡ false → if_machine form before ≡ [] → if_end form before ≡ []
    → inside false (form ∷ []) ≡ false → is_inside before ≡ false → AreKinds before
    → record (tables_of before) { machine = machine_step (machine_in (machine_lines before)) form } ≡ tables_of (before ++ form ∷ [])
walk-parts before form a b c d e f g out kinds =
    let after : is_inside (before ++ form ∷ []) ≡ false = step-inside before form false out ∙ g in
    tables-same (record (tables_of before) { machine = machine_step (machine_in (machine_lines before)) form }) (tables_of (before ++ form ∷ []))
    (sym (kept-machines before form a)) (sym (kept-problems before form b))
    (sym (step-machine before form c kinds))
    (now-none before out ∙ sym (now-none (before ++ form ∷ []) after))
    (sym (kept-served before form c d)) (out ∙ sym after) (sym (kept-ended before form e)) (sym (kept-done before form f))

-- there is a machine just where there is a name of one

less-zero : (n : ℕ) → nat_lt 0 (suc n) ≡ true
less-zero n = (Decides-ltb 0 (suc n)).1 (omega arith)

pub has-machine : (forms : List Form) → nat_lt 0 (length (machines_in forms)) ≡ has_machine forms
has-machine [] = refl
has-machine (MachineLine name ∷ forms) = less-zero (length (machines_in forms))
has-machine (UnitsLine names ∷ forms) = has-machine forms
has-machine (FileLine name storage ∷ forms) = has-machine forms
has-machine (KindLine name latency alternatives ∷ forms) = has-machine forms
has-machine (ProblemLine name ∷ forms) = has-machine forms
has-machine (OpLine name kind ∷ forms) = has-machine forms
has-machine (ValueLine name maker lands file out ∷ forms) = has-machine forms
has-machine (ReadLine reader value distance offset ∷ forms) = has-machine forms
has-machine (EdgeLine from to delay distance ∷ forms) = has-machine forms
has-machine (EndLine ∷ forms) = has-machine forms

-- the machine under way has ended
abbrev ended_if : Bool → TablesData → TablesData
ended_if b t = if b
    then record t { machine = no_machine; ended = record t.ended { machines = t.ended.machines ++ tables.named_machine (last_name t.machines) t.machine ∷ [] } }
    else t

machines-ended : (before : List Form) (b : Bool) → nat_lt 0 (length (machines_in before)) ≡ b → (ended_if b (tables_of before)).ended.machines ≡ ended_from [] before ++ last_machine before
machines-ended before true e = ap (λ t. ended_from [] before ++ (if t then machine_of before ∷ [] else [])) (sym e ∙ has-machine before)
machines-ended before false e = sym (ap (λ t. ended_from [] before ++ (if t then machine_of before ∷ [] else [])) (sym (has-machine before) ∙ e) ∙ append-nil (ended_from [] before))

pub with-ended : (before : List Form) → (with_machine_ended (tables_of before)).ended.machines ≡ ended_from [] before ++ last_machine before
with-ended before = machines-ended before (nat_lt 0 (length (machines_in before))) refl

problems-ended : (before : List Form) (b : Bool) → (ended_if b (tables_of before)).ended.problems ≡ problems_from [] before
problems-ended before true = refl
problems-ended before false = refl

pub with-done : (before : List Form) → (with_machine_ended (tables_of before)).ended.problems ≡ problems_from [] before
with-done before = problems-ended before (nat_lt 0 (length (machines_in before)))

machine-ended : (before : List Form) (b : Bool) → nat_lt 0 (length (machines_in before)) ≡ b → (nat_lt 0 (length (machines_in before)) ≡ false → machine_in (machine_lines before) ≡ no_machine)
    → (ended_if b (tables_of before)).machine ≡ no_machine
machine-ended before true e bare = refl
machine-ended before false e bare = bare e

rest-ended : (t : TablesData) (b : Bool) → ((ended_if b t).machines ≡ t.machines) × ((ended_if b t).problems ≡ t.problems) × ((ended_if b t).problem ≡ t.problem) × ((ended_if b t).inside ≡ t.inside)
rest-ended t true = (refl, refl, refl, refl)
rest-ended t false = (refl, refl, refl, refl)

walk-machine : (before : List Form) (form : Form) (name : List ℕ) → machine_name form ≡ Some name → problem_name form ≡ None → is_machine form ≡ true → if_machine form before ≡ last_machine before → if_end form before ≡ []
    → inside false (form ∷ []) ≡ false → is_inside before ≡ false → (nat_lt 0 (length (machines_in before)) ≡ false → machine_in (machine_lines before) ≡ no_machine)
    → with_machine (with_machine_ended (tables_of before)) name ≡ tables_of (before ++ form ∷ [])
walk-machine before form name a b c d e f out bare =
    let has = nat_lt 0 (length (machines_in before)) in
    let same = rest-ended (tables_of before) has in
    let after : is_inside (before ++ form ∷ []) ≡ false = step-inside before form false out ∙ f in
    let lines : machine_lines (before ++ form ∷ []) ≡ [] = since-push is_machine [] before form ∙ ap (λ t. if t then [] else machine_lines before ++ form ∷ []) c in
    tables-same (with_machine (with_machine_ended (tables_of before)) name) (tables_of (before ++ form ∷ []))
    (ap (λ ms. ms ++ name ∷ []) same.0 ∙ sym (filter-push machine_name before form ∙ ap (λ o. machines_in before ++ option_to_list o) a))
    (same.1 ∙ sym (kept-problems before form b))
    (machine-ended before has refl bare ∙ sym (ap machine_in lines))
    (same.2 ∙ now-none before out ∙ sym (now-none (before ++ form ∷ []) after))
    (sym (ap (list_any is_problem) lines))
    (same.3 ∙ out ∙ sym after)
    (with-ended before ∙ sym (ended-push [] before form ∙ ap (λ ms. ended_from [] before ++ ms) d))
    (with-done before ∙ sym (kept-done before form e))

walk-problem : (before : List Form) (form : Form) (name : List ℕ) → machine_name form ≡ None → problem_name form ≡ Some name → is_machine form ≡ false → is_problem form ≡ true → if_machine form before ≡ [] → if_end form before ≡ []
    → inside false (form ∷ []) ≡ true → machine_step (machine_in (machine_lines before)) form ≡ machine_in (machine_lines before) → is_inside before ≡ false → AreKinds before
    → record (tables_of before) { problems = problems_in before ++ name ∷ []; served = true; inside = true } ≡ tables_of (before ++ form ∷ [])
walk-problem before form name a b c d e f g same out kinds =
    let after : is_inside (before ++ form ∷ []) ≡ true = step-inside before form false out ∙ g in
    let lines : problem_lines (before ++ form ∷ []) ≡ [] = since-push is_problem [] before form ∙ ap (λ t. if t then [] else problem_lines before ++ form ∷ []) d in
    tables-same (record (tables_of before) { problems = problems_in before ++ name ∷ []; served = true; inside = true }) (tables_of (before ++ form ∷ []))
    (sym (kept-machines before form a))
    (sym (filter-push problem_name before form ∙ ap (λ o. problems_in before ++ option_to_list o) b))
    (sym (step-machine before form c kinds ∙ same))
    (now-none before out ∙ sym (now-some (before ++ form ∷ []) after ∙ ap (problem_in (kinds_in (before ++ form ∷ [])) (files_in (before ++ form ∷ []))) lines))
    (sym (step-served before form c ∙ ap (λ t. is_served before || t) d ∙ or-true (is_served before)))
    (sym after)
    (sym (kept-ended before form e)) (sym (kept-done before form f))

walk-end : (before : List Form) → is_inside before ≡ true → AreKinds before → with_form (tables_of before) EndLine ≡ tables_of (before ++ EndLine ∷ [])
walk-end before here kinds =
    let after : is_inside (before ++ EndLine ∷ []) ≡ false = step-inside before EndLine true here in
    tables-same (with_form (tables_of before) EndLine) (tables_of (before ++ EndLine ∷ []))
    (sym (kept-machines before EndLine refl)) (sym (kept-problems before EndLine refl))
    (sym (step-machine before EndLine refl kinds))
    (sym (now-none (before ++ EndLine ∷ []) after))
    (sym (kept-served before EndLine refl refl))
    (sym after)
    (sym (kept-ended before EndLine refl))
    (ap (λ p. problems_from [] before ++ tables.named_problem (last_name (problems_in before)) (length (machines_in before) - 1) p ∷ []) (now-some before here) ∙ sym (problems-push [] before EndLine))

-- what has to be known of tables for the next line
pub record IsWalked (t : TablesData) : Type 0 where
  pub kinds : All (IsKindOf (length t.machine.units)) t.machine.kinds
  pub known : AreKnown t.problem
  pub bare : tables.has_machine t ≡ false → t.machine ≡ no_machine
  pub begun : t.inside ≡ true → t.served ≡ true

and-left : (a b : Bool) → (a && b) ≡ true → a ≡ true
and-left true b h = refl
and-left false b h = h

and-right : (a b : Bool) → (a && b) ≡ true → b ≡ true
and-right true b h = h
and-right false b h = absurd (false≢true h)

not-true : (b : Bool) → not b ≡ true → b ≡ false
not-true true h = absurd (false≢true h)
not-true false h = refl

-- no problem is under way where none is on the machine under way
unserved : (now served : Bool) → (now ≡ true → served ≡ true) → served ≡ false → now ≡ false
unserved true served begun none = sym (begun refl) ∙ none
unserved false served begun none = refl

pub walk-push : (before : List Form) (form : Form) → IsWalked (tables_of before) → tables.may_stand (tables_of before) form ≡ true → with_form (tables_of before) form ≡ tables_of (before ++ form ∷ [])
walk-push before (MachineLine name) w stands = walk-machine before (MachineLine name) name.bytes refl refl refl refl refl refl (not-true (is_inside before) stands) w.bare
walk-push before (UnitsLine names) w stands =
    walk-parts before (UnitsLine names) refl refl refl refl refl refl refl (unserved (is_inside before) (is_served before) w.begun (not-true (is_served before) (and-right (tables.has_machine (tables_of before)) (not (is_served before)) stands))) w.kinds
walk-push before (FileLine name storage) w stands =
    walk-parts before (FileLine name storage) refl refl refl refl refl refl refl (unserved (is_inside before) (is_served before) w.begun (not-true (is_served before) (and-right (tables.has_machine (tables_of before)) (not (is_served before)) stands))) w.kinds
walk-push before (KindLine name latency alternatives) w stands =
    walk-parts before (KindLine name latency alternatives) refl refl refl refl refl refl refl (unserved (is_inside before) (is_served before) w.begun (not-true (is_served before) (and-right (tables.has_machine (tables_of before)) (not (is_served before)) stands))) w.kinds
walk-push before (ProblemLine name) w stands =
    walk-problem before (ProblemLine name) name.bytes refl refl refl refl refl refl refl refl (not-true (is_inside before) (and-right (tables.has_machine (tables_of before)) (not (is_inside before)) stands)) w.kinds
walk-push before (OpLine name kind) w stands = walk-inside before (OpLine name kind) refl refl refl refl refl refl refl refl stands w.kinds w.known
walk-push before (ValueLine name maker lands file out) w stands = walk-inside before (ValueLine name maker lands file out) refl refl refl refl refl refl refl refl stands w.kinds w.known
walk-push before (ReadLine reader value distance offset) w stands = walk-inside before (ReadLine reader value distance offset) refl refl refl refl refl refl refl refl stands w.kinds w.known
walk-push before (EdgeLine from to delay distance) w stands = walk-inside before (EdgeLine from to delay distance) refl refl refl refl refl refl refl refl stands w.kinds w.known
walk-push before EndLine w stands = walk-end before stands w.kinds
