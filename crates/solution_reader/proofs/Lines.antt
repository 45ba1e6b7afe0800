-- A text line by line.
use Rattle.std.proofs.Common.{◌≡◌, ℕ, ◌+◌, ◌<◌, ◌≤◌, Bool, true, false, List, [], ◌∷◌, ◌++◌, length, map, Option, Some, None, Result, Ok, Err, refl, sym, ◌∙◌, ap, subst, arith, not}
use Rattle.std.proofs.lemmas.Bool.Decides.{nat_tests}
use Rattle.std.specs.Bool.{nat_lt}
use Rattle.loop_lines.specs.Words.{lines_of}
use Rattle.problem_lines.specs.SolutionForms.{SolutionForm, SolutionBegins, OpTime, ValueNumber, SolutionEnds}
use Rattle.problem_lines.specs.SolutionLines.{SolutionLineForm, solution_line_form}
use Rattle.loop_lines.specs.Columns.{Placed, placed_words}
use Rattle.problem_lines.specs.declared.fault.LineFault.{LineFault}
use Rattle.solution_reader.specs.Data.{has_name, op_names, value_names, solution_names}
use Rattle.solution_reader.specs.Faults.{first_of, unless, on_line, on_word, one_more, stands, meaning_fault, line_fault}
use Rattle.solution_reader.specs.Meaning.{at_line, size_fault, judged, text_line, lines_from, forms_of, solutions_or, solutions_in_text, AnswersFault}
use Rattle.solution_reader.specs.Sofar.{TextLine, ops_in, values_in, solutions_in}
use Rattle.problem_faults.specs.declared.refused_solutions.Part.{Part}
use Rattle.problem_faults.specs.declared.refused_solutions.Part.TheVariants as part
use Rattle.problem_faults.specs.declared.refused_solutions.SolutionFault.{SolutionFault}
use Rattle.solution_reader.specs.declared.fault.Told.{Told}
use Rattle.problem_faults.specs.declared.refused_solutions.Wrong.{Wrong}
use Rattle.problem_faults.specs.declared.refused_solutions.Wrong.TheVariants as wrong
use Rattle.solution_reader.specs.inner.Reading.{GoesOn, AnswersLine}
use Rattle.solution_reader.specs.inner.Steps.{SofarData, IsSofar, may_stand, say_fault, step_fault, with_form}
use Rattle.solution_reader.proofs.Steps.{next_step, same_fault}

-- no fault of a line is `Memory`

abbrev IsReal : Wrong → Type 0
IsReal wrong.Memory = ⊥
IsReal what = Unit {0}

abbrev IsRealFault : Option Told → Type 0
IsRealFault None = Unit {0}
IsRealFault (Some told) = IsReal told.what

real-first : (well : Bool) (told : Told) (rest : Option Told) → IsReal told.what → IsRealFault rest → IsRealFault (first_of (unless well told ∷ rest ∷ []))
real-first true told None h r = tt
real-first true told (Some other) h r = r
real-first false told rest h r = h

real-unless : (well : Bool) (told : Told) → IsReal told.what → IsRealFault (unless well told)
real-unless true told h = tt
real-unless false told h = h

real-more : (line : SolutionLineForm) (names : List (List ℕ)) (most : ℕ) (what : Part) (name : Placed) → IsRealFault (one_more (on_line line) names most what name)
real-more line names most what name =
    real-first (nat_lt (length names) most) (on_line line (wrong.Count what)) (unless (not (has_name names name.bytes)) (on_word name wrong.Repeated)) tt
    (real-unless (not (has_name names name.bytes)) (on_word name wrong.Repeated) tt)

real-meaning : (before : List TextLine) (line : SolutionLineForm) (form : SolutionForm) → IsRealFault (meaning_fault before (on_line line) form)
real-meaning before line (SolutionBegins name ii) = real-more line (solution_names (solutions_in before)) 4096 part.Solutions name
real-meaning before line (OpTime name time alternative) = real-more line (op_names (ops_in before)) 128 part.Operations name
real-meaning before line (ValueNumber name number) = real-more line (value_names (values_in before)) 256 part.Values name
real-meaning before line SolutionEnds = tt

real-line : (before : List TextLine) (line : SolutionLineForm) → IsRealFault (line_fault before line)
real-line before line = real-first (stands before line.form) (on_line line wrong.Place) (meaning_fault before (on_line line) line.form) tt (real-meaning before line line.form)

answers : {A : Type 0} (what : Wrong) (fault : SolutionFault) (meaning : Result A SolutionFault) → IsReal what → Err fault ≡ meaning → AnswersFault what fault meaning
answers wrong.TextSize fault meaning real e = e
answers (wrong.Form expected) fault meaning real e = e
answers wrong.Place fault meaning real e = e
answers (wrong.Count what) fault meaning real e = e
answers wrong.Repeated fault meaning real e = e
answers (wrong.Unknown what) fault meaning real e = e
answers wrong.NoEnd fault meaning real e = e
answers wrong.Memory fault meaning real e = absurd real

-- what is said of the lines is said of the solutions
pub answers_text : (what : Wrong) (fault : SolutionFault) (lines : Result (List TextLine) SolutionFault) → AnswersFault what fault lines → AnswersFault what fault (solutions_or lines)
answers_text wrong.TextSize fault lines e = ap solutions_or e
answers_text (wrong.Form expected) fault lines e = ap solutions_or e
answers_text wrong.Place fault lines e = ap solutions_or e
answers_text (wrong.Count what) fault lines e = ap solutions_or e
answers_text wrong.Repeated fault lines e = ap solutions_or e
answers_text (wrong.Unknown what) fault lines e = ap solutions_or e
answers_text wrong.NoEnd fault lines e = ap solutions_or e
answers_text wrong.Memory fault lines e = e

-- a line

abbrev Forms : Type 0
Forms = List (Result (Option SolutionLineForm) LineFault)

pub skipped : (number : ℕ) (before : List TextLine) (s : SofarData) (rest : Forms) → IsSofar before s → GoesOn number before (Ok None ∷ rest) (number + 1) s rest
skipped number before s rest is = record { after = before; is = is; same = refl }

well-first : (well : Bool) (told : Told) (rest : Option Told) → first_of (unless well told ∷ rest ∷ []) ≡ None → well ≡ true
well-first true told rest e = refl
well-first false told rest e = let no : Some told ≡ None = e in cc

pub taken : (number : ℕ) (before : List TextLine) (s new : SofarData) (line : SolutionLineForm) (rest : Forms) → IsSofar before s → step_fault s line ≡ None → new ≡ with_form s number line.form
    → GoesOn number before (Ok (Some line) ∷ rest) (number + 1) new rest
taken number before s new line rest is fault e =
    let may : may_stand s.begun.head line.form ≡ true = well-first (may_stand s.begun.head line.form) (on_line line wrong.Place) (say_fault s (on_line line) line.form) fault in
    let none : line_fault before line ≡ None = sym (same_fault before s line is) ∙ fault in
    record {
      after = before ++ text_line number line ∷ [];
      is = subst (IsSofar (before ++ text_line number line ∷ [])) (sym e) (next_step before s number line.form is may);
      same = ap (λ f. judged f number (lines_from (number + 1) (before ++ text_line number line ∷ []) rest)) none;
    }

pub refused : (number : ℕ) (before : List TextLine) (s : SofarData) (line : SolutionLineForm) (told : Told) (rest : Forms) → IsSofar before s → step_fault s line ≡ Some told
    → AnswersFault told.what (at_line number told) (lines_from number before (Ok (Some line) ∷ rest))
refused number before s line told rest is fault =
    let some : line_fault before line ≡ Some told = sym (same_fault before s line is) ∙ fault in
    answers told.what (at_line number told) (lines_from number before (Ok (Some line) ∷ rest)) (subst IsRealFault some (real-line before line))
    (sym (ap (λ f. judged f number (lines_from (number + 1) (before ++ text_line number line ∷ []) rest)) some))

-- all lines

abbrev pub form_at : List ℕ → Result (Option SolutionLineForm) LineFault
form_at line = solution_line_form (placed_words line)

pub goes_on : (before : List TextLine) (forms : Forms) (number : ℕ) (s new : SofarData) (text line after : List ℕ) (g : GoesOn 1 before forms number s (forms_of text)) → lines_of text ≡ line ∷ lines_of after
    → AnswersLine number g.after (form_at line) new (Ok tt) (forms_of after)
    → GoesOn 1 before forms (number + 1) new (forms_of after)
goes_on before forms number s new text line after g e step =
    record { after = step.after; is = step.is; same = g.same ∙ ap (λ ls. lines_from number g.after (map form_at ls)) e ∙ step.same }

-- the end of the text

pub too_long : (text : List ℕ) → 16777216 < length text → Err size_fault ≡ solutions_in_text text
unfolding solutions_in_text
too_long text h = let long : nat_lt 16777216 (length text) ≡ true = grind (arith, nat_tests) in rw long refl

pub not_long : (text : List ℕ) → length text ≤ 16777216 → solutions_or (lines_from 1 [] (forms_of text)) ≡ solutions_in_text text
unfolding solutions_in_text
not_long text h = let short : nat_lt 16777216 (length text) ≡ false = grind (arith, nat_tests) in rw short refl
