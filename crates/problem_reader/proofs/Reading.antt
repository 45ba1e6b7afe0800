-- A text, line by line.
use Rattle.std.proofs.Common.{◌≡◌, inl, inr, ℕ, zero, suc, ◌+◌, ◌<◌, ◌≤◌, Bool, true, false, not, List, [], ◌∷◌, ◌++◌, get_or, length, map, refl, sym, ap, ◌∙◌, arith, append_assoc, subst, if◌then◌else◌, Option, Some, None}
use Rattle.std.specs.Prelude.{◌||◌, ◌&&◌, ◌==◌, count_by, nat_lt, option_map, Result, Ok, Err}
use Rattle.std.specs.Option.{option_or}
use Rattle.std.proofs.lemmas.Bool.{eqb-true, false_from_ne_true}
use Rattle.std.proofs.lemmas.Bool.Decides.{Decides-ltb}
use Rattle.std.proofs.lemmas.List.{append-nil, length_push}
use Rattle.loop_lines.specs.Words.{lines_of}
use Rattle.problem_lines.specs.Forms.{Form, MachineLine, UnitsLine, FileLine, KindLine, ProblemLine, OpLine, ValueLine, ReadLine, EdgeLine, EndLine}
use Rattle.problem_lines.specs.Lines.{LineForm, line_form}
use Rattle.loop_lines.specs.Columns.{Placed, placed_words}
use Rattle.problem_lines.specs.declared.number.Integer.{Integer}
use Rattle.problem_lines.specs.declared.number.Number.{Number}
use Rattle.problem_lines.specs.declared.fault.LineFault.{LineFault}
use Rattle.problem_tables.specs.Data.{FileData, MachineData}
use Rattle.problem_tables.specs.Faults.{alternatives_fault, delay_fault, first_of, in_range, known, new, number_or_0, offset_fault, on_line, on_word, room_at, units_fault, unless}
use Rattle.problem_tables.specs.Names.{index_of, last_name}
use Rattle.problem_tables.specs.Tables as tables
use Rattle.problem_tables.specs.Tables.{MachineParts, ProblemParts, TablesData, no_machine, no_tables, with_form, with_machine_ended}
use Rattle.problem_faults.specs.declared.refused_problems.Part.TheVariants as part
use Rattle.problem_tables.specs.declared.fault.Told.{Told}
use Rattle.problem_faults.specs.declared.refused_problems.Wrong.{Wrong}
use Rattle.problem_faults.specs.declared.refused_problems.Wrong.TheVariants as wrong
use Rattle.problem_tables.proofs.Firsts.{or-none}
use Rattle.problem_reader.specs.Files.{AnswersText, data_or, file_data, file_in_text, last_machine, machines_from, nowhere, IsFile}
use Rattle.problem_reader.specs.Meaning.{at_line, end_fault, forms_from, forms_in, goes_forward, judged, line_fault, lines_in, meaning_faults}
use Rattle.problem_reader.specs.Sofar.{files_in, is_inside, is_read, kinds_in, machines_in, ops_in, problem_lines, stands, units_in, values_in}
use Rattle.problem_reader.specs.inner.Reading.{AnswersEnd, RefusesText, text_fault, with_text}
use Rattle.problem_faults.specs.declared.refused_problems.TextFault.{TextFault}
use Rattle.problem_reader.proofs.Drafts.{draft-faultless}
use Rattle.problem_reader.proofs.Faultless.{IsSound, no-machines, some-machine, sound-more, sound-none}
use Rattle.problem_reader.proofs.KindLines.{HasHolds, LineHasHolds, line-held}
use Rattle.problem_reader.proofs.Making.{AreOnce, edges-are, makers-are, reads-are}
use Rattle.problem_reader.proofs.Problems.{problem_in}
use Rattle.problem_reader.proofs.Steps.{AreFaultless, IsSoundOn, faultless-more, faultless-none, machine_on, machine_parts}
use Rattle.problem_reader.proofs.Walking.{IsWalked, ended_from, has-machine, now-some, problem_now, tables_of, walk-push, with-done, with-ended}

-- the tables' faults are those by look-ups

stands-are : (before : List Form) (form : Form) → tables.may_stand (tables_of before) form ≡ stands before form
stands-are before (MachineLine name) = refl
stands-are before (UnitsLine names) = ap (λ b. b && not (tables_of before).served) (has-machine before)
stands-are before (FileLine name storage) = ap (λ b. b && not (tables_of before).served) (has-machine before)
stands-are before (KindLine name latency alternatives) = ap (λ b. b && not (tables_of before).served) (has-machine before)
stands-are before (ProblemLine name) = ap (λ b. b && not (is_inside before)) (has-machine before)
stands-are before (OpLine name kind) = refl
stands-are before (ValueLine name maker lands file out) = refl
stands-are before (ReadLine reader value distance offset) = refl
stands-are before (EdgeLine from to delay distance) = refl
stands-are before EndLine = refl

four : {T : Type 0} (a b c d : Option T) → option_or (option_or a (option_or b (option_or c None))) (option_or d None) ≡ option_or a (option_or b (option_or c (option_or d None)))
four None None None d = refl
four None None (Some x) d = refl
four None (Some x) c d = refl
four (Some x) b c d = refl

-- the faults of a read and of an edge, by the number of those so far and whether the read goes forward
abbrev read_list : List Form → (Wrong → Told) → ℕ → Placed → Placed → Option Number → Option Number → Bool → Option Told
read_list before told count reader value distance offset goes = first_of (
    room_at told count 2048 part.Reads
    ∷ known (ops_in before) part.Operations reader
    ∷ known (values_in before) part.Values value
    ∷ offset_fault 16 distance
    ∷ offset_fault 63 offset
    ∷ unless goes (on_word value wrong.Backward)
    ∷ [])

abbrev edge_list : List Form → (Wrong → Told) → ℕ → Placed → Placed → Integer → Number → Option Told
edge_list before told count from to delay distance = first_of (
    room_at told count 16384 part.Edges
    ∷ known (ops_in before) part.Operations from
    ∷ known (ops_in before) part.Operations to
    ∷ delay_fault delay
    ∷ in_range 0 255 distance
    ∷ unless (goes_forward before from to distance) (on_word to wrong.Backward)
    ∷ [])

faults-are : (before : List Form) (told : Wrong → Told) (form : Form) → AreOnce (problem_now before).value_names → tables.may_stand (tables_of before) form ≡ true
    → tables.form_fault (tables_of before) told form ≡ first_of (meaning_faults before told form)
faults-are before told (MachineLine name) once may = sym (or-none (new (machines_in before) name))
faults-are before told (UnitsLine names) once may = sym (or-none (units_fault (units_in before) names))
faults-are before told (FileLine name storage) once may = refl
faults-are before told (KindLine name latency alternatives) once may =
    four (room_at told (length (kinds_in before)) 256 part.Kinds) (new (kinds_in before) name) (in_range 1 64 latency) (alternatives_fault (units_in before) 0 alternatives)
faults-are before told (ProblemLine name) once may = refl
faults-are before told (OpLine name kind) once may = ap (λ p. first_of (tables.op_faults (tables_of before).machine p told name kind)) (now-some before may)
faults-are before told (ValueLine name maker lands file out) once may = ap (λ p. first_of (tables.value_faults (tables_of before).machine p told name maker lands file)) (now-some before may)
faults-are before told (ReadLine reader value distance offset) once may =
    let now = now-some before may in
    let p = problem_in (kinds_in before) (files_in before) (problem_lines before) in
    let goes = makers-are (ops_in before) (files_in before) value.bytes (index_of (ops_in before) reader.bytes) (problem_lines before) (subst (λ (x : ProblemParts). AreOnce x.value_names) now once) in
    ap (λ x. first_of (tables.read_faults x told reader value distance offset)) now
    ∙ ap (λ n. read_list before told n reader value distance offset (tables.read_goes p (tables.read_of p reader value distance offset))) (sym (reads-are (ops_in before) (values_in before) (problem_lines before)))
    ∙ ap (λ b. read_list before told (count_by is_read (problem_lines before)) reader value distance offset (nat_lt 0 (number_or_0 distance) || b)) (sym goes)
faults-are before told (EdgeLine from to delay distance) once may =
    ap (λ p. first_of (tables.order_faults p told from to delay distance)) (now-some before may)
    ∙ ap (λ n. edge_list before told n from to delay distance) (sym (edges-are (ops_in before) (problem_lines before)))
faults-are before told EndLine once may = ap (λ (p : ProblemParts). unless (nat_lt 0 (length p.operation_names)) (told (wrong.Count part.Operations))) (now-some before may) ∙ sym (or-none (unless (nat_lt 0 (length (ops_in before))) (told (wrong.Count part.Operations))))

line-if : (b : Bool) (before : List Form) (line : LineForm) → tables.may_stand (tables_of before) line.form ≡ b → AreOnce (problem_now before).value_names
    → option_or (unless b (on_line line wrong.Place)) (option_or (tables.form_fault (tables_of before) (on_line line) line.form) None)
    ≡ option_or (unless b (on_line line wrong.Place)) (first_of (meaning_faults before (on_line line) line.form))
line-if true before line may once = or-none (tables.form_fault (tables_of before) (on_line line) line.form) ∙ faults-are before (on_line line) line.form once may
line-if false before line may once = refl

pub line-is : (before : List Form) (line : LineForm) → AreOnce (problem_now before).value_names → tables.line_fault (tables_of before) line ≡ line_fault before line
line-is before line once =
    line-if (tables.may_stand (tables_of before) line.form) before line refl once
    ∙ ap (λ b. option_or (unless b (on_line line wrong.Place)) (first_of (meaning_faults before (on_line line) line.form))) (stands-are before line.form)

-- lines

-- the tables are those of the lines so far
pub record IsSofar (before : List Form) (t : TablesData) : Type 0 where
  pub is : t ≡ tables_of before
  pub sound : IsSound t
  pub faultless : AreFaultless t

pub sofar-none : IsSofar [] no_tables
sofar-none = record { is = refl; sound = sound-none; faultless = faultless-none }

none-fault : (o : Option Told) (number : ℕ) → option_map (at_line number) o ≡ None → o ≡ None
none-fault None number h = refl
none-fault (Some told) number h = cc

some-fault : (o : Option Told) (number : ℕ) (fault : TextFault) (rest : Result (List Form) TextFault) → option_map (at_line number) o ≡ Some fault → judged o number rest ≡ Err fault
some-fault None number fault rest h = cc
some-fault (Some told) number fault rest h = cc

stands-of : (b : Bool) (told : Told) (o : Option Told) → option_or (unless b told) o ≡ None → b ≡ true
stands-of true told o h = refl
stands-of false told o h = cc

fault-of : (b : Bool) (told : Told) (o : Option Told) → option_or (unless b told) (option_or o None) ≡ None → o ≡ None
fault-of true told o h = sym (or-none o) ∙ h
fault-of false told o h = cc

-- the lines so far with one more
abbrev pub with_line : List Form → Result (Option LineForm) LineFault → List Form
with_line before (Ok (Some line)) = before ++ line.form ∷ []
with_line before line = before

once-of : (before : List Form) (t : TablesData) → IsSofar before t → AreOnce (problem_now before).value_names
once-of before t s = subst (λ (x : TablesData). AreOnce x.problem.value_names) s.is s.sound.once

sofar-line : (before : List Form) (t : TablesData) (line : LineForm) → HasHolds line.form → IsSofar before t → tables.line_fault t line ≡ None → IsSofar (before ++ line.form ∷ []) (with_form t line.form)
sofar-line before t line held s none =
    let may = stands-of (tables.may_stand t line.form) (on_line line wrong.Place) (option_or (tables.form_fault t (on_line line) line.form) None) none in
    let well = fault-of (tables.may_stand t line.form) (on_line line wrong.Place) (tables.form_fault t (on_line line) line.form) none in
    record {
      is = ap (λ x. with_form x line.form) s.is ∙ walk-push before line.form (subst IsWalked s.is s.sound.walked) (ap (λ x. tables.may_stand x line.form) (sym s.is) ∙ may);
      sound = sound-more t (on_line line) line.form s.sound may well;
      faultless = faultless-more t (on_line line) line.form s.sound s.faultless held may well;
    }

pub sofar-more : (before : List Form) (t : TablesData) (number : ℕ) (line : Result (Option LineForm) LineFault) → LineHasHolds line → IsSofar before t → text_fault t number line ≡ None
    → IsSofar (with_line before line) (with_text t line)
sofar-more before t number (Ok None) held s none = s
sofar-more before t number (Ok (Some line)) held s none = sofar-line before t line held s (none-fault (tables.line_fault t line) number none)
sofar-more before t number (Err fault) held s none = cc

pub forms-more : (before : List Form) (t : TablesData) (number : ℕ) (line : Result (Option LineForm) LineFault) (lines : List (Result (Option LineForm) LineFault)) → IsSofar before t → text_fault t number line ≡ None
    → forms_from number before (line ∷ lines) ≡ forms_from (number + 1) (with_line before line) lines
forms-more before t number (Ok None) lines s none = refl
forms-more before t number (Ok (Some line)) lines s none =
    ap (λ o. judged o number (forms_from (number + 1) (before ++ line.form ∷ []) lines))
    (sym (line-is before line (once-of before t s)) ∙ ap (λ x. tables.line_fault x line) (sym s.is) ∙ none-fault (tables.line_fault t line) number none)
forms-more before t number (Err fault) lines s none = cc

pub forms-fault : (before : List Form) (t : TablesData) (number : ℕ) (line : Result (Option LineForm) LineFault) (lines : List (Result (Option LineForm) LineFault)) (fault : TextFault) → IsSofar before t → text_fault t number line ≡ Some fault
    → forms_from number before (line ∷ lines) ≡ Err fault
forms-fault before t number (Ok None) lines fault s some = cc
forms-fault before t number (Ok (Some line)) lines fault s some =
    ap (λ o. judged o number (forms_from (number + 1) (before ++ line.form ∷ []) lines)) (sym (line-is before line (once-of before t s)) ∙ ap (λ x. tables.line_fault x line) (sym s.is))
    ∙ some-fault (tables.line_fault t line) number fault (forms_from (number + 1) (before ++ line.form ∷ []) lines) some
forms-fault before t number (Err told) lines fault s some = cc

-- texts

pub record IsRead (text : List ℕ) (t : TablesData) (line : ℕ) (rest : List ℕ) : Type 0 where
  pub before : List Form
  pub sofar : IsSofar before t
  pub meaning : forms_from 1 [] (lines_in text) ≡ forms_from line before (lines_in rest)

pub read-none : (text : List ℕ) (t : TablesData) → t ≡ no_tables → IsRead text t 1 text
read-none text t e = record { before = []; sofar = subst (IsSofar []) (sym e) sofar-none; meaning = refl }

lines-next : (rest this after : List ℕ) → lines_of rest ≡ this ∷ lines_of after → lines_in rest ≡ line_form (placed_words this) ∷ lines_in after
lines-next rest this after e = ap (map (λ line. line_form (placed_words line))) e

pub read-more : (text : List ℕ) (t u : TablesData) (line : ℕ) (rest this after : List ℕ) → IsRead text t line rest → lines_of rest ≡ this ∷ lines_of after
    → text_fault t line (line_form (placed_words this)) ≡ None → u ≡ with_text t (line_form (placed_words this)) → IsRead text u (line + 1) after
read-more text t u line rest this after r next none is = record {
  before = with_line r.before (line_form (placed_words this));
  sofar = subst (IsSofar (with_line r.before (line_form (placed_words this)))) (sym is) (sofar-more r.before t line (line_form (placed_words this)) (line-held (placed_words this)) r.sofar none);
  meaning = r.meaning ∙ ap (forms_from line r.before) (lines-next rest this after next) ∙ forms-more r.before t line (line_form (placed_words this)) (lines_in after) r.sofar none;
}

-- a text of no more bytes than it may have
short-forms : (text : List ℕ) → nat_lt 16777216 (length text) ≡ false → forms_in text ≡ forms_from 1 [] (lines_in text)
unfolding forms_in
short-forms text h = ap (λ b. if b then Err (record { line = 0; column = 0; width = 0; what = wrong.TextSize }) else forms_from 1 [] (lines_in text)) h

pub long-text : (text : List ℕ) → nat_lt 16777216 (length text) ≡ true → Err (record { line = 0; column = 0; width = 0; what = wrong.TextSize }) ≡ file_in_text text
unfolding forms_in
long-text text h = sym (ap data_or (ap (λ b. if b then Err (record { line = 0; column = 0; width = 0; what = wrong.TextSize }) else forms_from 1 [] (lines_in text)) h))

pub read-fault : (text : List ℕ) (t : TablesData) (line : ℕ) (rest this after : List ℕ) (fault : TextFault) → nat_lt 16777216 (length text) ≡ false → IsRead text t line rest → lines_of rest ≡ this ∷ lines_of after
    → text_fault t line (line_form (placed_words this)) ≡ Some fault → Err fault ≡ file_in_text text
read-fault text t line rest this after fault short r next some =
    sym (ap data_or (short-forms text short ∙ r.meaning ∙ ap (forms_from line r.before) (lines-next rest this after next) ∙ forms-fault r.before t line (line_form (placed_words this)) (lines_in after) fault r.sofar some))

no-lines : (rest : List ℕ) → rest ≡ [] → lines_in rest ≡ []
no-lines rest e = ap lines_in e

pub read-end : (text : List ℕ) (t : TablesData) (line : ℕ) (rest : List ℕ) → nat_lt 16777216 (length text) ≡ false → IsRead text t line rest → rest ≡ [] → t.inside ≡ true → Err (end_fault line) ≡ file_in_text text
read-end text t line rest short r none here =
    sym (ap data_or (short-forms text short ∙ r.meaning ∙ ap (forms_from line r.before) (no-lines rest none)
    ∙ ap (λ b. if b then Err (end_fault line) else Ok r.before) (ap (λ (x : TablesData). x.inside) (sym r.sofar.is) ∙ here)))

machines-after : (before : List Form) (first : Form) (forms : List Form) → machines_from (before ++ first ∷ []) forms ≡ ended_from (before ++ first ∷ []) forms ++ last_machine ((before ++ first ∷ []) ++ forms)
    → machines_from (before ++ first ∷ []) forms ≡ ended_from (before ++ first ∷ []) forms ++ last_machine (before ++ first ∷ forms)
machines-after before first forms h = h ∙ ap (λ b. ended_from (before ++ first ∷ []) forms ++ last_machine b) (append_assoc before (first ∷ []) forms)

machines-are : (before forms : List Form) → machines_from before forms ≡ ended_from before forms ++ last_machine (before ++ forms)
machines-are before [] = ap last_machine (sym (append-nil before))
machines-are before (MachineLine name ∷ forms) =
    ap (λ ms. last_machine before ++ ms) (machines-are (before ++ MachineLine name ∷ []) forms ∙ ap (λ b. ended_from (before ++ MachineLine name ∷ []) forms ++ last_machine b) (append_assoc before (MachineLine name ∷ []) forms))
    ∙ sym (append_assoc (last_machine before) (ended_from (before ++ MachineLine name ∷ []) forms) (last_machine (before ++ MachineLine name ∷ forms)))
machines-are before (UnitsLine names ∷ forms) = machines-after before (UnitsLine names) forms (machines-are (before ++ UnitsLine names ∷ []) forms)
machines-are before (FileLine name storage ∷ forms) = machines-after before (FileLine name storage) forms (machines-are (before ++ FileLine name storage ∷ []) forms)
machines-are before (KindLine name latency alternatives ∷ forms) = machines-after before (KindLine name latency alternatives) forms (machines-are (before ++ KindLine name latency alternatives ∷ []) forms)
machines-are before (ProblemLine name ∷ forms) = machines-after before (ProblemLine name) forms (machines-are (before ++ ProblemLine name ∷ []) forms)
machines-are before (OpLine name kind ∷ forms) = machines-after before (OpLine name kind) forms (machines-are (before ++ OpLine name kind ∷ []) forms)
machines-are before (ValueLine name maker lands file out ∷ forms) = machines-after before (ValueLine name maker lands file out) forms (machines-are (before ++ ValueLine name maker lands file out ∷ []) forms)
machines-are before (ReadLine reader value distance offset ∷ forms) = machines-after before (ReadLine reader value distance offset) forms (machines-are (before ++ ReadLine reader value distance offset ∷ []) forms)
machines-are before (EdgeLine from to delay distance ∷ forms) = machines-after before (EdgeLine from to delay distance) forms (machines-are (before ++ EdgeLine from to delay distance ∷ []) forms)
machines-are before (EndLine ∷ forms) = machines-after before EndLine forms (machines-are (before ++ EndLine ∷ []) forms)

file-is : (before : List Form) → (with_machine_ended (tables_of before)).ended ≡ file_data before
file-is before =
    ap (λ ms. record { machines = ms; problems = (with_machine_ended (tables_of before)).ended.problems }) (with-ended before ∙ sym (machines-are [] before))
    ∙ ap (λ ps. record { machines = machines_from [] before; problems = ps }) (with-done before)

pub read-all : (text : List ℕ) (t : TablesData) (line : ℕ) (rest : List ℕ) (file : FileData) → nat_lt 16777216 (length text) ≡ false → IsRead text t line rest → rest ≡ [] → t.inside ≡ false
    → file ≡ (with_machine_ended t).ended → Ok file ≡ file_in_text text
read-all text t line rest file short r none out is =
    ap Ok (is ∙ ap (λ (x : TablesData). (with_machine_ended x).ended) r.sofar.is ∙ file-is r.before)
    ∙ sym (ap data_or (short-forms text short ∙ r.meaning ∙ ap (forms_from line r.before) (no-lines rest none)
    ∙ ap (λ b. if b then Err (end_fault line) else Ok r.before) (ap (λ (x : TablesData). x.inside) (sym r.sofar.is) ∙ out)))

-- each problem is on a machine of the file, and its drafts have no fault

at-file : (ended : List MachineData) (e : MachineData) (m : MachineParts) (k : ℕ) → machine_parts e ≡ m → machine_parts (get_or (ended ++ e ∷ []) k nowhere) ≡ machine_on ended m k
at-file [] e m zero is = is
at-file [] e m (suc k) is = refl
at-file (x ∷ ended) e m zero is = refl
at-file (x ∷ ended) e m (suc k) is = at-file ended e m k is

file-if : (b : Bool) (t : TablesData) → nat_lt 0 (length t.machines) ≡ b → IsSound t → AreFaultless t
    → IsFile (if b then record t { machine = no_machine; ended = record t.ended { machines = t.ended.machines ++ tables.named_machine (last_name t.machines) t.machine ∷ [] } } else t).ended
file-if true t e s f k d low =
    let p = get_or t.ended.problems k d in
    let ended = tables.named_machine (last_name t.machines) t.machine in
    let some = some-machine (length t.machines) e in
    let count = s.count in
    let more = length_push t.ended.machines ended in
    let number : p.machine < length t.machines = s.numbers k d low in
    record {
      placed = omega (arith, some, count, more, number);
      faultless = λ draft is. draft-faultless (get_or (t.ended.machines ++ ended ∷ []) p.machine nowhere) p draft
          (subst (λ m. IsSoundOn m p) (sym (at-file t.ended.machines ended t.machine p.machine refl)) (f.ended k d low)) is;
    }
file-if false t e s f k d low =
    let p = get_or t.ended.problems k d in
    let none = no-machines (length t.machines) e in
    let number : p.machine < length t.machines = s.numbers k d low in
    absurd (omega (arith, none, number))

pub sound-file : (t : TablesData) → IsSound t → AreFaultless t → IsFile (with_machine_ended t).ended
sound-file t s f = file-if (nat_lt 0 (length t.machines)) t refl s f

-- answers

pub answer-line : (text : List ℕ) (t : TablesData) (line : ℕ) (rest this after : List ℕ) (told : TextFault) → nat_lt 16777216 (length text) ≡ false → IsRead text t line rest → lines_of rest ≡ this ∷ lines_of after
    → RefusesText {A = Unit {0}} (Err told) (text_fault t line (line_form (placed_words this))) → AnswersText (Err told) (file_in_text text)
answer-line text t line rest this after told short r next h = elim h [
  | inl e ↦ inl (read-fault text t line rest this after told short r next e)
  | inr e ↦ inr e
]

pub answer-end : (text : List ℕ) (t : TablesData) (line : ℕ) (rest : List ℕ) (r : Result FileData TextFault) → nat_lt 16777216 (length text) ≡ false → IsRead text t line rest → rest ≡ [] → AnswersEnd t line r
    → AnswersText r (file_in_text text)
answer-end text t line rest (Ok file) short r none h = read-all text t line rest file short r none h.0 h.1
answer-end text t line rest (Err told) short r none h = elim h [
  | inl e ↦ inl (ap Err e.1 ∙ read-end text t line rest short r none e.0)
  | inr e ↦ inr e
]

-- no byte is left
pub nothing-left : (rest : List ℕ) → true ≡ (length rest == 0) → rest ≡ []
nothing-left [] e = refl
nothing-left (c ∷ cs) e = absurd (omega (arith, eqb-true (length (c ∷ cs)) 0 (sym e)))

-- how long a text is

pub over : (n : ℕ) → 16777216 < n → nat_lt 16777216 n ≡ true
over n h = (Decides-ltb 16777216 n).1 h

pub under : (n : ℕ) → n ≤ 16777216 → nat_lt 16777216 n ≡ false
under n h = false_from_ne_true (nat_lt 16777216 n) (λ e. let low : 16777216 < n = (Decides-ltb 16777216 n).0 e in omega (arith, low, h))
