-- One more line, by what the lines before it have said.
use Rattle.std.proofs.Common.{◌≡◌, ℕ, Bool, true, false, List, [], ◌∷◌, ◌++◌, Option, Some, None, refl, sym, ◌∙◌, ap, append_assoc, if◌then◌else◌}
use Rattle.std.proofs.lemmas.List.{append-nil}
use Rattle.std.proofs.lemmas.List.Elements.{filter_map-append}
use Rattle.std.specs.List.{filter_map}
use Rattle.std.specs.Option.{is_some, is_none}
use Rattle.problem_lines.specs.SolutionForms.{SolutionForm, SolutionBegins, OpTime, ValueNumber, SolutionEnds}
use Rattle.problem_lines.specs.SolutionLines.{SolutionLineForm}
use Rattle.solution_reader.specs.Data.{HeadData, OpData, ValueData, op_names, value_names, solution_names}
use Rattle.solution_reader.specs.Faults.{first_of, unless, on_line, one_more, stands, meaning_fault, line_fault}
use Rattle.solution_reader.specs.Sofar.{TextLine, begins, since, head_after, head_from, head_in, op_told, value_told, ops_in, values_in, solution_with, ended_by, solutions_from, solutions_in}
use Rattle.problem_faults.specs.declared.refused_solutions.Part.TheVariants as part
use Rattle.solution_reader.specs.declared.fault.Told.{Told}
use Rattle.problem_faults.specs.declared.refused_solutions.Wrong.{Wrong}
use Rattle.problem_faults.specs.declared.refused_solutions.Wrong.TheVariants as wrong
use Rattle.solution_reader.specs.inner.Steps.{SofarData, with_form, step_fault, say_fault, may_stand, IsSofar}

-- look-ups over one more line

since-at : (sofar : List TextLine) (first : TextLine) (lines : List TextLine) (line : TextLine) (b : Bool) → begins first.form ≡ b
    → ((sofar : List TextLine) → since sofar (lines ++ line ∷ []) ≡ (if begins line.form then [] else since sofar lines ++ line ∷ []))
    → since sofar ((first ∷ lines) ++ line ∷ []) ≡ (if begins line.form then [] else since sofar (first ∷ lines) ++ line ∷ [])
since-at sofar first lines line true h ih = rw h (ih [])
since-at sofar first lines line false h ih = rw h (ih (sofar ++ first ∷ []))

since-push : (lines : List TextLine) (line : TextLine) (sofar : List TextLine) → since sofar (lines ++ line ∷ []) ≡ (if begins line.form then [] else since sofar lines ++ line ∷ [])
since-push [] line sofar = refl
since-push (first ∷ lines) line sofar = since-at sofar first lines line (begins first.form) refl (since-push lines line)

head-push : (lines : List TextLine) (line : TextLine) (head : Option HeadData) → head_from head (lines ++ line ∷ []) ≡ head_after (head_from head lines) line.number line.form
head-push [] line head = refl
head-push (first ∷ lines) line head = head-push lines line (head_after head first.number first.form)

solutions-push : (lines : List TextLine) (line : TextLine) (before : List TextLine) → solutions_from before (lines ++ line ∷ []) ≡ solutions_from before lines ++ ended_by (before ++ lines) line.form
solutions-push [] line before = append-nil (ended_by before line.form) ∙ ap (λ ls. ended_by ls line.form) (sym (append-nil before))
solutions-push (first ∷ lines) line before =
    ap (λ ss. ended_by before first.form ++ ss) (solutions-push lines line (before ++ first ∷ []))
    ∙ ap (λ ls. ended_by before first.form ++ (solutions_from (before ++ first ∷ []) lines ++ ended_by ls line.form)) (append_assoc before (first ∷ []) lines)
    ∙ sym (append_assoc (ended_by before first.form) (solutions_from (before ++ first ∷ []) lines) (ended_by (before ++ first ∷ lines) line.form))

solutions-more : (before : List TextLine) (line : TextLine) → solutions_in (before ++ line ∷ []) ≡ solutions_in before ++ ended_by before line.form
solutions-more before line = solutions-push before line []

-- after a line that begins no solution
told-more : {A : Type 0} (f : TextLine → Option A) (before : List TextLine) (line : TextLine) → begins line.form ≡ false
    → filter_map f (since [] (before ++ line ∷ [])) ≡ filter_map f (since [] before) ++ filter_map f (line ∷ [])
told-more f before line h =
    let cut : since [] (before ++ line ∷ []) ≡ since [] before ++ line ∷ [] = since-push before line [] ∙ ap (λ b. if b then [] else since [] before ++ line ∷ []) h in
    ap (filter_map f) cut ∙ filter_map-append f (since [] before) (line ∷ [])

-- after one that begins a solution
told-none : {A : Type 0} (f : TextLine → Option A) (before : List TextLine) (line : TextLine) → begins line.form ≡ true → filter_map f (since [] (before ++ line ∷ [])) ≡ []
told-none f before line h =
    let cut : since [] (before ++ line ∷ []) ≡ [] = since-push before line [] ∙ ap (λ b. if b then [] else since [] before ++ line ∷ []) h in
    ap (filter_map f) cut

-- faults

inside-same : (b c : Bool) (one other : Option Told) → b ≡ c → (c ≡ true → one ≡ other) → (fault : Told) → first_of (unless b fault ∷ one ∷ []) ≡ first_of (unless c fault ∷ other ∷ [])
inside-same b true one other e f fault = rw (e, f refl) refl
inside-same b false one other e f fault = rw e refl

fault-form : (before : List TextLine) (s : SofarData) (told : Wrong → Told) (form : SolutionForm) → IsSofar before s
    → first_of (unless (may_stand s.begun.head form) (told wrong.Place) ∷ say_fault s told form ∷ []) ≡ first_of (unless (stands before form) (told wrong.Place) ∷ meaning_fault before told form ∷ [])
fault-form before s told (SolutionBegins name ii) is =
    ap (λ h. first_of (unless (is_none h) (told wrong.Place) ∷ one_more told (solution_names s.begun.ended) 4096 part.Solutions name ∷ [])) is.head
    ∙ ap (λ ss. first_of (unless (is_none (head_in before)) (told wrong.Place) ∷ one_more told (solution_names ss) 4096 part.Solutions name ∷ [])) is.ended
fault-form before s told (OpTime name time alternative) is =
    inside-same (is_some s.begun.head) (is_some (head_in before)) (one_more told (op_names s.ops) 128 part.Operations name) (one_more told (op_names (ops_in before)) 128 part.Operations name)
    (ap is_some is.head) (λ h. ap (λ ops. one_more told (op_names ops) 128 part.Operations name) (is.ops h)) (told wrong.Place)
fault-form before s told (ValueNumber name number) is =
    inside-same (is_some s.begun.head) (is_some (head_in before)) (one_more told (value_names s.values) 256 part.Values name) (one_more told (value_names (values_in before)) 256 part.Values name)
    (ap is_some is.head) (λ h. ap (λ values. one_more told (value_names values) 256 part.Values name) (is.values h)) (told wrong.Place)
fault-form before s told SolutionEnds is = ap (λ h. first_of (unless (is_some h) (told wrong.Place) ∷ None ∷ [])) is.head

pub same_fault : (before : List TextLine) (s : SofarData) (line : SolutionLineForm) → IsSofar before s → step_fault s line ≡ line_fault before line
same_fault before s line is = fault-form before s (on_line line) line.form is

-- what has been said with one more line

outside-is : {A : Type 0} (o : Option A) → is_none o ≡ true → is_some o ≡ false
outside-is None h = refl
outside-is (Some x) h = let no : false ≡ true = h in cc

ended-kept : (before : List TextLine) (s : SofarData) (line : TextLine) → IsSofar before s → ended_by before line.form ≡ [] → s.begun.ended ≡ solutions_in (before ++ line ∷ [])
ended-kept before s line is none = is.ended ∙ sym (append-nil (solutions_in before)) ∙ ap (λ ss. solutions_in before ++ ss) (sym none) ∙ sym (solutions-more before line)

begins-next : (before : List TextLine) (s : SofarData) (line : TextLine) (head : HeadData) → IsSofar before s → is_none s.begun.head ≡ true → begins line.form ≡ true → ended_by before line.form ≡ []
    → head_after (head_in before) line.number line.form ≡ Some head
    → IsSofar (before ++ line ∷ []) (record { begun = record { ended = s.begun.ended; head = Some head }; ops = s.ops; values = s.values })
begins-next before s line head is outside first none after =
    let no : is_some (head_in before) ≡ false = ap is_some (sym is.head) ∙ outside-is s.begun.head outside in
    let inside : is_some (head_in (before ++ line ∷ [])) ≡ true = ap is_some (head-push before line None ∙ after) in
    record {
      ended = ended-kept before s line is none;
      head = sym (head-push before line None ∙ after);
      ops = λ h. is.no_ops no ∙ sym (told-none (λ (line : TextLine). op_told line.number line.form) before line first);
      values = λ h. is.no_values no ∙ sym (told-none (λ (line : TextLine). value_told line.number line.form) before line first);
      no_ops = λ h. cc;
      no_values = λ h. cc;
    }

tells-next : (before : List TextLine) (s : SofarData) (line : TextLine) (ops : List OpData) (values : List ValueData) → IsSofar before s → is_some s.begun.head ≡ true → begins line.form ≡ false → ended_by before line.form ≡ []
    → head_after (head_in before) line.number line.form ≡ head_in before
    → ops ≡ s.ops ++ filter_map (λ (line : TextLine). op_told line.number line.form) (line ∷ [])
    → values ≡ s.values ++ filter_map (λ (line : TextLine). value_told line.number line.form) (line ∷ [])
    → IsSofar (before ++ line ∷ []) (record { begun = s.begun; ops = ops; values = values })
tells-next before s line ops values is inside first none after is_ops is_values =
    let yes : is_some (head_in before) ≡ true = ap is_some (sym is.head) ∙ inside in
    let still : is_some (head_in (before ++ line ∷ [])) ≡ true = ap is_some (head-push before line None ∙ after) ∙ yes in
    record {
      ended = ended-kept before s line is none;
      head = is.head ∙ sym (head-push before line None ∙ after);
      ops = λ h. is_ops ∙ ap (λ os. os ++ filter_map (λ (line : TextLine). op_told line.number line.form) (line ∷ [])) (is.ops yes)
          ∙ sym (told-more (λ (line : TextLine). op_told line.number line.form) before line first);
      values = λ h. is_values ∙ ap (λ vs. vs ++ filter_map (λ (line : TextLine). value_told line.number line.form) (line ∷ [])) (is.values yes)
          ∙ sym (told-more (λ (line : TextLine). value_told line.number line.form) before line first);
      no_ops = λ h. cc;
      no_values = λ h. cc;
    }

ends-next : (before : List TextLine) (s : SofarData) (number : ℕ) → IsSofar before s → is_some s.begun.head ≡ true → IsSofar (before ++ record { number = number; form = SolutionEnds } ∷ []) (with_form s number SolutionEnds)
ends-next before s number is inside =
    let line : TextLine = record { number = number; form = SolutionEnds } in
    let yes : is_some (head_in before) ≡ true = ap is_some (sym is.head) ∙ inside in
    let gone : is_some (head_in (before ++ line ∷ [])) ≡ false = ap is_some (head-push before line None) in
    record {
      ended = ap (λ ss. ss ++ solution_with s.ops s.values s.begun.head) is.ended
          ∙ ap (λ ops. solutions_in before ++ solution_with ops s.values s.begun.head) (is.ops yes)
          ∙ ap (λ values. solutions_in before ++ solution_with (ops_in before) values s.begun.head) (is.values yes)
          ∙ ap (λ head. solutions_in before ++ solution_with (ops_in before) (values_in before) head) is.head
          ∙ sym (solutions-more before line);
      head = sym (head-push before line None);
      ops = λ h. cc;
      values = λ h. cc;
      no_ops = λ h. refl;
      no_values = λ h. refl;
    }

pub next_step : (before : List TextLine) (s : SofarData) (number : ℕ) (form : SolutionForm) → IsSofar before s → may_stand s.begun.head form ≡ true
    → IsSofar (before ++ record { number = number; form = form } ∷ []) (with_form s number form)
next_step before s number (SolutionBegins name ii) is h =
    begins-next before s (record { number = number; form = SolutionBegins name ii }) (record { name = name; line = number; ii = ii.value }) is h refl refl refl
next_step before s number (OpTime name time alternative) is h =
    tells-next before s (record { number = number; form = OpTime name time alternative })
    (s.ops ++ record { name = name; line = number; time = time.value; alternative = alternative.value } ∷ []) s.values is h refl refl refl refl (sym (append-nil s.values))
next_step before s number (ValueNumber name told) is h =
    tells-next before s (record { number = number; form = ValueNumber name told })
    s.ops (s.values ++ record { name = name; line = number; number = told.value } ∷ []) is h refl refl refl (sym (append-nil s.ops)) refl
next_step before s number SolutionEnds is h = ends-next before s number is h

-- before the first line
pub first_step : IsSofar [] (record { begun = record { ended = []; head = None }; ops = []; values = [] })
first_step = record { ended = refl; head = refl; ops = λ h. refl; values = λ h. refl; no_ops = λ h. refl; no_values = λ h. refl }
