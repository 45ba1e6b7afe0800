-- What a block's lines are, line by line.
use Rattle.std.proofs.Common.{◌≡◌, ℕ, ◌+◌, Bool, true, false, List, [], ◌∷◌, ◌++◌, map, Option, Some, None, refl, sym, ◌∙◌, ap, subst, if◌then◌else◌, append_assoc}
use Rattle.std.specs.Borrow.{Bor}
use Rattle.std.proofs.Common.{◌||◌, ◌==◌, length, arith}
use Rattle.std.specs.List.{list_any}
use Rattle.std.proofs.lemmas.Bool.{eqb-true}
use Rattle.std.proofs.lemmas.List.Folds.{list_any-append}
use Rattle.loop_lines.specs.declared.form.Form.TheVariants as variants
use Rattle.std.proofs.lemmas.List.{append-nil, map-append}
use Rattle.loop_reader.specs.declared.lines.collect.Stop.TheVariants as stops
use Rattle.loop_reader.specs.declared.lines.entry.LineEntry.{LineEntry}
use Rattle.loop_lines.specs.declared.form.Form as code
use Rattle.reader_faults.specs.declared.loops.LoopFault.{LoopFault}
use Rattle.reader_faults.specs.declared.loops.LoopFaultKind.TheVariants.{Syntax, NoEnd}
use Rattle.loop_lines.specs.Forms.{Form, LoopLine, ArrayLine, ParamLine, InitLine, StatementLine, OutLine, EndLine, Malformed, line_form}
use Rattle.loop_lines.specs.Words.{lines_of, words_of}
use Rattle.loop_reader.specs.Meaning.{stands, with_line, whole, faults_of, line_faults, at_line, inside_faults, outside_faults, blocks_from, forms_of}
use Rattle.loop_lines.specs.Parsed.{form_seen}
use Rattle.loop_reader.specs.inner.Blocks.{forms_in, entry_faults, StopsAt}

-- `inside_faults` with the block's lines named
abbrev pub inside_in : List Form → ℕ → List (List ℕ) → List Form → List (Option Form) → List LoopFault
inside_in block line names before [] = at_line line (NoEnd ∷ [])
inside_in block line names before (None ∷ lines) = inside_in block (line + 1) names before lines
inside_in block line names before (Some EndLine ∷ lines) = at_line line (faults_of before before EndLine) ++ outside_faults (line + 1) names lines
inside_in block line names before (Some form ∷ lines) = at_line line (line_faults before block form) ++ inside_in block (line + 1) names (with_line before form) lines

pub inside-named : (line : ℕ) (names : List (List ℕ)) (before : List Form) (lines : List (Option Form)) → inside_faults line names before lines ≡ inside_in (whole before lines) line names before lines
inside-named line names before [] = refl
inside-named line names before (None ∷ lines) = inside-named (line + 1) names before lines
inside-named line names before (Some EndLine ∷ lines) = refl
inside-named line names before (Some (LoopLine n) ∷ lines) = ap (λ r. at_line line (line_faults before (whole before lines) (LoopLine n)) ++ r) (inside-named (line + 1) names before lines)
inside-named line names before (Some (ArrayLine n c) ∷ lines) = ap (λ r. at_line line (line_faults before (whole (with_line before (ArrayLine n c)) lines) (ArrayLine n c)) ++ r) (inside-named (line + 1) names (with_line before (ArrayLine n c)) lines)
inside-named line names before (Some (ParamLine n v) ∷ lines) = ap (λ r. at_line line (line_faults before (whole (with_line before (ParamLine n v)) lines) (ParamLine n v)) ++ r) (inside-named (line + 1) names (with_line before (ParamLine n v)) lines)
inside-named line names before (Some (InitLine n m v) ∷ lines) = ap (λ r. at_line line (line_faults before (whole (with_line before (InitLine n m v)) lines) (InitLine n m v)) ++ r) (inside-named (line + 1) names (with_line before (InitLine n m v)) lines)
inside-named line names before (Some (StatementLine s) ∷ lines) = ap (λ r. at_line line (line_faults before (whole (with_line before (StatementLine s)) lines) (StatementLine s)) ++ r) (inside-named (line + 1) names (with_line before (StatementLine s)) lines)
inside-named line names before (Some (OutLine n) ∷ lines) = ap (λ r. at_line line (line_faults before (whole (with_line before (OutLine n)) lines) (OutLine n)) ++ r) (inside-named (line + 1) names (with_line before (OutLine n)) lines)
inside-named line names before (Some Malformed ∷ lines) = ap (λ r. at_line line (line_faults before (whole before lines) Malformed) ++ r) (inside-named (line + 1) names before lines)

abbrev pub is_end : Form → Bool
is_end EndLine = true
is_end _ = false

inside-line : (block : List Form) (line : ℕ) (names : List (List ℕ)) (before : List Form) (form : Form) (lines : List (Option Form)) → is_end form ≡ false
    → inside_in block line names before (Some form ∷ lines) ≡ at_line line (line_faults before block form) ++ inside_in block (line + 1) names (with_line before form) lines
inside-line block line names before EndLine lines h = cc
inside-line block line names before (LoopLine n) lines h = refl
inside-line block line names before (ArrayLine n c) lines h = refl
inside-line block line names before (ParamLine n v) lines h = refl
inside-line block line names before (InitLine n m v) lines h = refl
inside-line block line names before (StatementLine s) lines h = refl
inside-line block line names before (OutLine n) lines h = refl
inside-line block line names before Malformed lines h = refl

whole-line : (before : List Form) (form : Form) (lines : List (Option Form)) → is_end form ≡ false → whole before (Some form ∷ lines) ≡ whole (with_line before form) lines
whole-line before EndLine lines h = cc
whole-line before (LoopLine n) lines h = refl
whole-line before (ArrayLine n c) lines h = refl
whole-line before (ParamLine n v) lines h = refl
whole-line before (InitLine n m v) lines h = refl
whole-line before (StatementLine s) lines h = refl
whole-line before (OutLine n) lines h = refl
whole-line before Malformed lines h = refl

blocks-line : (name : List ℕ) (before : List Form) (form : Form) (lines : List (Option Form)) → is_end form ≡ false → blocks_from name before (Some form ∷ lines) ≡ blocks_from name (with_line before form) lines
blocks-line name before EndLine lines h = cc
blocks-line name before (LoopLine n) lines h = refl
blocks-line name before (ArrayLine n c) lines h = refl
blocks-line name before (ParamLine n v) lines h = refl
blocks-line name before (InitLine n m v) lines h = refl
blocks-line name before (StatementLine s) lines h = refl
blocks-line name before (OutLine n) lines h = refl
blocks-line name before Malformed lines h = refl

-- the lines from `line` on are read up to these entries and to `next` and what follows it
pub record Reads (number : ℕ) (lines : List (Option Form)) (entries : List LineEntry) (line : ℕ) (left : List (Option Form)) : Type 0 where
  pub faults : (block : List Form) (names : List (List ℕ)) → inside_in block number names [] lines ≡ entry_faults block [] entries ++ inside_in block line names (forms_in entries) left
  pub whole : whole [] lines ≡ whole (forms_in entries) left
  pub blocks : (name : List ℕ) → blocks_from name [] lines ≡ blocks_from name (forms_in entries) left

pub reads-start : (number : ℕ) (lines : List (Option Form)) → Reads number lines [] number lines
reads-start number lines = record { faults = λ block names. refl; whole = refl; blocks = λ name. refl }

pub reads-blank : (number : ℕ) (lines : List (Option Form)) (entries : List LineEntry) (line : ℕ) (left : List (Option Form)) → Reads number lines entries line (None ∷ left) → Reads number lines entries (line + 1) left
reads-blank number lines entries line left r = record { faults = r.faults; whole = r.whole; blocks = r.blocks }

-- what stands in the place of a left part
pub reads-same : (number : ℕ) (lines : List (Option Form)) (entries : List LineEntry) (line : ℕ) (left other : List (Option Form)) → left ≡ other → Reads number lines entries line left → Reads number lines entries line other
reads-same number lines entries line left other e r = subst (λ ls. Reads number lines entries line ls) e r

entry_faults-push : (block before : List Form) (entries : List LineEntry) (e : LineEntry) → entry_faults block before (entries ++ e ∷ []) ≡ entry_faults block before entries ++ at_line e.line (faults_of (before ++ forms_in entries) block (form_seen e.form))
entry_faults-push block before [] e = append-nil (at_line e.line (faults_of before block (form_seen e.form))) ∙ ap (λ b. at_line e.line (faults_of b block (form_seen e.form))) (sym (append-nil before))
entry_faults-push block before (x ∷ xs) e =
    let first = at_line x.line (faults_of before block (form_seen x.form)) in
    let next = before ++ form_seen x.form ∷ [] in
    ap (λ r. first ++ r) (entry_faults-push block next xs e)
    ∙ sym (append_assoc first (entry_faults block next xs) (at_line e.line (faults_of (next ++ forms_in xs) block (form_seen e.form))))
    ∙ ap (λ b. (first ++ entry_faults block next xs) ++ at_line e.line (faults_of b block (form_seen e.form))) (append_assoc before (form_seen x.form ∷ []) (forms_in xs))

with-standing : (before : List Form) (form : Form) → stands before form ≡ true → with_line before form ≡ before ++ form ∷ []
with-standing before form h = ap (λ b. if b then before ++ form ∷ [] else before) h

faults-standing : (before block : List Form) (form : Form) → stands before form ≡ true → line_faults before block form ≡ faults_of before block form
faults-standing before block form h = ap (λ b. if b then faults_of before block form else Syntax ∷ []) h

forms_in-push : (entries : List LineEntry) (e : LineEntry) → forms_in (entries ++ e ∷ []) ≡ forms_in entries ++ form_seen e.form ∷ []
forms_in-push entries e = map-append (λ (e : LineEntry). form_seen e.form) entries (e ∷ [])

pub reads-line : (number : ℕ) (lines : List (Option Form)) (entries : List LineEntry) (e : LineEntry) (left : List (Option Form)) → Reads number lines entries e.line (Some (form_seen e.form) ∷ left)
    → is_end (form_seen e.form) ≡ false → stands (forms_in entries) (form_seen e.form) ≡ true → Reads number lines (entries ++ e ∷ []) (e.line + 1) left
reads-line number lines entries e left r other h =
    let before = forms_in entries in
    let form = form_seen e.form in
    let now = with-standing before form h ∙ sym (forms_in-push entries e) in
    record {
      faults = λ block names.
          r.faults block names ∙ ap (λ f. entry_faults block [] entries ++ f)
          (inside-line block e.line names before form left other
          ∙ ap (λ k. at_line e.line k ++ inside_in block (e.line + 1) names (with_line before form) left) (faults-standing before block form h)
          ∙ ap (λ b. at_line e.line (faults_of before block form) ++ inside_in block (e.line + 1) names b left) now)
          ∙ sym (append_assoc (entry_faults block [] entries) (at_line e.line (faults_of before block form)) (inside_in block (e.line + 1) names (forms_in (entries ++ e ∷ [])) left))
          ∙ sym (ap (λ f. f ++ inside_in block (e.line + 1) names (forms_in (entries ++ e ∷ [])) left) (entry_faults-push block [] entries e));
      whole = r.whole ∙ whole-line before form left other ∙ ap (λ b. whole b left) now;
      blocks = λ name. r.blocks name ∙ blocks-line name before form left other ∙ ap (λ b. blocks_from name b left) now;
    }

pub reads-end : (number : ℕ) (lines : List (Option Form)) (entries : List LineEntry) (line : ℕ) (rest : Bor (List ℕ)) → Reads number lines entries line (Some EndLine ∷ forms_of rest.now) → StopsAt number lines entries (stops.End line rest)
reads-end number lines entries line rest r = (
  r.whole,
  λ names. inside-named number names [] lines ∙ ap (λ b. inside_in b number names [] lines) r.whole ∙ r.faults (forms_in entries) names,
  r.blocks,
)

pub reads-open : (number : ℕ) (lines : List (Option Form)) (entries : List LineEntry) (line : ℕ) → Reads number lines entries line [] → StopsAt number lines entries (stops.Open line)
reads-open number lines entries line r = (
  r.whole,
  λ names. inside-named number names [] lines ∙ ap (λ b. inside_in b number names [] lines) r.whole ∙ r.faults (forms_in entries) names,
)

unfit-faults : (before block : List Form) (form : Form) → stands before form ≡ false → line_faults before block form ≡ Syntax ∷ []
unfit-faults before block form h = ap (λ b. if b then faults_of before block form else Syntax ∷ []) h

unfit-with : (before : List Form) (form : Form) → stands before form ≡ false → with_line before form ≡ before
unfit-with before form h = ap (λ b. if b then before ++ form ∷ [] else before) h

pub reads-unfit : (number : ℕ) (lines : List (Option Form)) (entries : List LineEntry) (line : ℕ) (form : Form) (rest : Bor (List ℕ)) → Reads number lines entries line (Some form ∷ forms_of rest.now)
    → is_end form ≡ false → stands (forms_in entries) form ≡ false → StopsAt number lines entries (stops.Unfit line rest)
reads-unfit number lines entries line form rest r other h =
    let before = forms_in entries in
    let left = forms_of rest.now in
    let block = whole [] lines in (
      r.whole ∙ whole-line before form left other ∙ ap (λ b. whole b left) (unfit-with before form h),
      λ names. (
        inside_in block (line + 1) names (with_line before form) left,
        inside-named number names [] lines ∙ r.faults block names ∙ ap (λ f. entry_faults block [] entries ++ f)
            (inside-line block line names before form left other
            ∙ ap (λ k. at_line line k ++ inside_in block (line + 1) names (with_line before form) left) (unfit-faults before block form h)),
      ),
    )

-- the next line of a text
pub forms-next : (text this after : List ℕ) (form : Option Form) → lines_of text ≡ this ∷ lines_of after → form ≡ line_form (words_of this) → forms_of text ≡ form ∷ forms_of after
forms-next text this after form e f = ap (map (λ line. line_form (words_of line))) e ∙ ap (λ x. x ∷ forms_of after) (sym f)

pub whole-fit : (entries : List LineEntry) (e : LineEntry) (lines : List (Option Form)) → is_end (form_seen e.form) ≡ false → stands (forms_in entries) (form_seen e.form) ≡ true
    → whole (forms_in entries) (Some (form_seen e.form) ∷ lines) ≡ whole (forms_in (entries ++ e ∷ [])) lines
whole-fit entries e lines other h =
    whole-line (forms_in entries) (form_seen e.form) lines other ∙ ap (λ b. whole b lines) (with-standing (forms_in entries) (form_seen e.form) h ∙ sym (forms_in-push entries e))

pub whole-unfit : (before : List Form) (form : Form) (lines : List (Option Form)) → is_end form ≡ false → stands before form ≡ false → whole before (Some form ∷ lines) ≡ whole before lines
whole-unfit before form lines other h = whole-line before form lines other ∙ ap (λ b. whole b lines) (unfit-with before form h)

pub forms-none : (text : List ℕ) → true ≡ (length text == 0) → forms_of text ≡ []
forms-none [] h = refl
forms-none (c ∷ cs) h = absurd (omega (arith, eqb-true (length (c ∷ cs)) 0 (sym h)))

-- a form that is no `end`
pub other-than-end : (form : code.Form) → (form ≡ variants.End → ⊥) → is_end (form_seen form) ≡ false
other-than-end (variants.Loop n) h = refl
other-than-end (variants.Array n r) h = refl
other-than-end (variants.Param n v) h = refl
other-than-end (variants.Init n m v) h = refl
other-than-end (variants.Statement s) h = refl
other-than-end (variants.Out n) h = refl
other-than-end variants.End h = absurd (h refl)
other-than-end variants.Malformed h = refl

or-false : (b : Bool) → (b || false) ≡ b
or-false true = refl
or-false false = refl

-- a test of all lines, with one more
pub any-push : (p : Form → Bool) (entries : List LineEntry) (e : LineEntry) → list_any p (forms_in (entries ++ e ∷ [])) ≡ (list_any p (forms_in entries) || p (form_seen e.form))
any-push p entries e = ap (list_any p) (forms_in-push entries e) ∙ list_any-append p (forms_in entries) (form_seen e.form ∷ []) ∙ ap (λ b. list_any p (forms_in entries) || b) (or-false (p (form_seen e.form)))
