-- The two passes over a block, line by line.
use Rattle.std.proofs.Common.{◌≡◌, ℕ, ◌+◌, Bool, true, false, cond, List, [], ◌∷◌, ◌++◌, length, map, Option, Some, None, refl, sym, ◌∙◌, ap, subst, arith, append_assoc}
use Rattle.std.proofs.lemmas.Bool.{true≢false}
use Rattle.loop_lines.specs.Forms.{Form, LoopLine, ArrayLine, ParamLine, InitLine, StatementLine, OutLine, EndLine, Malformed, line_form}
use Rattle.loop_lines.specs.Words.{lines_of, words_of}
use Rattle.loop_reader.specs.Meaning.{faults_of, forms_of, line_faults, stands, whole, with_line}
use Rattle.reader_faults.specs.declared.loops.LoopFaultKind.TheVariants.{Syntax}
use Rattle.loop_lines.specs.Near.{IsNearForm}
use Rattle.loop_reader.proofs.blocks.BlockStanding.{Holds, near-words}
use Rattle.loop_lint.specs.Lints.{TextLine, Words, bytes_in, fault_at, form_in, forms_in, inside_lints, line_read, line_with, outside_lints, text_lines, told}
use Rattle.loop_lint.specs.Parts.{syntax_word, word_of_fault}
use Rattle.loop_lines.specs.Columns.{Placed, placed_words}
use Rattle.loop_lint.specs.Words.{spot_at}
use Rattle.loop_lint.specs.declared.block.Table.{Table}
use Rattle.loop_lint.specs.Hints.{hint_of}
use Rattle.loop_lint.specs.declared.fault.Hint.TheVariants.{Nothing}
use Rattle.loop_lint.specs.declared.fault.LintFault.{LintFault}
use Rattle.loop_lint.specs.declared.tell.Found.{Found}
use Rattle.loop_lint.specs.inner.Founds.{told_all, AreFound}
use Rattle.loop_lint.specs.inner.Passes.{is_end, Gathers, Tells}
use Rattle.loop_lint.specs.inner.Tables.{IsTable}
use Rattle.loop_lines.proofs.Columns.{same_words}

-- lines of a text

form-with : (words : List Placed) (o : Option Form) → form_in (line_with words o) ≡ o
form-with words None = refl
form-with words (Some form) = refl

pub form-read : (line : List ℕ) → form_in (line_read line) ≡ line_form (words_of line)
form-read line = form-with (placed_words line) (line_form (words_of line))

forms-read : (lines : List (List ℕ)) → forms_in (map line_read lines) ≡ map (λ line. line_form (words_of line)) lines
forms-read [] = refl
forms-read (line ∷ lines) = ap (λ form. form ∷ forms_in (map line_read lines)) (form-read line) ∙ ap (λ forms. line_form (words_of line) ∷ forms) (forms-read lines)

pub forms_read : (text : List ℕ) → forms_in (text_lines text) ≡ forms_of text
forms_read text = forms-read (lines_of text)

pub forms_next : (text this after : List ℕ) → lines_of text ≡ this ∷ lines_of after → forms_of text ≡ line_form (words_of this) ∷ forms_of after
forms_next text this after h = ap (map (λ line. line_form (words_of line))) h

pub lines_next : (text this after : List ℕ) → lines_of text ≡ this ∷ lines_of after → text_lines text ≡ line_read this ∷ text_lines after
lines_next text this after h = ap (map line_read) h

pub forms_none : (text : List ℕ) → length text ≡ 0 → forms_of text ≡ []
forms_none [] h = refl
forms_none (c ∷ cs) h = absurd (omega arith)

-- the first pass

pub record IsGathered (all left : List (Option Form)) (table : Table) : Type 0 where
  pub before : List Form
  pub is : IsTable before table
  pub same : whole before left ≡ whole [] all

pub gathered_first : (all : List (Option Form)) (table : Table) → IsTable [] table → IsGathered all all table
gathered_first all table is = record { before = []; is = is; same = refl }

pub gathered_next : (all : List (Option Form)) (rest this after : List ℕ) (old new : Table) (end : Bool) → lines_of rest ≡ this ∷ lines_of after → end ≡ false
    → ((before : List Form) → IsTable before old → Gathers before this new end) → IsGathered all (forms_of rest) old → IsGathered all (forms_of after) new
gathered_next all rest this after old new end h e line g =
    let said : Gathers g.before this new false = subst (Gathers g.before this new) e (line g.before g.is) in
    record {
      before = said.0;
      is = said.1;
      same = sym (said.2 (forms_of after)) ∙ ap (whole g.before) (sym (forms_next rest this after h)) ∙ g.same;
    }

pub gathered_end : (all : List (Option Form)) (rest this after : List ℕ) (old new : Table) (end : Bool) → lines_of rest ≡ this ∷ lines_of after → end ≡ true
    → ((before : List Form) → IsTable before old → Gathers before this new end) → IsGathered all (forms_of rest) old → IsTable (whole [] all) new
gathered_end all rest this after old new end h e line g =
    let said : Gathers g.before this new true = subst (Gathers g.before this new) e (line g.before g.is) in
    let same : g.before ≡ whole [] all = ap (λ form. whole g.before (form ∷ forms_of after)) (sym said.1) ∙ ap (whole g.before) (sym (forms_next rest this after h)) ∙ g.same in
    subst (λ block. IsTable block new) same said.0

pub gathered_all : (all : List (Option Form)) (rest : List ℕ) (table : Table) → length rest ≡ 0 → IsGathered all (forms_of rest) table → IsTable (whole [] all) table
gathered_all all rest table h g =
    let same : g.before ≡ whole [] all = ap (whole g.before) (sym (forms_none rest h)) ∙ g.same in
    subst (λ block. IsTable block table) same g.is

-- one line of it

with-yes : (before : List Form) (form : Form) → stands before form ≡ true → with_line before form ≡ before ++ form ∷ []
with-yes before form h = ap (λ b. cond b (before ++ form ∷ []) before) h

with-no : (before : List Form) (form : Form) → stands before form ≡ false → with_line before form ≡ before
with-no before form h = ap (λ b. cond b (before ++ form ∷ []) before) h

whole-next : (before : List Form) (form : Form) (lines : List (Option Form)) → is_end form ≡ false → whole before (Some form ∷ lines) ≡ whole (with_line before form) lines
whole-next before (LoopLine name) lines e = refl
whole-next before (ArrayLine name cells) lines e = refl
whole-next before (ParamLine name value) lines e = refl
whole-next before (InitLine name number value) lines e = refl
whole-next before (StatementLine source) lines e = refl
whole-next before (OutLine name) lines e = refl
whole-next before EndLine lines e = absurd (true≢false e)
whole-next before Malformed lines e = refl

no-end : (before : List Form) (form : Form) → stands before form ≡ false → is_end form ≡ false
no-end before (LoopLine name) h = refl
no-end before (ArrayLine name cells) h = refl
no-end before (ParamLine name value) h = refl
no-end before (InitLine name number value) h = refl
no-end before (StatementLine source) h = refl
no-end before (OutLine name) h = refl
no-end before EndLine h = absurd (true≢false h)
no-end before Malformed h = refl

pub gathers_none : (before : List Form) (line : List ℕ) (table : Table) → line_form (words_of line) ≡ None → IsTable before table → Gathers before line table false
gathers_none before line table h is = (before, is, λ lines. ap (λ form. whole before (form ∷ lines)) h)

pub gathers_end : (before : List Form) (line : List ℕ) (form : Form) (table : Table) → line_form (words_of line) ≡ Some form → form ≡ EndLine → IsTable before table → Gathers before line table true
gathers_end before line form table h e is = (is, h ∙ ap Some e)

pub gathers_no : (before : List Form) (line : List ℕ) (form : Form) (table : Table) → line_form (words_of line) ≡ Some form → stands before form ≡ false → IsTable before table
    → Gathers before line table false
gathers_no before line form table h s is =
    (before, is, λ lines. ap (λ form. whole before (form ∷ lines)) h ∙ whole-next before form lines (no-end before form s) ∙ ap (λ b. whole b lines) (with-no before form s))

pub gathers_yes : (before : List Form) (line : List ℕ) (form : Form) (new : Table) → line_form (words_of line) ≡ Some form → is_end form ≡ false → stands before form ≡ true
    → IsTable (before ++ form ∷ []) new → Gathers before line new false
gathers_yes before line form new h e s is =
    (before ++ form ∷ [], is, λ lines. ap (λ form. whole before (form ∷ lines)) h ∙ whole-next before form lines e ∙ ap (λ b. whole b lines) (with-yes before form s))

-- the second pass

pub record IsTold (number : ℕ) (text : List ℕ) (block : List Form) (old : List LintFault) (at : ℕ) (rest : List ℕ) (table : Table) (faults : List LintFault) : Type 0 where
  pub before : List Form
  pub is : IsTable before table
  pub wholly : whole before (forms_in (text_lines rest)) ≡ block
  pub same : (names : List (List ℕ)) → old ++ inside_lints number names [] (text_lines text) ≡ faults ++ inside_lints at names before (text_lines rest)

pub told_first : (number : ℕ) (text : List ℕ) (faults : List LintFault) (table : Table) → IsTable [] table → IsTold number text (whole [] (forms_of text)) faults number text table faults
told_first number text faults table is = record { before = []; is = is; wholly = ap (whole []) (forms_read text); same = λ names. refl }

pub told_next : (number : ℕ) (text : List ℕ) (block : List Form) (first : List LintFault) (at : ℕ) (rest this after : List ℕ) (old new : Table) (faults more : List LintFault) (end : Bool)
    → lines_of rest ≡ this ∷ lines_of after → end ≡ false
    → ((lines : List Form) → IsTable lines old → Tells at lines this new faults more block end)
    → IsTold number text block first at rest old faults → IsTold number text block first (at + 1) after new more
told_next number text block first at rest this after old new faults more end h e line t =
    let said : Tells at t.before this new faults more block false = subst (Tells at t.before this new faults more block) e (line t.before t.is) in
    let next = lines_next rest this after h in
    let here : whole t.before (line_form (words_of this) ∷ forms_in (text_lines after)) ≡ block
    = ap (λ form. whole t.before (form ∷ forms_in (text_lines after))) (sym (form-read this)) ∙ ap (λ lines. whole t.before (forms_in lines)) (sym next) ∙ t.wholly in
    record {
      before = said.0;
      is = said.1;
      wholly = (said.2 [] (text_lines after) here).1;
      same = λ names. t.same names ∙ ap (λ lines. faults ++ inside_lints at names t.before lines) next ∙ (said.2 names (text_lines after) here).0;
    }

-- one line of it

pub inside-next : (number : ℕ) (names : List (List ℕ)) (before : List Form) (words : List Placed) (form : Form) (lines : List TextLine) → is_end form ≡ false
    → inside_lints number names before (Words words form ∷ lines)
    ≡ told number words (hint_of (whole before (Some form ∷ forms_in lines)) (bytes_in words)) (word_of_fault before (whole before (Some form ∷ forms_in lines)) (bytes_in words) form) (line_faults before (whole before (Some form ∷ forms_in lines)) form)
    ++ inside_lints (number + 1) names (with_line before form) lines
inside-next number names before words (LoopLine name) lines e = refl
inside-next number names before words (ArrayLine name cells) lines e = refl
inside-next number names before words (ParamLine name value) lines e = refl
inside-next number names before words (InitLine name n value) lines e = refl
inside-next number names before words (StatementLine source) lines e = refl
inside-next number names before words (OutLine name) lines e = refl
inside-next number names before words EndLine lines e = absurd (true≢false e)
inside-next number names before words Malformed lines e = refl

pub tells_no : (number : ℕ) (before : List Form) (line : List ℕ) (form : Form) (table : Table) (old faults : List LintFault) (block : List Form) (word : ℕ) → line_form (words_of line) ≡ Some form
    → stands before form ≡ false → IsTable before table → word ≡ syntax_word (words_of line) form
    → faults ≡ old ++ fault_at number Syntax (spot_at (placed_words line) word) Nothing ∷ []
    → Tells number before line table old faults block false
tells_no number before line form table old faults block word h s is w pushed = (
  before,
  is,
  λ names lines whole-is.
      let words = placed_words line in
      let full = whole before (Some form ∷ forms_in lines) in
      let e = no-end before form s in
      let telling : told number words (hint_of full (bytes_in words)) (word_of_fault before full (bytes_in words) form) (line_faults before full form) ≡ fault_at number Syntax (spot_at words word) Nothing ∷ []
      = ap (λ b. told number words (hint_of full (bytes_in words)) (word_of_fault before full (bytes_in words) form) (cond b (faults_of before full form) (Syntax ∷ []))) s
      ∙ ap (λ n. fault_at number Syntax (spot_at words n) Nothing ∷ []) (sym (w ∙ ap (λ b. syntax_word b form) (sym (same_words line)))) in (
        ap (λ form. old ++ inside_lints number names before (line_with words form ∷ lines)) h
            ∙ ap (λ fs. old ++ fs) (inside-next number names before words form lines e)
            ∙ ap (λ fs. old ++ (fs ++ inside_lints (number + 1) names (with_line before form) lines)) telling
            ∙ ap (λ b. old ++ (fault_at number Syntax (spot_at words word) Nothing ∷ [] ++ inside_lints (number + 1) names b lines)) (with-no before form s)
            ∙ sym (append_assoc old (fault_at number Syntax (spot_at words word) Nothing ∷ []) (inside_lints (number + 1) names before lines))
            ∙ ap (λ fs. fs ++ inside_lints (number + 1) names before lines) (sym pushed),
        ap (λ b. whole b (forms_in lines)) (sym (with-no before form s)) ∙ sym (whole-next before form (forms_in lines) e)
            ∙ ap (λ form. whole before (form ∷ forms_in lines)) (sym h) ∙ whole-is,
      ),
)

found_bytes : (before block : List Form) (line : List ℕ) (form : Form) (found : Found) → AreFound before block (words_of line) form found → AreFound before block (bytes_in (placed_words line)) form found
found_bytes before block line form found are = subst (λ b. AreFound before block b form found) (sym (same_words line)) are

pub tells_yes : (number : ℕ) (before : List Form) (line : List ℕ) (form : Form) (new : Table) (old faults : List LintFault) (block : List Form) (found : Found) → line_form (words_of line) ≡ Some form
    → is_end form ≡ false → stands before form ≡ true → IsTable (before ++ form ∷ []) new → AreFound before block (words_of line) form found
    → faults ≡ old ++ told_all number (placed_words line) (hint_of block (bytes_in (placed_words line))) found
    → Tells number before line new old faults block false
tells_yes number before line form new old faults block found h e s is are pushed = (
  before ++ form ∷ [],
  is,
  λ names lines whole-is.
      let words = placed_words line in
      let full = whole before (Some form ∷ forms_in lines) in
      let fully : full ≡ block = ap (λ form. whole before (form ∷ forms_in lines)) (sym h) ∙ whole-is in
      let telling : told number words (hint_of full (bytes_in words)) (word_of_fault before full (bytes_in words) form) (line_faults before full form) ≡ told_all number words (hint_of block (bytes_in words)) found
      = ap (λ b. told number words (hint_of full (bytes_in words)) (word_of_fault before full (bytes_in words) form) (cond b (faults_of before full form) (Syntax ∷ []))) s
      ∙ ap (λ b. told number words (hint_of b (bytes_in words)) (word_of_fault before b (bytes_in words) form) (faults_of before b form)) fully
      ∙ sym ((found_bytes before block line form found are).same number words (hint_of block (bytes_in words))) in (
        ap (λ form. old ++ inside_lints number names before (line_with words form ∷ lines)) h
            ∙ ap (λ fs. old ++ fs) (inside-next number names before words form lines e)
            ∙ ap (λ fs. old ++ (fs ++ inside_lints (number + 1) names (with_line before form) lines)) telling
            ∙ ap (λ b. old ++ (told_all number words (hint_of block (bytes_in words)) found ++ inside_lints (number + 1) names b lines)) (with-yes before form s)
            ∙ sym (append_assoc old (told_all number words (hint_of block (bytes_in words)) found) (inside_lints (number + 1) names (before ++ form ∷ []) lines))
            ∙ ap (λ fs. fs ++ inside_lints (number + 1) names (before ++ form ∷ []) lines) (sym pushed),
        ap (λ b. whole b (forms_in lines)) (sym (with-yes before form s)) ∙ sym (whole-next before form (forms_in lines) e) ∙ fully,
      ),
)

pub tells_end : (number : ℕ) (before : List Form) (line : List ℕ) (form : Form) (new : Table) (old faults : List LintFault) (block : List Form) (found : Found) → line_form (words_of line) ≡ Some form
    → form ≡ EndLine → AreFound before block (words_of line) form found
    → faults ≡ old ++ told_all number (placed_words line) (hint_of block (bytes_in (placed_words line))) found
    → Tells number before line new old faults block true
tells_end number before line form new old faults block found h e are pushed names lines whole-is =
    let words = placed_words line in
    let fully : before ≡ block = ap (λ form. whole before (form ∷ forms_in lines)) (sym (h ∙ ap Some e)) ∙ whole-is in
    let telling : told number words (hint_of before (bytes_in words)) (word_of_fault before before (bytes_in words) EndLine) (faults_of before before EndLine) ≡ told_all number words (hint_of block (bytes_in words)) found
    = ap (λ b. told number words (hint_of b (bytes_in words)) (word_of_fault before before (bytes_in words) EndLine) (faults_of before before EndLine)) fully
    ∙ ap (λ f. told number words (hint_of block (bytes_in words)) (word_of_fault before block (bytes_in words) f) (faults_of before block f)) (sym e) ∙ sym ((found_bytes before block line form found are).same number words (hint_of block (bytes_in words))) in
    ap (λ form. old ++ inside_lints number names before (line_with words form ∷ lines)) (h ∙ ap Some e)
    ∙ ap (λ fs. old ++ (fs ++ outside_lints (number + 1) names lines)) telling
    ∙ sym (append_assoc old (told_all number words (hint_of block (bytes_in words)) found) (outside_lints (number + 1) names lines))
    ∙ ap (λ fs. fs ++ outside_lints (number + 1) names lines) (sym pushed)

end-is : (form : Form) → is_end form ≡ true → form ≡ EndLine
end-is (LoopLine name) e = absurd (true≢false (sym e))
end-is (ArrayLine name cells) e = absurd (true≢false (sym e))
end-is (ParamLine name value) e = absurd (true≢false (sym e))
end-is (InitLine name n value) e = absurd (true≢false (sym e))
end-is (StatementLine source) e = absurd (true≢false (sym e))
end-is (OutLine name) e = absurd (true≢false (sym e))
end-is EndLine e = refl
end-is Malformed e = absurd (true≢false (sym e))

pub gathers_last : (before : List Form) (line : List ℕ) (form : Form) (table : Table) → line_form (words_of line) ≡ Some form → is_end form ≡ true → IsTable before table → Gathers before line table true
gathers_last before line form table h e is = gathers_end before line form table h (end-is form e) is

tells-at : (number : ℕ) (before : List Form) (line : List ℕ) (form : Form) (new : Table) (old faults : List LintFault) (block : List Form) (found : Found) (end : Bool)
    → line_form (words_of line) ≡ Some form → is_end form ≡ end → stands before form ≡ true → IsTable (before ++ form ∷ []) new → AreFound before block (words_of line) form found
    → faults ≡ old ++ told_all number (placed_words line) (hint_of block (bytes_in (placed_words line))) found
    → Tells number before line new old faults block end
tells-at number before line form new old faults block found true h e s is are pushed = tells_end number before line form new old faults block found h (end-is form e) are pushed
tells-at number before line form new old faults block found false h e s is are pushed = tells_yes number before line form new old faults block found h e s is are pushed

pub tells_stands : (number : ℕ) (before : List Form) (line : List ℕ) (form : Form) (new : Table) (old faults : List LintFault) (block : List Form) (found : Found) (end : Bool)
    → line_form (words_of line) ≡ Some form → is_end form ≡ end → stands before form ≡ true → IsTable (before ++ form ∷ []) new → AreFound before block (words_of line) form found
    → faults ≡ old ++ told_all number (placed_words line) (hint_of block (words_of line)) found
    → Tells number before line new old faults block end
tells_stands number before line form new old faults block found end h e s is are pushed =
    tells-at number before line form new old faults block found end h e s is are
    (pushed ∙ ap (λ words. old ++ told_all number (placed_words line) (hint_of block words) found) (sym (same_words line)))

-- numbers of a line that is read are near
pub near_read : (line : List ℕ) (form : Form) → line_form (words_of line) ≡ Some form → IsNearForm form
near_read line form h = subst (Holds IsNearForm) h (near-words (words_of line))
