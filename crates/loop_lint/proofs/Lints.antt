-- All faults of a text, line by line, and without their words.
use Rattle.std.proofs.Common.{◌≡◌, ℕ, ◌+◌, ◌<◌, ◌≤◌, ◌||◌, Bool, true, false, cond, List, [], ◌∷◌, ◌++◌, length, map, Option, Some, Err, refl, sym, ◌∙◌, ap, append_assoc, ltb, length-append, subst}
use Rattle.std.proofs.lemmas.Bool.{true≢false, le-ltb, lt-ltb}
use Rattle.std.proofs.lemmas.List.{map-append}
use Rattle.std.proofs.lemmas.List.Folds.{list_any-append}
use Rattle.std.specs.Borrow.{Bor}
use Rattle.std.specs.BTreeSet.{BTreeSet}
use Rattle.std.specs.List.{list_any}
use Rattle.std.specs.Option.{option_or}
use Rattle.machine_data.specs.Opcodes.{same_word}
use Rattle.loop_lines.specs.Forms.{Form, LoopLine, ArrayLine, ParamLine, InitLine, StatementLine, OutLine, EndLine, Malformed, line_form}
use Rattle.loop_lines.specs.Parsed.{form_seen}
use Rattle.loop_lines.specs.declared.form.Form as code
use Rattle.loop_lines.specs.declared.form.Form.TheVariants as variants
use Rattle.loop_lines.specs.Words.{lines_of, words_of}
use Rattle.loop_data.specs.Loops.{LoopData}
use Rattle.loop_reader.specs.Meaning.{Kinds, at_line, blocks_of, faults_of, first_fault, forms_of, inside_faults, line_faults, loop_of, loops_in, opening_faults, outside_faults, when, whole, with_line}
use Rattle.reader_faults.specs.declared.loops.LoopFault.{LoopFault}
use Rattle.reader_faults.specs.declared.loops.LoopFaultKind.{LoopFaultKind}
use Rattle.reader_faults.specs.declared.loops.LoopFaultKind.TheVariants.{Limit, RepeatedName, Syntax}
use Rattle.loop_reader.proofs.faults.Checking.{or-none}
use Rattle.loop_lint.specs.Lints.{AreFaults, BeginsAs, TextLine, Blank, Words, bytes_in, fault_at, faults_in, forms_in, inside_lints, line_with, lints_in, outside_lints, plain, text_lines, told, too_long}
use Rattle.loop_lint.specs.Parts.{syntax_word, word_of_fault, word_of_opening}
use Rattle.loop_lines.specs.Columns.{Placed, placed_words}
use Rattle.loop_lint.specs.Words.{spot_at}
use Rattle.loop_lint.specs.Hints.{hint_of, no_hint}
use Rattle.loop_lint.specs.declared.fault.Hint.{Hint}
use Rattle.loop_lint.specs.declared.fault.Hint.TheVariants.{Nothing}
use Rattle.loop_lint.specs.declared.fault.LintFault.{LintFault}
use Rattle.loop_lint.specs.inner.Founds.{told_if}
use Rattle.loop_lint.specs.inner.Names.{is_among, AreNames, GoesOn}
use Rattle.loop_lint.specs.inner.Passes.{is_end}
use Rattle.loop_lines.proofs.Columns.{same_words}
use Rattle.loop_lint.proofs.Founds.{word_when}
use Rattle.loop_lint.proofs.Passing.{forms_read, inside-next, lines_next}

-- one line outside of loops

abbrev pub is_loop : Form → Bool
is_loop (LoopLine name) = true
is_loop form = false

outside-next : (number : ℕ) (names : List (List ℕ)) (words : List Placed) (form : Form) (lines : List TextLine) → is_loop form ≡ false
    → outside_lints number names (Words words form ∷ lines) ≡ told number words no_hint (λ kind. syntax_word (bytes_in words) form) (Syntax ∷ []) ++ outside_lints (number + 1) names lines
outside-next number names words (LoopLine name) lines e = absurd (true≢false e)
outside-next number names words (ArrayLine name cells) lines e = refl
outside-next number names words (ParamLine name value) lines e = refl
outside-next number names words (InitLine name n value) lines e = refl
outside-next number names words (StatementLine source) lines e = refl
outside-next number names words (OutLine name) lines e = refl
outside-next number names words EndLine lines e = refl
outside-next number names words Malformed lines e = refl

-- names

opening-at : (line : ℕ) (words : List Placed) (word : LoopFaultKind → ℕ) (long many there : Bool) → word Limit ≡ cond long 1 0 → word RepeatedName ≡ 1
    → told_if line words no_hint Limit (option_or (word_when long 1) (word_when many 0)) ++ told_if line words no_hint RepeatedName (word_when there 1)
    ≡ told line words no_hint word (when (long || many) Limit ++ when there RepeatedName)
opening-at line words word true many true h k = rw (h, k) refl
opening-at line words word true many false h k = rw h refl
opening-at line words word false true true h k = rw (h, k) refl
opening-at line words word false true false h k = rw h refl
opening-at line words word false false true h k = rw k refl
opening-at line words word false false false h k = refl

pub names_more : (before : List (List ℕ)) (old new : BTreeSet (Bor (List ℕ))) (name : List ℕ) (loops : ℕ) → ((q : List ℕ) → is_among new q ≡ (is_among old q || same_word q name)) → AreNames before old loops
    → AreNames (before ++ name ∷ []) new (loops + 1)
names_more before old new name loops more are = record {
  each = λ q.
      more q ∙ ap (λ b. b || same_word q name) (are.each q)
      ∙ ap (λ b. list_any (same_word q) before || b) (sym (or-none (same_word q name)))
      ∙ sym (list_any-append (same_word q) before (name ∷ []));
  count = length-append before (name ∷ []) ∙ ap (λ n. n + 1) are.count;
}

-- how a text goes on

pub goes_syntax : (before : List (List ℕ)) (names : BTreeSet (Bor (List ℕ))) (number loops word : ℕ) (rest this after : List ℕ) (form : Form) (old new : List LintFault) → lines_of rest ≡ this ∷ lines_of after
    → line_form (words_of this) ≡ Some form → is_loop form ≡ false → word ≡ syntax_word (words_of this) form → new ≡ old ++ told_if number (placed_words this) no_hint Syntax (Some word)
    → AreNames before names loops
    → GoesOn names (number + 1) loops (text_lines after) new (old ++ outside_lints number before (text_lines rest))
goes_syntax before names number loops word rest this after form old new h some e w pushed are = record {
  more = before;
  are = are;
  same =
      let words = placed_words this in
      let one = fault_at number Syntax (spot_at words word) Nothing ∷ [] in
      ap (λ lines. old ++ outside_lints number before lines) (lines_next rest this after h)
      ∙ ap (λ form. old ++ outside_lints number before (line_with words form ∷ text_lines after)) some
      ∙ ap (λ fs. old ++ fs) (outside-next number before words form (text_lines after) e)
      ∙ ap (λ n. old ++ (fault_at number Syntax (spot_at words n) Nothing ∷ [] ++ outside_lints (number + 1) before (text_lines after))) (sym (w ∙ ap (λ b. syntax_word b form) (sym (same_words this))))
      ∙ sym (append_assoc old one (outside_lints (number + 1) before (text_lines after)))
      ∙ ap (λ fs. fs ++ outside_lints (number + 1) before (text_lines after)) (sym pushed);
}

pub goes_loop : (before : List (List ℕ)) (old new : BTreeSet (Bor (List ℕ))) (number loops next : ℕ) (rest this after left : List ℕ) (form : Form) (name : List ℕ) (first second last : List LintFault)
    → lines_of rest ≡ this ∷ lines_of after → line_form (words_of this) ≡ Some form → form ≡ LoopLine name
    → ((q : List ℕ) → is_among new q ≡ (is_among old q || same_word q name))
    → second ≡ first ++ told number (placed_words this) no_hint (word_of_opening before name) (opening_faults before name)
    → ((names : List (List ℕ)) → second ++ inside_lints (number + 1) names [] (text_lines after) ≡ last ++ outside_lints next names (text_lines left))
    → AreNames before old loops
    → GoesOn new next (loops + 1) (text_lines left) last (first ++ outside_lints number before (text_lines rest))
goes_loop before old new number loops next rest this after left form name first second last h some e more opened block are = record {
  more = before ++ name ∷ [];
  are = names_more before old new name loops more are;
  same =
      let words = placed_words this in
      let opening = told number words no_hint (word_of_opening before name) (opening_faults before name) in
      let inside = inside_lints (number + 1) (before ++ name ∷ []) [] (text_lines after) in
      ap (λ lines. first ++ outside_lints number before lines) (lines_next rest this after h)
      ∙ ap (λ form. first ++ outside_lints number before (line_with words form ∷ text_lines after)) (some ∙ ap Some e)
      ∙ sym (append_assoc first opening inside)
      ∙ ap (λ fs. fs ++ inside) (sym opened)
      ∙ block (before ++ name ∷ []);
}

pub goes_on : (old new : BTreeSet (Bor (List ℕ))) (number loops next more : ℕ) (rest left : List TextLine) (faults last all : List LintFault) → GoesOn old number loops rest faults all
    → ((before : List (List ℕ)) → AreNames before old loops → GoesOn new next more left last (faults ++ outside_lints number before rest))
    → GoesOn new next more left last all
goes_on old new number loops next more rest left faults last all g step =
    let s = step g.more g.are in
    record { more = s.more; are = s.are; same = g.same ∙ s.same }

-- without their words

plain-told : (line : ℕ) (words : List Placed) (hint : LoopFaultKind → ℕ → Hint) (word : LoopFaultKind → ℕ) (kinds : Kinds) → map plain (told line words hint word kinds) ≡ at_line line kinds
plain-told line words hint word [] = refl
plain-told line words hint word (kind ∷ kinds) = ap (λ fs. record { line = line; kind = kind } ∷ fs) (plain-told line words hint word kinds)

plain-both : (line : ℕ) (words : List Placed) (hint : LoopFaultKind → ℕ → Hint) (word : LoopFaultKind → ℕ) (kinds : Kinds) (rest : List LintFault) (others : List LoopFault) → map plain rest ≡ others
    → map plain (told line words hint word kinds ++ rest) ≡ at_line line kinds ++ others
plain-both line words hint word kinds rest others h =
    map-append plain (told line words hint word kinds) rest ∙ ap (λ fs. fs ++ map plain rest) (plain-told line words hint word kinds) ∙ ap (λ fs. at_line line kinds ++ fs) h

record ArePlain (lines : List TextLine) : Type 0 where
  outside : (number : ℕ) (names : List (List ℕ)) → map plain (outside_lints number names lines) ≡ outside_faults number names (forms_in lines)
  inside : (number : ℕ) (names : List (List ℕ)) (before : List Form) → map plain (inside_lints number names before lines) ≡ inside_faults number names before (forms_in lines)

outside-one : (words : List Placed) (form : Form) (lines : List TextLine) → ArePlain lines → (number : ℕ) (names : List (List ℕ))
    → map plain (outside_lints number names (Words words form ∷ lines)) ≡ outside_faults number names (Some form ∷ forms_in lines)
outside-one words (LoopLine name) lines are number names = plain-both number words no_hint (word_of_opening names name) (opening_faults names name) _ _ (are.inside (number + 1) (names ++ name ∷ []) [])
outside-one words (ArrayLine name cells) lines are number names = plain-both number words no_hint (λ kind. syntax_word (bytes_in words) (ArrayLine name cells)) (Syntax ∷ []) _ _ (are.outside (number + 1) names)
outside-one words (ParamLine name value) lines are number names = plain-both number words no_hint (λ kind. syntax_word (bytes_in words) (ParamLine name value)) (Syntax ∷ []) _ _ (are.outside (number + 1) names)
outside-one words (InitLine name n value) lines are number names = plain-both number words no_hint (λ kind. syntax_word (bytes_in words) (InitLine name n value)) (Syntax ∷ []) _ _ (are.outside (number + 1) names)
outside-one words (StatementLine source) lines are number names = plain-both number words no_hint (λ kind. syntax_word (bytes_in words) (StatementLine source)) (Syntax ∷ []) _ _ (are.outside (number + 1) names)
outside-one words (OutLine name) lines are number names = plain-both number words no_hint (λ kind. syntax_word (bytes_in words) (OutLine name)) (Syntax ∷ []) _ _ (are.outside (number + 1) names)
outside-one words EndLine lines are number names = plain-both number words no_hint (λ kind. syntax_word (bytes_in words) EndLine) (Syntax ∷ []) _ _ (are.outside (number + 1) names)
outside-one words Malformed lines are number names = plain-both number words no_hint (λ kind. syntax_word (bytes_in words) Malformed) (Syntax ∷ []) _ _ (are.outside (number + 1) names)

faults-next : (number : ℕ) (names : List (List ℕ)) (before : List Form) (form : Form) (lines : List (Option Form)) → is_end form ≡ false
    → inside_faults number names before (Some form ∷ lines) ≡ at_line number (line_faults before (whole before (Some form ∷ lines)) form) ++ inside_faults (number + 1) names (with_line before form) lines
faults-next number names before (LoopLine name) lines e = refl
faults-next number names before (ArrayLine name cells) lines e = refl
faults-next number names before (ParamLine name value) lines e = refl
faults-next number names before (InitLine name n value) lines e = refl
faults-next number names before (StatementLine source) lines e = refl
faults-next number names before (OutLine name) lines e = refl
faults-next number names before EndLine lines e = absurd (true≢false e)
faults-next number names before Malformed lines e = refl

inside-more : (words : List Placed) (form : Form) (lines : List TextLine) → ArePlain lines → is_end form ≡ false → (number : ℕ) (names : List (List ℕ)) (before : List Form)
    → map plain (inside_lints number names before (Words words form ∷ lines)) ≡ inside_faults number names before (Some form ∷ forms_in lines)
inside-more words form lines are e number names before =
    let block = whole before (Some form ∷ forms_in lines) in
    ap (map plain) (inside-next number names before words form lines e)
    ∙ plain-both number words (hint_of block (bytes_in words)) (word_of_fault before block (bytes_in words) form) (line_faults before block form) _ _ (are.inside (number + 1) names (with_line before form))
    ∙ sym (faults-next number names before form (forms_in lines) e)

inside-one : (words : List Placed) (form : Form) (lines : List TextLine) → ArePlain lines → (number : ℕ) (names : List (List ℕ)) (before : List Form)
    → map plain (inside_lints number names before (Words words form ∷ lines)) ≡ inside_faults number names before (Some form ∷ forms_in lines)
inside-one words (LoopLine name) lines are = inside-more words (LoopLine name) lines are refl
inside-one words (ArrayLine name cells) lines are = inside-more words (ArrayLine name cells) lines are refl
inside-one words (ParamLine name value) lines are = inside-more words (ParamLine name value) lines are refl
inside-one words (InitLine name n value) lines are = inside-more words (InitLine name n value) lines are refl
inside-one words (StatementLine source) lines are = inside-more words (StatementLine source) lines are refl
inside-one words (OutLine name) lines are = inside-more words (OutLine name) lines are refl
inside-one words EndLine lines are = λ number names before.
    plain-both number words (hint_of before (bytes_in words)) (word_of_fault before before (bytes_in words) EndLine) (faults_of before before EndLine) _ _ (are.outside (number + 1) names)
inside-one words Malformed lines are = inside-more words Malformed lines are refl

are-plain : (lines : List TextLine) → ArePlain lines
are-plain [] = record { outside = λ number names. refl; inside = λ number names before. refl }
are-plain (Blank ∷ lines) =
    let are = are-plain lines in
    record { outside = λ number names. are.outside (number + 1) names; inside = λ number names before. are.inside (number + 1) names before }
are-plain (Words words form ∷ lines) =
    let are = are-plain lines in
    record { outside = outside-one words form lines are; inside = inside-one words form lines are }

-- texts

short-lints : (text : List ℕ) → length text ≤ 1048576 → lints_in text ≡ outside_lints 1 [] (text_lines text)
unfolding lints_in
short-lints text h = let no : ltb 1048576 (length text) ≡ false = le-ltb 1048576 (length text) h in rw no refl

short-faults : (text : List ℕ) → length text ≤ 1048576 → faults_in text ≡ outside_faults 1 [] (forms_of text)
unfolding faults_in
short-faults text h = let no : ltb 1048576 (length text) ≡ false = le-ltb 1048576 (length text) h in rw no refl

pub faults_short : (text : List ℕ) (faults : List LintFault) → length text ≤ 1048576 → faults ≡ outside_lints 1 [] (text_lines text) → AreFaults text faults
faults_short text faults h e = record {
  all = ap (map plain) e ∙ (are-plain (text_lines text)).outside 1 [] ∙ ap (outside_faults 1 []) (forms_read text) ∙ sym (short-faults text h);
  words = e ∙ sym (short-lints text h);
}

pub faults_long : (text : List ℕ) (faults : List LintFault) → 1048576 < length text → faults ≡ too_long ∷ [] → AreFaults text faults
unfolding lints_in faults_in
faults_long text faults h e =
    let yes : ltb 1048576 (length text) ≡ true = lt-ltb 1048576 (length text) h in
    record { all = ap (map plain) e ∙ rw yes refl; words = e ∙ rw yes refl }

begins-with : (faults : List LoopFault) (loops : List LoopData) → BeginsAs (first_fault faults loops) faults
begins-with [] loops = refl
begins-with (fault ∷ faults) loops = (faults, refl)

begins-if : (b : Bool) (faults : List LoopFault) (loops : List LoopData)
    → BeginsAs (cond b (Err (record { line = 0; kind = Limit })) (first_fault faults loops)) (cond b (record { line = 0; kind = Limit } ∷ []) faults)
begins-if true faults loops = ([], refl)
begins-if false faults loops = begins-with faults loops

begins_as : (text : List ℕ) → BeginsAs (loops_in text) (faults_in text)
unfolding loops_in faults_in
begins_as text = begins-if (ltb 1048576 (length text)) (outside_faults 1 [] (forms_of text)) (map loop_of (blocks_of (forms_of text)))

pub begins_told : (text : List ℕ) (faults : List LintFault) → AreFaults text faults → BeginsAs (loops_in text) (map plain faults)
begins_told text faults are = let P = λ (fs : List LoopFault). BeginsAs (loops_in text) fs in subst P (sym are.all) (begins_as text)

-- a line that begins no loop
pub no_loop : (form : code.Form) → ((name : Bor (List ℕ)) → form ≡ variants.Loop name → ⊥) → is_loop (form_seen form) ≡ false
no_loop (variants.Loop name) h = absurd (h name refl)
no_loop (variants.Array name cells) h = refl
no_loop (variants.Param name value) h = refl
no_loop (variants.Init name n value) h = refl
no_loop (variants.Statement source) h = refl
no_loop (variants.Out name) h = refl
no_loop variants.End h = refl
no_loop variants.Malformed h = refl
