-- The lines of a block without a fault: how many there are of each form, and the names that they declare.
use Rattle.std.proofs.Common.{◌≡◌, ℕ, zero, suc, pos, ◌<◌, List, [], ◌∷◌, ◌++◌, length, map, get_or, Option, Some, None, unwrap_or, refl, sym, ◌∙◌, ap, subst, arith, append_assoc}
use Rattle.std.specs.List.{AllByRecursion, filter_map, cons_option}
use Rattle.std.proofs.lemmas.List.{append-nil}
use Rattle.std.proofs.lemmas.Option.{none-some, same_Some}
use Rattle.loop_reader.specs.declared.lines.entry.LineEntry.{LineEntry}
use Rattle.reader_faults.specs.declared.loops.LoopFault.{LoopFault}
use Rattle.loop_data.specs.declared.language.lists.Array.{Array}
use Rattle.loop_data.specs.declared.language.lists.Param.{Param}
use Rattle.loop_reader.specs.inner.Blocks.{forms_in, entry_faults}
use Rattle.loop_reader.specs.inner.Building.{IsFew, IsNamed, name_in}
use Rattle.loop_reader.specs.inner.Checks.{IsBlock}
use Rattle.loop_lines.specs.Forms.{Form, LoopLine, ArrayLine, ParamLine, InitLine, StatementLine, OutLine, EndLine, Malformed, StatementForm}
use Rattle.loop_data.specs.Loops.{IsName}
use Rattle.loop_reader.specs.Meaning.{how_many, is_array, is_param, is_statement, at_line, faults_of, array_in, param_in, statement_in, Kinds}
use Rattle.loop_lines.specs.Parsed.{form_seen}
use Rattle.loop_reader.proofs.making.Lawful.{IsFaultlessFrom}
use Rattle.loop_reader.proofs.making.Lines.{IsClean, IsArrayAt, IsParamAt, IsStatementAt, arrays-at, params-at, sources-at, numbered-length, array-agrees, param-agrees, source-agrees}
use Rattle.loop_reader.proofs.making.Numbered.{each-length, each-all}
use Rattle.loop_reader.proofs.making.Spelled.{IsSpelled, block-spelled}

-- a block of standing lines without a fault is clean

faultless-at : (block before front : List Form) (form : Form) (after : List Form) → IsFaultlessFrom block before (front ++ form ∷ after) → faults_of (before ++ front) block form ≡ []
faultless-at block before [] form after h = ap (λ b. faults_of b block form) (append-nil before) ∙ h.0
faultless-at block before (f ∷ front) form after h = sym (ap (λ b. faults_of b block form) (append_assoc before (f ∷ []) front)) ∙ faultless-at block (before ++ f ∷ []) front form after h.1

one-of-all : {X : Type 0} (P : X → Type 0) (front : List X) (x : X) (after : List X) → AllByRecursion P (front ++ x ∷ after) → P x
one-of-all P [] x after h = h.0
one-of-all P (y ∷ front) x after h = one-of-all P front x after h.1

clean : (block : List Form) → IsBlock block → IsFaultlessFrom block [] block → IsClean block
clean block is faultless =
    record {
      spelled = λ front form after e. one-of-all IsSpelled front form after (subst (AllByRecursion IsSpelled) e (block-spelled block is));
      faultless = λ front form after e. faultless-at block [] front form after (subst (λ b. IsFaultlessFrom block [] b) e faultless);
    }

-- counts

pub count-arrays : (forms : List Form) → length (filter_map array_in forms) ≡ how_many is_array forms
count-arrays forms = numbered-length is_array array_in array-agrees forms

pub count-params : (forms : List Form) → length (filter_map param_in forms) ≡ how_many is_param forms
count-params forms = numbered-length is_param param_in param-agrees forms

pub count-sources : (forms : List Form) → length (filter_map statement_in forms) ≡ how_many is_statement forms
count-sources forms = numbered-length is_statement statement_in source-agrees forms

pub few : (block : List Form) → IsBlock block → IsFaultlessFrom block [] block → IsFew block
few block is faultless =
    let whole = clean block is faultless in
    let a = each-length (IsArrayAt block) 32 (λ m x h. h.few) 0 (filter_map array_in block) (omega arith) (arrays-at block whole) in
    let p = each-length (IsParamAt block) 64 (λ m x h. h.few) 0 (filter_map param_in block) (omega arith) (params-at block whole) in
    let s = each-length (IsStatementAt block) 128 (λ m x h. h.few) 0 (filter_map statement_in block) (omega arith) (sources-at block whole) in
    let ca = count-arrays block in
    let cp = count-params block in
    let cs = count-sources block in
    record { arrays = omega arith; params = omega arith; statements = omega arith }

-- names

first-picked : {Y : Type 0} (Q : Y → Type 0) (o : Option Y) (ys : List Y) (y : Y) → o ≡ Some y → AllByRecursion Q (cons_option o ys) → Q y
first-picked Q None ys y e h = absurd (none-some y e)
first-picked Q (Some x) ys y e h = subst Q (same_Some x y e) h.0

later-picked : {Y : Type 0} (Q : Y → Type 0) (o : Option Y) (ys : List Y) → AllByRecursion Q (cons_option o ys) → AllByRecursion Q ys
later-picked Q None ys h = h
later-picked Q (Some x) ys h = h.1

-- what holds of all that the lines give holds of what one line gives
picked : {X Y : Type 0} (Q : Y → Type 0) (f : X → Option Y) (before : List X) (x : X) (after : List X) (y : Y) → f x ≡ Some y → AllByRecursion Q (filter_map f (before ++ x ∷ after)) → Q y
picked Q f [] x after y e h = first-picked Q (f x) (filter_map f after) y e h
picked Q f (b ∷ before) x after y e h = picked Q f before x after y e (later-picked Q (f b) (filter_map f (before ++ x ∷ after)) h)

named-if : (o : Option (List ℕ)) → ((name : List ℕ) → o ≡ Some name → IsName name) → IsNamed o
named-if None h = tt
named-if (Some name) h = h name refl

abbrev IsNamedStatement : StatementForm → Type 0
IsNamedStatement s = (name : List ℕ) → s.name ≡ Some name → IsName name

clean-named : (before after : List Form) (form : Form) → IsClean (before ++ form ∷ after) → IsNamed (name_in form)
clean-named before after (ArrayLine name cells) whole =
    let block = before ++ ArrayLine name cells ∷ after in
    let a : Array = record { name = name; cells = map (λ cell. unwrap_or cell (pos 0)) cells } in
    picked (λ (x : Array). IsName x.name) array_in before (ArrayLine name cells) after a refl
    (each-all (IsArrayAt block) (λ (x : Array). IsName x.name) (λ m x h. h.name) 0 (filter_map array_in block) (arrays-at block whole))
clean-named before after (ParamLine name value) whole =
    let block = before ++ ParamLine name value ∷ after in
    let p : Param = record { name = name; value = unwrap_or value (pos 0) } in
    picked (λ (x : Param). IsName x.name) param_in before (ParamLine name value) after p refl
    (each-all (IsParamAt block) (λ (x : Param). IsName x.name) (λ m x h. h.name) 0 (filter_map param_in block) (params-at block whole))
clean-named before after (StatementLine source) whole =
    let block = before ++ StatementLine source ∷ after in
    named-if source.name
    (picked IsNamedStatement statement_in before (StatementLine source) after source refl
    (each-all (IsStatementAt block) IsNamedStatement (λ m s h. h.named) 0 (filter_map statement_in block) (sources-at block whole)))
clean-named before after (LoopLine name) whole = tt
clean-named before after (InitLine name number value) whole = tt
clean-named before after (OutLine name) whole = tt
clean-named before after EndLine whole = tt
clean-named before after Malformed whole = tt

pub named : (before after : List Form) (form : Form) → IsBlock (before ++ form ∷ after) → IsFaultlessFrom (before ++ form ∷ after) [] (before ++ form ∷ after) → IsNamed (name_in form)
named before after form is faultless = clean-named before after form (clean (before ++ form ∷ after) is faultless)

-- the lines of an index

at-none : (line : ℕ) (kinds : Kinds) (rest : List LoopFault) → at_line line kinds ++ rest ≡ [] → (kinds ≡ []) × (rest ≡ [])
at-none line [] rest h = (refl, h)
at-none line (k ∷ ks) rest h = cc

pub faultless-lines : (block before : List Form) (entries : List LineEntry) → entry_faults block before entries ≡ [] → IsFaultlessFrom block before (forms_in entries)
faultless-lines block before [] h = tt
faultless-lines block before (e ∷ es) h =
    let both = at-none e.line (faults_of before block (form_seen e.form)) (entry_faults block (before ++ form_seen e.form ∷ []) es) h in
    (both.0, faultless-lines block (before ++ form_seen e.form ∷ []) es both.1)

split-at : (entries : List LineEntry) (k : ℕ) (d : LineEntry) → k < length entries → (before : List Form) × (after : List Form) × (forms_in entries ≡ before ++ form_seen (get_or entries k d).form ∷ after)
split-at [] k d h = absurd (omega arith)
split-at (e ∷ es) zero d h = ([], forms_in es, refl)
split-at (e ∷ es) (suc k) d h =
    let r = split-at es k d (omega arith) in
    (form_seen e.form ∷ r.0, r.1, ap (λ fs. form_seen e.form ∷ fs) r.2)

-- the name of a line of an index without a fault
pub line-named : (index items : List LineEntry) → IsBlock (forms_in index) → entry_faults (forms_in index) [] index ≡ [] → items ≡ index → (k : ℕ) (d : LineEntry) → k < length items → IsNamed (name_in (form_seen (get_or items k d).form))
line-named index items is faultless e k d h =
    let r = split-at items k d h in
    let same : forms_in index ≡ r.0 ++ form_seen (get_or items k d).form ∷ r.1 = ap (λ es. forms_in es) (sym e) ∙ r.2 in
    named r.0 r.1 (form_seen (get_or items k d).form) (subst IsBlock same is)
    (subst (λ b. IsFaultlessFrom b [] b) same (faultless-lines (forms_in index) [] index faultless))
