-- One turn of the check over the lines of a block.
use Rattle.std.proofs.Common.{◌≡◌, ℕ, suc, ℤ, ◌+◌, ◌<◌, Bool, List, [], ◌∷◌, ◌++◌, length, get_or, take, drop, map, Option, Some, None, refl, sym, ◌∙◌, ap, subst, arith, append_assoc, drop-cons}
use Rattle.std.proofs.lemmas.List.{map-append, take-append-drop}
use Rattle.loop_reader.specs.declared.lines.entry.LineEntry.{LineEntry}
use Rattle.reader_faults.specs.declared.loops.LoopFault.{LoopFault}
use Rattle.reader_faults.specs.declared.loops.LoopFaultKind.{LoopFaultKind}
use Rattle.loop_reader.specs.declared.names.index.Counts.{Counts}
use Rattle.loop_lines.specs.Forms.{Form}
use Rattle.loop_reader.specs.Meaning.{how_many, is_array, is_param, is_statement, faults_of, at_line, Kinds}
use Rattle.loop_lines.specs.Parsed.{form_seen}
use Rattle.loop_reader.specs.inner.Blocks.{forms_in, entry_faults}
use Rattle.loop_lines.specs.Near.{IsNearForm}
use Rattle.loop_reader.specs.inner.Checks.{first_in, kinds_at, inits_with, outs_with, IsBlock, IsGiven}
use Rattle.loop_reader.proofs.lookups.Declared.{forms-more}
use Rattle.loop_reader.proofs.faults.Giving.{given-more}
use Rattle.loop_reader.proofs.blocks.BlockStanding.{line-kinds, near-block, all-at}

one-on : (i : ℕ) → suc i ≡ i + 1
one-on i = omega arith

pub cut-at : (lines : List LineEntry) (i : ℕ) (d : LineEntry) → i < length lines → drop i lines ≡ get_or lines i d ∷ drop (i + 1) lines
cut-at lines i d h = drop-cons lines i d h ∙ ap (λ n. get_or lines i d ∷ drop n lines) (one-on i)

split-at : (lines : List LineEntry) (i : ℕ) (d : LineEntry) → i < length lines → lines ≡ take i lines ++ get_or lines i d ∷ drop (i + 1) lines
split-at lines i d h = sym (take-append-drop i lines) ∙ ap (λ xs. take i lines ++ xs) (cut-at lines i d h)

-- the lines of a block after line `i`, which is one of its first `sound` lines
abbrev pub forms_past : List LineEntry → ℕ → List LineEntry → ℕ → List Form
forms_past index sound lines i = forms_in (drop (i + 1) lines) ++ forms_in (drop sound index)

pub block-at : (index lines : List LineEntry) (sound i : ℕ) (d : LineEntry) → lines ≡ take sound index → i < length lines
    → forms_in index ≡ forms_in (take i lines) ++ form_seen (get_or lines i d).form ∷ forms_past index sound lines i
block-at index lines sound i d e h =
    let f : LineEntry → Form = λ x. form_seen x.form in
    let one = get_or lines i d in
    ap (map f) (sym (take-append-drop sound index))
    ∙ map-append f (take sound index) (drop sound index)
    ∙ ap (λ xs. map f xs ++ forms_in (drop sound index)) (sym e)
    ∙ ap (λ xs. xs ++ forms_in (drop sound index)) (ap (map f) (split-at lines i d h) ∙ map-append f (take i lines) (one ∷ drop (i + 1) lines))
    ∙ append_assoc (forms_in (take i lines)) (f one ∷ forms_in (drop (i + 1) lines)) (forms_in (drop sound index))

abbrev kind-at : ℕ → Option LoopFaultKind → Option LoopFault
kind-at line None = None
kind-at line (Some kind) = Some (record { line = line; kind = kind })

first-of : (line : ℕ) (kinds : Kinds) (kind : LoopFaultKind) (rest : List LoopFault) → Some kind ≡ first_in kinds → first_in (at_line line kinds ++ rest) ≡ Some (record { line = line; kind = kind })
first-of line [] kind rest h = cc
first-of line (k ∷ kinds) kind rest h = ap (λ o. kind-at line o) (sym h)

no-kinds : (kinds : Kinds) → None ≡ first_in kinds → kinds ≡ []
no-kinds [] h = refl
no-kinds (k ∷ kinds) h = cc

-- the line's own faults, by look-ups
pub line-fault : (index lines : List LineEntry) (sound i : ℕ) (d : LineEntry) (counts : Counts) (inits : List (Option ℤ)) (outs : List Bool)
    → lines ≡ take sound index → i < length lines → IsBlock (forms_in index)
    → counts.arrays ≡ how_many is_array (forms_in (take i lines)) → counts.params ≡ how_many is_param (forms_in (take i lines)) → counts.statements ≡ how_many is_statement (forms_in (take i lines))
    → IsGiven (forms_in index) (forms_in (take i lines)) inits outs
    → kinds_at (forms_in index) counts inits outs (form_seen (get_or lines i d).form) ≡ faults_of (forms_in (take i lines)) (forms_in index) (form_seen (get_or lines i d).form)
line-fault index lines sound i d counts inits outs e h b ea ep es g =
    line-kinds (forms_in index) (forms_in (take i lines)) (form_seen (get_or lines i d).form) (forms_past index sound lines i) counts inits outs (block-at index lines sound i d e h) b ea ep es g

pub line-near : (index lines : List LineEntry) (sound i : ℕ) (d : LineEntry) → lines ≡ take sound index → i < length lines → IsBlock (forms_in index) → IsNearForm (form_seen (get_or lines i d).form)
line-near index lines sound i d e h b =
    let at = block-at index lines sound i d e h in
    all-at IsNearForm (forms_in (take i lines)) (form_seen (get_or lines i d).form) (forms_past index sound lines i)
    (near-block (forms_in (take i lines) ++ form_seen (get_or lines i d).form ∷ forms_past index sound lines i) (subst IsBlock at b))

faults-at : (block before : List Form) (lines : List LineEntry) (i : ℕ) (d : LineEntry) → i < length lines
    → entry_faults block before (drop i lines) ≡ at_line (get_or lines i d).line (faults_of before block (form_seen (get_or lines i d).form)) ++ entry_faults block (before ++ form_seen (get_or lines i d).form ∷ []) (drop (i + 1) lines)
faults-at block before lines i d h = ap (entry_faults block before) (cut-at lines i d h)

pub turn-faulty : (block before : List Form) (lines : List LineEntry) (i : ℕ) (d : LineEntry) (kinds : Kinds) (kind : LoopFaultKind) → i < length lines
    → kinds ≡ faults_of before block (form_seen (get_or lines i d).form) → Some kind ≡ first_in kinds
    → first_in (entry_faults block before (drop i lines)) ≡ Some (record { line = (get_or lines i d).line; kind = kind })
turn-faulty block before lines i d kinds kind h e f =
    ap first_in (faults-at block before lines i d h)
    ∙ first-of (get_or lines i d).line (faults_of before block (form_seen (get_or lines i d).form)) kind (entry_faults block (before ++ form_seen (get_or lines i d).form ∷ []) (drop (i + 1) lines)) (f ∙ ap first_in e)

pub turn-good : (block : List Form) (lines : List LineEntry) (i : ℕ) (d : LineEntry) (kinds : Kinds) → i < length lines
    → kinds ≡ faults_of (forms_in (take i lines)) block (form_seen (get_or lines i d).form) → None ≡ first_in kinds
    → first_in (entry_faults block (forms_in (take i lines)) (drop i lines)) ≡ first_in (entry_faults block (forms_in (take (i + 1) lines)) (drop (i + 1) lines))
turn-good block lines i d kinds h e f =
    let before = forms_in (take i lines) in
    let form = form_seen (get_or lines i d).form in
    ap first_in (faults-at block before lines i d h)
    ∙ ap (λ k. first_in (at_line (get_or lines i d).line k ++ entry_faults block (before ++ form ∷ []) (drop (i + 1) lines))) (sym e ∙ no-kinds kinds f)
    ∙ ap (λ b. first_in (entry_faults block b (drop (i + 1) lines))) (sym (forms-more lines i d h))

pub turn-given : (block : List Form) (lines : List LineEntry) (i : ℕ) (d : LineEntry) (kinds : Kinds) (inits : List (Option ℤ)) (outs : List Bool) → i < length lines
    → kinds ≡ faults_of (forms_in (take i lines)) block (form_seen (get_or lines i d).form) → None ≡ first_in kinds → IsNearForm (form_seen (get_or lines i d).form)
    → IsGiven block (forms_in (take i lines)) inits outs
    → IsGiven block (forms_in (take (i + 1) lines)) (inits_with block inits (form_seen (get_or lines i d).form)) (outs_with block outs (form_seen (get_or lines i d).form))
turn-given block lines i d kinds inits outs h e f near g =
    subst (λ b. IsGiven block b (inits_with block inits (form_seen (get_or lines i d).form)) (outs_with block outs (form_seen (get_or lines i d).form))) (sym (forms-more lines i d h))
    (given-more block (forms_in (take i lines)) inits outs (form_seen (get_or lines i d).form) g near (sym e ∙ no-kinds kinds f))

pub same-given : (block before : List Form) (inits inits' : List (Option ℤ)) (outs outs' : List Bool) → inits' ≡ inits → outs' ≡ outs → IsGiven block before inits outs → IsGiven block before inits' outs'
same-given block before inits inits' outs outs' e f g = subst (λ is. IsGiven block before is outs') (sym e) (subst (λ os. IsGiven block before inits os) (sym f) g)
