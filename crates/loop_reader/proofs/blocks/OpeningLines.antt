-- The lines outside the blocks of a text.
use Rattle.std.proofs.Common.{◌≡◌, ℕ, ◌+◌, ◌<◌, ◌≤◌, ◌||◌, true, false, nat_lt, nat_le, if◌then◌else◌, List, [], ◌∷◌, ◌++◌, length, map, Option, Some, None, Result, Ok, Err, refl, sym, ◌∙◌, ap, subst, arith, append_assoc}
use Rattle.std.specs.Borrow.{Bor}
use Rattle.std.specs.List.{list_any}
use Rattle.std.proofs.lemmas.Bool.Decides.{nat_tests}
use Rattle.std.proofs.lemmas.List.{append-nil, map-append}
use Rattle.machine_data.specs.Opcodes.{same_word}
use Rattle.reader_faults.specs.declared.loops.LoopFault.{LoopFault}
use Rattle.reader_faults.specs.declared.loops.LoopFaultKind.{LoopFaultKind}
use Rattle.reader_faults.specs.declared.loops.LoopFaultKind.TheVariants.{Syntax, Limit, RepeatedName, UnknownName, UseBeforeDefinition, MissingInit, NoEnd, Memory}
use Rattle.loop_lines.specs.declared.form.Form as code
use Rattle.loop_lines.specs.declared.form.Form.TheVariants as variants
use Rattle.loop_lines.specs.Forms.{Form, LoopLine}
use Rattle.loop_data.specs.Names.{is_name}
use Rattle.loop_data.specs.Loops.{LoopData}
use Rattle.loop_reader.specs.Meaning.{outside_faults, inside_faults, blocks_of, blocks_from, forms_of, loop_of, loops_in, first_fault, opening_faults, is_long, when, at_line, seen}
use Rattle.loop_lines.specs.Parsed.{form_seen}
use Rattle.loop_lines.specs.Near.{IsNearForm}
use Rattle.reader_faults.specs.LoopFaults.{AnswersFault, LoopsAnswer, line_at}
use Rattle.loop_reader.specs.inner.Checks.{first_in}
use Rattle.loop_reader.specs.inner.Texts.{UnlessMemory, UnlessMemoryKind, AnswersText}
use Rattle.std.specs.Prelude.{Vec}
use Rattle.std.specs.Global.{Global}
use Rattle.std.specs.Result.{IsErrAnd}
use Rattle.loop_reader.proofs.faults.Giving.{none-front, when-false, or-false-left, or-false-right}
use Rattle.loop_reader.proofs.blocks.Blocking.{first-end}
use Rattle.loop_reader.proofs.blocks.BlockStanding.{Holds}

at-most : (n : ℕ) → nat_lt 16 n ≡ false → n ≤ 16
at-most n h = grind (arith, nat_tests)

pub short-name : (names : List (List ℕ)) (name : List ℕ) → opening_faults names name ≡ [] → length name ≤ 16
short-name names name h =
    let a = none-front (when (is_long name || nat_le 1024 (length names)) Limit) (when (list_any (same_word name) names) RepeatedName) h in
    at-most (length name) (or-false-left (is_long name) (nat_le 1024 (length names)) (when-false (is_long name || nat_le 1024 (length names)) Limit a.0))

-- the name of a line that opens a block
pub named : (name : List ℕ) (words : List (List ℕ)) (form : Option Form) → form ≡ Some (LoopLine name) → Holds IsNearForm form → is_name name ≡ true
named name words form e h = subst (Holds IsNearForm) e h

fits : (n : ℕ) → n ≤ 1048576 → nat_lt 1048576 n ≡ false
fits n h = grind (arith, nat_tests)

fault-same : (a b : LoopFault) → Some a ≡ Some b → a ≡ b
fault-same a b e = cc

refused-by : (faults : List LoopFault) (loops : List LoopData) (fault : LoopFault) → first_in faults ≡ Some fault → first_fault faults loops ≡ Err fault
refused-by [] loops fault h = cc
refused-by (f ∷ faults) loops fault h = ap Err (fault-same f fault h)

-- a text with a fault
pub refused : (text : List ℕ) (fault : LoopFault) → length text ≤ 1048576 → first_in (outside_faults 1 [] (forms_of text)) ≡ Some fault → Err fault ≡ loops_in text
unfolding loops_in
refused text fault small h =
    sym (ap (λ b. if b then Err (record { line = 0; kind = Limit }) else first_fault (outside_faults 1 [] (forms_of text)) (map loop_of (blocks_of (forms_of text)))) (fits (length text) small)
    ∙ refused-by (outside_faults 1 [] (forms_of text)) (map loop_of (blocks_of (forms_of text))) fault h)

pub accepted : (text : List ℕ) (loops : List LoopData) → length text ≤ 1048576 → outside_faults 1 [] (forms_of text) ≡ [] → map loop_of (blocks_of (forms_of text)) ≡ loops → Ok loops ≡ loops_in text
unfolding loops_in
accepted text loops small h e =
    sym (ap (λ b. if b then Err (record { line = 0; kind = Limit }) else first_fault (outside_faults 1 [] (forms_of text)) (map loop_of (blocks_of (forms_of text)))) (fits (length text) small)
    ∙ ap (λ fs. first_fault fs (map loop_of (blocks_of (forms_of text)))) h ∙ ap Ok e)

exceeds : (n : ℕ) → 1048576 < n → nat_lt 1048576 n ≡ true
exceeds n h = grind (arith, nat_tests)

pub too-long : (text : List ℕ) → 1048576 < length text → Err (record { line = 0; kind = Limit }) ≡ loops_in text
unfolding loops_in
too-long text h = sym (ap (λ b. if b then Err (record { line = 0; kind = Limit }) else first_fault (outside_faults 1 [] (forms_of text)) (map loop_of (blocks_of (forms_of text)))) (exceeds (length text) h))

-- a fault that is answered
pub answer : (kind : LoopFaultKind) (fault : LoopFault) (P : Type 0) (meaning : Result (List LoopData) LoopFault) → (P → Err fault ≡ meaning) → UnlessMemory kind fault P → AnswersFault kind fault meaning
answer Memory fault P meaning f h = h
answer Syntax fault P meaning f h = f h
answer Limit fault P meaning f h = f h
answer RepeatedName fault P meaning f h = f h
answer UnknownName fault P meaning f h = f h
answer UseBeforeDefinition fault P meaning f h = f h
answer MissingInit fault P meaning f h = f h
answer NoEnd fault P meaning f h = f h

-- a fault of a line that opens a block
pub answer-opening : (kind : LoopFaultKind) (line : ℕ) (P : Type 0) (meaning : Result (List LoopData) LoopFault) → (P → Err (record { line = line; kind = kind }) ≡ meaning) → UnlessMemoryKind kind P
    → AnswersFault kind (record { line = line_at kind line; kind = kind }) meaning
answer-opening Memory line P meaning f h = refl
answer-opening Syntax line P meaning f h = f h
answer-opening Limit line P meaning f h = f h
answer-opening RepeatedName line P meaning f h = f h
answer-opening UnknownName line P meaning f h = f h
answer-opening UseBeforeDefinition line P meaning f h = f h
answer-opening MissingInit line P meaning f h = f h
answer-opening NoEnd line P meaning f h = f h

-- a line that opens no block
pub other-outside : (line : ℕ) (names : List (List ℕ)) (form : code.Form) (lines : List (Option Form)) → ((name : Bor (List ℕ)) → form ≡ variants.Loop name → ⊥)
    → first_in (outside_faults line names (Some (form_seen form) ∷ lines)) ≡ Some (record { line = line; kind = Syntax })
other-outside line names (variants.Loop n) lines h = absurd (h n refl)
other-outside line names (variants.Array n r) lines h = refl
other-outside line names (variants.Param n v) lines h = refl
other-outside line names (variants.Init n m v) lines h = refl
other-outside line names (variants.Statement s) lines h = refl
other-outside line names (variants.Out n) lines h = refl
other-outside line names variants.End lines h = refl
other-outside line names variants.Malformed lines h = refl

-- what is read so far: the lines from this number on are left
pub record Reads (text : List ℕ) (names : List (List ℕ)) (found : List LoopData) (line : ℕ) (left : List (Option Form)) : Type 0 where
  pub faults : outside_faults 1 [] (forms_of text) ≡ outside_faults line names left
  pub loops : map loop_of (blocks_of (forms_of text)) ≡ found ++ map loop_of (blocks_of left)

pub reads-start : (text : List ℕ) → Reads text [] [] 1 (forms_of text)
reads-start text = record { faults = refl; loops = refl }

pub reads-as : (text : List ℕ) (names : List (List ℕ)) (loops : List LoopData) (line : ℕ) (left other : List (Option Form)) → left ≡ other → Reads text names loops line left → Reads text names loops line other
reads-as text names loops line left other e r = subst (Reads text names loops line) e r

pub reads-blank : (text : List ℕ) (names : List (List ℕ)) (loops : List LoopData) (line : ℕ) (left : List (Option Form)) → Reads text names loops line (None ∷ left) → Reads text names loops (line + 1) left
reads-blank text names loops line left r = record { faults = r.faults; loops = r.loops }

-- a block is read
pub reads-block : (text : List ℕ) (names : List (List ℕ)) (loops : List LoopData) (line next : ℕ) (name : List ℕ) (block : List Form) (left after : List (Option Form)) → Reads text names loops line (Some (LoopLine name) ∷ left)
    → opening_faults names name ≡ [] → inside_faults (line + 1) (names ++ name ∷ []) [] left ≡ outside_faults next (names ++ name ∷ []) after → blocks_from name [] left ≡ (name, block) ∷ blocks_of after
    → Reads text (names ++ name ∷ []) (loops ++ loop_of (name, block) ∷ []) next after
reads-block text names loops line next name block left after r clean inside blocks = record {
  faults = r.faults ∙ ap (λ k. at_line line k ++ inside_faults (line + 1) (names ++ name ∷ []) [] left) clean ∙ inside;
  loops = r.loops ∙ ap (λ bs. loops ++ map loop_of bs) blocks ∙ sym (append_assoc loops (loop_of (name, block) ∷ []) (map loop_of (blocks_of after)));
}

pub reads-all : (text : List ℕ) (names : List (List ℕ)) (loops : List LoopData) (line : ℕ) → length text ≤ 1048576 → Reads text names loops line [] → Ok loops ≡ loops_in text
reads-all text names loops line small r = accepted text loops small r.faults (r.loops ∙ append-nil loops)

pub reads-other : (text : List ℕ) (names : List (List ℕ)) (loops : List LoopData) (line : ℕ) (form : code.Form) (left : List (Option Form)) → length text ≤ 1048576 → Reads text names loops line (Some (form_seen form) ∷ left)
    → ((name : Bor (List ℕ)) → form ≡ variants.Loop name → ⊥) → Err (record { line = line; kind = Syntax }) ≡ loops_in text
reads-other text names loops line form left small r h = refused text _ small (ap first_in r.faults ∙ other-outside line names form left h)

pub reads-opening : (text : List ℕ) (names : List (List ℕ)) (loops : List LoopData) (line : ℕ) (name : List ℕ) (kind : LoopFaultKind) (left : List (Option Form)) → length text ≤ 1048576 → Reads text names loops line (Some (LoopLine name) ∷ left)
    → first_in (opening_faults names name) ≡ Some kind → Err (record { line = line; kind = kind }) ≡ loops_in text
reads-opening text names loops line name kind left small r h =
    refused text _ small (ap first_in r.faults ∙ first-end line (opening_faults names name) kind (inside_faults (line + 1) (names ++ name ∷ []) [] left) (sym h))

pub reads-inside : (text : List ℕ) (names : List (List ℕ)) (loops : List LoopData) (line : ℕ) (name : List ℕ) (fault : LoopFault) (left : List (Option Form)) → length text ≤ 1048576 → Reads text names loops line (Some (LoopLine name) ∷ left)
    → opening_faults names name ≡ [] → first_in (inside_faults (line + 1) (names ++ name ∷ []) [] left) ≡ Some fault → Err fault ≡ loops_in text
reads-inside text names loops line name fault left small r clean h =
    refused text fault small (ap first_in (r.faults ∙ ap (λ k. at_line line k ++ inside_faults (line + 1) (names ++ name ∷ []) [] left) clean) ∙ h)

pub name-of-loop : (name : List ℕ) (block : List Form) → (loop_of (name, block)).name ≡ name
unfolding loop_of
name-of-loop name block = refl

-- a loop more, with its name
pub names-with : (loops more : List LoopData) (loop : LoopData) (name : List ℕ) → more ≡ loops ++ loop ∷ [] → loop.name ≡ name → map (λ (x : LoopData). x.name) more ≡ map (λ (x : LoopData). x.name) loops ++ name ∷ []
names-with loops more loop name e n =
    ap (map (λ (x : LoopData). x.name)) e ∙ map-append (λ (x : LoopData). x.name) loops (loop ∷ []) ∙ ap (λ k. map (λ (x : LoopData). x.name) loops ++ k ∷ []) n

below-limit : (n : ℕ) → nat_le 1024 n ≡ false → n < 1024
below-limit n h = grind (arith, nat_tests)

pub few-loops : (names : List (List ℕ)) (name : List ℕ) → opening_faults names name ≡ [] → length names < 1024
few-loops names name h =
    let a = none-front (when (is_long name || nat_le 1024 (length names)) Limit) (when (list_any (same_word name) names) RepeatedName) h in
    below-limit (length names) (or-false-right (is_long name) (nat_le 1024 (length names)) (when-false (is_long name || nat_le 1024 (length names)) Limit a.0))

-- a fault that is handed on
pub handed-on : (r : Result (Vec LoopData Global) LoopFault) (fault : LoopFault) (meaning : Result (List LoopData) LoopFault) → IsErrAnd r (λ e. e ≡ fault) → AnswersFault fault.kind fault meaning → LoopsAnswer (seen r) meaning
handed-on (Ok loops) fault meaning h a = absurd h
handed-on (Err e) fault meaning h a = subst (λ (x : LoopFault). AnswersFault x.kind x meaning) (sym h) a

pub handed-up : (text : List ℕ) (loops : List LoopData) (r : Result (Unit {0}) LoopFault) (fault : LoopFault) → IsErrAnd r (λ e. e ≡ fault) → AnswersFault fault.kind fault (loops_in text) → AnswersText text loops r
handed-up text loops (Ok done) fault h a = absurd h
handed-up text loops (Err e) fault h a = subst (λ (x : LoopFault). AnswersFault x.kind x (loops_in text)) (sym h) a
