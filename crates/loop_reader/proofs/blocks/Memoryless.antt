-- No fault of a line is lack of memory.
use Rattle.std.proofs.Common.{◌≡◌, ℕ, Bool, true, false, List, [], ◌∷◌, ◌++◌, Some, sym, subst}
use Rattle.std.specs.List.{AllByRecursion}
use Rattle.loop_reader.specs.declared.lines.entry.LineEntry.{LineEntry}
use Rattle.reader_faults.specs.declared.loops.LoopFault.{LoopFault}
use Rattle.reader_faults.specs.declared.loops.LoopFaultKind.{LoopFaultKind}
use Rattle.reader_faults.specs.declared.loops.LoopFaultKind.TheVariants.{Syntax, Limit, RepeatedName, UnknownName, UseBeforeDefinition, MissingInit, NoEnd, Memory}
use Rattle.loop_lines.specs.Forms.{Form, LoopLine, ArrayLine, ParamLine, InitLine, StatementLine, OutLine, EndLine, Malformed}
use Rattle.loop_reader.specs.Meaning.{faults_of, when, at_line, Kinds}
use Rattle.loop_lines.specs.Parsed.{form_seen}
use Rattle.loop_reader.specs.inner.Blocks.{entry_faults}
use Rattle.loop_reader.specs.inner.Checks.{first_in}
use Rattle.loop_reader.specs.inner.Texts.{UnlessMemory}

abbrev pub IsKind : LoopFaultKind → Type 0
IsKind Memory = ⊥
IsKind kind = Unit {0}

abbrev AreKinds : Kinds → Type 0
AreKinds kinds = AllByRecursion IsKind kinds

kinds-when : (b : Bool) (kind : LoopFaultKind) → IsKind kind → AreKinds (when b kind)
kinds-when true kind h = (h, tt)
kinds-when false kind h = tt

kinds-join : (xs ys : Kinds) → AreKinds xs → AreKinds ys → AreKinds (xs ++ ys)
kinds-join [] ys h k = k
kinds-join (x ∷ xs) ys h k = (h.0, kinds-join xs ys h.1 k)

kinds-of : (before block : List Form) (form : Form) → AreKinds (faults_of before block form)
kinds-of before block (LoopLine n) = tt
kinds-of before block Malformed = tt
kinds-of before block EndLine = search (kinds-join, kinds-when)
kinds-of before block (ArrayLine n c) = search (kinds-join, kinds-when)
kinds-of before block (ParamLine n v) = search (kinds-join, kinds-when)
kinds-of before block (InitLine n m v) = search (kinds-join, kinds-when)
kinds-of before block (StatementLine s) = search (kinds-join, kinds-when) depth 12
kinds-of before block (OutLine n) = search (kinds-join, kinds-when)

pub unless : (kind : LoopFaultKind) (fault : LoopFault) (P : Type 0) → IsKind kind → P → UnlessMemory kind fault P
unless Memory fault P h p = absurd h
unless Syntax fault P h p = p
unless Limit fault P h p = p
unless RepeatedName fault P h p = p
unless UnknownName fault P h p = p
unless UseBeforeDefinition fault P h p = p
unless MissingInit fault P h p = p
unless NoEnd fault P h p = p

abbrev AreFaults : List LoopFault → Type 0
AreFaults faults = AllByRecursion (λ (f : LoopFault). IsKind f.kind) faults

faults-at : (line : ℕ) (kinds : Kinds) (rest : List LoopFault) → AreKinds kinds → AreFaults rest → AreFaults (at_line line kinds ++ rest)
faults-at line [] rest h k = k
faults-at line (x ∷ kinds) rest h k = (h.0, faults-at line kinds rest h.1 k)

faults-in : (block before : List Form) (entries : List LineEntry) → AreFaults (entry_faults block before entries)
faults-in block before [] = tt
faults-in block before (e ∷ entries) =
    faults-at e.line (faults_of before block (form_seen e.form)) (entry_faults block (before ++ form_seen e.form ∷ []) entries) (kinds-of before block (form_seen e.form)) (faults-in block (before ++ form_seen e.form ∷ []) entries)

fault-same : (a b : LoopFault) → Some a ≡ Some b → a ≡ b
fault-same a b e = cc

first-kind : (faults : List LoopFault) (fault : LoopFault) → AreFaults faults → Some fault ≡ first_in faults → IsKind fault.kind
first-kind [] fault h e = cc
first-kind (f ∷ faults) fault h e = subst (λ (x : LoopFault). IsKind x.kind) (sym (fault-same fault f e)) h.0

pub entry-kind : (block before : List Form) (entries : List LineEntry) (fault : LoopFault) → Some fault ≡ first_in (entry_faults block before entries) → IsKind fault.kind
entry-kind block before entries fault e = first-kind (entry_faults block before entries) fault (faults-in block before entries) e
