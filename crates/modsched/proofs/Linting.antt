-- What is told of texts of which no more is read than shows that they are too long.
use Rattle.std.proofs.Common.{◌≡◌, ◌↔◌, ◌∙◌, ap, refl, subst, sym, ℕ, ◌<◌, Bool, true, false, if◌then◌else◌, List, ◌++◌, Option, None, Some, option_map, flat_map, length, map, take, codes, inl, inr}
use Rattle.std.specs.Prelude.{[], ◌∷◌, Ok, Err}
use Rattle.std.proofs.lemmas.List.{take_all}
use Rattle.std.proofs.lemmas.Bool.{cases_lt, lt-ltb}
use Rattle.machine.specs.MachineText.{machine_of}
use Rattle.reader_faults.specs.declared.machine.MachineFault.TheVariants.{Limit}
use Rattle.machine_lint.specs.Hints.{declared_units}
use Rattle.machine_lint.specs.Lints as machines
use Rattle.machine_lint.specs.Places.{nowhere}
use Rattle.machine_lint.specs.declared.place.MachineLint.{MachineLint}
use Rattle.reader_faults.specs.declared.loops.LoopFaultKind.TheVariants as kinds
use Rattle.loop_lint.specs.Lints.{AreFaults, faults_in, lints_in, too_long}
use Rattle.loop_lint.specs.Lacks.{AreToldOn, MeansLoops, faults_among, lacks_for, lacks_in, merged}
use Rattle.loop_lint.specs.declared.fault.LintFault.{LintFault}
use Rattle.loop_lint.specs.declared.lacks.LoopLint.{LoopLint}
use Rattle.loop_lint.specs.declared.lacks.LoopLint.TheVariants as told_as
use Rattle.machine_data.specs.Machines.{MachineData}
use Rattle.lint_text.specs.Lines.{loop_text, machine_line}
use Rattle.lint_text.specs.Printout.{AreInOrder, AreOfLoops, AreOfMachine, IsSilent, MeansBoth, MeansMachine, text_in, loop_lines, machine_in, machine_lines, machine_read}
use Rattle.lint_text.specs.Document.{document_text, loop_value, loop_values, machine_value, machine_values}
use Rattle.lint_text.specs.declared.printout.LintText.{LintText}
use Rattle.lint_text.specs.declared.printout.Named.{Named}
use Rattle.command_line.specs.declared.command.LintTexts.{LintTexts}
use Rattle.command_line.specs.declared.command.LintTexts.TheVariants as lint
use Rattle.modsched.specs.Devices.{most_read}
use Rattle.modsched.specs.Engine.{AreFine, Ending, IsLintAs, IsNamed, LintBrings, lint_verdict, loops_to_lint, machine_to_lint}
use Rattle.settings.specs.declared.format.Format.{Format}
use Rattle.settings.specs.declared.format.Format.TheVariants as format
use Rattle.exit_status.specs.declared.verdict.Verdict.TheVariants.{Fine, LoopsFaulty, MachineFaulty}
use Rattle.devices.proofs.Lengths.{taken_too_long}
use Rattle.modsched.proofs.Lengths.{loops_in-take, machine_of-take}

told-long : (text : List ℕ) → 1048576 < length text → machines.told_of text ≡ machines.Just (nowhere (Limit (codes "text")) ∷ [])
unfolding machines.told_of
told-long text h = rw (lt-ltb 1048576 (length text) h) refl

faults-long : (text : List ℕ) → 1048576 < length text → faults_in text ≡ record { line = 0; kind = kinds.Limit } ∷ []
unfolding faults_in
faults-long text h = rw (lt-ltb 1048576 (length text) h) refl

lints-long : (text : List ℕ) → 1048576 < length text → lints_in text ≡ too_long ∷ []
unfolding lints_in
lints-long text h = rw (lt-ltb 1048576 (length text) h) refl

-- what is told of a machine's text is told of the whole of it
tells-whole : (text : List ℕ) (lints : List MachineLint) → machines.Tells (take most_read text) (machines.told_of (take most_read text)) lints
    → machines.Tells text (machines.told_of text) lints
tells-whole text lints h = elim (cases_lt most_read (length text)) [
  | inl more ↦
      let long = taken_too_long text more in
      let just : machines.Tells (take most_read text) (machines.Just (nowhere (Limit (codes "text")) ∷ [])) lints =
      subst (λ (t : machines.Told). machines.Tells (take most_read text) t lints) (told-long (take most_read text) long.0) h in
      subst (λ (t : machines.Told). machines.Tells text t lints) (sym (told-long text long.1)) just
  | inr within ↦ subst (λ (t : List ℕ). machines.Tells t (machines.told_of t) lints) (take_all most_read text within) h
]

-- .. and with the units that the whole of it declares
units-long : (text : List ℕ) → 1048576 < length text → declared_units text ≡ []
unfolding declared_units
units-long text h = rw (lt-ltb 1048576 (length text) h) refl

units-whole : (text : List ℕ) → declared_units text ≡ declared_units (take most_read text)
units-whole text = elim (cases_lt most_read (length text)) [
  | inl more ↦ let long = taken_too_long text more in units-long text long.1 ∙ sym (units-long (take most_read text) long.0)
  | inr within ↦ ap declared_units (sym (take_all most_read text within))
]

-- .. of a text of loops
are-whole : (text : List ℕ) (faults : List LintFault) → AreFaults (take most_read text) faults → AreFaults text faults
are-whole text faults h = elim (cases_lt most_read (length text)) [
  | inl more ↦
      let long = taken_too_long text more in record {
        all = h.all ∙ faults-long (take most_read text) long.0 ∙ sym (faults-long text long.1);
        words = h.words ∙ lints-long (take most_read text) long.0 ∙ sym (lints-long text long.1);
      }
  | inr within ↦ subst (λ (t : List ℕ). AreFaults t faults) (take_all most_read text within) h
]

lacks-long : (machine : Option MachineData) (text : List ℕ) → 1048576 < length text → lacks_for machine text ≡ []
unfolding lacks_in
lacks-long None text h = refl
lacks-long (Some machine) text h = rw (lt-ltb 1048576 (length text) h) refl

lacks-whole : (machine : Option MachineData) (text : List ℕ) → lacks_for machine (take most_read text) ≡ lacks_for machine text
lacks-whole machine text = elim (cases_lt most_read (length text)) [
  | inl more ↦ let long = taken_too_long text more in lacks-long machine (take most_read text) long.0 ∙ sym (lacks-long machine text long.1)
  | inr within ↦ ap (lacks_for machine) (take_all most_read text within)
]

told-whole : (machine : Option MachineData) (text : List ℕ) (lints : List LoopLint) → AreToldOn machine (take most_read text) lints → AreToldOn machine text lints
told-whole machine text lints h = record {
  faults = are-whole text (faults_among lints) h.faults;
  first = rw (loops_in-take text) at h.first;
  all = h.all ∙ ap (merged (faults_among lints)) (lacks-whole machine text);
}

-- of a text that is too long just that is told
only-long : (machine : Option MachineData) (text : List ℕ) (lints : List LoopLint) → most_read < length text → AreToldOn machine (take most_read text) lints → lints ≡ told_as.Fault too_long ∷ []
only-long machine text lints more h =
    let long = (taken_too_long text more).0 in
    h.all ∙ ap (λ (fs : List LintFault). merged fs (lacks_for machine (take most_read text))) (h.faults.words ∙ lints-long (take most_read text) long)
    ∙ ap (merged (too_long ∷ [])) (lacks-long machine (take most_read text) long)

-- no word is shown of a text that is too long
shows-none : (path text other : List ℕ) (lints : List LoopLint) → lints ≡ told_as.Fault too_long ∷ [] → loop_text path text lints ≡ loop_text path other lints
shows-none path text other lints is = rw is refl

shows-whole : (machine : Option MachineData) (path text : List ℕ) (lints : List LoopLint) → AreToldOn machine (take most_read text) lints → loop_text path text lints ≡ loop_text path (take most_read text) lints
shows-whole machine path text lints h = elim (cases_lt most_read (length text)) [
  | inl more ↦ shows-none path text (take most_read text) lints (only-long machine text lints more h)
  | inr within ↦ ap (λ (t : List ℕ). loop_text path t lints) (sym (take_all most_read text within))
]

-- .. as values of a document
values-none : (path text other : List ℕ) (lints : List LoopLint) → lints ≡ told_as.Fault too_long ∷ [] → map (loop_value path text) lints ≡ map (loop_value path other) lints
values-none path text other lints is = rw is refl

values-whole : (machine : Option MachineData) (path text : List ℕ) (lints : List LoopLint) → AreToldOn machine (take most_read text) lints → map (loop_value path text) lints ≡ map (loop_value path (take most_read text)) lints
values-whole machine path text lints h = elim (cases_lt most_read (length text)) [
  | inl more ↦ values-none path text (take most_read text) lints (only-long machine text lints more h)
  | inr within ↦ ap (λ (t : List ℕ). map (loop_value path t) lints) (sym (take_all most_read text within))
]

-- the same path with the whole text
abbrev whole : List ℕ → Named → Named
whole text named = record named { text = record named.text { now = text } }

-- the same is shown of two machine texts with these faults, and of two texts of loops
abbrev SameMachine : Option Named → Option Named → List MachineLint → Type 0
SameMachine other named lints = (machine_lines other lints ≡ machine_lines named lints) × (machine_values other lints ≡ machine_values named lints)

abbrev SameLoops : Option Named → Option Named → List LoopLint → Type 0
SameLoops other named faults = (loop_lines other faults ≡ loop_lines named faults) × (loop_values other faults ≡ loop_values named faults)

-- a text that was given, read as far as it is
record MachineWhole (path text : List ℕ) (named : Option Named) (lints : List MachineLint) : Type 0 where
  other : Option Named
  is_named : IsNamed (Some (path, text)) other
  are : AreOfMachine other lints
  same : SameMachine other named lints
  read : machine_in other ≡ machine_in named

machine-whole : (path text : List ℕ) (named : Option Named) (lints : List MachineLint) → IsNamed (Some (path, take most_read text)) named → AreOfMachine named lints
    → MachineWhole path text named lints
machine-whole path text None lints is are = absurd (cc)
machine-whole path text (Some named) lints is are =
    let pair : (named.path.now, named.text.now) ≡ (path, take most_read text) = cc in
    let its_path : named.path.now ≡ path = ap (λ (p : List ℕ × List ℕ). p.0) pair in
    let its_text : named.text.now ≡ take most_read text = ap (λ (p : List ℕ × List ℕ). p.1) pair in
    let units : declared_units text ≡ declared_units named.text.now = units-whole text ∙ ap declared_units (sym its_text) in record {
      other = Some (whole text named);
      is_named = ap (λ (p : List ℕ). Some (p, text)) its_path;
      are = (
        tells-whole text lints (subst (λ (t : List ℕ). machines.Tells t (machines.told_of t) lints) its_text are.0),
        rw (its_text, machine_of-take text) at are.1,
      );
      same = (
        ap (λ (us : List (List ℕ)). flat_map (machine_line named.path.now us) lints) units,
        ap (λ (us : List (List ℕ)). map (machine_value named.path.now us) lints) units,
      );
      read = ap machine_read (sym (ap machine_of its_text ∙ machine_of-take text));
    }

-- the same is told of loops on another text of the same machine
on-same : (machine other loops : Option Named) (faults : List LoopLint) → machine_in other ≡ machine_in machine → AreOfLoops machine loops faults → AreOfLoops other loops faults
on-same machine other None faults same are = are
on-same machine other (Some named) faults same are = subst (λ (m : Option MachineData). AreToldOn m named.text.now faults) (sym same) are

record LoopsWhole (machine : Option Named) (path text : List ℕ) (named : Option Named) (faults : List LoopLint) : Type 0 where
  other : Option Named
  is_named : IsNamed (Some (path, text)) other
  are : AreOfLoops machine other faults
  same : SameLoops other named faults

loops-whole : (machine : Option Named) (path text : List ℕ) (named : Option Named) (faults : List LoopLint) → IsNamed (Some (path, take most_read text)) named → AreOfLoops machine named faults
    → LoopsWhole machine path text named faults
loops-whole machine path text None faults is are = absurd (cc)
loops-whole machine path text (Some named) faults is are =
    let pair : (named.path.now, named.text.now) ≡ (path, take most_read text) = cc in
    let its_path : named.path.now ≡ path = ap (λ (p : List ℕ × List ℕ). p.0) pair in
    let its_text : named.text.now ≡ take most_read text = ap (λ (p : List ℕ × List ℕ). p.1) pair in
    let taken : AreToldOn (machine_in machine) (take most_read text) faults = subst (λ (t : List ℕ). AreToldOn (machine_in machine) t faults) its_text are in record {
      other = Some (whole text named);
      is_named = ap (λ (p : List ℕ). Some (p, text)) its_path;
      are = told-whole (machine_in machine) text faults taken;
      same = (
        shows-whole (machine_in machine) named.path.now text faults taken ∙ ap (λ (t : List ℕ). loop_text named.path.now t faults) (sym its_text),
        values-whole (machine_in machine) named.path.now text faults taken ∙ ap (λ (t : List ℕ). map (loop_value named.path.now t) faults) (sym its_text),
      );
    }

-- what is shown of texts in a format has faults, and so is shown of other texts with these
record Retells (format : Format) (machine loops : Option Named) (printed : LintText) : Type 0 where
  lints : List MachineLint
  faults : List LoopLint
  of_machine : AreOfMachine machine lints
  of_loops : AreOfLoops machine loops faults
  again : (other_machine other_loops : Option Named) → AreOfMachine other_machine lints → SameMachine other_machine machine lints
      → AreOfLoops other_machine other_loops faults → SameLoops other_loops loops faults → IsLintAs format other_machine other_loops printed

retells : (format : Format) (machine loops : Option Named) (printed : LintText) → IsLintAs format machine loops printed → Retells format machine loops printed
retells format.Text machine loops printed h = record {
  lints = h.lints;
  faults = h.faults;
  of_machine = h.of_machine;
  of_loops = h.of_loops;
  again = λ other_machine other_loops are_lints same_machine are_faults same_loops. record {
    lints = h.lints;
    faults = h.faults;
    of_machine = are_lints;
    of_loops = are_faults;
    text = h.text ∙ ap (λ (t : List ℕ). t ++ loop_lines loops h.faults) (sym same_machine.0) ∙ ap (λ (t : List ℕ). machine_lines other_machine h.lints ++ t) (sym same_loops.0);
    machine_faults = h.machine_faults;
    loop_faults = h.loop_faults;
  };
}
retells format.Json machine loops printed h = record {
  lints = h.lints;
  faults = h.faults;
  of_machine = h.of_machine;
  of_loops = h.of_loops;
  again = λ other_machine other_loops are_lints same_machine are_faults same_loops. record {
    lints = h.lints;
    faults = h.faults;
    of_machine = are_lints;
    of_loops = are_faults;
    text = h.text ∙ ap (λ vs. document_text (vs ++ loop_values loops h.faults)) (sym same_machine.1)
        ∙ ap (λ vs. document_text (machine_values other_machine h.lints ++ vs)) (sym same_loops.1);
    machine_faults = h.machine_faults;
    loop_faults = h.loop_faults;
  };
}

-- nothing is told just where it is well
fine-none : (printed : LintText) → (lint_verdict printed ≡ Fine) ↔ ((printed.machine_faults ≡ false) × (printed.loop_faults ≡ false))
fine-none printed = at printed.machine_faults printed.loop_faults
  where
    at : (machines loops : Bool) → ((if machines then MachineFaulty else if loops then LoopsFaulty else Fine) ≡ Fine) ↔ ((machines ≡ false) × (loops ≡ false))
    at true loops = (λ h. absurd (cc), λ h. absurd (cc))
    at false true = (λ h. absurd (cc), λ h. absurd (cc))
    at false false = (λ h. (refl, refl), λ h. refl)

text-named : (wanted : Option (List ℕ × List ℕ)) (named : Option Named) → IsNamed wanted named → text_in named ≡ option_map (λ (t : List ℕ × List ℕ). t.1) wanted
text-named wanted None is = ap (option_map (λ (t : List ℕ × List ℕ). t.1)) is
text-named wanted (Some named) is = ap (option_map (λ (t : List ℕ × List ℕ). t.1)) is

pub fine_told : (texts : LintTexts) (first last : List ℕ) (machine loops : Option Named) (printed : LintText)
    → IsNamed (machine_to_lint texts first last) machine → IsNamed (loops_to_lint texts last) loops → IsSilent machine loops printed
    → (lint_verdict printed ≡ Fine) ↔ AreFine texts first last
fine_told texts first last machine loops printed is_machine is_loops silent =
    let order : AreInOrder (text_in machine) (text_in loops) ≡ AreFine texts first last = rw (text-named _ machine is_machine, text-named _ loops is_loops) refl in (
      λ fine. subst (λ (T : Type 0). T) order (silent.0 ((fine-none printed).0 fine)),
      λ are. (fine-none printed).1 (silent.1 (subst (λ (T : Type 0). T) (sym order) are)),
    )

-- texts are in order just where what is read of them is
machine-order : (text : List ℕ) → MeansMachine (take most_read text) ↔ MeansMachine text
machine-order text = (
  λ (m : MeansMachine (take most_read text)). record { meant = m.meant; machine_read = sym (machine_of-take text) ∙ m.machine_read },
  λ (m : MeansMachine text). record { meant = m.meant; machine_read = machine_of-take text ∙ m.machine_read },
)

loops-order : (text : List ℕ) → MeansLoops (take most_read text) ↔ MeansLoops text
loops-order text = (
  λ (m : MeansLoops (take most_read text)). record { loops = m.loops; read = sym (loops_in-take text) ∙ m.read },
  λ (m : MeansLoops text). record { loops = m.loops; read = loops_in-take text ∙ m.read },
)

both-order : (first last : List ℕ) → MeansBoth (take most_read first) (take most_read last) ↔ MeansBoth first last
both-order first last = (
  λ (m : MeansBoth (take most_read first) (take most_read last)). record {
    meant = m.meant;
    machine_read = sym (machine_of-take first) ∙ m.machine_read;
    tables = record { loops = m.tables.loops; read = sym (loops_in-take last) ∙ m.tables.read; tables = m.tables.tables };
  },
  λ (m : MeansBoth first last). record {
    meant = m.meant;
    machine_read = machine_of-take first ∙ m.machine_read;
    tables = record { loops = m.tables.loops; read = loops_in-take last ∙ m.tables.read; tables = m.tables.tables };
  },
)

-- what was read of texts brings about what the whole texts do
pub lint-take : (format : Format) (texts : LintTexts) (first last : List ℕ) (ending : Ending) → LintBrings format texts (take most_read first) (take most_read last) ending
    → LintBrings format texts first last ending
lint-take format texts first last (Err status) h = h
lint-take format (lint.Machine path) first last (Ok answer) h =
    let told = retells format h.machine h.loops h.printed h.is_text in
    let machine = machine-whole _ last h.machine told.lints h.is_machine told.of_machine in record {
      machine = machine.other;
      loops = h.loops;
      printed = h.printed;
      is_machine = machine.is_named;
      is_loops = h.is_loops;
      is_text = told.again machine.other h.loops machine.are machine.same (on-same h.machine machine.other h.loops told.faults machine.read told.of_loops) (refl, refl);
      is_answer = h.is_answer;
      fine = (λ f. (machine-order last).0 (h.fine.0 f), λ o. h.fine.1 ((machine-order last).1 o));
    }
lint-take format (lint.Loops path) first last (Ok answer) h =
    let told = retells format h.machine h.loops h.printed h.is_text in
    let loops = loops-whole h.machine _ last h.loops told.faults h.is_loops told.of_loops in record {
      machine = h.machine;
      loops = loops.other;
      printed = h.printed;
      is_machine = h.is_machine;
      is_loops = loops.is_named;
      is_text = told.again h.machine loops.other told.of_machine (refl, refl) loops.are loops.same;
      is_answer = h.is_answer;
      fine = (λ f. (loops-order last).0 (h.fine.0 f), λ o. h.fine.1 ((loops-order last).1 o));
    }
lint-take format (lint.Both machine_path loops_path) first last (Ok answer) h =
    let told = retells format h.machine h.loops h.printed h.is_text in
    let machine = machine-whole _ first h.machine told.lints h.is_machine told.of_machine in
    let loops = loops-whole machine.other _ last h.loops told.faults h.is_loops (on-same h.machine machine.other h.loops told.faults machine.read told.of_loops) in record {
      machine = machine.other;
      loops = loops.other;
      printed = h.printed;
      is_machine = machine.is_named;
      is_loops = loops.is_named;
      is_text = told.again machine.other loops.other machine.are machine.same loops.are loops.same;
      is_answer = h.is_answer;
      fine = (λ f. (both-order first last).0 (h.fine.0 f), λ o. h.fine.1 ((both-order first last).1 o));
    }
