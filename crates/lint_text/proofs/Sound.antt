-- The machine that a text without faults means, and when nothing is told.
use Rattle.std.proofs.Common.{◌≡◌, ◌↔◌, ℕ, ◌<◌, true, false, List, [], ◌∷◌, length, map, Option, Some, None, Result, Ok, Err, refl, sym, ◌∙◌, ap, subst, arith, ltb}
use Rattle.std.proofs.lemmas.Bool.{true≢false}
use Rattle.machine.specs.MachineText.{machine_of}
use Rattle.reader_faults.specs.declared.machine.MachineFault.{MachineFault}
use Rattle.machine_data.specs.Machines.{MachineData}
use Rattle.machine_lint.specs.Lints as machines
use Rattle.machine_lint.specs.declared.place.MachineLint.{MachineLint}
use Rattle.loop_lint.specs.Lacks.{HasTables, SilentWith}
use Rattle.loop_lint.specs.declared.lacks.LoopLint.{LoopLint}
use Rattle.lint_text.specs.Printout.{AreOfLoops, AreOfMachine, IsSilent, MeansBoth, MeansMachine, SilentOn, machine_in, machine_read}
use Rattle.lint_text.specs.declared.printout.LintText.{LintText}
use Rattle.lint_text.specs.declared.printout.Named.{Named}

none-some : {A : Type 0} (x : A) (xs : List A) → ltb 0 (length (x ∷ xs)) ≡ true
none-some x xs = grind arith

no-read : (meaning : Result MachineData MachineFault) (lint : MachineLint) (lints : List MachineLint)
    → machines.BeginsAs meaning (map (λ (lint : MachineLint). lint.fault) (lint ∷ lints)) → machine_read meaning ≡ None
no-read (Ok machine) lint lints h = absurd (cc)
no-read (Err fault) lint lints h = refl

pub faulty_none : (named : Named) (lints : List MachineLint) → AreOfMachine (Some named) lints → 0 < length lints → None ≡ machine_in (Some named)
faulty_none named [] are some = absurd (omega arith)
faulty_none named (lint ∷ lints) are some = sym (no-read (machine_of named.text.now) lint lints are.1)

pub sound_some : (named : Named) (machine : MachineData) → Ok machine ≡ machine_of named.text.now → Some machine ≡ machine_in (Some named)
sound_some named machine is = ap machine_read is

-- when nothing is told

none-list : {A : Type 0} (xs : List A) → ltb 0 (length xs) ≡ false → xs ≡ []
none-list [] h = refl
none-list (x ∷ xs) h = absurd (true≢false (sym (none-some x xs) ∙ h))

none-flag : {A : Type 0} (xs : List A) → xs ≡ [] → ltb 0 (length xs) ≡ false
none-flag xs h = ap (λ l. ltb 0 (length l)) h

map-nil : (lints : List MachineLint) → map (λ (lint : MachineLint). lint.fault) lints ≡ [] → lints ≡ []
map-nil [] h = refl
map-nil (lint ∷ lints) h = absurd (cc)

some-told : (fault : MachineFault) (lints : List MachineLint) → machines.BeginsAs (Err fault) (map (λ (lint : MachineLint). lint.fault) lints) → lints ≡ [] → ⊥
some-told fault [] begins h = cc
some-told fault (lint ∷ lints) begins h = cc

silent-machine : (machine : List ℕ) (meaning : Result MachineData MachineFault) (lints : List MachineLint) (faults : List LoopLint) (printed : LintText) → machine_of machine ≡ meaning
    → machines.BeginsAs meaning (map (λ (lint : MachineLint). lint.fault) lints) → faults ≡ []
    → printed.machine_faults ≡ ltb 0 (length lints) → printed.loop_faults ≡ ltb 0 (length faults)
    → ((printed.machine_faults ≡ false) × (printed.loop_faults ≡ false)) ↔ MeansMachine machine
silent-machine machine (Ok meant) lints faults printed is begins no_loops m l = (
  λ none. record { meant = meant; machine_read = is },
  λ means. (m ∙ none-flag lints (map-nil lints begins), l ∙ none-flag faults no_loops),
)
silent-machine machine (Err fault) lints faults printed is begins no_loops m l = (
  λ none. absurd (some-told fault lints begins (none-list lints (sym m ∙ none.0))),
  λ (means : MeansMachine machine). absurd (cc),
)

silent-both : (machine loops : List ℕ) (meaning : Result MachineData MachineFault) (lints : List MachineLint) (faults : List LoopLint) (printed : LintText) → machine_of machine ≡ meaning
    → machines.BeginsAs meaning (map (λ (lint : MachineLint). lint.fault) lints) → SilentWith (machine_read meaning) loops faults
    → printed.machine_faults ≡ ltb 0 (length lints) → printed.loop_faults ≡ ltb 0 (length faults)
    → ((printed.machine_faults ≡ false) × (printed.loop_faults ≡ false)) ↔ MeansBoth machine loops
silent-both machine loops (Ok meant) lints faults printed is begins silent m l = (
  λ none. record { meant = meant; machine_read = is; tables = silent.0 (none-list faults (sym l ∙ none.1)) },
  λ (both : MeansBoth machine loops).
      let same : meant ≡ both.meant = cc in
      (m ∙ none-flag lints (map-nil lints begins), l ∙ none-flag faults (silent.1 (subst (λ (d : MachineData). HasTables d loops) (sym same) both.tables))),
)
silent-both machine loops (Err fault) lints faults printed is begins silent m l = (
  λ none. absurd (some-told fault lints begins (none-list lints (sym m ∙ none.0))),
  λ (both : MeansBoth machine loops). absurd (cc),
)

pub is_silent : (machine loops : Option Named) (lints : List MachineLint) (faults : List LoopLint) (printed : LintText) → AreOfMachine machine lints → AreOfLoops machine loops faults
    → SilentOn (machine_in machine) loops faults → printed.machine_faults ≡ ltb 0 (length lints) → printed.loop_faults ≡ ltb 0 (length faults)
    → IsSilent machine loops printed
is_silent None None lints faults printed are told silent m l = (λ none. tt, λ order. (m ∙ none-flag lints are, l ∙ none-flag faults told))
is_silent None (Some loops) lints faults printed are told silent m l = (
  λ none. silent.0 (none-list faults (sym l ∙ none.1)),
  λ means. (m ∙ none-flag lints are, l ∙ none-flag faults (silent.1 means)),
)
is_silent (Some machine) None lints faults printed are told silent m l =
    silent-machine machine.text.now (machine_of machine.text.now) lints faults printed refl are.1 told m l
is_silent (Some machine) (Some loops) lints faults printed are told silent m l =
    silent-both machine.text.now loops.text.now (machine_of machine.text.now) lints faults printed refl are.1 silent m l
