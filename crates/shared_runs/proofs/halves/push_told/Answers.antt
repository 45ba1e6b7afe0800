use Rattle.std.proofs.Common.{◌∙◌, length, sym, subst, ap}
use Rattle.loop_data.specs.Loops.{LoopData}
use Rattle.loop_listings.specs.declared.choices.Choice.TheVariants.{Met}
use Rattle.candidates.specs.Choices.{IsChoice}
use Rattle.run_printouts.proofs.Runnable.{runnable}
use Rattle.shared_runs.proofs.halves.push_told.Goals as goal

pub push_choice-requires-clause-runs : goal.push_choice-requires-clause-runs
push_choice-requires-clause-runs g c = runnable c.args.prepared.now c.args.listed.now.choice c.requires.choice

pub push_halves-requires-clause-arrays : goal.push_halves-requires-clause-arrays
push_halves-requires-clause-arrays g c = λ κs outlives.
    let problem = c.args.prepared.now in
    let sizes = runnable problem (Met c.in-Met.field-0 c.in-Met.kernel) (subst (IsChoice problem) c.in-Met.is c.requires.choice) in
    sizes.same_arrays ∙ ap (λ (l : LoopData). length l.arrays) (sym c.innermost.ensures.value)

pub push_halves-requires-clause-outs : goal.push_halves-requires-clause-outs
push_halves-requires-clause-outs g c = λ κs outlives.
    let problem = c.args.prepared.now in
    let sizes = runnable problem (Met c.in-Met.field-0 c.in-Met.kernel) (subst (IsChoice problem) c.in-Met.is c.requires.choice) in
    sizes.same_outs ∙ ap (λ (l : LoopData). length l.outs) (sym c.innermost.ensures.value)
