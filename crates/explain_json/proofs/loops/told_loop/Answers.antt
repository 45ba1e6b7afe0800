use Rattle.std.proofs.Common.{◌≡◌, List, subst, sym, IfOk}
use Rattle.serde_json.specs.View.{view}
use Rattle.told_choices.specs.declared.chosen.Chosen.{Chosen}
use Rattle.told_choices.specs.declared.why.Why.{Why}
use Rattle.told_choices.specs.Told.{HasEvidence}
use Rattle.explain_json.specs.Kernels.{kernel_object}
use Rattle.explain_json.specs.Loops.{object_with}
use Rattle.explain_json.specs.inner.Seen.{loop_members}
use Rattle.explain_json.proofs.loops.told_loop.Goals as goal

pub told_kernel-kernel-requires : goal.told_kernel-kernel-requires
told_kernel-kernel-requires c = (subst (λ (chosen : Chosen). HasEvidence c.args.prepared.now chosen) c.in-Met.is c.requires.told.has_evidence).is_met

pub returns-in-Met : goal.returns-in-Met
unfolding loop_members
returns-in-Met c ms has =
    let machine = c.args.machine.now in
    let set = c.args.set.now in
    let p = c.args.prepared.now in
    let kernel = subst (λ (rs : List Why). IfOk c.told_kernel-kernel.result (λ v. view v ≡ kernel_object machine set c.args.free p rs c.in-Met.ii c.in-Met.met c.in-Met.figures)) c.as_slice-reasons.ensures.value c.told_kernel-kernel.ensures in
    subst (λ (chosen : Chosen). IfOk c.object_of.result (λ v. view v ≡ object_with machine set c.args.free p c.args.told.now.reasons.items ms chosen)) (sym c.in-Met.is)
    (c.object_of.ensures _ (c.with.ensures _ _ has kernel))

pub returns-in-Failed : goal.returns-in-Failed
returns-in-Failed c ms has =
    subst (λ (chosen : Chosen). IfOk c.told_failed.result (λ v. view v ≡ object_with c.args.machine.now c.args.set.now c.args.free c.args.prepared.now c.args.told.now.reasons.items ms chosen)) (sym c.in-Failed.is)
    (c.told_failed.ensures ms has)
