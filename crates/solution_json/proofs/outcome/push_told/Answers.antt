use Rattle.std.proofs.Common.{refl, sym, subst}
use Rattle.std.proofs.lemmas.Result.{on_ok_weaker}
use Rattle.serde_json.specs.View.{view}
use Rattle.serde_json.specs.Written.{compact_text}
use Rattle.schedules.specs.Problems.{ProblemData as SchedulingData}
use Rattle.outcome_text.specs.Notes.{AreFullest, IsCircuitOf}
use Rattle.solution_json.proofs.Whole.{object-whole}
use Rattle.solution_json.proofs.outcome.push_told.Goals as goal

pub returns : goal.returns
returns c =
    let p = c.args.problem.now in
    let circuit = c.as_slice.result.now in
    let units = c.as_slice-2.result.now in
    let told = view c.in_ok-told.told in
    let is_circuit : IsCircuitOf p.scheduling circuit =
    subst (λ (s : SchedulingData). IsCircuitOf s circuit) c.scheduling.ensures.value (subst (IsCircuitOf c.scheduling.result.now) (sym c.as_slice.ensures.value) c.in_ok-circuit.ensures.exact) in
    let are_fullest : AreFullest p units = subst (AreFullest p) (sym c.as_slice-2.ensures.value) c.in_ok-units.ensures in
    on_ok_weaker c.push_value.result
    (λ written. (
      compact_text told,
      written (object-whole c.args.name.now p circuit units c.args.outcome.now told c.in_ok-told.ensures),
      record {
        circuit = circuit;
        is_circuit = is_circuit;
        units = units;
        are_fullest = are_fullest;
        told = told;
        is_object = c.in_ok-told.ensures;
        is_text = refl;
      },
    ))
    c.push_value.ensures
