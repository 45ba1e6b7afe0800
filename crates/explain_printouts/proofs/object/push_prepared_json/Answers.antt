use Rattle.std.proofs.Common.{◌∙◌, ap, sym, length}
use Rattle.graph.specs.Units.{operations_of}
use Rattle.lower_bounds.specs.Faults.{lacking_in}
use Rattle.lower_bounds.proofs.Lacking.{answered}
use Rattle.loop_data.specs.Loops.{LoopData}
use Rattle.resource_bound.specs.Choices.{AreUnitChoices}
use Rattle.unit_sets.specs.Fullest.{IsFullest}
use Rattle.explain_printouts.proofs.Counted.{object-on}
use Rattle.explain_printouts.specs.declared.object.Counted.{Counted}
use Rattle.explain_printouts.proofs.object.push_prepared_json.Goals as goal

pub push_object-requires : goal.push_object-requires
push_object-requires c = record {
  each = c.in_ok-counted.ensures.each ∙ ap (λ (l : LoopData). length l.statements) c.innermost.ensures.value ∙ sym c.innermost.ensures.well_formed.each_operation;
}

pub returns-in-Ok : goal.returns-in-Ok
returns-in-Ok c =
    let m = c.args.machine.now in
    let x = c.innermost.result.now in
    let counted = c.in_ok-counted.counted in
    let u = answered (lacking_in m x) (λ (counted : Counted). AreUnitChoices (operations_of m x) counted.alternatives.items × IsFullest (operations_of m x) counted.set) counted c.in_ok-counted.ensures.exact in
    record {
      exact = object-on m x c.args.prepared.now c.in-Ok.choice counted.set counted.alternatives.items c.args.text.now.items c.push_object.new.text.items c.innermost.ensures.value u.0 u.1.0 u.1.1
          c.in-Ok.ensures.exact;
    }
