use Rattle.std.proofs.lemmas.Result.{on_ok_weaker}
use Rattle.told_choices.specs.Told.{choice_of}
use Rattle.explain.proofs.Parts.{explained}
use Rattle.explain.proofs.single.push_chosen.Goals as goal

pub returns : goal.returns
returns c = record {
  ok = on_ok_weaker c.push_tries.result
      (λ tries. explained c.args.units.now c.args.need c.in_ok-free.free c.args.prepared.now (choice_of c.args.told.now.chosen) _ _ c.args.text.now.items c.push_bounds_line.new.text.items
      c.extend_from_slice.new.self.items c.push_circuit.new.text.items c.push_tries.new.text.items c.innermost.ensures.value
      (λ i. record { resources = c.resources.ensures.value i; recurrences = c.recurrences.ensures.value i })
      c.in_ok-push_bounds_line.ensures.ok c.in_ok-extend_from_slice.ensures.items c.in_ok-free.ensures.ok tries)
      c.push_tries.ensures.ok;
}
