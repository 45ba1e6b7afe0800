use Rattle.std.proofs.Common.{ℤ, List, map, ap, ◌∙◌, arith}
use Rattle.loop_data.specs.declared.language.lists.Array.{Array}
use Rattle.loop_data.specs.Run.{MemoryData, opening_cells, opening_of}
use Rattle.loop_data.proofs.Openings.{opening_long}
use Rattle.loop_data.proofs.running.run.opening.Goals as goal

pub invariant_of-result : goal.invariant_of-result
invariant_of-result c = record {
  trips = omega arith;
  cells = rw c.in_ok-arrays.ensures (opening_long c.args.trip c.args.innermost.now.arrays);
}

pub returns-clause-opening : goal.returns-clause-opening
unfolding opening_of
returns-clause-opening c =
    let whole : List (List ℤ) → List ℤ → MemoryData = λ arrays outs. record { trip = c.args.trip; arrays = arrays; outs = outs } in
    ap (λ arrays. whole arrays c.in_ok-outs.outs.items) c.in_ok-arrays.ensures ∙ ap (whole (map (λ (a : Array). opening_cells c.args.trip a.cells) c.args.innermost.now.arrays)) c.in_ok-outs.ensures
