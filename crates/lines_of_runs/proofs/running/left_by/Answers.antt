use Rattle.std.proofs.Common.{◌≡◌, ◌∙◌, length, sym, ap}
use Rattle.loop_data.specs.Run.{MemoryData, opening_of}
use Rattle.lines_of_runs.proofs.KernelLines.{opening_fits}
use Rattle.lines_of_runs.proofs.Shapes.{opening_trip}
use Rattle.lines_of_runs.proofs.running.left_by.Goals as goal

pub within_limits-requires-2-clause-shape : goal.within_limits-requires-2-clause-shape
within_limits-requires-2-clause-shape c =
    let loop = c.args.innermost.now in
    let before : c.in_ok-before.before ≡ opening_of loop c.args.trip = (rw c.in_ok-before.ensures at c.opening.ensures.opening) ∙ ap (opening_of loop) c.count.ensures.value in
    let fits = opening_fits c.args.trip loop c.args.kernel.now c.requires in
    λ is_shape. (c.simulate_from.ensures.shape.0 is_shape).1 (
      record {
        same_arrays = ap (λ (m : MemoryData). length m.arrays) before ∙ fits.same_arrays;
        same_outs = ap (λ (m : MemoryData). length m.outs) before ∙ fits.same_outs;
      },
      ap (λ (m : MemoryData). m.trip) before ∙ opening_trip loop c.args.trip ∙ sym c.count-2.ensures.value,
    )
