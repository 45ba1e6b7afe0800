use Rattle.std.proofs.Common.{◌≡◌, ◌∙◌, ◌++◌, ℕ, List, OnOk, sym, subst, ap, ap₂}
use Rattle.loop_data.specs.Run.{HasShapeOf, MemoryData, opening_of}
use Rattle.lines_of_runs.specs.Plain.{run_lines}
use Rattle.lines_of_runs.specs.Runs.{kernel_lines}
use Rattle.lines_of_runs.proofs.KernelLines.{left_shape, left_trip}
use Rattle.lines_of_runs.proofs.running.push_kernel.Goals as goal

pub push_run-requires : goal.push_run-requires
push_run-requires c =
    let loop = c.args.innermost.now in
    subst (HasShapeOf loop) (sym c.in_ok-after.ensures) (left_shape c.args.trip loop c.args.kernel.now c.requires)

pub returns : goal.returns
unfolding kernel_lines
returns c =
    let loop = c.args.innermost.now in
    let trip : c.in_ok-after.after.trip ≡ c.args.trip
    = ap (λ (m : MemoryData). m.trip) c.in_ok-after.ensures ∙ left_trip c.args.trip loop c.args.kernel.now c.requires in
    let same : run_lines loop (opening_of loop c.in_ok-after.after.trip) c.in_ok-after.after ≡ kernel_lines c.args.trip loop c.args.kernel.now
    = ap₂ (λ n m. run_lines loop (opening_of loop n) m) trip c.in_ok-after.ensures in
    subst (λ (t : List ℕ). OnOk c.push_run.result (c.push_run.new.text.items ≡ c.args.text.now.items ++ t)) same c.push_run.ensures
