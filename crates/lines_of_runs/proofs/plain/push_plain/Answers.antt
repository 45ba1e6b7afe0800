use Rattle.std.proofs.Common.{◌≡◌, ◌∙◌, ◌++◌, ℕ, List, OnOk, sym, subst, ap, ap₂}
use Rattle.loop_data.specs.Run.{HasShapeOf, MemoryData, opening_of, plain}
use Rattle.lines_of_runs.specs.Plain.{plain_lines, run_lines}
use Rattle.lines_of_runs.proofs.Shapes.{opening_trip, plain_shape, plain_trip}
use Rattle.lines_of_runs.proofs.plain.push_plain.Goals as goal

pub push_run-requires : goal.push_run-requires
push_run-requires c =
    let loop = c.args.innermost.now in
    let after : c.in_ok-after.after ≡ plain loop (opening_of loop c.args.trip) =
    (rw c.in_ok-after.ensures at c.run_plain.ensures.plain) ∙ ap (λ n. plain loop (opening_of loop n)) c.count.ensures.value in
    subst (HasShapeOf loop) (sym after) (plain_shape loop c.args.trip)

pub returns : goal.returns
unfolding plain_lines
returns c =
    let loop = c.args.innermost.now in
    let after : c.in_ok-after.after ≡ plain loop (opening_of loop c.args.trip) =
    (rw c.in_ok-after.ensures at c.run_plain.ensures.plain) ∙ ap (λ n. plain loop (opening_of loop n)) c.count.ensures.value in
    let trip : c.in_ok-after.after.trip ≡ c.args.trip
    = ap (λ (m : MemoryData). m.trip) after ∙ plain_trip loop (opening_of loop c.args.trip) ∙ opening_trip loop c.args.trip in
    let same : run_lines loop (opening_of loop c.in_ok-after.after.trip) c.in_ok-after.after ≡ plain_lines c.args.trip loop
    = ap₂ (λ n m. run_lines loop (opening_of loop n) m) trip after in
    subst (λ (t : List ℕ). OnOk c.push_run.result (c.push_run.new.text.items ≡ c.args.text.now.items ++ t)) same c.push_run.ensures
