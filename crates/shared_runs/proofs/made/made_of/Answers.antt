use Rattle.std.proofs.Common.{◌≡◌, ◌∙◌, ℕ, sym, ap, ap₂, subst}
use Rattle.std.proofs.lemmas.List.{get_or_default}
use Rattle.loop_data.specs.Loops.{LoopData}
use Rattle.loop_data.specs.Run.{HasShapeOf, MemoryData, opening_of, plain}
use Rattle.lines_of_runs.specs.Plain.{plain_lines, run_lines}
use Rattle.lines_of_runs.proofs.Shapes.{opening_trip, plain_shape, plain_trip}
use Rattle.shared_runs.specs.inner.Pieces.{ArePieces}
use Rattle.shared_runs.proofs.made.made_of.Goals as goal

pub returns-then-run_work-alone : goal.returns-then-run_work-alone
unfolding plain_lines
returns-then-run_work-alone c =
    let loops = c.args.loops.now in
    let number = c.args.number in
    let loop : LoopData = c.index-loops-number.result in
    let after : MemoryData = c.in_ok-after.after in
    let is = λ (d : LoopData). get_or_default loops number d loop c.requires ∙ sym c.index-loops-number.is in
    let left : after ≡ plain loop (opening_of loop c.args.trip) = c.in_ok-after.ensures in
    let trip : after.trip ≡ c.args.trip
    = ap (λ (m : MemoryData). m.trip) left ∙ plain_trip loop (opening_of loop c.args.trip) ∙ opening_trip loop c.args.trip in
    let shape : HasShapeOf loop after = subst (HasShapeOf loop) (sym left) (plain_shape loop c.args.trip) in
    record {
      fits = (c.requires, λ d. subst (λ (l : LoopData). HasShapeOf l after) (sym (is d)) shape, λ d. subst (λ (l : LoopData). ArePieces l after c.in_ok-begun.begun.items) (sym (is d)) c.in_ok-begun.ensures);
      lines = λ d e.
          ap (λ (l : LoopData). run_lines l (opening_of l after.trip) after) (is d)
          ∙ ap₂ (λ (n : ℕ) (m : MemoryData). run_lines loop (opening_of loop n) m) trip left
          ∙ sym (ap (plain_lines c.args.trip) (is e));
    }

pub begun_lines-requires : goal.begun_lines-requires
begun_lines-requires c = subst (HasShapeOf c.index-loops-number.result) (sym c.in_ok-after.ensures) (plain_shape c.index-loops-number.result c.args.trip)
