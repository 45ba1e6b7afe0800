use Rattle.std.proofs.Common.{◌≡◌, ◌∙◌, ℕ, ◌<◌, ◌≤◌, ◌-◌, ◌*◌, ◌++◌, List, length, sym, subst, ap, ap₂, arith, append_assoc}
use Rattle.std.specs.Arc.{arc_value}
use Rattle.std.specs.List.{flat_map, range_with_len}
use Rattle.loop_data.specs.Run.{HasShapeOf, MemoryData}
use Rattle.shared_runs.specs.declared.lines.Lines.{Lines}
use Rattle.shared_runs.specs.declared.lines.Lines.TheVariants.{Left}
use Rattle.shared_runs.specs.inner.Lines.{bytes_in}
use Rattle.shared_runs.specs.inner.Pieces.{piece_lines}
use Rattle.shared_runs.proofs.LineList.{next_bytes, pushed_bytes, pushed_pieces}
use Rattle.shared_runs.proofs.lines.add_left.Goals as goal

pub loop-number-preserved : goal.loop-number-preserved
loop-number-preserved c =
    let loop = c.args.innermost.now in
    let after : MemoryData = arc_value c.in_ok-after.after in
    let clone = c.in_ok-try_clone.field-0 in
    let number : ℕ = c.loop-number.number in
    let before : List Lines = c.loop-number.lines.items in
    let one : Lines = Left c.args.innermost clone number in
    let same : arc_value clone ≡ after = c.in_ok-try_clone.ensures in
    let far : c.args.from ≤ number = omega arith in
    let low : number < length loop.arrays * 8 = omega (arith, c.loop-number-test.true, c.count_of-number-end.ensures) in
    let shape : HasShapeOf loop (arc_value clone) = subst (HasShapeOf loop) (sym (same ∙ c.in_ok-after.ensures.ok)) c.requires.shape in
    record {
      text = λ e.
          let pieces : ℕ → List ℕ = piece_lines loop after e in
          let old : List ℕ = flat_map (bytes_in e) c.args.lines.now.items in
          pushed_bytes e before c.push.new.self.items one c.in_ok-push.ensures.items
          ∙ ap₂ (λ (s t : List ℕ). s ++ t) (c.loop-number.invariant.text e) (ap (λ (m : MemoryData). piece_lines loop m e number) same)
          ∙ append_assoc old (flat_map pieces (range_with_len c.args.from (number - c.args.from))) (pieces number)
          ∙ ap (λ t. old ++ t) (next_bytes pieces c.args.from number far);
      pieces = λ h. pushed_pieces before c.push.new.self.items one c.in_ok-push.ensures.items (c.loop-number.invariant.pieces h) (shape, low);
    }

pub returns-clause-text : goal.returns-clause-text
returns-clause-text c = λ e.
    let loop = c.args.innermost.now in
    let from : ℕ = c.args.from in
    let same : c.loop-number.number - from ≡ length loop.arrays * 8 - from = omega (arith, c.requires.within, c.count_of-number-end.ensures) in
    c.loop-number.invariant.text e
    ∙ ap₂ (λ (n : ℕ) (m : MemoryData). flat_map (bytes_in e) c.args.lines.now.items ++ flat_map (piece_lines loop m e) (range_with_len from n)) same c.in_ok-after.ensures.ok
