use Rattle.std.proofs.Common.{◌≡◌, ℕ, ℤ, pos, ◌+◌, ◌-◌, List, ◌++◌, length, take, drop, replicate, ap, ◌∙◌, arith, rules}
use Rattle.std.proofs.lemmas.List.{length-replicate}
use Rattle.loop_data.specs.Run.{opening_cells}
use Rattle.loop_data.proofs.Openings.{copied, written_over, length-opening_cells}
use Rattle.loop_data.proofs.running.run.opening_array.Goals as goal

pub returns : goal.returns
returns c =
    let items = c.in_ok-cells.cells.items in
    let held = c.deref_mut.result.now in
    let new = c.copy_from_slice.new.self in
    let written = c.args.written.now in
    let n : ℕ = c.args.trip + 64 in
    let count = c.min-count.result in
    let zeros : items ≡ replicate (64 + n) (pos 0) = search rules in
    let part : new ≡ take count written = search rules in
    let again : (64 + count) - 64 ≡ count = omega arith in
    let put : List ℤ = take 64 held ++ (new ++ drop ((64 + count) - 64) (drop 64 held)) in
    let whole : put ≡ opening_cells c.args.trip written
    = ap (λ k. take 64 held ++ (new ++ drop k (drop 64 held))) again
    ∙ copied n count written held new (c.deref_mut.ensures.value ∙ zeros) c.min-count.ensures part in
    let long : length put ≡ length items = omega (arith, ap length whole, length-opening_cells c.args.trip written, ap length zeros, length-replicate (64 + n) (pos 0)) in
    written_over items put c.in_ok-cells.cells.len long (omega (arith, c.in_ok-cells.cells.ok.0)) ∙ whole
