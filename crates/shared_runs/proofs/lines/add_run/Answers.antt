use Rattle.std.proofs.Common.{◌≡◌, ◌∙◌, ℕ, ◌-◌, ◌*◌, ◌++◌, List, length, ap, ap₂, rules}
use Rattle.std.specs.List.{flat_map, range_with_len}
use Rattle.std.specs.Prelude.{Vec}
use Rattle.std.specs.Global.{Global}
use Rattle.loop_data.specs.Run.{MemoryData, opening_of}
use Rattle.lines_of_runs.specs.Plain.{array_lines, out_lines, run_line}
use Rattle.text_parts.specs.Parted.{joined_text}
use Rattle.shared_runs.specs.declared.lines.Lines.{Lines}
use Rattle.shared_runs.specs.declared.lines.Lines.TheVariants.{Written}
use Rattle.shared_runs.specs.inner.Lines.{bytes_in}
use Rattle.shared_runs.specs.inner.Pieces.{piece_lines}
use Rattle.shared_runs.proofs.LineList.{joined_parts, pushed_bytes}
use Rattle.shared_runs.proofs.PieceLines.{pieces_are_all}
use Rattle.shared_runs.proofs.lines.add_run.Goals as goal

pub returns-clause-text : goal.returns-clause-text
returns-clause-text c = λ e.
    let loop = c.args.innermost.now in
    let after : MemoryData = c.args.after in
    let begun : List (Vec ℕ Global) = c.args.begun.items in
    let head : Vec ℕ Global = c.push_head.new.text in
    let outs : Vec ℕ Global = c.push_outs.new.text in
    let bytes : List Lines → List ℕ = flat_map (bytes_in e) in
    let pieces : ℕ → List ℕ = piece_lines loop after e in
    let many : ℕ = length loop.arrays * 8 in
    let old : List Lines = c.args.lines.now.items in
    let left : List ℕ = flat_map pieces (range_with_len (length begun) (many - length begun)) in
    let long : c.len-from.result ≡ length begun = search rules in
    let first : head.items ≡ run_line loop.name after.trip = c.in_ok-push_head.ensures ∙ ap₂ (λ t n. t ++ run_line loop.name n) c.new-head.ensures.items c.trip.ensures.value in
    let last : outs.items ≡ out_lines loop after = c.in_ok-push_outs.ensures ∙ ap (λ t. t ++ out_lines loop after) c.new-outs.ensures.items in
    let arrays : joined_text begun ++ left ≡ array_lines loop (opening_of loop after.trip) after = pieces_are_all loop after e begun c.requires.begun in
    let one : bytes c.push.new.self.items ≡ bytes old ++ run_line loop.name after.trip
    = pushed_bytes e old c.push.new.self.items (Written head) c.in_ok-push.ensures.items ∙ ap (λ t. bytes old ++ t) first in
    let two : bytes c.add_begun.new.lines.items ≡ (bytes old ++ run_line loop.name after.trip) ++ joined_text begun
    = c.in_ok-add_begun.ensures.text e ∙ ap (λ t. t ++ joined_text begun) one in
    let three : bytes c.add_left.new.lines.items ≡ ((bytes old ++ run_line loop.name after.trip) ++ joined_text begun) ++ left
    = c.in_ok-add_left.ensures.text e ∙ ap₂ (λ (t : List ℕ) (n : ℕ). t ++ flat_map pieces (range_with_len n (many - n))) two long in
    pushed_bytes e c.add_left.new.lines.items c.push-2.new.self.items (Written outs) c.in_ok-push-2.ensures.items
    ∙ ap₂ (λ (s t : List ℕ). s ++ t) three last
    ∙ joined_parts (bytes old) (run_line loop.name after.trip) (joined_text begun) left (out_lines loop after) (array_lines loop (opening_of loop after.trip) after) arrays
