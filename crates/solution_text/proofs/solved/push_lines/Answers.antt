use Rattle.std.proofs.Common.{◌≡◌, List, ℕ, ◌++◌}
use Rattle.std.specs.Prelude.{codes}
use Rattle.std.proofs.lemmas.Result.{on_ok_weaker}
use Rattle.solution_text.specs.Files.{file_lines, unroll_line}
use Rattle.solution_text.specs.Operations.{op_lines}
use Rattle.solution_text.specs.Texts.{solution_line, solution_lines}
use Rattle.solution_text.specs.Values.{initial_lines, value_lines}
use Rattle.solution_text.proofs.Loops.{and-then}
use Rattle.solution_text.proofs.solved.push_lines.Goals as goal

pub returns : goal.returns
unfolding solution_lines
returns c =
    let s = c.args.solution.now in
    let old : List ℕ = c.args.text.now.items in
    let first : List ℕ = solution_line c.args.name.now s in
    let with_ops : c.push_ops.new.text.items ≡ old ++ (first ++ op_lines s)
    = and-then old first c.push_first.new.text.items (op_lines s) c.push_ops.new.text.items c.in_ok-push_first.ensures.ok c.in_ok-push_ops.ensures.ok in
    let with_values : c.push_values.new.text.items ≡ old ++ ((first ++ op_lines s) ++ value_lines s)
    = and-then old (first ++ op_lines s) c.push_ops.new.text.items (value_lines s) c.push_values.new.text.items with_ops c.in_ok-push_values.ensures.ok in
    let with_initials : c.push_initials.new.text.items ≡ old ++ (((first ++ op_lines s) ++ value_lines s) ++ initial_lines s)
    = and-then old ((first ++ op_lines s) ++ value_lines s) c.push_values.new.text.items (initial_lines s) c.push_initials.new.text.items with_values c.in_ok-push_initials.ensures.ok in
    let with_files : c.push_files.new.text.items ≡ old ++ ((((first ++ op_lines s) ++ value_lines s) ++ initial_lines s) ++ file_lines s)
    = and-then old (((first ++ op_lines s) ++ value_lines s) ++ initial_lines s) c.push_initials.new.text.items (file_lines s) c.push_files.new.text.items with_initials c.in_ok-push_files.ensures.ok in
    let with_unroll : c.push_unroll.new.text.items ≡ old ++ (((((first ++ op_lines s) ++ value_lines s) ++ initial_lines s) ++ file_lines s) ++ unroll_line s)
    = and-then old ((((first ++ op_lines s) ++ value_lines s) ++ initial_lines s) ++ file_lines s) c.push_files.new.text.items (unroll_line s) c.push_unroll.new.text.items with_files c.in_ok-push_unroll.ensures.ok in
    record {
      ok = on_ok_weaker c.push_piece.result
          (λ last. and-then old (((((first ++ op_lines s) ++ value_lines s) ++ initial_lines s) ++ file_lines s) ++ unroll_line s) c.push_unroll.new.text.items (codes "end\n") c.push_piece.new.self.items with_unroll last)
          c.push_piece.ensures.ok;
    }
