use Rattle.std.proofs.Common.{◌≡◌, ◌+◌, ◌++◌, ap, ◌∙◌, arith}
use Rattle.std.specs.List.{flat_map, range_with_len}
use Rattle.solution_text.specs.Values.{initial_line, initials_of}
use Rattle.solution_text.proofs.Loops.{numbered-more}
use Rattle.solution_text.proofs.values.push_initials_of.Goals as goal

pub loop-before-preserved : goal.loop-before-preserved
loop-before-preserved c = numbered-more (λ k. initial_line c.args.solution.now c.args.value (k + 1)) c.args.text.now.items c.loop-before.text.items c.push_initial.new.text.items c.loop-before.before c.loop-before.invariant c.in_ok-push_initial.ensures.ok

pub returns : goal.returns
unfolding initials_of
returns c =
    let all : c.loop-before.before ≡ c.args.iterations = omega arith in
    record {
      ok = c.loop-before.invariant
          ∙ ap (λ n. c.args.text.now.items ++ flat_map (λ k. initial_line c.args.solution.now c.args.value (k + 1)) (range_with_len 0 n)) (all ∙ c.requires.carried);
    }
