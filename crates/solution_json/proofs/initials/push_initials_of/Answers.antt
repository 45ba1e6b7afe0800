use Rattle.std.proofs.Common.{◌≡◌, ◌+◌, ◌++◌, ap, map, ◌∙◌, arith}
use Rattle.std.specs.List.{filter_map, range_with_len}
use Rattle.serde_json.specs.View.{view}
use Rattle.solution_json.specs.Values.{initial_at, initials_of}
use Rattle.solution_json.proofs.Lists.{given-more}
use Rattle.solution_json.proofs.initials.push_initials_of.Goals as goal

pub loop-before-preserved : goal.loop-before-preserved
loop-before-preserved c =
    given-more (λ k. initial_at c.args.solution.now c.args.value (k + 1)) c.loop-before.before (map view c.args.values.now.items) (map view c.loop-before.values.items)
    (map view c.push_initial.new.values.items) c.loop-before.invariant c.in_ok-push_initial.ensures.ok

pub returns : goal.returns
unfolding initials_of
returns c =
    let all : c.loop-before.before ≡ c.carried-before-end.result = omega arith in
    record {
      ok = c.loop-before.invariant
          ∙ ap (λ n. map view c.args.values.now.items ++ filter_map (λ k. initial_at c.args.solution.now c.args.value (k + 1)) (range_with_len 0 n)) (all ∙ c.carried-before-end.ensures.value);
    }
