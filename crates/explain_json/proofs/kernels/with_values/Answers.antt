use Rattle.std.proofs.Common.{rules, ◌≡◌, IfOk}
use Rattle.serde_json.specs.View.{view}
use Rattle.overlap.specs.Lifetimes.{lifetimes_of}
use Rattle.figures.specs.LiveCounts.{greatest_live, live_counts}
use Rattle.explain_json.specs.Kernels.{values_value}
use Rattle.explain_json.specs.Parts.{count_value, counts_value}
use Rattle.explain_json.specs.inner.Objects.{with_values}
use Rattle.explain_json.proofs.kernels.with_values.Goals as goal

pub returns : goal.returns
unfolding with_values
returns c ms has =
    let schedule = c.args.met.now.schedule in
    let counts : IfOk c.told_counts.result (λ v. view v ≡ counts_value (live_counts schedule)) = search rules in
    let most : view c.from-most.result ≡ count_value (greatest_live schedule) = search rules in
    let values : IfOk c.told_values-values.result (λ v. view v ≡ values_value (lifetimes_of schedule) c.args.met.now.allotment.numbers) = search rules in
    let live = c.with-members.ensures _ _ has counts in
    let greatest = c.with_value-members.ensures _ _ live most in
    c.with.ensures _ _ greatest values
