use Rattle.std.proofs.Common.{◌≡◌, ◌<◌, length, Some, rules, refl, sym, ap, ◌∙◌, subst, arith}
use Rattle.std.specs.Prelude.{slice_get}
use Rattle.std.proofs.lemmas.Option.{slice_get_read}
use Rattle.solutions.specs.Solutions.{SolutionData, lives_of_solution}
use Rattle.solutions.proofs.Lives.{length-lives}
use Rattle.solutions.proofs.solution.Solution.life.Goals as goal

pub index-requires : goal.index-requires
index-requires c =
    let there = rw (← c.self.view_is) at c.requires in
    let same = ap length c.self.invariant.2 in
    let long = length-lives c.self.inside.problem.now.draft (record { problem = c.self.inside.problem.now.scheduling; ii = c.self.inside.schedule.ii; times = c.self.inside.schedule.times; choices = c.self.inside.schedule.choices }) in
    let short : c.args.value < length c.self.inside.lives.items = omega arith in
    search (rules, arith)

pub returns-clause-value : goal.returns-clause-value
returns-clause-value c =
    let there = rw (← c.self.view_is) at c.requires in
    let same = ap length c.self.invariant.2 in
    let long = length-lives c.self.inside.problem.now.draft (record { problem = c.self.inside.problem.now.scheduling; ii = c.self.inside.schedule.ii; times = c.self.inside.schedule.times; choices = c.self.inside.schedule.choices }) in
    let short : c.args.value < length c.self.inside.lives.items = omega arith in
    subst (λ (s : SolutionData). slice_get (lives_of_solution s) c.args.value ≡ Some c.index.result.now) c.self.view_is
    (ap (λ ls. slice_get ls c.args.value) (sym c.self.invariant.2) ∙ slice_get_read c.self.inside.lives.items (length c.self.inside.lives.items) c.args.value c.index.result.now refl short c.index.ensures)
