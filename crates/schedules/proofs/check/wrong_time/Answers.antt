use Rattle.std.proofs.Common.{Option, sym, ap, ◌∙◌, subst}
use Rattle.std.specs.List.{All}
use Rattle.std.specs.Option.{MatchOption}
use Rattle.edges.specs.Graphs.{GraphData}
use Rattle.edges.specs.Schedules.{KeepsEdge}
use Rattle.schedules.specs.declared.breach.Breach.{Breach}
use Rattle.schedules.specs.Breaches.{times_in, IsFirstBreach}
use Rattle.schedules.specs.Schedules.{IsSchedule, as_listed}
use Rattle.schedules.proofs.lawfulness.Breaking.{IsSchedule-listed, times_few}
use Rattle.schedules.proofs.check.wrong_time.Goals as goal

pub unkept-requires-clause-times : goal.unkept-requires-clause-times
unkept-requires-clause-times c = times_few c.args.problem.now.operations c.args.places.now c.requires.places

pub returns-in_err-op : goal.returns-in_err-op
returns-in_err-op c =
    let problem = c.args.problem.now in
    let edges : All (KeepsEdge c.args.ii (times_in c.args.places.now)) problem.graph.edges
    = subst (All (KeepsEdge c.args.ii (times_in c.args.places.now))) (c.all.ensures.value ∙ ap (λ (g : GraphData). g.edges) c.edges.ensures.value) c.in_default.ensures in
    subst (λ (found : Option Breach). MatchOption found (IsSchedule (as_listed problem c.args.ii c.args.places.now)) (IsFirstBreach problem c.args.ii c.args.places.now))
    (sym c.from_residual.ensures)
    (IsSchedule-listed problem c.args.ii c.args.places.now c.edges.ensures.well_formed c.requires.some c.requires.limit c.requires.places c.requires.units edges
    c.in_err-op.ensures)
