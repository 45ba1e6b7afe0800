-- Laws of problems and schedules.
use Rattle.std.proofs.Common.{sym, subst}
use Rattle.std.specs.List.{All}
use Rattle.std.proofs.lemmas.List.Elements.{All-contains}
use Rattle.graph.specs.Dependences.{Dependence, latencies_of}
use Rattle.edges.specs.Schedules.{KeepsEdge}
use Rattle.schedules.proofs.lawfulness.Stages as stages
use Rattle.loop_schedules.specs.Promises.{SchedulesKeepDependences, ProblemsHaveGraphs, StagesAreFew}
use Rattle.loop_schedules.proofs.Bare.{bare, bare-is}

pub stages-are_few : StagesAreFew
stages-are_few s is = stages.stages-are_few (bare s) (bare-is s is)

pub schedules-keep : SchedulesKeepDependences
schedules-keep s is e d = All-contains (KeepsEdge s.ii s.times) s.problem.graph.edges e is.lawful.keeps_edges (is.problem.complete e d)

pub problems-have : ProblemsHaveGraphs
problems-have machine loop ratio ceiling p is = record {
  latencies = is.latencies;
  sound = subst (λ l. All (Dependence l (latencies_of machine loop)) p.graph.edges) is.same_loop
      (subst (λ ns. All (Dependence p.loop ns) p.graph.edges) is.latencies is.is_problem.sound);
  complete = λ e d. is.is_problem.complete e (subst (λ ns. Dependence p.loop ns e) (sym is.latencies)
      (subst (λ l. Dependence l (latencies_of machine loop) e) (sym is.same_loop) d));
  ascending = is.is_problem.is_problem.graph.ascending;
}
