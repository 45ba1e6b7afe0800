-- The object of a loop, with the units that it uses.
use Rattle.std.proofs.Common.{◌≡◌, ℕ, List, ◌++◌, None, subst}
use Rattle.std.specs.Prelude.{Ok}
use Rattle.machine_data.specs.Machines.{MachineData}
use Rattle.loop_data.specs.Loops.{LoopData}
use Rattle.graph.specs.Units.{operations_of}
use Rattle.lower_bounds.specs.Faults.{TextAnswers, lacking_in}
use Rattle.lower_bounds.proofs.Lacking.{complete}
use Rattle.resource_bound.specs.Choices.{AreUnitChoices}
use Rattle.unit_sets.specs.declared.fullest.UnitSet.{UnitSet}
use Rattle.unit_sets.specs.Fullest.{IsFullest}
use Rattle.loop_schedules.specs.Problems.{ProblemData}
use Rattle.loop_listings.specs.declared.choices.Choice.{Choice}
use Rattle.explain_printouts.specs.Objects.{IsObject, IsObjectOn}

-- the object of a problem, with the choices of its bound and its fullest set of units
pub object-on : (machine : MachineData) (loop : LoopData) (p : ProblemData) (choice : Choice) (set : UnitSet) (alternatives old new : List ℕ) → loop ≡ p.loop → lacking_in machine loop ≡ None
    → AreUnitChoices (operations_of machine loop) alternatives → IsFullest (operations_of machine loop) set
    → ((part : List ℕ) × IsObject machine alternatives set p choice part × (new ≡ old ++ part))
    → TextAnswers (lacking_in machine p.loop) (λ (c : Choice). (part : List ℕ) × IsObjectOn machine p c part × (new ≡ old ++ part)) (Ok choice)
object-on machine loop p choice set alternatives old new same none best fullest object =
    complete (lacking_in machine p.loop) (λ (c : Choice). (part : List ℕ) × IsObjectOn machine p c part × (new ≡ old ++ part)) choice
    (subst (λ (l : LoopData). lacking_in machine l ≡ None) same none) (
      object.0,
      record {
        alternatives = alternatives;
        are_best = subst (λ (l : LoopData). AreUnitChoices (operations_of machine l) alternatives) same best;
        set = set;
        is_fullest = subst (λ (l : LoopData). IsFullest (operations_of machine l) set) same fullest;
        object = object.1;
      },
      object.2,
    )
