-- The kernels of a listing are run in the place of their loops.
use Rattle.std.proofs.Common.{◌≡◌, ℕ, List, [], ◌∷◌, length, sym, ap, ◌∙◌, subst}
use Rattle.std.specs.List.{AllZip}
use Rattle.std.proofs.lemmas.List.{length-map}
use Rattle.loop_schedules.specs.Problems.{ProblemData}
use Rattle.loop_schedules.specs.Schedules.{ScheduleData}
use Rattle.kernel.specs.declared.kernels.parts.Parts.{Parts}
use Rattle.overlap.specs.Allotments.{AllotmentData}
use Rattle.overlap.specs.Emission.{emitted}
use Rattle.loop_listings.specs.declared.choices.Choice.{Choice}
use Rattle.loop_listings.specs.declared.choices.Choice.TheVariants.{Met, Failed}
use Rattle.candidates.specs.Choices.{IsChoice}
use Rattle.loop_listings.specs.Listings.{ListingData, listing_rows}
use Rattle.candidates.specs.Outcomes.{GivesKernel}
use Rattle.candidates.specs.Files.{ListsProblems}
use Rattle.lines_of_runs.specs.Runnable.{AreRunnable, HasSizesOf, IsRunnable}

emitted-arrays : (s : ScheduleData) (a : AllotmentData) → length (emitted s a).arrays ≡ length s.problem.loop.arrays
unfolding emitted
emitted-arrays s a = length-map s.problem.loop.arrays _

emitted-outs : (s : ScheduleData) (a : AllotmentData) → length (emitted s a).outs ≡ length s.problem.loop.outs
unfolding emitted
emitted-outs s a = length-map s.problem.loop.outs _

stands_for : (problem : ProblemData) (ii : ℕ) (kernel : Parts) → GivesKernel problem ii kernel → HasSizesOf problem.loop kernel
stands_for problem ii kernel g =
    let s = g.schedule in
    let a = g.has_kernel.allotment in record {
      same_arrays = ap (λ (k : Parts). length k.arrays) g.has_kernel.is_kernel ∙ emitted-arrays s a ∙ ap (λ (p : ProblemData). length p.loop.arrays) g.is_schedule.2;
      same_outs = ap (λ (k : Parts). length k.outs) g.has_kernel.is_kernel ∙ emitted-outs s a ∙ ap (λ (p : ProblemData). length p.loop.outs) g.is_schedule.2;
    }

pub runnable : (problem : ProblemData) (choice : Choice) → IsChoice problem choice → IsRunnable problem.loop choice
runnable problem (Met ii kernel) c = stands_for problem ii kernel c.is_given
runnable problem (Failed cause) c = tt

-- each loop with its row
all_runnable : (problems : List ProblemData) (choices : List Choice) → AllZip IsChoice problems choices
    → AreRunnable problems (listing_rows problems choices)
all_runnable [] [] cs = tt
all_runnable [] (c ∷ choices) cs = absurd cs
all_runnable (p ∷ problems) [] cs = absurd cs
all_runnable (p ∷ problems) (c ∷ choices) cs = (runnable p c cs.0, all_runnable problems choices cs.1)

pub listed_runnable : (ceiling : ℕ) (problems : List ProblemData) (listing : ListingData) → ListsProblems ceiling problems listing → AreRunnable problems listing.rows
listed_runnable ceiling problems listing is =
    subst (λ (l : ListingData). AreRunnable problems l.rows) (sym is.is_listing)
    (all_runnable problems is.choices is.each_choice)
