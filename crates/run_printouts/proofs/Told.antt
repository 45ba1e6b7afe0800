-- What is written of the runs of the kernels of a listing.
use Rattle.std.proofs.Common.{◌≡◌, ◌∙◌, ℕ, List, [], ◌∷◌, ◌++◌, refl, ap, ap₂}
use Rattle.machine.specs.Machines.{MachineData}
use Rattle.loop_data.specs.Loops.{LoopData}
use Rattle.loop_schedules.specs.Problems.{ProblemData}
use Rattle.loop_listings.specs.Listings.{ListingData}
use Rattle.loop_listings.specs.Texts.{counts_line}
use Rattle.candidates.specs.Files.{ArePrepared, ListsProblems}
use Rattle.candidates.proofs.Listed.{lists_of, right_of}
use Rattle.written.specs.Written.{Written}
use Rattle.listing_printouts.specs.Met.{are_met}
use Rattle.lines_of_runs.proofs.Problems.{loops_of}
use Rattle.run_printouts.specs.Run.{IsRunText, told_lines}

pub loops_of-prepared : (machine : MachineData) (ratio ceiling : ℕ) (loops : List LoopData) (problems : List ProblemData) → ArePrepared machine ratio ceiling loops problems → loops_of problems ≡ loops
loops_of-prepared machine ratio ceiling [] [] ps = refl
loops_of-prepared machine ratio ceiling [] (p ∷ problems) ps = absurd ps
loops_of-prepared machine ratio ceiling (l ∷ loops) [] ps = absurd ps
loops_of-prepared machine ratio ceiling (l ∷ loops) (p ∷ problems) ps = ap₂ (λ (x : LoopData) (xs : List LoopData). x ∷ xs) ps.0.same_loop (loops_of-prepared machine ratio ceiling loops problems ps.1)

pub told_run : (trip : ℕ) (machine : MachineData) (ratio ceiling : ℕ) (loops : List LoopData) (problems : List ProblemData) (listing : ListingData) (written : Written)
    → written.text ≡ told_lines trip listing.ceiling (loops_of problems) listing.rows ++ counts_line listing.rows → written.all_met ≡ are_met listing.rows
    → ArePrepared machine ratio ceiling loops problems → ListsProblems ceiling problems listing
    → IsRunText trip ratio ceiling machine loops written
told_run trip machine ratio ceiling loops problems listing written text met are is = record {
  listing = listing;
  lists = lists_of machine ratio ceiling loops problems listing are is;
  right = right_of machine ratio ceiling loops problems listing are is;
  is_text = text ∙ ap (λ (xs : List LoopData). told_lines trip listing.ceiling xs listing.rows ++ counts_line listing.rows) (loops_of-prepared machine ratio ceiling loops problems are);
  met = met;
}
