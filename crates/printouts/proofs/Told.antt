-- What is written of prepared loops with their listing.
use Rattle.std.proofs.Common.{◌≡◌, ℕ, List}
use Rattle.machine.specs.Machines.{MachineData}
use Rattle.loop_data.specs.Loops.{LoopData}
use Rattle.loop_schedules.specs.Problems.{ProblemData}
use Rattle.loop_listings.specs.Listings.{ListingData}
use Rattle.loop_listings.specs.Texts.{listing_text_of}
use Rattle.candidates.specs.Files.{ArePrepared, ListsProblems}
use Rattle.candidates.proofs.Listed.{lists_of, right_of}
use Rattle.written.specs.Written.{Written}
use Rattle.printouts.specs.Schedule.{IsListingText, are_met}

pub told_listing : (machine : MachineData) (ratio ceiling : ℕ) (loops : List LoopData) (problems : List ProblemData) (listing : ListingData) (written : Written)
    → written.text ≡ listing_text_of listing → written.all_met ≡ are_met listing.rows → ArePrepared machine ratio ceiling loops problems → ListsProblems ceiling problems listing
    → IsListingText ratio ceiling machine loops written
told_listing machine ratio ceiling loops problems listing written text met are is = record {
  listing = listing;
  lists = lists_of machine ratio ceiling loops problems listing are is;
  right = right_of machine ratio ceiling loops problems listing are is;
  is_text = text;
  met = met;
}
