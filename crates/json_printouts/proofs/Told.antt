-- What is written of prepared loops with their listing.
use Rattle.std.proofs.Common.{◌≡◌, ℕ, List}
use Rattle.machine.specs.Machines.{MachineData}
use Rattle.loop_data.specs.Loops.{LoopData}
use Rattle.loop_schedules.specs.Problems.{ProblemData}
use Rattle.loop_listings.specs.Listings.{ListingData}
use Rattle.listing_json.specs.Documents.{document_text}
use Rattle.candidates.specs.Files.{ArePrepared, ListsProblems}
use Rattle.candidates.proofs.Listed.{lists_of, right_of}
use Rattle.written.specs.Written.{Written}
use Rattle.listing_printouts.specs.Met.{are_met}
use Rattle.json_printouts.specs.Documents.{IsListingDocument}

pub told_document : (machine : MachineData) (ratio ceiling : ℕ) (loops : List LoopData) (problems : List ProblemData) (listing : ListingData) (written : Written)
    → written.text ≡ document_text listing → written.all_met ≡ are_met listing.rows → ArePrepared machine ratio ceiling loops problems → ListsProblems ceiling problems listing
    → IsListingDocument ratio ceiling machine loops written
told_document machine ratio ceiling loops problems listing written text met are is = record {
  listing = listing;
  lists = lists_of machine ratio ceiling loops problems listing are is;
  right = right_of machine ratio ceiling loops problems listing are is;
  is_text = text;
  met = met;
}
