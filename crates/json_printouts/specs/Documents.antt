-- What `json` writes.
use Rattle.std.specs.Prelude.{◌≡◌, ℕ, List}
use Rattle.machine.specs.Machines.{MachineData}
use Rattle.loop_data.specs.Loops.{LoopData}
use Rattle.loop_listings.specs.Listings.{ListingData}
use Rattle.candidates.specs.Promises.{IsRight, Lists}
use Rattle.listing_json.specs.Documents.{document_text}
use Rattle.written.specs.Written.{Written}
use Rattle.listing_printouts.specs.Met.{are_met}

-- the document of the listing of one thread, each kernel of which is right, with whether every loop has a kernel
pub record IsListingDocument (ratio ceiling : ℕ) (machine : MachineData) (loops : List LoopData) (written : Written) : Type 0 where
  pub listing : ListingData
  pub lists : Lists machine loops ratio ceiling listing
  pub right : IsRight machine loops listing
  pub is_text : written.text ≡ document_text listing
  pub met : written.all_met ≡ are_met listing.rows
