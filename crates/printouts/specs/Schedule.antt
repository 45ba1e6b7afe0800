-- What `schedule` writes.
use Rattle.std.specs.Prelude.{◌≡◌, ℕ, List}
use Rattle.machine.specs.Machines.{MachineData}
use Rattle.loop_data.specs.Loops.{LoopData}
use Rattle.loop_listings.specs.Listings.{ListingData}
use Rattle.candidates.specs.Promises.{IsRight, Lists}
pub use Rattle.listing_printouts.specs.Met.{are_met}
use Rattle.loop_listings.specs.Texts.{listing_text_of}
use Rattle.written.specs.Written.{Written}

-- the text of the listing of one thread, each kernel of which is right, with whether every loop has a kernel
pub record IsListingText (ratio ceiling : ℕ) (machine : MachineData) (loops : List LoopData) (written : Written) : Type 0 where
  pub listing : ListingData
  pub lists : Lists machine loops ratio ceiling listing
  pub right : IsRight machine loops listing
  pub is_text : written.text ≡ listing_text_of listing
  pub met : written.all_met ≡ are_met listing.rows
