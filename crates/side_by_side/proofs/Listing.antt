-- What workers write of the rows of a listing is its text.
use Rattle.std.proofs.Common.{◌≡◌, ◌<◌, ℕ, List, ◌++◌, length, get_or}
use Rattle.std.specs.List.{flat_map}
use Rattle.loop_listings.specs.Listings.{ListingData}
use Rattle.loop_listings.specs.Texts.{counts_line, listing_text_of, row_text, version_text}
use Rattle.loop_listings.specs.declared.listings.Row as row
use Rattle.text_parts.specs.declared.part.Part.{Part}
use Rattle.text_parts.specs.Parts.{text_of}
use Rattle.text_parts.proofs.Pieces.{flat_same}

-- parts that tell each row
pub rows_joined : (ceiling : ℕ) (rows : List row.Row) (parts : List Part) → length parts ≡ length rows
    → ((k : ℕ) (r : row.Row) (d : Part) → k < length rows → (get_or parts k d).text.items ≡ row_text ceiling (get_or rows k r))
    → flat_map text_of parts ≡ flat_map (row_text ceiling) rows
rows_joined ceiling rows parts long told = flat_same (row_text ceiling) text_of rows parts long told

-- with what stands before and after them
pub listed : (listing : ListingData) (text : List ℕ) → text ≡ (version_text listing.rows ++ flat_map (row_text listing.ceiling) listing.rows) ++ counts_line listing.rows
    → text ≡ listing_text_of listing
unfolding listing_text_of
listed listing text is = is
