-- The document of a listing, by the objects of its loops.
use Rattle.std.specs.Prelude.{◌≡◌, map}
use Rattle.loop_listings.specs.Listings.{ListingData}
use Rattle.loop_listings.specs.Texts.{number_failed, number_met}
use Rattle.json_objects.specs.Documents.{document_of}
use Rattle.listing_json.specs.Documents.{document_text, row_object}

-- it is the objects, with a comma between two, between the head and the tail of a document of loops
abbrev pub DocumentsAreJoined : Type 0
DocumentsAreJoined =
    (listing : ListingData) → document_text listing ≡ document_of (map (row_object listing.ceiling) listing.rows) (number_met listing.rows) (number_failed listing.rows)
