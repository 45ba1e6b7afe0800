-- What is told of loops as JSON objects.
use Rattle.std.specs.Prelude.{ℕ, ◌==◌, ◌-◌, codes, if◌then◌else◌, List, ◌++◌, length, take}
use Rattle.std.specs.List.{flat_map}
use Rattle.loop_listings.specs.declared.listings.Row.{Row}
use Rattle.listing_json.specs.Documents.{row_object}

-- the objects of rows, each before a comma
abbrev pub objects_text : ℕ → List Row → List ℕ
objects_text ceiling rows = flat_map (λ (row : Row). row_object ceiling row ++ codes ",") rows

-- .. without the comma after the last one, where there are this many
abbrev pub without_comma : ℕ → List ℕ → List ℕ
without_comma count text = if count == 0 then text else take (length text - 1) text
