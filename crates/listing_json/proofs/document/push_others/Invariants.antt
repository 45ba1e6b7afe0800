use Rattle.std.proofs.Common.{◌≡◌, ◌++◌, take}
use Rattle.std.specs.Prelude.{codes, string_bytes}
use Rattle.std.specs.List.{flat_map}
use Rattle.loop_listings.specs.declared.listings.Row.{Row}
use Rattle.listing_json.specs.Documents.{row_object}
use Rattle.listing_json.proofs.document.push_others.Given as goal

abbrev pub invariant-loop-row : goal.invariant-loop-row
invariant-loop-row l = string_bytes l.text ≡ string_bytes l.initial.text ++ flat_map (λ (row : Row). codes "," ++ row_object l.ceiling row) (take l.row-index l.rows)
