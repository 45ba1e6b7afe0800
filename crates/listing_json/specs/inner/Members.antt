-- Members that objects of loops have.
use Rattle.std.specs.Prelude.{codes}
use Rattle.serde_json.specs.Data.{Members, member, no_members, string}
use Rattle.loop_listings.specs.declared.listings.Row.{Row}
use Rattle.loop_listings.specs.Texts.{mii_in}
use Rattle.listing_json.specs.Documents.{count_value}

-- those of a loop, whether it has a kernel or not
abbrev pub row_members : Row → Members
row_members row =
    member (codes "mii") (count_value (mii_in row))
    (member (codes "name") (string row.name)
    (member (codes "operations") (count_value row.operations)
    (member (codes "recurrences") (count_value row.recurrences)
    (member (codes "resources") (count_value row.resources) no_members))))
