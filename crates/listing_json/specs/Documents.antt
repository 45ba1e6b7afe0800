-- A listing as a JSON document.
use Rattle.std.specs.Prelude.{ℕ, ℤ, ◌+◌, codes, List, ◌++◌, map, Option, Some, None}
use Rattle.std.specs.Fmt.{signed_decimal}
use Rattle.serde_json.specs.Data.{Data, null, number, string, array, object, unsigned, member, no_members}
use Rattle.serde_json.specs.Find.{of_integer}
use Rattle.serde_json.specs.View.{items_of}
use Rattle.serde_json.specs.Written.{compact_text}
use Rattle.machine_data.specs.Opcodes.{word_of}
use Rattle.loop_data.specs.declared.language.lists.Param.{Param}
use Rattle.kernel.specs.declared.kernels.operation.Operation.{Operation}
use Rattle.kernel.specs.declared.kernels.operation.Address.{Address}
use Rattle.kernel.specs.declared.kernels.operation.Source.{Source}
use Rattle.kernel.specs.declared.kernels.operation.Source.TheVariants.{Register, Parameter, Constant}
use Rattle.kernel.specs.declared.kernels.parts.Parts.{Parts}
use Rattle.kernel.specs.declared.kernels.parts.Preload.{Preload}
use Rattle.kernel.specs.declared.kernels.parts.Out.{Out}
use Rattle.loop_listings.specs.declared.choices.Choice.{Choice}
use Rattle.loop_listings.specs.declared.choices.Choice.TheVariants.{Met, Failed}
use Rattle.loop_listings.specs.declared.listings.Row.{Row}
use Rattle.loop_listings.specs.Listings.{ListingData}
use Rattle.loop_listings.specs.Texts.{cause_word, mii_in, number_met, number_failed}

-- the members of each object stand in the order of their keys

abbrev pub count_value : ℕ → Data
count_value n = number (unsigned n)

-- a number of 64 bits is told by its digits, as a string: many readers keep only 53 bits of a number
abbrev pub digits_value : ℤ → Data
digits_value value = string (signed_decimal value)

abbrev pub string_value : List ℕ → Data
string_value text = string text

abbrev pub one_member : List ℕ → Data → Data
one_member key value = object (member key value no_members)

abbrev pub list_value : {A : Type 0} → (A → Data) → List A → Data
list_value value list = array (items_of (map value list))

-- what an operation reads: `register`, `parameter` or `constant`
abbrev pub source_value : Source → Data
source_value (Register name) = one_member (codes "register") (count_value name)
source_value (Parameter index) = one_member (codes "parameter") (count_value index)
source_value (Constant value) = one_member (codes "constant") (digits_value value)

abbrev pub address_value : Address → Data
address_value address =
    object (member (codes "array") (count_value address.array)
    (member (codes "offset") (number (of_integer address.offset)) no_members))

-- a value where there is one, and else `null`
abbrev pub option_value : {A : Type 0} → (A → Data) → Option A → Data
option_value value None = null
option_value value (Some x) = value x

abbrev pub operation_value : Operation → Data
operation_value op =
    object (member (codes "address") (option_value address_value op.address)
    (member (codes "alternative") (count_value op.alternative)
    (member (codes "destination") (option_value count_value op.destination)
    (member (codes "latency") (count_value op.latency)
    (member (codes "opcode") (string (word_of op.opcode))
    (member (codes "row") (count_value op.row)
    (member (codes "sources") (list_value source_value op.sources)
    (member (codes "stage") (count_value op.stage) no_members))))))))

-- a parameter, with its value
abbrev pub param_value : Param → Data
param_value p = object (member (codes "name") (string p.name) (member (codes "value") (digits_value p.value) no_members))

abbrev pub preload_value : Preload → Data
preload_value p = object (member (codes "register") (count_value p.register) (member (codes "value") (digits_value p.value) no_members))

abbrev pub out_value : Out → Data
out_value o = object (member (codes "name") (string o.name) (member (codes "register") (count_value o.register) no_members))

abbrev pub kernel_value : Parts → Data
kernel_value parts =
    object (member (codes "arrays") (list_value string_value parts.arrays)
    (member (codes "ii") (count_value parts.ii)
    (member (codes "operations") (list_value operation_value parts.operations)
    (member (codes "outs") (list_value out_value parts.outs)
    (member (codes "params") (list_value param_value parts.params)
    (member (codes "preloads") (list_value preload_value parts.preloads)
    (member (codes "registers") (count_value parts.registers)
    (member (codes "stages") (count_value parts.stages) no_members))))))))

-- a loop with its choice: `kernel`, or else `cause` and `failed_to`, the last interval that was tried
abbrev pub choice_value : ℕ → Row → Choice → Data
choice_value last row (Met ii kernel) =
    object (member (codes "kernel") (kernel_value kernel)
    (member (codes "mii") (count_value (mii_in row))
    (member (codes "name") (string row.name)
    (member (codes "operations") (count_value row.operations)
    (member (codes "recurrences") (count_value row.recurrences)
    (member (codes "resources") (count_value row.resources) no_members))))))
choice_value last row (Failed cause) =
    object (member (codes "cause") (string (cause_word cause))
    (member (codes "failed_to") (count_value last)
    (member (codes "mii") (count_value (mii_in row))
    (member (codes "name") (string row.name)
    (member (codes "operations") (count_value row.operations)
    (member (codes "recurrences") (count_value row.recurrences)
    (member (codes "resources") (count_value row.resources) no_members)))))))

abbrev pub row_value : ℕ → Row → Data
row_value ceiling row = choice_value (mii_in row + ceiling) row row.choice

-- a loop as JSON without blanks
abbrev pub row_object : ℕ → Row → List ℕ
row_object ceiling row = compact_text (row_value ceiling row)

-- all loops of a listing, in order
unfoldable pub document_of : ListingData → Data
document_of listing =
    object (member (codes "failed") (count_value (number_failed listing.rows))
    (member (codes "loops") (list_value (row_value listing.ceiling) listing.rows)
    (member (codes "met") (count_value (number_met listing.rows))
    (member (codes "version") (count_value 1) no_members))))

-- the document as JSON without blanks, on one line
abbrev pub document_text : ListingData → List ℕ
document_text listing = compact_text (document_of listing) ++ codes "\n"
