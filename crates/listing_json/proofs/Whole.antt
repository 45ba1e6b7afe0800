-- What is told of a loop has whole numbers alone.
use Rattle.std.proofs.Common.{◌≡◌, ℕ, ℤ, pos, negsuc, Bool, false, ◌||◌, List, [], ◌∷◌, map, Option, Some, None, refl, ap₂}
use Rattle.serde_json.specs.Data.{Data, number}
use Rattle.serde_json.specs.Find.{of_integer}
use Rattle.serde_json.specs.View.{items_of}
use Rattle.serde_json.specs.Written.{has_float, items_have_float}
use Rattle.kernel.specs.declared.kernels.operation.Operation.{Operation}
use Rattle.kernel.specs.declared.kernels.operation.Address.{Address}
use Rattle.kernel.specs.declared.kernels.operation.Source.{Source}
use Rattle.kernel.specs.declared.kernels.operation.Source.TheVariants.{Register, Parameter, Constant}
use Rattle.kernel.specs.declared.kernels.parts.Parts.{Parts}
use Rattle.loop_listings.specs.declared.choices.Choice.{Choice}
use Rattle.loop_listings.specs.declared.choices.Choice.TheVariants.{Met, Failed}
use Rattle.loop_listings.specs.declared.listings.Row.{Row}
use Rattle.listing_json.specs.Documents.{address_value, choice_value, count_value, kernel_value, list_value, operation_value, option_value, out_value, param_value, preload_value, row_value, source_value, string_value}

-- a value has whole numbers alone
abbrev IsWhole : Data → Type 0
IsWhole d = has_float d ≡ false

neither : (a b : Bool) → a ≡ false → b ≡ false → (a || b) ≡ false
neither a b p q = ap₂ (λ (x y : Bool). x || y) p q

items-whole : {A : Type 0} (value : A → Data) (list : List A) → ((x : A) → IsWhole (value x)) → items_have_float (items_of (map value list)) ≡ false
items-whole value [] each = refl
items-whole value (x ∷ xs) each = neither _ _ (each x) (items-whole value xs each)

list-whole : {A : Type 0} (value : A → Data) (list : List A) → ((x : A) → IsWhole (value x)) → IsWhole (list_value value list)
list-whole value list each = items-whole value list each

integer-whole : (z : ℤ) → IsWhole (number (of_integer z))
integer-whole (pos n) = refl
integer-whole (negsuc n) = refl

source-whole : (s : Source) → IsWhole (source_value s)
source-whole (Register name) = refl
source-whole (Parameter index) = refl
source-whole (Constant value) = refl

address-whole : (a : Option Address) → IsWhole (option_value address_value a)
address-whole None = refl
address-whole (Some a) = neither _ _ (integer-whole a.offset) refl

register-whole : (r : Option ℕ) → IsWhole (option_value count_value r)
register-whole None = refl
register-whole (Some r) = refl

operation-whole : (op : Operation) → IsWhole (operation_value op)
operation-whole op =
    neither _ _ (address-whole op.address) (neither _ _ (register-whole op.destination) (neither _ _ (list-whole source_value op.sources source-whole) refl))

kernel-whole : (parts : Parts) → IsWhole (kernel_value parts)
kernel-whole parts =
    neither _ _ (list-whole string_value parts.arrays (λ _. refl))
    (neither _ _ (list-whole operation_value parts.operations operation-whole)
    (neither _ _ (list-whole out_value parts.outs (λ _. refl))
    (neither _ _ (list-whole param_value parts.params (λ _. refl))
    (neither _ _ (list-whole preload_value parts.preloads (λ _. refl)) refl))))

choice-whole : (last : ℕ) (row : Row) (choice : Choice) → IsWhole (choice_value last row choice)
choice-whole last row (Met ii kernel) = neither _ _ (kernel-whole kernel) refl
choice-whole last row (Failed cause) = refl

pub row_whole : (ceiling : ℕ) (row : Row) → has_float (row_value ceiling row) ≡ false
row_whole ceiling row = choice-whole _ row row.choice
