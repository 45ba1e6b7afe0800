-- A kernel as text.
use Rattle.std.specs.Prelude.{ℕ, zero, suc, ◌+◌, ◌*◌, ◌==◌, codes, decimal, if◌then◌else◌, List, [], ◌∷◌, ◌++◌, map, filter, length, Option, Some, None}
use Rattle.std.specs.List.{flat_map, slice_index_or}
use Rattle.std.specs.Fmt.{signed_decimal}
use Rattle.writing.specs.Words.{told, with_sign}
use Rattle.machine_data.specs.declared.opcode.Opcode.{Opcode}
use Rattle.machine_data.specs.declared.opcode.Opcode.TheVariants.{Store}
use Rattle.machine_data.specs.Opcodes.{word_of}
use Rattle.loop_data.specs.declared.language.lists.Param.{Param}
use Rattle.kernel.specs.declared.kernels.operation.Operation.{Operation}
use Rattle.kernel.specs.declared.kernels.operation.Address.{Address}
use Rattle.kernel.specs.declared.kernels.operation.Source.{Source}
use Rattle.kernel.specs.declared.kernels.operation.Source.TheVariants.{Register, Parameter, Constant}
use Rattle.kernel.specs.declared.kernels.parts.Parts.{Parts}
use Rattle.kernel.specs.declared.kernels.parts.Preload.{Preload}
use Rattle.kernel.specs.declared.kernels.parts.Out.{Out}

-- `rN`
abbrev pub register_text : ℕ → List ℕ
register_text register = told (codes "r") register

-- `ARRAY[k+X]`
abbrev pub address_text : Parts → Address → List ℕ
address_text parts address = ((slice_index_or parts.arrays address.array [] ++ codes "[k") ++ with_sign address.offset) ++ codes "]"

abbrev pub source_text : Parts → Source → List ℕ
source_text parts (Register name) = register_text name
source_text parts (Parameter number) = slice_index_or (map (λ (p : Param). p.name) parts.params) number []
source_text parts (Constant value) = signed_decimal value

-- a word with a blank in front
abbrev pub spaced : List ℕ → List ℕ
spaced word = codes " " ++ word

abbrev pub spaced_option : {A : Type 0} → (A → List ℕ) → Option A → List ℕ
spaced_option text None = []
spaced_option text (Some x) = spaced (text x)

-- the sources of an operation; a guard of a store stands after `if`
abbrev pub sources_text : Parts → Opcode → List Source → List ℕ
sources_text parts Store (value ∷ guard ∷ []) = (spaced (source_text parts value) ++ codes " if") ++ spaced (source_text parts guard)
sources_text parts opcode sources = flat_map (λ source. spaced (source_text parts source)) sources

-- ` !A` where the alternative isn't number 0
abbrev pub alternative_text : ℕ → List ℕ
alternative_text alternative = if alternative == 0 then [] else told (codes " !") alternative

-- the words of an operation: the opcode, the destination, the address, the sources, `?` with the stage and the alternative
unfoldable pub operation_text : Parts → Operation → List ℕ
operation_text parts op =
    ((((word_of op.opcode ++ spaced_option register_text op.destination) ++ spaced_option (address_text parts) op.address)
    ++ sources_text parts op.opcode op.sources) ++ told (codes " ?") op.stage) ++ alternative_text op.alternative

-- some operations after the row's number: a blank before the first, and ` | ` between two
abbrev pub joined : Parts → List ℕ → List Operation → List ℕ
joined parts before [] = []
joined parts before (op ∷ ops) = (before ++ operation_text parts op) ++ joined parts (codes " | ") ops

-- a row: its number, and its operations in order
unfoldable pub kernel_row_text : Parts → ℕ → List ℕ
kernel_row_text parts row =
    ((decimal row ++ codes ":") ++ joined parts (codes " ") (filter (λ (op : Operation). op.row == row) parts.operations)) ++ codes "\n"

-- rows, from `row` on: the last number is how many
abbrev pub rows_text : Parts → ℕ → ℕ → List ℕ
rows_text parts row zero = []
rows_text parts row (suc n) = kernel_row_text parts row ++ rows_text parts (row + 1) n

-- `pre rN VALUE`
abbrev pub preload_text : Preload → List ℕ
preload_text p = ((codes "pre " ++ register_text p.register) ++ spaced (signed_decimal p.value)) ++ codes "\n"

-- `out NAME rN`
abbrev pub out_text : Out → List ℕ
out_text o = ((codes "out " ++ o.name) ++ spaced (register_text o.register)) ++ codes "\n"

-- the preloads, the rows and the outs, a line each
unfoldable pub kernel_text_of : Parts → List ℕ
kernel_text_of parts = (flat_map preload_text parts.preloads ++ rows_text parts 0 parts.ii) ++ flat_map out_text parts.outs

-- bytes enough for the text: a row without operations has at most 7, an operation 86, a preload 30, an out 26
abbrev pub room_of : Parts → ℕ
room_of parts = parts.ii * 8 + length parts.operations * 96 + length parts.preloads * 32 + length parts.outs * 32
