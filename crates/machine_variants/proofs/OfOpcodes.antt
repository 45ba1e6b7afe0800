-- What a list of all opcodes has for each of them.
use Rattle.std.proofs.Common.{◌≡◌, ◌<◌, Bool, true, false, length, map, get_or, refl, ap, sym, ◌∙◌, lit<}
use Rattle.std.specs.Prelude.{Option, slice_get}
use Rattle.std.specs.List.{list_any}
use Rattle.std.specs.Option.{option_flatten}
use Rattle.std.proofs.lemmas.Bool.{eqb-true, false≢true}
use Rattle.std.proofs.lemmas.List.Folds.{list_any_at}
use Rattle.machine_data.specs.Machines.{OperationData}
use Rattle.machine_data.specs.Opcodes.{all_opcodes, opcode_number}
use Rattle.machine_data.specs.declared.opcode.Opcode.{Opcode}
use Rattle.machine_data.specs.declared.opcode.Opcode.TheVariants.{Load, Store, Add, Sub, Mul, And, Or, Xor, Min, Max, Lt, Sel, Mov}
use Rattle.machine_variants.specs.Variants.{is_opcode}

-- the table of an opcode, where the tables are made one by one
pub table-at : (f : Opcode → Option OperationData) (opcode : Opcode) → option_flatten (slice_get (map f all_opcodes) (opcode_number opcode)) ≡ f opcode
table-at f Load = refl
table-at f Store = refl
table-at f Add = refl
table-at f Sub = refl
table-at f Mul = refl
table-at f And = refl
table-at f Or = refl
table-at f Xor = refl
table-at f Min = refl
table-at f Max = refl
table-at f Lt = refl
table-at f Sel = refl
table-at f Mov = refl

-- an opcode by its number
opcode-at : (opcode : Opcode) → get_or all_opcodes (opcode_number opcode) Load ≡ opcode
opcode-at Load = refl
opcode-at Store = refl
opcode-at Add = refl
opcode-at Sub = refl
opcode-at Mul = refl
opcode-at And = refl
opcode-at Or = refl
opcode-at Xor = refl
opcode-at Min = refl
opcode-at Max = refl
opcode-at Lt = refl
opcode-at Sel = refl
opcode-at Mov = refl

pub same-opcode : (one other : Opcode) → is_opcode one other ≡ true → one ≡ other
same-opcode one other same =
    sym (opcode-at one) ∙ ap (λ n. get_or all_opcodes n Load) (eqb-true (opcode_number one) (opcode_number other) same) ∙ opcode-at other

number-below : (opcode : Opcode) → opcode_number opcode < length all_opcodes
number-below Load = lit< tt
number-below Store = lit< tt
number-below Add = lit< tt
number-below Sub = lit< tt
number-below Mul = lit< tt
number-below And = lit< tt
number-below Or = lit< tt
number-below Xor = lit< tt
number-below Min = lit< tt
number-below Max = lit< tt
number-below Lt = lit< tt
number-below Sel = lit< tt
number-below Mov = lit< tt

pub decide : (b : Bool) → (b ≡ true → ⊥) → b ≡ false
decide true f = absurd (f refl)
decide false f = refl

-- what no opcode has
pub none-has : (p : Opcode → Bool) (opcode : Opcode) → list_any p all_opcodes ≡ false → p opcode ≡ false
none-has p opcode none =
    decide (p opcode)
    (λ has. false≢true (sym none ∙ list_any_at p all_opcodes (opcode_number opcode) Load (number-below opcode) (ap p (opcode-at opcode) ∙ has)))
