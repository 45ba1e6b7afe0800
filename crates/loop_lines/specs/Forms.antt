-- What a line of a loop text is by its words alone.
--
-- Numbers may have any length in a text. What lies outside its limits is kept as None, since no more is asked of it.
use Rattle.std.specs.Prelude.{ℕ, ℤ, pos, neg_ℤ, ◌-◌, ◌==◌, ◌&&◌, nat_lt, Bool, true, false, if◌then◌else◌, codes, List, [], ◌∷◌, length, take, Option, Some, None, option_map, slice_index}
use Rattle.std.specs.List.{list_any, before_first, after_first}
use Rattle.std.specs.Str.{all_ascii_digits}
use Rattle.std.specs.Str.Parse.{digits_value}
use Rattle.machine_data.specs.declared.opcode.Opcode.{Opcode}
use Rattle.machine_data.specs.declared.opcode.Opcode.TheVariants.{Load, Store}
use Rattle.machine_data.specs.Opcodes.{opcode_named, same_word}
use Rattle.loop_data.specs.Arithmetic.{operands_of}
use Rattle.loop_data.specs.Names.{is_name}

-- what a statement uses: a number, a plain name, or a name at a distance
pub data Use : Type 0 where
  Number : Option ℤ → Use
  Plain : List ℕ → Use
  At : List ℕ → Option ℕ → Use

-- an array's name and the constant of a subscript
pub record Subscript : Type 0 where
  pub array : List ℕ
  pub offset : Option ℤ

-- a statement by its words
pub record StatementForm : Type 0 where
  pub opcode : Opcode
  pub name : Option (List ℕ)
  pub place : Option Subscript
  pub uses : List Use

pub data Form : Type 0 where
  LoopLine : List ℕ → Form
  ArrayLine : List ℕ → List (Option ℤ) → Form
  ParamLine : List ℕ → Option ℤ → Form
  InitLine : List ℕ → Option ℕ → Option ℤ → Form
  StatementLine : StatementForm → Form
  OutLine : List ℕ → Form
  EndLine : Form
  Malformed : Form

-- numbers

abbrev pub is_number : List ℕ → Bool
is_number word = nat_lt 0 (length word) && all_ascii_digits word

-- a number up to 16, as a distance or the number of an initial value
abbrev pub small_of : List ℕ → Option ℕ
small_of word = let n = digits_value 10 word in if nat_lt 16 n then None else Some n

-- a signed number of 64 bits
abbrev pub signed_of : Bool → ℕ → Option ℤ
signed_of negative n = if nat_lt (if negative then 9223372036854775808 else 9223372036854775807) n then None else Some (if negative then neg_ℤ (pos n) else pos n)

-- an integer's value, for digits or `-` and digits
unfoldable pub int_of : List ℕ → Option (Option ℤ)
int_of [] = None
int_of (c ∷ cs) =
    if c == 45 then (if is_number cs then Some (signed_of true (digits_value 10 cs)) else None)
    else (if is_number (c ∷ cs) then Some (signed_of false (digits_value 10 (c ∷ cs))) else None)

-- uses

-- a use `NAME@NUM`
abbrev pub at_of : List ℕ → List ℕ → Option Use
at_of name number = if is_name name && is_number number then Some (At name (small_of number)) else None

abbrev pub named_use_of : List ℕ → Option Use
named_use_of word =
    if list_any (λ c. c == 64) word then at_of (before_first (λ c. c == 64) word) (after_first (λ c. c == 64) word)
    else if is_name word then Some (Plain word) else None

abbrev pub or_use : Option (Option ℤ) → Option Use → Option Use
or_use None named = named
or_use (Some value) named = Some (Number value)

unfoldable pub use_of : List ℕ → Option Use
use_of word = or_use (int_of word) (named_use_of word)

-- the uses that words are, where each is one
abbrev pub with_use : Option Use → Option (List Use) → Option (List Use)
with_use None uses = None
with_use (Some first) None = None
with_use (Some first) (Some uses) = Some (first ∷ uses)

abbrev pub uses_of : List (List ℕ) → Option (List Use)
uses_of [] = Some []
uses_of (word ∷ words) = with_use (use_of word) (uses_of words)

-- places

-- a subscript's constant, -64 to 64
abbrev pub offset_of : Bool → List ℕ → Option (Option ℤ)
offset_of negative digits =
    if is_number digits
    then Some (let n = digits_value 10 digits in if nat_lt 64 n then None else Some (if negative then neg_ℤ (pos n) else pos n))
    else None

-- a subscript: `i`, `i+NUM` or `i-NUM`
unfoldable pub subscript_of : List ℕ → Option (Option ℤ)
subscript_of [] = None
subscript_of (c ∷ []) = if c == 105 then Some (Some (pos 0)) else None
subscript_of (c ∷ sign ∷ digits) =
    if c == 105 && (sign == 43) then offset_of false digits
    else if c == 105 && (sign == 45) then offset_of true digits
    else None

-- a place: `NAME[SUB]`
unfoldable pub place_of : List ℕ → Option Subscript
place_of word =
    let name = before_first (λ c. c == 91) word in
    let rest = after_first (λ c. c == 91) word in
    let inner = take (length rest - 1) rest in
    if is_name name && nat_lt 0 (length rest) && (slice_index rest (length rest - 1) == 93)
    then option_map (λ offset. record { array = name; offset = offset }) (subscript_of inner)
    else None

-- lines

-- the integers that words are, where each is one
abbrev pub with_int : Option (Option ℤ) → Option (List (Option ℤ)) → Option (List (Option ℤ))
with_int None ints = None
with_int (Some int) None = None
with_int (Some int) (Some ints) = Some (int ∷ ints)

abbrev pub ints_of : List (List ℕ) → Option (List (Option ℤ))
ints_of [] = Some []
ints_of (word ∷ words) = with_int (int_of word) (ints_of words)

-- what stands in a form's place where its words are not of the form
abbrev pub formed : Option Form → Form
formed None = Malformed
formed (Some form) = form

-- `loop NAME`
abbrev pub loop_line : List (List ℕ) → Form
loop_line (name ∷ []) = if is_name name then LoopLine name else Malformed
loop_line _ = Malformed

-- `array NAME = INT INT ..`
abbrev pub array_line : List (List ℕ) → Form
array_line (name ∷ equals ∷ cells) =
    if is_name name && same_word equals (codes "=") then formed (option_map (ArrayLine name) (ints_of cells)) else Malformed
array_line _ = Malformed

-- `param NAME = INT`
abbrev pub param_line : List (List ℕ) → Form
param_line (name ∷ equals ∷ value ∷ []) =
    if is_name name && same_word equals (codes "=") then formed (option_map (ParamLine name) (int_of value)) else Malformed
param_line _ = Malformed

-- `init NAME@NUM = INT`
abbrev pub init_of : List ℕ → List ℕ → Option (Option ℤ) → Form
init_of name number None = Malformed
init_of name number (Some value) = if is_name name && is_number number then InitLine name (small_of number) value else Malformed

abbrev pub init_line : List (List ℕ) → Form
init_line (what ∷ equals ∷ value ∷ []) =
    if list_any (λ c. c == 64) what && same_word equals (codes "=")
    then init_of (before_first (λ c. c == 64) what) (after_first (λ c. c == 64) what) (int_of value)
    else Malformed
init_line _ = Malformed

-- `store NAME[SUB] USE`, and `store NAME[SUB] USE if USE`
abbrev pub store_of : Option Subscript → Option (List Use) → Form
store_of None uses = Malformed
store_of (Some place) None = Malformed
store_of (Some place) (Some uses) = StatementLine (record { opcode = Store; name = None; place = Some place; uses = uses })

abbrev pub store_line : List (List ℕ) → Form
store_line (place ∷ value ∷ []) = store_of (place_of place) (uses_of (value ∷ []))
store_line (place ∷ value ∷ word ∷ guard ∷ []) =
    if same_word word (codes "if") then store_of (place_of place) (uses_of (value ∷ guard ∷ [])) else Malformed
store_line _ = Malformed

-- `out NAME`
abbrev pub out_line : List (List ℕ) → Form
out_line (name ∷ []) = if is_name name then OutLine name else Malformed
out_line _ = Malformed

-- `end`
abbrev pub end_line : List (List ℕ) → Form
end_line [] = EndLine
end_line _ = Malformed

-- `NAME = load NAME[SUB]`
abbrev pub load_line : List ℕ → List (List ℕ) → Form
load_line name (place ∷ []) =
    formed (option_map (λ p. StatementLine (record { opcode = Load; name = Some name; place = Some p; uses = [] })) (place_of place))
load_line name _ = Malformed

-- `NAME = OP USE ..`, with as many uses as the opcode takes
abbrev pub compute_line : List ℕ → Opcode → List (List ℕ) → Form
compute_line name opcode words =
    if length words == operands_of opcode
    then formed (option_map (λ uses. StatementLine (record { opcode = opcode; name = Some name; place = None; uses = uses })) (uses_of words))
    else Malformed

abbrev pub value_of : List ℕ → Option Opcode → List (List ℕ) → Form
value_of name None words = Malformed
value_of name (Some Load) words = load_line name words
value_of name (Some Store) words = Malformed
value_of name (Some opcode) words = compute_line name opcode words

-- a statement that gives a value
abbrev pub value_line : List ℕ → List (List ℕ) → Form
value_line name (equals ∷ opcode ∷ words) =
    if is_name name && same_word equals (codes "=") then value_of name (opcode_named opcode) words else Malformed
value_line name _ = Malformed

-- the form of a line with a first word and more words
unfoldable pub form_of : List ℕ → List (List ℕ) → Form
form_of word words =
    if same_word word (codes "loop") then loop_line words
    else if same_word word (codes "array") then array_line words
    else if same_word word (codes "param") then param_line words
    else if same_word word (codes "init") then init_line words
    else if same_word word (codes "store") then store_line words
    else if same_word word (codes "out") then out_line words
    else if same_word word (codes "end") then end_line words
    else value_line word words

-- the form of a line, which has none where it has no words
abbrev pub line_form : List (List ℕ) → Option Form
line_form [] = None
line_form (word ∷ words) = Some (form_of word words)
