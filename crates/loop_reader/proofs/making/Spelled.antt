-- What the words of a line give to its form: names that are formed, numbers within their limits, and the parts of an opcode.
use Rattle.std.proofs.Common.{◌≡◌, ℕ, ℤ, pos, neg_ℤ, ◌+◌, ◌-◌, ◌≤◌, ◌≤ℤ◌, ◌==◌, ◌&&◌, Bool, true, false, if◌then◌else◌, codes, List, [], ◌∷◌, ◌++◌, length, map, take, Option, Some, None, is_some, option_map, nat_lt, refl, sym, ◌∙◌, subst, arith}
use Rattle.std.specs.List.{AllByRecursion, before_first, after_first, list_any, slice_index}
use Rattle.std.specs.Str.Parse.{digits_value}
use Rattle.std.proofs.lemmas.Bool.{false≢true, and_parts, ltb-false, eqb-true}
use Rattle.std.proofs.lemmas.Int.{ints}
use Rattle.std.proofs.lemmas.Option.{none-some, same_Some}
use Rattle.machine_data.specs.declared.opcode.Opcode.{Opcode}
use Rattle.machine_data.specs.declared.opcode.Opcode.TheVariants.{Load, Store}
use Rattle.machine_data.specs.Opcodes.{same_word, opcode_named}
use Rattle.loop_data.specs.declared.language.statement.Statement.{Statement}
use Rattle.loop_lines.specs.Near.{IsNear}
use Rattle.loop_reader.specs.inner.Checks.{IsBlock}
use Rattle.loop_lines.specs.Forms.{Form, LoopLine, ArrayLine, ParamLine, InitLine, StatementLine, OutLine, EndLine, Malformed, StatementForm, Subscript, Use, Number, Plain, At, form_of, line_form, is_number, small_of, signed_of, int_of, ints_of, with_int, at_of, named_use_of, or_use, use_of, uses_of, with_use, offset_of, subscript_of, place_of, formed, loop_line, array_line, param_line, init_line, init_of, store_line, store_of, out_line, end_line, load_line, compute_line, value_of, value_line}
use Rattle.loop_data.specs.Names.{is_name}
use Rattle.loop_data.specs.Arithmetic.{is_memory, operands_of}
use Rattle.loop_data.specs.Loops.{HasShape, IsLong}
use Rattle.loop_reader.specs.Meaning.{statement_of, operand_of, stands, with_line, whole, forms_of}
use Rattle.loop_lines.specs.Words.{lines_of, words_of}
use Rattle.loop_reader.proofs.making.Numbered.{all-join}

abbrev pub OnSome : {T : Type 0} → (T → Type 0) → Option T → Type 0
OnSome P None = Unit {0}
OnSome P (Some x) = P x

-- a cell's offset
abbrev pub IsOffset : Option ℤ → Type 0
IsOffset None = Unit {0}
IsOffset (Some z) = (neg_ℤ (pos 64) ≤ℤ z) × (z ≤ℤ pos 64)

-- a number that is kept has 64 bits
abbrev pub IsKept : Option ℤ → Type 0
IsKept value = OnSome IsLong value

-- what the word of a use gives
abbrev pub IsSpelledUse : Use → Type 0
IsSpelledUse (Number value) = IsKept value
IsSpelledUse (Plain name) = Unit {0}
IsSpelledUse (At name distance) = IsNear distance

-- what the words of a statement give
pub record IsStatementForm (s : StatementForm) : Type 0 where
  pub named : (name : List ℕ) → s.name ≡ Some name → is_name name ≡ true
  pub shape : (block : List Form) → HasShape s.opcode (statement_of block s)
  pub place : OnSome (λ (p : Subscript). IsOffset p.offset) s.place
  pub uses : AllByRecursion IsSpelledUse s.uses

-- what the words of a line give
abbrev pub IsSpelled : Form → Type 0
IsSpelled (ArrayLine name cells) = (is_name name ≡ true) × AllByRecursion IsKept cells
IsSpelled (ParamLine name value) = (is_name name ≡ true) × IsKept value
IsSpelled (InitLine name number value) = IsKept value
IsSpelled (StatementLine source) = IsStatementForm source
IsSpelled _ = Unit {0}

if-some : {T : Type 0} (P : T → Type 0) (b : Bool) (o : Option T) → (b ≡ true → OnSome P o) → OnSome P (if b then o else None)
if-some P true o h = h refl
if-some P false o h = tt

if-either : {T : Type 0} (P : T → Type 0) (b : Bool) (o p : Option T) → (b ≡ true → OnSome P o) → OnSome P p → OnSome P (if b then o else p)
if-either P true o p h k = h refl
if-either P false o p h k = k

-- numbers

near-if : (b : Bool) (n : ℕ) → (b ≡ false → n ≤ 16) → IsNear (if b then None else Some n)
near-if true n h = tt
near-if false n h = h refl

small-near : (word : List ℕ) → IsNear (small_of word)
small-near word = near-if (nat_lt 16 (digits_value 10 word)) (digits_value 10 word) (λ e. ltb-false 16 (digits_value 10 word) e)

kept-if : (b : Bool) (z : ℤ) → (b ≡ false → IsLong z) → IsKept (if b then None else Some z)
kept-if true z h = tt
kept-if false z h = h refl

signed-kept : (negative : Bool) (n : ℕ) → IsKept (signed_of negative n)
signed-kept true n = kept-if (nat_lt 9223372036854775808 n) (neg_ℤ (pos n)) (λ e. let l = ltb-false 9223372036854775808 n e in (omega (arith, ints), omega (arith, ints)))
signed-kept false n = kept-if (nat_lt 9223372036854775807 n) (pos n) (λ e. let l = ltb-false 9223372036854775807 n e in (omega (arith, ints), omega (arith, ints)))

int-kept : (word : List ℕ) → OnSome IsKept (int_of word)
unfolding int_of
int-kept [] = tt
int-kept (c ∷ cs) =
    if-either IsKept (c == 45) (if is_number cs then Some (signed_of true (digits_value 10 cs)) else None) (if is_number (c ∷ cs) then Some (signed_of false (digits_value 10 (c ∷ cs))) else None)
    (λ _. if-some IsKept (is_number cs) (Some (signed_of true (digits_value 10 cs))) (λ _. signed-kept true (digits_value 10 cs)))
    (if-some IsKept (is_number (c ∷ cs)) (Some (signed_of false (digits_value 10 (c ∷ cs)))) (λ _. signed-kept false (digits_value 10 (c ∷ cs))))

ints-with : (first : Option (Option ℤ)) (ints : Option (List (Option ℤ))) → OnSome IsKept first → OnSome (AllByRecursion IsKept) ints → OnSome (AllByRecursion IsKept) (with_int first ints)
ints-with None ints h k = tt
ints-with (Some first) None h k = tt
ints-with (Some first) (Some ints) h k = (h, k)

ints-kept : (words : List (List ℕ)) → OnSome (AllByRecursion IsKept) (ints_of words)
ints-kept [] = tt
ints-kept (word ∷ words) = ints-with (int_of word) (ints_of words) (int-kept word) (ints-kept words)

signed-offset : (negative : Bool) (n : ℕ) → n ≤ 64 → IsOffset (Some (if negative then neg_ℤ (pos n) else pos n))
signed-offset true n h = (omega (arith, ints), omega (arith, ints))
signed-offset false n h = (omega (arith, ints), omega (arith, ints))

offset-if : (b : Bool) (z : ℤ) → (b ≡ false → IsOffset (Some z)) → IsOffset (if b then None else Some z)
offset-if true z h = tt
offset-if false z h = h refl

offset-near : (negative : Bool) (digits : List ℕ) → OnSome IsOffset (offset_of negative digits)
offset-near negative digits =
    let n = digits_value 10 digits in
    let z = if negative then neg_ℤ (pos n) else pos n in
    if-some IsOffset (is_number digits) (Some (if nat_lt 64 n then None else Some z)) (λ _. offset-if (nat_lt 64 n) z (λ e. signed-offset negative n (ltb-false 64 n e)))

-- places

subscript-near : (word : List ℕ) → OnSome IsOffset (subscript_of word)
unfolding subscript_of
subscript-near [] = tt
subscript-near (c ∷ []) = if-some IsOffset (c == 105) (Some (Some (pos 0))) (λ _. signed-offset false 0 (omega arith))
subscript-near (c ∷ sign ∷ digits) =
    if-either IsOffset (c == 105 && (sign == 43)) (offset_of false digits) (if c == 105 && (sign == 45) then offset_of true digits else None) (λ _. offset-near false digits)
    (if-some IsOffset (c == 105 && (sign == 45)) (offset_of true digits) (λ _. offset-near true digits))

abbrev IsSubscript : Subscript → Type 0
IsSubscript p = IsOffset p.offset

placed : (name : List ℕ) (o : Option (Option ℤ)) → OnSome IsOffset o → OnSome IsSubscript (option_map (λ offset. record { array = name; offset = offset }) o)
placed name None h = tt
placed name (Some offset) h = h

place-near : (word : List ℕ) → OnSome IsSubscript (place_of word)
unfolding place_of
place-near word =
    let name = before_first (λ c. c == 91) word in
    let rest = after_first (λ c. c == 91) word in
    let inner = take (length rest - 1) rest in
    if-some IsSubscript (is_name name && nat_lt 0 (length rest) && (slice_index rest (length rest - 1) == 93)) (option_map (λ offset. record { array = name; offset = offset }) (subscript_of inner))
    (λ _. placed name (subscript_of inner) (subscript-near inner))

-- uses

named-near : (word : List ℕ) → OnSome IsSpelledUse (named_use_of word)
named-near word =
    let name = before_first (λ c. c == 64) word in
    let number = after_first (λ c. c == 64) word in
    if-either IsSpelledUse (list_any (λ c. c == 64) word) (at_of name number) (if is_name word then Some (Plain word) else None)
    (λ _. if-some IsSpelledUse (is_name name && is_number number) (Some (At name (small_of number))) (λ _. small-near number))
    (if-some IsSpelledUse (is_name word) (Some (Plain word)) (λ _. tt))

or-near : (o : Option (Option ℤ)) (named : Option Use) → OnSome IsKept o → OnSome IsSpelledUse named → OnSome IsSpelledUse (or_use o named)
or-near None named k h = h
or-near (Some value) named k h = k

use-near : (word : List ℕ) → OnSome IsSpelledUse (use_of word)
unfolding use_of
use-near word = or-near (int_of word) (named_use_of word) (int-kept word) (named-near word)

abbrev IsUses : ℕ → List Use → Type 0
IsUses n uses = AllByRecursion IsSpelledUse uses × (length uses ≡ n)

uses-with : (first : Option Use) (n : ℕ) (uses : Option (List Use)) → OnSome IsSpelledUse first → OnSome (IsUses n) uses → OnSome (IsUses (n + 1)) (with_use first uses)
uses-with None n uses h k = tt
uses-with (Some first) n None h k = tt
uses-with (Some first) n (Some uses) h k = let e = k.1 in ((h, k.0), omega arith)

uses-near : (words : List (List ℕ)) → OnSome (IsUses (length words)) (uses_of words)
uses-near [] = (tt, refl)
uses-near (word ∷ words) =
    let e : length words + 1 ≡ length (word ∷ words) = omega arith in
    subst (λ n. OnSome (IsUses n) (with_use (use_of word) (uses_of words))) e (uses-with (use_of word) (length words) (uses_of words) (use-near word) (uses-near words))

operands-count : (block : List Form) (uses : List Use) → length (map (operand_of block) uses) ≡ length uses
operands-count block [] = refl
operands-count block (u ∷ uses) = let e = operands-count block uses in omega arith

-- lines

if-form : (b : Bool) (x y : Form) → (b ≡ true → IsSpelled x) → IsSpelled y → IsSpelled (if b then x else y)
if-form true x y h k = h refl
if-form false x y h k = k

store-spelled : (place : Option Subscript) (n : ℕ) (uses : Option (List Use)) → 1 ≤ n → n ≤ 2 → OnSome IsSubscript place → OnSome (IsUses n) uses → IsSpelled (store_of place uses)
store-spelled None n uses l m h k = tt
store-spelled (Some place) n None l m h k = tt
store-spelled (Some place) n (Some uses) l m h k =
    let e = k.1 in
    record {
      named = λ name a. absurd (none-some name a);
      shape = λ block. let c = operands-count block uses in (refl, refl, omega arith, omega arith);
      place = h;
      uses = k.0;
    }

store-line : (words : List (List ℕ)) → IsSpelled (store_line words)
store-line [] = tt
store-line (a ∷ []) = tt
store-line (place ∷ value ∷ []) = store-spelled (place_of place) 1 (uses_of (value ∷ [])) (omega arith) (omega arith) (place-near place) (uses-near (value ∷ []))
store-line (place ∷ value ∷ word ∷ []) = tt
store-line (place ∷ value ∷ word ∷ guard ∷ []) =
    if-form (same_word word (codes "if")) (store_of (place_of place) (uses_of (value ∷ guard ∷ []))) Malformed
    (λ _. store-spelled (place_of place) 2 (uses_of (value ∷ guard ∷ [])) (omega arith) (omega arith) (place-near place) (uses-near (value ∷ guard ∷ []))) tt
store-line (place ∷ value ∷ word ∷ guard ∷ more ∷ words) = tt

named-only : (name other : List ℕ) → is_name name ≡ true → Some name ≡ Some other → is_name other ≡ true
named-only name other h e = subst (λ n. is_name n ≡ true) (same_Some name other e) h

load-formed : (name : List ℕ) → is_name name ≡ true → (o : Option Subscript) → OnSome IsSubscript o → IsSpelled (formed (option_map (λ p. StatementLine (record { opcode = Load; name = Some name; place = Some p; uses = [] })) o))
load-formed name h None k = tt
load-formed name h (Some p) k = record { named = λ other e. named-only name other h e; shape = λ block. (refl, refl, refl); place = k; uses = tt }

load-spelled : (name : List ℕ) (words : List (List ℕ)) → is_name name ≡ true → IsSpelled (load_line name words)
load-spelled name [] h = tt
load-spelled name (place ∷ []) h = load-formed name h (place_of place) (place-near place)
load-spelled name (place ∷ more ∷ words) h = tt

compute-shape : (opcode : Opcode) (s : Statement) → is_memory opcode ≡ false → is_some s.name ≡ true → is_some s.place ≡ false → length s.operands ≡ operands_of opcode → HasShape opcode s
compute-shape Load s h a b c = absurd (false≢true (sym h))
compute-shape Store s h a b c = absurd (false≢true (sym h))
compute-shape _ s h a b c = (a, b, c)

compute-formed : (name : List ℕ) (opcode : Opcode) → is_name name ≡ true → is_memory opcode ≡ false → (o : Option (List Use)) → OnSome (IsUses (operands_of opcode)) o
    → IsSpelled (formed (option_map (λ uses. StatementLine (record { opcode = opcode; name = Some name; place = None; uses = uses })) o))
compute-formed name opcode h m None k = tt
compute-formed name opcode h m (Some uses) k =
    record {
      named = λ other e. named-only name other h e;
      shape = λ block. compute-shape opcode (statement_of block (record { opcode = opcode; name = Some name; place = None; uses = uses })) m refl refl (operands-count block uses ∙ k.1);
      place = tt;
      uses = k.0;
    }

compute-spelled : (name : List ℕ) (opcode : Opcode) (words : List (List ℕ)) → is_name name ≡ true → is_memory opcode ≡ false → IsSpelled (compute_line name opcode words)
compute-spelled name opcode words h m =
    if-form (length words == operands_of opcode) (formed (option_map (λ uses. StatementLine (record { opcode = opcode; name = Some name; place = None; uses = uses })) (uses_of words))) Malformed
    (λ e. compute-formed name opcode h m (uses_of words) (subst (λ n. OnSome (IsUses n) (uses_of words)) (eqb-true (length words) (operands_of opcode) e) (uses-near words))) tt

value-spelled : (name : List ℕ) (o : Option Opcode) (words : List (List ℕ)) → is_name name ≡ true → IsSpelled (value_of name o words)
value-spelled name None words h = tt
value-spelled name (Some Load) words h = load-spelled name words h
value-spelled name (Some Store) words h = tt
value-spelled name (Some opcode) words h = compute-spelled name opcode words h refl

value-line : (name : List ℕ) (words : List (List ℕ)) → IsSpelled (value_line name words)
value-line name [] = tt
value-line name (a ∷ []) = tt
value-line name (equals ∷ opcode ∷ words) =
    if-form (is_name name && same_word equals (codes "=")) (value_of name (opcode_named opcode) words) Malformed
    (λ e. value-spelled name (opcode_named opcode) words (and_parts (is_name name) (same_word equals (codes "=")) e).0) tt

loop-line : (words : List (List ℕ)) → IsSpelled (loop_line words)
loop-line [] = tt
loop-line (name ∷ []) = if-form (is_name name) (LoopLine name) Malformed (λ _. tt) tt
loop-line (name ∷ more ∷ words) = tt

array-formed : (name : List ℕ) → is_name name ≡ true → (o : Option (List (Option ℤ))) → OnSome (AllByRecursion IsKept) o → IsSpelled (formed (option_map (ArrayLine name) o))
array-formed name h None k = tt
array-formed name h (Some cells) k = (h, k)

array-line : (words : List (List ℕ)) → IsSpelled (array_line words)
array-line [] = tt
array-line (a ∷ []) = tt
array-line (name ∷ equals ∷ cells) =
    if-form (is_name name && same_word equals (codes "=")) (formed (option_map (ArrayLine name) (ints_of cells))) Malformed
    (λ e. array-formed name (and_parts (is_name name) (same_word equals (codes "=")) e).0 (ints_of cells) (ints-kept cells)) tt

param-formed : (name : List ℕ) → is_name name ≡ true → (o : Option (Option ℤ)) → OnSome IsKept o → IsSpelled (formed (option_map (ParamLine name) o))
param-formed name h None k = tt
param-formed name h (Some value) k = (h, k)

param-line : (words : List (List ℕ)) → IsSpelled (param_line words)
param-line [] = tt
param-line (a ∷ []) = tt
param-line (a ∷ b ∷ []) = tt
param-line (name ∷ equals ∷ value ∷ []) =
    if-form (is_name name && same_word equals (codes "=")) (formed (option_map (ParamLine name) (int_of value))) Malformed
    (λ e. param-formed name (and_parts (is_name name) (same_word equals (codes "=")) e).0 (int_of value) (int-kept value)) tt
param-line (a ∷ b ∷ c ∷ d ∷ words) = tt

init-formed : (name number : List ℕ) (o : Option (Option ℤ)) → OnSome IsKept o → IsSpelled (init_of name number o)
init-formed name number None k = tt
init-formed name number (Some value) k = if-form (is_name name && is_number number) (InitLine name (small_of number) value) Malformed (λ _. k) tt

init-line : (words : List (List ℕ)) → IsSpelled (init_line words)
init-line [] = tt
init-line (a ∷ []) = tt
init-line (a ∷ b ∷ []) = tt
init-line (what ∷ equals ∷ value ∷ []) =
    if-form (list_any (λ c. c == 64) what && same_word equals (codes "=")) (init_of (before_first (λ c. c == 64) what) (after_first (λ c. c == 64) what) (int_of value)) Malformed
    (λ _. init-formed (before_first (λ c. c == 64) what) (after_first (λ c. c == 64) what) (int_of value) (int-kept value)) tt
init-line (a ∷ b ∷ c ∷ d ∷ words) = tt

out-line : (words : List (List ℕ)) → IsSpelled (out_line words)
out-line [] = tt
out-line (name ∷ []) = if-form (is_name name) (OutLine name) Malformed (λ _. tt) tt
out-line (name ∷ more ∷ words) = tt

end-line : (words : List (List ℕ)) → IsSpelled (end_line words)
end-line [] = tt
end-line (a ∷ words) = tt

pub form-spelled : (word : List ℕ) (words : List (List ℕ)) → IsSpelled (form_of word words)
unfolding form_of
form-spelled word words =
    if-form (same_word word (codes "loop")) (loop_line words) _ (λ _. loop-line words)
    (if-form (same_word word (codes "array")) (array_line words) _ (λ _. array-line words)
    (if-form (same_word word (codes "param")) (param_line words) _ (λ _. param-line words)
    (if-form (same_word word (codes "init")) (init_line words) _ (λ _. init-line words)
    (if-form (same_word word (codes "store")) (store_line words) _ (λ _. store-line words)
    (if-form (same_word word (codes "out")) (out_line words) _ (λ _. out-line words)
    (if-form (same_word word (codes "end")) (end_line words) (value_line word words) (λ _. end-line words) (value-line word words)))))))

-- blocks

line-spelled : (words : List (List ℕ)) → OnSome IsSpelled (line_form words)
line-spelled [] = tt
line-spelled (word ∷ words) = form-spelled word words

lines-spelled : (lines : List (List ℕ)) → AllByRecursion (OnSome IsSpelled) (map (λ line. line_form (words_of line)) lines)
lines-spelled [] = tt
lines-spelled (line ∷ lines) = (line-spelled (words_of line), lines-spelled lines)

with-spelled : (b : Bool) (before : List Form) (form : Form) → AllByRecursion IsSpelled before → IsSpelled form → AllByRecursion IsSpelled (if b then before ++ form ∷ [] else before)
with-spelled true before form h k = all-join IsSpelled before (form ∷ []) h (k, tt)
with-spelled false before form h k = h

whole-spelled : (before : List Form) (lines : List (Option Form)) → AllByRecursion IsSpelled before → AllByRecursion (OnSome IsSpelled) lines → AllByRecursion IsSpelled (whole before lines)
whole-spelled before [] h k = h
whole-spelled before (None ∷ lines) h k = whole-spelled before lines h k.1
whole-spelled before (Some EndLine ∷ lines) h k = h
whole-spelled before (Some (LoopLine n) ∷ lines) h k = whole-spelled before lines h k.1
whole-spelled before (Some (ArrayLine n c) ∷ lines) h k = whole-spelled (with_line before (ArrayLine n c)) lines (with-spelled (stands before (ArrayLine n c)) before (ArrayLine n c) h k.0) k.1
whole-spelled before (Some (ParamLine n v) ∷ lines) h k = whole-spelled (with_line before (ParamLine n v)) lines (with-spelled (stands before (ParamLine n v)) before (ParamLine n v) h k.0) k.1
whole-spelled before (Some (InitLine n m v) ∷ lines) h k = whole-spelled (with_line before (InitLine n m v)) lines (with-spelled (stands before (InitLine n m v)) before (InitLine n m v) h k.0) k.1
whole-spelled before (Some (StatementLine s) ∷ lines) h k = whole-spelled (with_line before (StatementLine s)) lines (with-spelled (stands before (StatementLine s)) before (StatementLine s) h k.0) k.1
whole-spelled before (Some (OutLine n) ∷ lines) h k = whole-spelled (with_line before (OutLine n)) lines (with-spelled (stands before (OutLine n)) before (OutLine n) h k.0) k.1
whole-spelled before (Some Malformed ∷ lines) h k = whole-spelled before lines h k.1

pub block-spelled : (block : List Form) → IsBlock block → AllByRecursion IsSpelled block
block-spelled block (text, e) = subst (AllByRecursion IsSpelled) (sym e) (whole-spelled [] (forms_of text) tt (lines-spelled (lines_of text)))
