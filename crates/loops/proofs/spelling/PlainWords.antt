-- The words of the canonical text are plain: no byte of them parts words or lines or begins a comment.
use Rattle.std.proofs.Common.{◌≡◌, ℕ, zero, suc, ℤ, pos, negsuc, ◌<◌, ◌≤◌, ◌^◌, true, ltb, List, [], ◌∷◌, ◌++◌, length, refl, arith, FitsSigned, w64}
use Rattle.std.specs.Char.{is_ascii_digit}
use Rattle.std.specs.Fmt.{decimal, signed_decimal}
use Rattle.std.specs.List.{list_all}
use Rattle.std.specs.Str.{all_ascii_digits}
use Rattle.std.proofs.lemmas.Bool.{and_parts, and_from}
use Rattle.std.proofs.lemmas.Int.{ints}
use Rattle.std.proofs.lemmas.Bool.Decides.{nat_tests}
use Rattle.machine_data.specs.declared.opcode.Opcode.{Opcode}
use Rattle.machine_data.specs.declared.opcode.Opcode.TheVariants.{Load, Store, Add, Sub, Mul, And, Or, Xor, Min, Max, Lt, Sel, Mov}
use Rattle.machine_data.specs.Opcodes.{word_of}
use Rattle.loop_lines.specs.Forms.{is_number}
use Rattle.loop_data.specs.Loops.{IsLong}
use Rattle.writing.specs.Words.{at}
use Rattle.loops.specs.Text.{offset_text}
use Rattle.loops.proofs.spelling.Numerals.{is_number-decimal}
use Rattle.loops.proofs.spelling.Splitting.{is_plain_byte, is_plain, list_all-append}

-- bytes

digit_is_plain : (c : ℕ) → is_ascii_digit c ≡ true → is_plain_byte c ≡ true
digit_is_plain c h = grind (arith, nat_tests)

digits_are_plain : (cs : List ℕ) → all_ascii_digits cs ≡ true → list_all is_plain_byte cs ≡ true
digits_are_plain [] h = refl
digits_are_plain (c ∷ cs) h =
    let parts = and_parts (is_ascii_digit c) (all_ascii_digits cs) h in
    and_from (is_plain_byte c) (list_all is_plain_byte cs) (digit_is_plain c parts.0) (digits_are_plain cs parts.1)

pub plain_join : (word rest : List ℕ) → is_plain word ≡ true → list_all is_plain_byte rest ≡ true → is_plain (word ++ rest) ≡ true
plain_join [] rest h k = cc
plain_join (c ∷ cs) rest h k =
    let parts = and_parts (is_plain_byte c) (list_all is_plain_byte cs) h in
    and_from (is_plain_byte c) (list_all is_plain_byte (cs ++ rest)) parts.0 (list_all-append is_plain_byte cs rest parts.1 k)

-- numbers

pub decimal_bytes : (n : ℕ) → n < 2 ^ 64 → list_all is_plain_byte (decimal n) ≡ true
decimal_bytes n h = digits_are_plain (decimal n) (and_parts (ltb 0 (length (decimal n))) (all_ascii_digits (decimal n)) (is_number-decimal n h)).1

number_is_plain : (ds : List ℕ) → is_number ds ≡ true → is_plain ds ≡ true
number_is_plain [] h = cc
number_is_plain (c ∷ cs) h = digits_are_plain (c ∷ cs) (and_parts (ltb 0 (length (c ∷ cs))) (all_ascii_digits (c ∷ cs)) h).1

-- a number of 64 bits
pub long-fits : (v : ℤ) → IsLong v → FitsSigned w64 v
long-fits (pos n) h =
    let k = h.1 in
    record { sfits = omega (arith, ints) }
long-fits (negsuc n) h =
    let k = h.0 in
    record { sfits = omega (arith, ints) }

pub is_plain-signed : (v : ℤ) → FitsSigned w64 v → is_plain (signed_decimal v) ≡ true
is_plain-signed (pos n) fits =
    let small : n < 9223372036854775808 = fits.sfits in
    number_is_plain (decimal n) (is_number-decimal n (omega arith))
is_plain-signed (negsuc n) fits =
    let small : n < 9223372036854775808 = fits.sfits in
    decimal_bytes (suc n) (omega arith)

-- names at a distance, and places

pub is_plain-distance : (name : List ℕ) (n : ℕ) → is_plain name ≡ true → n ≤ 16 → is_plain (at name n) ≡ true
is_plain-distance name zero h few = h
is_plain-distance name (suc n) h few = plain_join name (64 ∷ decimal (suc n)) h (decimal_bytes (suc n) (omega arith))

offset_bytes : (offset : ℤ) → IsLong offset → list_all is_plain_byte (offset_text offset) ≡ true
offset_bytes (pos zero) h = refl
offset_bytes (pos (suc n)) h =
    let k = h.1 in
    decimal_bytes (suc n) (omega (arith, ints))
offset_bytes (negsuc n) h =
    let k = h.0 in
    decimal_bytes (suc n) (omega (arith, ints))

pub is_plain-place : (name : List ℕ) (offset : ℤ) → is_plain name ≡ true → IsLong offset → is_plain (name ++ (91 ∷ 105 ∷ (offset_text offset ++ 93 ∷ []))) ≡ true
is_plain-place name offset h long =
    plain_join name (91 ∷ 105 ∷ (offset_text offset ++ 93 ∷ [])) h (list_all-append is_plain_byte (offset_text offset) (93 ∷ []) (offset_bytes offset long) refl)

-- opcodes

pub is_plain-opcode : (opcode : Opcode) → is_plain (word_of opcode) ≡ true
is_plain-opcode Load = refl
is_plain-opcode Store = refl
is_plain-opcode Add = refl
is_plain-opcode Sub = refl
is_plain-opcode Mul = refl
is_plain-opcode And = refl
is_plain-opcode Or = refl
is_plain-opcode Xor = refl
is_plain-opcode Min = refl
is_plain-opcode Max = refl
is_plain-opcode Lt = refl
is_plain-opcode Sel = refl
is_plain-opcode Mov = refl
