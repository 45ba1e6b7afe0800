-- Statements and initial values of the canonical text have the forms that they were written from.
use Rattle.std.proofs.Common.{◌≡◌, ℕ, ℤ, ◌≤◌, Bool, true, false, cond, eqb, not, ◌&&◌, List, [], ◌∷◌, ◌++◌, codes, length, map, Option, Some, None, is_some, refl, ap, ◌∙◌, arith, FitsSigned, w64}
use Rattle.std.specs.List.{AllByRecursion, list_any, find, before_first, after_first}
use Rattle.std.specs.Option.{option_map}
use Rattle.std.specs.Fmt.{decimal, signed_decimal}
use Rattle.std.proofs.lemmas.Bool.{and_parts, and_from, or_parts, not-true, cond-true, cond-false, eq-eqb}
use Rattle.machine_data.specs.declared.opcode.Opcode.{Opcode}
use Rattle.machine_data.specs.declared.opcode.Opcode.TheVariants.{Load, Store, Add, Sub, Mul, And, Or, Xor, Min, Max, Lt, Sel, Mov}
use Rattle.machine_data.specs.Opcodes.{word_of, opcode_named, same_word}
use Rattle.loop_lines.specs.Forms.{Form, Use, Subscript, InitLine, StatementLine, Malformed, small_of, is_number, int_of, init_of, init_line, with_use, uses_of, use_of, place_of, formed, loop_line, array_line, param_line, store_line, store_of, out_line, end_line, compute_line, value_of, value_line, form_of}
use Rattle.loop_data.specs.Names.{is_name, is_reserved, starts_name, keywords}
use Rattle.loop_data.specs.Arithmetic.{operands_of}
use Rattle.loop_reader.proofs.lookups.Declared.{same_word-sym}
use Rattle.loops.proofs.spelling.Numerals.{int_of-signed_decimal, is_number-decimal, small_of-decimal}
use Rattle.loops.proofs.spelling.Forming.{before_first-at, after_first-at, list_any-at, name_not_at}

-- a name is no word of the language

find-first : (p : Opcode → Bool) (o : Opcode) (os : List Opcode) → is_some (find p (o ∷ os)) ≡ false → (p o ≡ false) × (is_some (find p os) ≡ false)
find-first p o os h = elim (p o) as (λ b. is_some (cond b (Some o) (find p os)) ≡ false → (b ≡ false) × (is_some (find p os) ≡ false)) [ true ↦ λ k. cc | false ↦ λ k. (refl, k) ] h

no_reserved : (name : List ℕ) → is_name name ≡ true → is_reserved name ≡ false
unfolding is_name
no_reserved name h = not-true (is_reserved name) (and_parts (starts_name name) (not (is_reserved name)) h).1

not_store : (name : List ℕ) → is_some (opcode_named name) ≡ false → same_word name (codes "store") ≡ false
not_store name h =
    let rest : List Opcode = Add ∷ Sub ∷ Mul ∷ And ∷ Or ∷ Xor ∷ Min ∷ Max ∷ Lt ∷ Sel ∷ Mov ∷ [] in
    let test : Opcode → Bool = λ o. same_word (word_of o) name in
    same_word-sym name (codes "store") ∙ (find-first test Store rest (find-first test Load (Store ∷ rest) h).1).0

skip : (b : Bool) (x y z : Form) → b ≡ false → y ≡ z → cond b x y ≡ z
skip b x y z h e = cond-false b x y h ∙ e

-- a line that begins with a name is a statement that gives a value
pub form_of-name : (name : List ℕ) (words : List (List ℕ)) → is_name name ≡ true → form_of name words ≡ value_line name words
unfolding form_of
form_of-name name words h =
    let same : List ℕ → Bool = same_word name in
    let either = or_parts (list_any same keywords) (is_some (opcode_named name)) (no_reserved name h) in
    let k1 = or_parts (same (codes "loop")) _ either.0 in
    let k2 = or_parts (same (codes "array")) _ k1.1 in
    let k3 = or_parts (same (codes "param")) _ k2.1 in
    let k4 = or_parts (same (codes "init")) _ k3.1 in
    let k5 = or_parts (same (codes "end")) _ k4.1 in
    let k6 = or_parts (same (codes "out")) _ k5.1 in
    skip (same (codes "loop")) (loop_line words) _ _ k1.0
    (skip (same (codes "array")) (array_line words) _ _ k2.0
    (skip (same (codes "param")) (param_line words) _ _ k3.0
    (skip (same (codes "init")) (init_line words) _ _ k4.0
    (skip (same (codes "store")) (store_line words) _ _ (not_store name either.1)
    (skip (same (codes "out")) (out_line words) _ _ k6.0
    (skip (same (codes "end")) (end_line words) _ _ k5.0 refl))))))

opcode_named-word : (opcode : Opcode) → opcode_named (word_of opcode) ≡ Some opcode
opcode_named-word Load = refl
opcode_named-word Store = refl
opcode_named-word Add = refl
opcode_named-word Sub = refl
opcode_named-word Mul = refl
opcode_named-word And = refl
opcode_named-word Or = refl
opcode_named-word Xor = refl
opcode_named-word Min = refl
opcode_named-word Max = refl
opcode_named-word Lt = refl
opcode_named-word Sel = refl
opcode_named-word Mov = refl

form_of-value : (opcode : Opcode) (name : List ℕ) (words : List (List ℕ)) → is_name name ≡ true
    → form_of name (codes "=" ∷ word_of opcode ∷ words) ≡ value_of name (Some opcode) words
form_of-value opcode name words h =
    form_of-name name (codes "=" ∷ word_of opcode ∷ words) h
    ∙ cond-true (is_name name && true) (value_of name (opcode_named (word_of opcode)) words) Malformed (and_from (is_name name) true h refl)
    ∙ ap (λ o. value_of name o words) (opcode_named-word opcode)

-- uses

pub uses_of-words : {X : Type 0} (word : X → List ℕ) (use_in : X → Use) (xs : List X) → AllByRecursion (λ x. use_of (word x) ≡ Some (use_in x)) xs → uses_of (map word xs) ≡ Some (map use_in xs)
uses_of-words word use_in [] h = refl
uses_of-words word use_in (x ∷ xs) h =
    ap (λ o. with_use o (uses_of (map word xs))) h.0 ∙ ap (with_use (Some (use_in x))) (uses_of-words word use_in xs h.1)

-- statements

pub form_of-load : (name place : List ℕ) (subscript : Subscript) → is_name name ≡ true → place_of place ≡ Some subscript
    → form_of name (codes "=" ∷ codes "load" ∷ place ∷ []) ≡ StatementLine (record { opcode = Load; name = Some name; place = Some subscript; uses = [] })
form_of-load name place subscript h at =
    form_of-value Load name (place ∷ []) h
    ∙ ap (λ o. formed (option_map (λ p. StatementLine (record { opcode = Load; name = Some name; place = Some p; uses = [] })) o)) at

-- an opcode that is neither load nor store
abbrev pub Computes : Opcode → Type 0
Computes opcode = (name : List ℕ) (words : List (List ℕ)) → value_of name (Some opcode) words ≡ compute_line name opcode words

pub form_of-compute : (opcode : Opcode) (name : List ℕ) (words : List (List ℕ)) (uses : List Use) → Computes opcode → is_name name ≡ true → length words ≡ operands_of opcode → uses_of words ≡ Some uses
    → form_of name (codes "=" ∷ word_of opcode ∷ words) ≡ StatementLine (record { opcode = opcode; name = Some name; place = None; uses = uses })
form_of-compute opcode name words uses computes h count read =
    form_of-value opcode name words h ∙ computes name words
    ∙ cond-true (eqb (length words) (operands_of opcode)) (formed (option_map (λ u. StatementLine (record { opcode = opcode; name = Some name; place = None; uses = u })) (uses_of words))) Malformed
    (eq-eqb (length words) (operands_of opcode) count)
    ∙ ap (λ o. formed (option_map (λ u. StatementLine (record { opcode = opcode; name = Some name; place = None; uses = u })) o)) read

abbrev pub stored : Subscript → List Use → Form
stored subscript uses = StatementLine (record { opcode = Store; name = None; place = Some subscript; uses = uses })

store_of-parts : (place : List ℕ) (subscript : Subscript) (words : List (List ℕ)) (uses : List Use) → place_of place ≡ Some subscript → uses_of words ≡ Some uses → store_of (place_of place) (uses_of words) ≡ stored subscript uses
store_of-parts place subscript words uses at read = ap (λ o. store_of o (uses_of words)) at ∙ ap (store_of (Some subscript)) read

pub form_of-store : (place value : List ℕ) (subscript : Subscript) (uses : List Use) → place_of place ≡ Some subscript → uses_of (value ∷ []) ≡ Some uses
    → form_of (codes "store") (place ∷ value ∷ []) ≡ stored subscript uses
unfolding form_of
form_of-store place value subscript uses at read = store_of-parts place subscript (value ∷ []) uses at read

pub form_of-guarded : (place value guard : List ℕ) (subscript : Subscript) (uses : List Use) → place_of place ≡ Some subscript → uses_of (value ∷ guard ∷ []) ≡ Some uses
    → form_of (codes "store") (place ∷ value ∷ codes "if" ∷ guard ∷ []) ≡ stored subscript uses
unfolding form_of
form_of-guarded place value guard subscript uses at read = store_of-parts place subscript (value ∷ guard ∷ []) uses at read

-- initial values

init_of-parts : (name : List ℕ) (n : ℕ) (value : Option ℤ) → is_name name ≡ true → n ≤ 16 → init_of name (decimal n) (Some value) ≡ InitLine name (Some n) value
init_of-parts name n value h few =
    cond-true (is_name name && is_number (decimal n)) (InitLine name (small_of (decimal n)) value) Malformed (and_from (is_name name) (is_number (decimal n)) h (is_number-decimal n (omega arith)))
    ∙ ap (λ o. InitLine name o value) (small_of-decimal n few)

pub form_of-init : (name : List ℕ) (n : ℕ) (value : ℤ) → is_name name ≡ true → n ≤ 16 → FitsSigned w64 value
    → form_of (codes "init") ((name ++ 64 ∷ decimal n) ∷ codes "=" ∷ signed_decimal value ∷ []) ≡ InitLine name (Some n) (Some value)
unfolding form_of
form_of-init name n value h few fits =
    let at : ℕ → Bool = λ c. eqb c 64 in
    let what : List ℕ = name ++ 64 ∷ decimal n in
    cond-true (list_any at what && true) (init_of (before_first at what) (after_first at what) (int_of (signed_decimal value))) Malformed
    (and_from (list_any at what) true (list_any-at at name (decimal n) 64 refl) refl)
    ∙ ap (λ w. init_of w (after_first at what) (int_of (signed_decimal value))) (before_first-at at name (decimal n) 64 (name_not_at name h) refl)
    ∙ ap (λ w. init_of name w (int_of (signed_decimal value))) (after_first-at at name (decimal n) 64 (name_not_at name h) refl)
    ∙ ap (init_of name (decimal n)) (int_of-signed_decimal value fits)
    ∙ init_of-parts name n (Some value) h few
