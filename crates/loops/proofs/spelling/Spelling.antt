-- The lines of a loop's canonical text have the forms that they were written from.
use Rattle.std.proofs.Common.{◌≡◌, ℕ, zero, suc, ℤ, ◌≤◌, true, false, List, [], ◌∷◌, ◌++◌, codes, length, map, Option, Some, None, is_some, refl, ap, ◌∙◌, arith, append_assoc, FitsSigned, w64}
use Rattle.std.specs.Fmt.{signed_decimal}
use Rattle.std.specs.List.{All, AllZip, AllByRecursion, slice_get}
use Rattle.std.specs.Option.{option_map}
use Rattle.std.proofs.lemmas.Bool.{false≢true, true≢false}
use Rattle.std.proofs.lemmas.Int.{ints}
use Rattle.std.proofs.lemmas.List.{length-map}
use Rattle.std.proofs.lemmas.List.Elements.{recursion_from_All}
use Rattle.machine_data.specs.declared.opcode.Opcode.{Opcode}
use Rattle.machine_data.specs.declared.opcode.Opcode.TheVariants.{Load, Store, Add, Sub, Mul, And, Or, Xor, Min, Max, Lt, Sel, Mov}
use Rattle.loop_data.specs.declared.language.lists.Array.{Array}
use Rattle.loop_data.specs.declared.language.lists.Param.{Param}
use Rattle.loop_data.specs.declared.language.lists.Initial.{Initial}
use Rattle.loop_data.specs.declared.language.statement.Operand.{Operand}
use Rattle.loop_data.specs.declared.language.statement.Operand.TheVariants.{Constant, Parameter, Value}
use Rattle.loop_data.specs.declared.language.statement.Place.{Place}
use Rattle.loop_data.specs.declared.language.statement.Statement.{Statement}
use Rattle.loop_lines.specs.Forms.{Form, LoopLine, InitLine, StatementLine, EndLine, Number, line_form, form_of, use_of, named_use_of, or_use, place_of}
use Rattle.loop_data.specs.Names.{is_name}
use Rattle.loop_data.specs.Arithmetic.{operands_of}
use Rattle.loop_data.specs.Loops.{LoopData, IsLoop, IsName, IsLong, IsPlace, MayRead, HasShape, GivesValue, HasInitial}
use Rattle.loop_reader.specs.Meaning.{forms_of}
use Rattle.writing.specs.Words.{at}
use Rattle.loops.specs.Text.{array_name, param_name, value_name, operand_word, place_word, place_words, offset_text, array_words, param_words, init_words, words_by, statement_words, out_words, words_of_loop, text_of}
use Rattle.loop_lines.specs.Words.{lines_of, words_of}
use Rattle.loops.proofs.returned.Written.{array_form, param_form, init_form, use_form, place_form, statement_form, out_form, written_forms}
use Rattle.loops.proofs.spelling.LoopNames.{all-numbered, arrays-named, params-named, statement-named, array_name-named, param_name-named, value_name-named}
use Rattle.loops.proofs.spelling.Names.{is_plain-name, use_of-name}
use Rattle.loops.proofs.spelling.Numerals.{int_of-signed_decimal}
use Rattle.loops.proofs.spelling.PlainWords.{long-fits, is_plain-signed, is_plain-distance, is_plain-place, is_plain-opcode}
use Rattle.loops.proofs.spelling.Forming.{form_of-loop, form_of-array, form_of-param, form_of-out, use_of-distance}
use Rattle.loops.proofs.spelling.Placing.{subscript_of-text, place_of-parts}
use Rattle.loops.proofs.spelling.Splitting.{is_plain, ArePlain, IsPlainLine, lines_of-text}
use Rattle.loops.proofs.spelling.StatementForms.{Computes, form_of-load, form_of-compute, form_of-store, form_of-guarded, form_of-init, uses_of-words}
use Rattle.loops.proofs.Parts.{all-both}

-- the words of a line, which has this form
abbrev IsWritten : List (List ℕ) → Form → Type 0
IsWritten words form = IsPlainLine words × (line_form words ≡ Some form)

abbrev AreWritten : List (List (List ℕ)) → List Form → Type 0
AreWritten lines forms = AllZip IsWritten lines forms

-- lists

written-join : (xs ys : List (List (List ℕ))) (fs gs : List Form) → AreWritten xs fs → AreWritten ys gs → AreWritten (xs ++ ys) (fs ++ gs)
written-join [] ys [] gs h k = k
written-join [] ys (f ∷ fs) gs h k = elim h [ ]
written-join (x ∷ xs) ys [] gs h k = elim h [ ]
written-join (x ∷ xs) ys (f ∷ fs) gs h k = (h.0, written-join xs ys fs gs h.1 k)

written-each : {X : Type 0} (words : X → List (List ℕ)) (form : X → Form) (xs : List X) → AllByRecursion (λ x. IsWritten (words x) (form x)) xs → AreWritten (map words xs) (map form xs)
written-each words form [] h = tt
written-each words form (x ∷ xs) h = (h.0, written-each words form xs h.1)

all-plain : (lines : List (List (List ℕ))) (forms : List Form) → AreWritten lines forms → AllByRecursion IsPlainLine lines
all-plain [] forms h = tt
all-plain (x ∷ xs) [] h = elim h [ ]
all-plain (x ∷ xs) (f ∷ fs) h = (h.0.0, all-plain xs fs h.1)

all-formed : (lines : List (List (List ℕ))) (forms : List Form) → AreWritten lines forms → map line_form lines ≡ map Some forms
all-formed [] [] h = refl
all-formed [] (f ∷ fs) h = elim h [ ]
all-formed (x ∷ xs) [] h = elim h [ ]
all-formed (x ∷ xs) (f ∷ fs) h = ap (λ o. o ∷ map line_form xs) h.0.1 ∙ ap (λ os. Some f ∷ os) (all-formed xs fs h.1)

forms-mapped : (lines : List (List ℕ)) → map (λ line. line_form (words_of line)) lines ≡ map line_form (map words_of lines)
forms-mapped [] = refl
forms-mapped (x ∷ xs) = ap (λ fs. line_form (words_of x) ∷ fs) (forms-mapped xs)

-- lines of names and numbers

written-loop : (loop : LoopData) → IsLoop loop → IsWritten (codes "loop" ∷ loop.name ∷ []) (LoopLine loop.name)
written-loop loop is = ((refl, (is_plain-name loop.name is.name.formed, tt)), ap Some (form_of-loop loop.name is.name.formed))

plain-numbers : (numbers : List ℤ) → AllByRecursion (FitsSigned w64) numbers → ArePlain (map signed_decimal numbers)
plain-numbers [] h = tt
plain-numbers (n ∷ ns) h = (is_plain-signed n h.0, plain-numbers ns h.1)

fit-numbers : (numbers : List ℤ) → AllByRecursion IsLong numbers → AllByRecursion (FitsSigned w64) numbers
fit-numbers [] h = tt
fit-numbers (n ∷ ns) h = (long-fits n h.0, fit-numbers ns h.1)

written-array : (a : Array) → IsName a.name → All IsLong a.cells → IsWritten (array_words a) (array_form a)
written-array a named long =
    let fits = fit-numbers a.cells (recursion_from_All IsLong a.cells long) in
    ((refl, (is_plain-name a.name named.formed, (refl, plain-numbers a.cells fits))), ap Some (form_of-array a.name a.cells named.formed fits))

written-param : (p : Param) → IsName p.name → IsLong p.value → IsWritten (param_words p) (param_form p)
written-param p named long =
    let fits = long-fits p.value long in
    ((refl, (is_plain-name p.name named.formed, (refl, (is_plain-signed p.value fits, tt)))), ap Some (form_of-param p.name p.value named.formed fits))

init-parts : (name : List ℕ) (n : ℕ) (value : ℤ) → is_name name ≡ true → 1 ≤ n → n ≤ 16 → FitsSigned w64 value
    → IsWritten (codes "init" ∷ at name n ∷ codes "=" ∷ signed_decimal value ∷ []) (InitLine name (Some n) (Some value))
init-parts name zero value h some few fits = absurd (omega arith)
init-parts name (suc n) value h some few fits =
    ((refl, (is_plain-distance name (suc n) (is_plain-name name h) few, (refl, (is_plain-signed value fits, tt)))), ap Some (form_of-init name (suc n) value h few fits))

written-init : (loop : LoopData) → IsLoop loop → (i : Initial) → GivesValue loop i.statement × (1 ≤ i.number) × (i.number ≤ 16) → IsLong i.value → IsWritten (init_words loop i) (init_form loop i)
written-init loop is i given long =
    init-parts (value_name loop i.statement) i.number i.value (value_name-named loop is i.statement given.0).formed given.1 given.2 (long-fits i.value long)

written-out : (loop : LoopData) → IsLoop loop → (k : ℕ) → GivesValue loop k → IsWritten (out_words loop k) (out_form loop k)
written-out loop is k given =
    let named = value_name-named loop is k given in
    ((refl, (is_plain-name (value_name loop k) named.formed, tt)), ap Some (form_of-out (value_name loop k) named.formed))

written-end : IsWritten (codes "end" ∷ []) EndLine
unfolding form_of
written-end = ((refl, tt), refl)

-- operands and places

use_of-number : (v : ℤ) → FitsSigned w64 v → use_of (signed_decimal v) ≡ Some (Number (Some v))
unfolding use_of
use_of-number v fits = ap (λ o. or_use o (named_use_of (signed_decimal v))) (int_of-signed_decimal v fits)

abbrev IsOperand : LoopData → Operand → Type 0
IsOperand loop o = (is_plain (operand_word loop o) ≡ true) × (use_of (operand_word loop o) ≡ Some (use_form loop o))

written-operand : (loop : LoopData) → IsLoop loop → (reader : ℕ) (o : Operand) → MayRead loop reader o → IsOperand loop o
written-operand loop is reader (Constant value) h =
    let fits = long-fits value h in
    (is_plain-signed value fits, use_of-number value fits)
written-operand loop is reader (Parameter number) h =
    let named = param_name-named loop is number h in
    (is_plain-name (param_name loop number) named.formed, use_of-name (param_name loop number) named.formed)
written-operand loop is reader (Value statement zero) h =
    let named = value_name-named loop is statement h.0 in
    (is_plain-name (value_name loop statement) named.formed, use_of-name (value_name loop statement) named.formed)
written-operand loop is reader (Value statement (suc d)) h =
    let name = value_name loop statement in
    let named = value_name-named loop is statement h.0 in
    (is_plain-distance name (suc d) (is_plain-name name named.formed) h.1, use_of-distance name (suc d) named.formed h.1)

plain-operands : (loop : LoopData) (os : List Operand) → AllByRecursion (IsOperand loop) os → ArePlain (map (operand_word loop) os)
plain-operands loop [] h = tt
plain-operands loop (o ∷ os) h = (h.0.0, plain-operands loop os h.1)

operands-used : (loop : LoopData) (os : List Operand) → AllByRecursion (IsOperand loop) os → AllByRecursion (λ o. use_of (operand_word loop o) ≡ Some (use_form loop o)) os
operands-used loop [] h = tt
operands-used loop (o ∷ os) h = (h.0.1, operands-used loop os h.1)

-- a place's word by its parts
place_word-is : (loop : LoopData) (p : Place) → place_word loop p ≡ array_name loop p.array ++ (91 ∷ 105 ∷ (offset_text p.offset ++ 93 ∷ []))
place_word-is loop p =
    append_assoc (array_name loop p.array ++ 91 ∷ 105 ∷ []) (offset_text p.offset) (93 ∷ []) ∙ append_assoc (array_name loop p.array) (91 ∷ 105 ∷ []) (offset_text p.offset ++ 93 ∷ [])

written-place : (loop : LoopData) → IsLoop loop → (p : Place) → IsPlace loop p → (is_plain (place_word loop p) ≡ true) × (place_of (place_word loop p) ≡ Some (place_form loop p))
written-place loop is p h =
    let name = array_name loop p.array in
    let named = array_name-named loop is p.array h.array in
    let low = h.low in
    let high = h.high in (
      ap is_plain (place_word-is loop p) ∙ is_plain-place name p.offset (is_plain-name name named.formed) (omega (arith, ints), omega (arith, ints)),
      ap place_of (place_word-is loop p) ∙ place_of-parts name (105 ∷ offset_text p.offset) p.offset named.formed (subscript_of-text p.offset low high),
    )

-- statements

abbrev AreNamed : Option (List ℕ) → Type 0
AreNamed o = (name : List ℕ) → o ≡ Some name → is_name name ≡ true

abbrev ArePlaces : LoopData → Option Place → Type 0
ArePlaces loop o = (p : Place) → o ≡ Some p → IsPlace loop p

-- the parts of a statement
abbrev parts : Opcode → Option (List ℕ) → Option Place → List Operand → Statement
parts opcode name place operands = record { opcode = opcode; name = name; place = place; operands = operands }

abbrev IsWrittenBy : LoopData → Opcode → Option (List ℕ) → Option Place → List Operand → Type 0
IsWrittenBy loop opcode name place operands = IsWritten (words_by loop opcode name (place_words loop place) (map (operand_word loop) operands))
    (StatementLine (record { opcode = opcode; name = name; place = option_map (place_form loop) place; uses = map (use_form loop) operands }))

written-load : (loop : LoopData) → IsLoop loop → (name : Option (List ℕ)) (place : Option Place) (operands : List Operand) → HasShape Load (parts Load name place operands) → AreNamed name → ArePlaces loop place
    → IsWrittenBy loop Load name place operands
written-load loop is None place operands shape names places = absurd (false≢true shape.0)
written-load loop is (Some name) None operands shape names places = absurd (false≢true shape.1)
written-load loop is (Some name) (Some p) (o ∷ os) shape names places =
    let none = shape.2 in
    cc
written-load loop is (Some name) (Some p) [] shape names places =
    let h = names name refl in
    let at = written-place loop is p (places p refl) in
    ((is_plain-name name h, (refl, (refl, (at.0, tt)))), ap Some (form_of-load name (place_word loop p) (place_form loop p) h at.1))

written-store : (loop : LoopData) → IsLoop loop → (name : Option (List ℕ)) (place : Option Place) (operands : List Operand) → HasShape Store (parts Store name place operands) → ArePlaces loop place → AllByRecursion (IsOperand loop) operands
    → IsWrittenBy loop Store name place operands
written-store loop is (Some name) place operands shape places reads = absurd (true≢false shape.0)
written-store loop is None None operands shape places reads = absurd (false≢true shape.1)
written-store loop is None (Some p) [] shape places reads =
    let some = shape.2 in
    absurd (omega arith)
written-store loop is None (Some p) (v ∷ []) shape places reads =
    let at = written-place loop is p (places p refl) in
    let used = uses_of-words (operand_word loop) (use_form loop) (v ∷ []) (operands-used loop (v ∷ []) reads) in
    ((refl, (at.0, plain-operands loop (v ∷ []) reads)), ap Some (form_of-store (place_word loop p) (operand_word loop v) (place_form loop p) (use_form loop v ∷ []) at.1 used))
written-store loop is None (Some p) (v ∷ g ∷ []) shape places reads =
    let at = written-place loop is p (places p refl) in
    let used = uses_of-words (operand_word loop) (use_form loop) (v ∷ g ∷ []) (operands-used loop (v ∷ g ∷ []) reads) in (
      (refl, (at.0, (reads.0.0, (refl, (reads.1.0.0, tt))))),
      ap Some (form_of-guarded (place_word loop p) (operand_word loop v) (operand_word loop g) (place_form loop p) (use_form loop v ∷ use_form loop g ∷ []) at.1 used),
    )
written-store loop is None (Some p) (v ∷ g ∷ o ∷ os) shape places reads =
    let few = shape.3 in
    absurd (omega arith)

written-compute : (loop : LoopData) → IsLoop loop → (opcode : Opcode) (name : Option (List ℕ)) (place : Option Place) (operands : List Operand) → Computes opcode
    → (is_some name ≡ true) × (is_some place ≡ false) × (length operands ≡ operands_of opcode) → AreNamed name → AllByRecursion (IsOperand loop) operands → IsWrittenBy loop opcode name place operands
written-compute loop is opcode None place operands computes shape names reads = absurd (false≢true shape.0)
written-compute loop is opcode (Some name) (Some p) operands computes shape names reads = absurd (true≢false shape.1)
written-compute loop is opcode (Some name) None operands computes shape names reads =
    let h = names name refl in
    let used = uses_of-words (operand_word loop) (use_form loop) operands (operands-used loop operands reads) in
    let count : length (map (operand_word loop) operands) ≡ operands_of opcode = length-map operands (operand_word loop) ∙ shape.2 in (
      (is_plain-name name h, (refl, (is_plain-opcode opcode, plain-operands loop operands reads))),
      ap Some (form_of-compute opcode name (map (operand_word loop) operands) (map (use_form loop) operands) computes h count used),
    )

written-parts : (loop : LoopData) → IsLoop loop → (opcode : Opcode) (name : Option (List ℕ)) (place : Option Place) (operands : List Operand) → HasShape opcode (parts opcode name place operands) → AreNamed name → ArePlaces loop place → AllByRecursion (IsOperand loop) operands
    → IsWrittenBy loop opcode name place operands
written-parts loop is Load name place operands shape names places reads = written-load loop is name place operands shape names places
written-parts loop is Store name place operands shape names places reads = written-store loop is name place operands shape places reads
written-parts loop is Add name place operands shape names places reads = written-compute loop is Add name place operands (λ n ws. refl) shape names reads
written-parts loop is Sub name place operands shape names places reads = written-compute loop is Sub name place operands (λ n ws. refl) shape names reads
written-parts loop is Mul name place operands shape names places reads = written-compute loop is Mul name place operands (λ n ws. refl) shape names reads
written-parts loop is And name place operands shape names places reads = written-compute loop is And name place operands (λ n ws. refl) shape names reads
written-parts loop is Or name place operands shape names places reads = written-compute loop is Or name place operands (λ n ws. refl) shape names reads
written-parts loop is Xor name place operands shape names places reads = written-compute loop is Xor name place operands (λ n ws. refl) shape names reads
written-parts loop is Min name place operands shape names places reads = written-compute loop is Min name place operands (λ n ws. refl) shape names reads
written-parts loop is Max name place operands shape names places reads = written-compute loop is Max name place operands (λ n ws. refl) shape names reads
written-parts loop is Lt name place operands shape names places reads = written-compute loop is Lt name place operands (λ n ws. refl) shape names reads
written-parts loop is Sel name place operands shape names places reads = written-compute loop is Sel name place operands (λ n ws. refl) shape names reads
written-parts loop is Mov name place operands shape names places reads = written-compute loop is Mov name place operands (λ n ws. refl) shape names reads

all-operands : (loop : LoopData) → IsLoop loop → (reader : ℕ) (os : List Operand) → AllByRecursion (MayRead loop reader) os → AllByRecursion (IsOperand loop) os
all-operands loop is reader [] h = tt
all-operands loop is reader (o ∷ os) h = (written-operand loop is reader o h.0, all-operands loop is reader os h.1)

written-statement : (loop : LoopData) → IsLoop loop → (k : ℕ) (s : Statement) → slice_get loop.statements k ≡ Some s → IsWritten (statement_words loop s) (statement_form loop s)
written-statement loop is k s e =
    let h = is.each k s e in
    written-parts loop is s.opcode s.name s.place s.operands h.shape (λ name f. (statement-named loop is k s name e f).formed) h.place
    (all-operands loop is k s.operands (recursion_from_All (MayRead loop k) s.operands h.operands))

-- the whole text

written-lines : (loop : LoopData) → IsLoop loop → AreWritten (words_of_loop loop) (written_forms loop)
written-lines loop is =
    let arrays = all-both (λ (a : Array). IsName a.name) (λ (a : Array). All IsLong a.cells) (λ a. IsWritten (array_words a) (array_form a)) written-array loop.arrays
    (arrays-named loop is) (recursion_from_All (λ (a : Array). All IsLong a.cells) loop.arrays is.cell_values) in
    let params = all-both (λ (p : Param). IsName p.name) (λ (p : Param). IsLong p.value) (λ p. IsWritten (param_words p) (param_form p)) written-param loop.params
    (params-named loop is) (recursion_from_All (λ (p : Param). IsLong p.value) loop.params is.param_values) in
    let given : Initial → Type 0 = λ i. GivesValue loop i.statement × (1 ≤ i.number) × (i.number ≤ 16) in
    let inits = all-both given (λ (i : Initial). IsLong i.value) (λ i. IsWritten (init_words loop i) (init_form loop i)) (written-init loop is) loop.inits
    (recursion_from_All given loop.inits is.inits) (recursion_from_All (λ (i : Initial). IsLong i.value) loop.inits is.init_values) in
    let statements = all-numbered (λ s. IsWritten (statement_words loop s) (statement_form loop s)) loop.statements (written-statement loop is) in
    let live : ℕ → Type 0 = λ o. GivesValue loop o × HasInitial loop o 1 in
    let outs = all-both live live (λ o. IsWritten (out_words loop o) (out_form loop o)) (λ o h k. written-out loop is o h.0) loop.outs
    (recursion_from_All live loop.outs is.outs) (recursion_from_All live loop.outs is.outs) in
    let head : List (List (List ℕ)) = (codes "loop" ∷ loop.name ∷ []) ∷ [] in
    let last : List (List (List ℕ)) = (codes "end" ∷ []) ∷ [] in
    let w1 = map array_words loop.arrays in
    let f1 = map array_form loop.arrays in
    let w2 = map param_words loop.params in
    let f2 = map param_form loop.params in
    let w3 = map (init_words loop) loop.inits in
    let f3 = map (init_form loop) loop.inits in
    let w4 = map (statement_words loop) loop.statements in
    let f4 = map (statement_form loop) loop.statements in
    let w5 = map (out_words loop) loop.outs in
    let f5 = map (out_form loop) loop.outs in
    let first : List Form = LoopLine loop.name ∷ [] in
    let j1 = written-join head w1 first f1 (written-loop loop is, tt) (written-each array_words array_form loop.arrays arrays) in
    let j2 = written-join (head ++ w1) w2 (first ++ f1) f2 j1 (written-each param_words param_form loop.params params) in
    let j3 = written-join ((head ++ w1) ++ w2) w3 ((first ++ f1) ++ f2) f3 j2 (written-each (init_words loop) (init_form loop) loop.inits inits) in
    let j4 = written-join (((head ++ w1) ++ w2) ++ w3) w4 (((first ++ f1) ++ f2) ++ f3) f4 j3 (written-each (statement_words loop) (statement_form loop) loop.statements statements) in
    let j5 = written-join ((((head ++ w1) ++ w2) ++ w3) ++ w4) w5 ((((first ++ f1) ++ f2) ++ f3) ++ f4) f5 j4 (written-each (out_words loop) (out_form loop) loop.outs outs) in
    written-join (((((head ++ w1) ++ w2) ++ w3) ++ w4) ++ w5) last (((((first ++ f1) ++ f2) ++ f3) ++ f4) ++ f5) (EndLine ∷ []) j5 (written-end, tt)

-- the canonical text is cut into its lines, each of which has its form
pub forms-written : (l : LoopData) → IsLoop l → forms_of (text_of l) ≡ map Some (written_forms l)
unfolding text_of
forms-written l is =
    let written = written-lines l is in
    let lines = words_of_loop l in
    forms-mapped (lines_of (text_of l)) ∙ ap (map line_form) (lines_of-text lines (all-plain lines (written_forms l) written)) ∙ all-formed lines (written_forms l) written
