-- The canonical text of a loop is within the limit of a text's length.
use Rattle.std.proofs.Common.{◌≡◌, ◌⊎◌, ℕ, zero, suc, ℤ, pos, negsuc, ◌+◌, ◌*◌, ◌<◌, ◌≤◌, ◌≤ℤ◌, neg_ℤ, Bool, true, eqb, List, [], ◌∷◌, ◌++◌, codes, length, map, Option, Some, None, refl, ap, inl, inr, arith}
use Rattle.std.specs.Fmt.{decimal, signed_decimal}
use Rattle.std.specs.List.{All, AllPairs, AllByRecursion, slice_get, list_any, flat_map}
use Rattle.std.proofs.lemmas.Bool.{or_cases, eqb-true}
use Rattle.std.proofs.lemmas.Bool.Decides.{Decides-eqb}
use Rattle.std.proofs.lemmas.Fmt.{length-decimal-le}
use Rattle.std.proofs.lemmas.Int.{ints}
use Rattle.std.proofs.lemmas.List.{length-append}
use Rattle.std.proofs.lemmas.List.Elements.{recursion_from_All}
use Rattle.std.proofs.lemmas.Map.Made.{IsDistinct-from_AllPairs}
use Rattle.std.proofs.lemmas.Map.Steps.{length-le_from_distinct_below}
use Rattle.machine_data.specs.declared.opcode.Opcode.{Opcode}
use Rattle.machine_data.specs.declared.opcode.Opcode.TheVariants.{Load, Store, Add, Sub, Mul, And, Or, Xor, Min, Max, Lt, Sel, Mov}
use Rattle.machine_data.specs.Opcodes.{word_of}
use Rattle.loop_data.specs.declared.language.lists.Array.{Array}
use Rattle.loop_data.specs.declared.language.lists.Param.{Param}
use Rattle.loop_data.specs.declared.language.lists.Initial.{Initial}
use Rattle.loop_data.specs.declared.language.statement.Operand.{Operand}
use Rattle.loop_data.specs.declared.language.statement.Operand.TheVariants.{Constant, Parameter, Value}
use Rattle.loop_data.specs.declared.language.statement.Place.{Place}
use Rattle.loop_data.specs.declared.language.statement.Statement.{Statement}
use Rattle.loop_data.specs.Loops.{LoopData, IsLoop, IsName, IsLong, IsBefore, IsPlace, MayRead, HasShape, GivesValue, HasInitial}
use Rattle.writing.specs.Words.{at}
use Rattle.loops.specs.Text.{array_name, value_name, operand_word, place_word, place_words, offset_text, stored_words, array_words, param_words, init_words, words_by, statement_words, out_words, following, line_text, text_of}
use Rattle.loops.proofs.spelling.LoopNames.{all-numbered, get-below, arrays-named, params-named, statement-named, array_name-named, param_name-named, value_name-named}
use Rattle.loops.proofs.Texts.{text_of-is}
use Rattle.loops.proofs.Parts.{all-both}

-- lists

joined : (xs ys : List ℕ) (m n : ℕ) → length xs ≤ m → length ys ≤ n → length (xs ++ ys) ≤ m + n
joined xs ys m n h k =
    let e = length-append xs ys in
    omega arith

-- at most `high` pieces of at most `m` bytes each
pieces-within : {X : Type 0} (f : X → List ℕ) (m high : ℕ) (xs : List X) → length xs ≤ high → AllByRecursion (λ x. length (f x) ≤ m) xs → length (flat_map f xs) ≤ high * m
pieces-within f m high [] few h = omega arith
pieces-within f m zero (x ∷ xs) few h = absurd (omega arith)
pieces-within f m (suc high) (x ∷ xs) few h =
    let one = h.0 in
    let rest = pieces-within f m high xs (omega arith) h.1 in
    let e = length-append (f x) (flat_map f xs) in
    let more : suc high * m ≡ high * m + m = search arith in
    omega arith

-- words

-- how many bytes words take, each after a blank
abbrev words_room : List (List ℕ) → ℕ
words_room [] = 0
words_room (word ∷ words) = (1 + length word) + words_room words

following-words_room : (words : List (List ℕ)) → length (following words) ≡ words_room words
following-words_room [] = refl
following-words_room (w ∷ ws) =
    let e = length-append w (following ws) in
    let r = following-words_room ws in
    omega arith

line-within : (words : List (List ℕ)) (m : ℕ) → words_room words ≤ m → length (line_text words) ≤ m + 1
line-within [] m h = omega arith
line-within (w ∷ ws) m h =
    let e = length-append (w ++ following ws) (10 ∷ []) in
    let f = length-append w (following ws) in
    let r = following-words_room ws in
    omega arith

words_room-append : (xs ys : List (List ℕ)) → words_room (xs ++ ys) ≡ words_room xs + words_room ys
words_room-append [] ys = omega arith
words_room-append (x ∷ xs) ys = let r = words_room-append xs ys in omega arith

-- words of at most 20 bytes
room-each : {X : Type 0} (word : X → List ℕ) (xs : List X) → AllByRecursion (λ x. length (word x) ≤ 20) xs → words_room (map word xs) ≤ length xs * 21
room-each word [] h = omega arith
room-each word (x ∷ xs) h =
    let one = h.0 in
    let rest = room-each word xs h.1 in
    omega arith

long-length : (v : ℤ) → IsLong v → length (signed_decimal v) ≤ 20
long-length (pos n) h =
    let k = h.1 in
    let r = length-decimal-le 19 n (omega arith) (omega (arith, ints)) (omega (arith, ints)) in
    omega arith
long-length (negsuc n) h =
    let k = h.0 in
    let r = length-decimal-le 19 (suc n) (omega arith) (omega (arith, ints)) (omega (arith, ints)) in
    omega arith

distance-length : (name : List ℕ) (n : ℕ) → length name ≤ 16 → n ≤ 16 → length (at name n) ≤ 19
distance-length name zero short few = omega arith
distance-length name (suc n) short few =
    let r = length-decimal-le 2 (suc n) (omega arith) (omega arith) (omega arith) in
    let e = length-append name (64 ∷ decimal (suc n)) in
    omega arith

offset-length : (offset : ℤ) → neg_ℤ (pos 64) ≤ℤ offset → offset ≤ℤ pos 64 → length (offset_text offset) ≤ 3
offset-length (pos zero) low high = omega arith
offset-length (pos (suc n)) low high =
    let r = length-decimal-le 2 (suc n) (omega arith) (omega (arith, ints)) (omega (arith, ints)) in
    omega arith
offset-length (negsuc n) low high =
    let r = length-decimal-le 2 (suc n) (omega arith) (omega (arith, ints)) (omega (arith, ints)) in
    omega arith

opcode-length : (opcode : Opcode) → length (word_of opcode) ≤ 5
opcode-length Load = omega arith
opcode-length Store = omega arith
opcode-length Add = omega arith
opcode-length Sub = omega arith
opcode-length Mul = omega arith
opcode-length And = omega arith
opcode-length Or = omega arith
opcode-length Xor = omega arith
opcode-length Min = omega arith
opcode-length Max = omega arith
opcode-length Lt = omega arith
opcode-length Sel = omega arith
opcode-length Mov = omega arith

operand-length : (loop : LoopData) → IsLoop loop → (reader : ℕ) (o : Operand) → MayRead loop reader o → length (operand_word loop o) ≤ 20
operand-length loop is reader (Constant value) h = long-length value h
operand-length loop is reader (Parameter number) h =
    let r = (param_name-named loop is number h).short in
    omega arith
operand-length loop is reader (Value statement distance) h =
    let r = distance-length (value_name loop statement) distance (value_name-named loop is statement h.0).short h.1 in
    omega arith

operands-length : (loop : LoopData) → IsLoop loop → (reader : ℕ) (os : List Operand) → AllByRecursion (MayRead loop reader) os → AllByRecursion (λ o. length (operand_word loop o) ≤ 20) os
operands-length loop is reader [] h = tt
operands-length loop is reader (o ∷ os) h = (operand-length loop is reader o h.0, operands-length loop is reader os h.1)

place-length : (loop : LoopData) → IsLoop loop → (p : Place) → IsPlace loop p → length (place_word loop p) ≤ 22
place-length loop is p h =
    let name = array_name loop p.array in
    let offset = offset_text p.offset in
    let short = (array_name-named loop is p.array h.array).short in
    let few = offset-length p.offset h.low h.high in
    let e1 = joined name (codes "[i") 16 2 short (omega arith) in
    let e2 = joined (name ++ codes "[i") offset 18 3 e1 few in
    joined ((name ++ codes "[i") ++ offset) (codes "]") 21 1 e2 (omega arith)

-- lines

each-long : (numbers : List ℤ) → AllByRecursion IsLong numbers → AllByRecursion (λ v. length (signed_decimal v) ≤ 20) numbers
each-long [] h = tt
each-long (v ∷ vs) h = (long-length v h.0, each-long vs h.1)

array-length : (a : Array) → IsName a.name × (length a.cells ≤ 1024) → All IsLong a.cells → length (line_text (array_words a)) ≤ 21530
array-length a h long =
    let short = h.0.short in
    let few = h.1 in
    let cells = room-each signed_decimal a.cells (each-long a.cells (recursion_from_All IsLong a.cells long)) in
    line-within (array_words a) 21529 (omega arith)

param-length : (p : Param) → IsName p.name → IsLong p.value → length (line_text (param_words p)) ≤ 47
param-length p named long =
    let short = named.short in
    let value = long-length p.value long in
    line-within (param_words p) 46 (omega arith)

init-length : (loop : LoopData) → IsLoop loop → (i : Initial) → GivesValue loop i.statement × (1 ≤ i.number) × (i.number ≤ 16) → IsLong i.value → length (line_text (init_words loop i)) ≤ 49
init-length loop is i given long =
    let name = distance-length (value_name loop i.statement) i.number (value_name-named loop is i.statement given.0).short given.2 in
    let value = long-length i.value long in
    line-within (init_words loop i) 48 (omega arith)

out-length : (loop : LoopData) → IsLoop loop → (k : ℕ) → GivesValue loop k → length (line_text (out_words loop k)) ≤ 22
out-length loop is k given =
    let short = (value_name-named loop is k given).short in
    line-within (out_words loop k) 21 (omega arith)

-- a statement reads at most three operands
operands-few : (opcode : Opcode) (s : Statement) → HasShape opcode s → length s.operands ≤ 3
operands-few Load s h = let e = ap length h.2 in omega arith
operands-few Store s h = let e = h.3 in omega arith
operands-few Add s h = let e = h.2 in omega arith
operands-few Sub s h = let e = h.2 in omega arith
operands-few Mul s h = let e = h.2 in omega arith
operands-few And s h = let e = h.2 in omega arith
operands-few Or s h = let e = h.2 in omega arith
operands-few Xor s h = let e = h.2 in omega arith
operands-few Min s h = let e = h.2 in omega arith
operands-few Max s h = let e = h.2 in omega arith
operands-few Lt s h = let e = h.2 in omega arith
operands-few Sel s h = let e = h.2 in omega arith
operands-few Mov s h = let e = h.2 in omega arith

places-room : (loop : LoopData) → IsLoop loop → (o : Option Place) → ((p : Place) → o ≡ Some p → IsPlace loop p) → words_room (place_words loop o) ≤ 23
places-room loop is None h = omega arith
places-room loop is (Some p) h =
    let r = place-length loop is p (h p refl) in
    omega arith

-- a store's guard stands after `if`
stored-room : (words : List (List ℕ)) → words_room (stored_words words) ≤ words_room words + 3
stored-room [] = omega arith
stored-room (w ∷ []) = omega arith
stored-room (w ∷ v ∷ ws) = omega arith

words-room : (loop : LoopData) (opcode : Opcode) (o : Option (List ℕ)) (places operands : List (List ℕ)) → ((name : List ℕ) → o ≡ Some name → IsName name) → words_room places ≤ 23 → words_room operands ≤ 63
    → words_room (words_by loop opcode o places operands) ≤ 111
words-room loop opcode None places operands named p q =
    let word = opcode-length opcode in
    let stored = stored-room operands in
    let e = words_room-append places (stored_words operands) in
    omega arith
words-room loop opcode (Some name) places operands named p q =
    let short = (named name refl).short in
    let word = opcode-length opcode in
    let e = words_room-append places operands in
    omega arith

statement-length : (loop : LoopData) → IsLoop loop → (k : ℕ) (s : Statement) → slice_get loop.statements k ≡ Some s → length (line_text (statement_words loop s)) ≤ 112
statement-length loop is k s e =
    let h = is.each k s e in
    let few = operands-few s.opcode s h.shape in
    let reads = room-each (operand_word loop) s.operands (operands-length loop is k s.operands (recursion_from_All (MayRead loop k) s.operands h.operands)) in
    line-within (statement_words loop s) 111
    (words-room loop s.opcode s.name (place_words loop s.place) (map (operand_word loop) s.operands) (λ name f. statement-named loop is k s name e f) (places-room loop is s.place h.place) (omega arith))

-- how many initial values and live values there are

gives-below : (loop : LoopData) → IsLoop loop → (k : ℕ) → GivesValue loop k → k < 128
gives-below loop is k (s, e, named) =
    let r = get-below loop.statements k s e in
    let few = is.statements_few in
    omega arith

pairs-first : {X : Type 0} (R : X → X → Type 0) (x : X) (xs : List X) → AllPairs R (x ∷ xs) → AllByRecursion (R x) xs
pairs-first R x xs h = recursion_from_All (R x) xs (λ k d l. h 0 (suc k) d (omega arith) (omega arith))

pairs-rest : {X : Type 0} (R : X → X → Type 0) (x : X) (xs : List X) → AllPairs R (x ∷ xs) → AllPairs R xs
pairs-rest R x xs h i j d l k = h (suc i) (suc j) d (omega arith) (omega arith)

abbrev rank : Initial → ℕ
rank i = i.statement * 16 + i.number

-- of a statement within its limit, and of a number within its own
abbrev IsFrom : ℕ → Initial → Type 0
IsFrom low i = (low ≤ rank i) × (i.statement < 128) × (1 ≤ i.number) × (i.number ≤ 16)

rank-after : (a b : Initial) → IsBefore a b → a.number ≤ 16 → 1 ≤ b.number → rank a + 1 ≤ rank b
rank-after a b (inl less) few some = omega arith
rank-after a b (inr (same, less)) few some = omega arith

inits-few : (low : ℕ) (xs : List Initial) → low ≤ 2049 → AllPairs IsBefore xs → AllByRecursion (IsFrom low) xs → low + length xs ≤ 2049
inits-few low [] l pairs from = omega arith
inits-few low (x ∷ xs) l pairs from =
    let x-low = from.0.0 in
    let x-statement = from.0.1 in
    let x-number = from.0.3 in
    let later = all-both (IsBefore x) (IsFrom low) (IsFrom (rank x + 1)) (λ y before f. (rank-after x y before from.0.3 f.2, f.1, f.2, f.3)) xs (pairs-first IsBefore x xs pairs) from.1 in
    let r = inits-few (rank x + 1) xs (omega arith) (pairs-rest IsBefore x xs pairs) later in
    omega arith

inits-within : (loop : LoopData) → IsLoop loop → length loop.inits ≤ 2048
inits-within loop is =
    let given : Initial → Type 0 = λ i. GivesValue loop i.statement × (1 ≤ i.number) × (i.number ≤ 16) in
    let all = recursion_from_All given loop.inits is.inits in
    let from = all-both given given (IsFrom 1) (λ i h k. let some = h.1 in (omega arith, gives-below loop is i.statement h.0, h.1, h.2)) loop.inits all all in
    let r = inits-few 1 loop.inits (omega arith) is.inits_ascend from in
    omega arith

first-or-later : (high q x : ℕ) (later : Bool) → (eqb q x ≡ true) ⊎ (later ≡ true) → x < high → (later ≡ true → q < high) → q < high
first-or-later high q x later (inl same) l rest =
    let e = eqb-true q x same in
    omega arith
first-or-later high q x later (inr found) l rest = rest found

all-below : (high : ℕ) (xs : List ℕ) → AllByRecursion (λ x. x < high) xs → (q : ℕ) → list_any (eqb q) xs ≡ true → q < high
all-below high [] h q e = cc
all-below high (x ∷ xs) h q e =
    first-or-later high q x (list_any (eqb q) xs) (or_cases (eqb q x) (list_any (eqb q) xs) e) h.0 (λ later. all-below high xs h.1 q later)

outs-within : (loop : LoopData) → IsLoop loop → length loop.outs ≤ 128
outs-within loop is =
    let live : ℕ → Type 0 = λ o. GivesValue loop o × HasInitial loop o 1 in
    let all = recursion_from_All live loop.outs is.outs in
    let below = all-both live live (λ o. o < 128) (λ o h k. gives-below loop is o h.0) loop.outs all all in
    length-le_from_distinct_below loop.outs 128 (IsDistinct-from_AllPairs Decides-eqb loop.outs is.outs_different) (all-below 128 loop.outs below)

-- the whole text

pub text-fits : (l : LoopData) → IsLoop l → length (text_of l) ≤ 1048576
text-fits l is =
    let named = is.name.short in
    let head = line-within (codes "loop" ∷ l.name ∷ []) 22 (omega arith) in
    let few : Array → Type 0 = λ a. length a.cells ≤ 1024 in
    let array_named = all-both (λ (a : Array). IsName a.name) few (λ a. IsName a.name × (length a.cells ≤ 1024)) (λ a h k. (h, k)) l.arrays (arrays-named l is) (recursion_from_All few l.arrays is.cells) in
    let arrays = all-both (λ (a : Array). IsName a.name × (length a.cells ≤ 1024)) (λ (a : Array). All IsLong a.cells) (λ a. length (line_text (array_words a)) ≤ 21530) array-length l.arrays
    array_named (recursion_from_All (λ (a : Array). All IsLong a.cells) l.arrays is.cell_values) in
    let params = all-both (λ (p : Param). IsName p.name) (λ (p : Param). IsLong p.value) (λ p. length (line_text (param_words p)) ≤ 47) param-length l.params
    (params-named l is) (recursion_from_All (λ (p : Param). IsLong p.value) l.params is.param_values) in
    let given : Initial → Type 0 = λ i. GivesValue l i.statement × (1 ≤ i.number) × (i.number ≤ 16) in
    let inits = all-both given (λ (i : Initial). IsLong i.value) (λ i. length (line_text (init_words l i)) ≤ 49) (init-length l is) l.inits
    (recursion_from_All given l.inits is.inits) (recursion_from_All (λ (i : Initial). IsLong i.value) l.inits is.init_values) in
    let statements = all-numbered (λ s. length (line_text (statement_words l s)) ≤ 112) l.statements (statement-length l is) in
    let live : ℕ → Type 0 = λ o. GivesValue l o × HasInitial l o 1 in
    let outs = all-both live live (λ o. length (line_text (out_words l o)) ≤ 22) (λ o h k. out-length l is o h.0) l.outs
    (recursion_from_All live l.outs is.outs) (recursion_from_All live l.outs is.outs) in
    let t0 : List ℕ = line_text (codes "loop" ∷ l.name ∷ []) in
    let t1 : List ℕ = flat_map (λ (a : Array). line_text (array_words a)) l.arrays in
    let t2 : List ℕ = flat_map (λ (p : Param). line_text (param_words p)) l.params in
    let t3 : List ℕ = flat_map (λ (i : Initial). line_text (init_words l i)) l.inits in
    let t4 : List ℕ = flat_map (λ (s : Statement). line_text (statement_words l s)) l.statements in
    let t5 : List ℕ = flat_map (λ s. line_text (out_words l s)) l.outs in
    let n1 = joined t0 t1 23 688960 head (pieces-within (λ (a : Array). line_text (array_words a)) 21530 32 l.arrays is.arrays arrays) in
    let n2 = joined (t0 ++ t1) t2 688983 3008 n1 (pieces-within (λ (p : Param). line_text (param_words p)) 47 64 l.params is.params params) in
    let n3 = joined ((t0 ++ t1) ++ t2) t3 691991 100352 n2 (pieces-within (λ (i : Initial). line_text (init_words l i)) 49 2048 l.inits (inits-within l is) inits) in
    let n4 = joined (((t0 ++ t1) ++ t2) ++ t3) t4 792343 14336 n3 (pieces-within (λ (s : Statement). line_text (statement_words l s)) 112 128 l.statements is.statements_few statements) in
    let n5 = joined ((((t0 ++ t1) ++ t2) ++ t3) ++ t4) t5 806679 2816 n4 (pieces-within (λ s. line_text (out_words l s)) 22 128 l.outs (outs-within l is) outs) in
    let n6 = joined (((((t0 ++ t1) ++ t2) ++ t3) ++ t4) ++ t5) (codes "end\n") 809495 4 n5 (omega arith) in
    let e = ap length (text_of-is l) in
    omega arith
