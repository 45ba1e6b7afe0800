-- Names: their bytes are ASCII; a set of them, with one more.
use Rattle.std.proofs.Common.{◌≡◌, ℕ, zero, suc, ◌<◌, ◌&&◌, ◌||◌, not, Bool, true, false, if◌then◌else◌, nat_le, List, [], ◌∷◌, ◌++◌, length, get_or, Option, Some, None, is_some, Result, Ok, Err, refl, sym, ◌∙◌, ap, arith, lit<, MatchResult}
use Rattle.std.specs.Result.{IsOk}
use Rattle.std.specs.List.{list_any, list_all}
use Rattle.std.specs.Option.{option_or}
use Rattle.std.specs.Str.{IsUtf8}
use Rattle.std.proofs.lemmas.Str.{IsUtf8-from_ascii}
use Rattle.std.proofs.lemmas.Bool.Decides.{nat_tests}
use Rattle.std.proofs.lemmas.List.Folds.{list_any-append}
use Rattle.machine_data.specs.Opcodes.{same_word}
use Rattle.loop_data.specs.Names.{is_name, starts_name, is_letter, is_name_byte, is_reserved}
use Rattle.loop_data.specs.Loops.{IsName}
use Rattle.loop_reader.specs.Meaning.{opening_faults, is_long, when}
use Rattle.reader_faults.specs.declared.loops.LoopFaultKind.TheVariants.{Limit, RepeatedName}

letter-ascii : (c : ℕ) → is_letter c ≡ true → c < 128
letter-ascii c h = grind (arith, nat_tests)

byte-ascii : (c : ℕ) → is_name_byte c ≡ true → c < 128
byte-ascii c h = grind (arith, nat_tests)

and-left : (a b : Bool) → (a && b) ≡ true → a ≡ true
and-left true b h = refl
and-left false b h = h

and-right : (a b : Bool) → (a && b) ≡ true → b ≡ true
and-right true b h = h
and-right false b h = cc

bytes-ascii : (bs : List ℕ) → list_all is_name_byte bs ≡ true → (i : ℕ) → get_or bs i 0 < 128
bytes-ascii [] h i = lit< tt
bytes-ascii (c ∷ cs) h zero = byte-ascii c (and-left (is_name_byte c) (list_all is_name_byte cs) h)
bytes-ascii (c ∷ cs) h (suc i) = bytes-ascii cs (and-right (is_name_byte c) (list_all is_name_byte cs) h) i

start-ascii : (bs : List ℕ) → starts_name bs ≡ true → (i : ℕ) → get_or bs i 0 < 128
start-ascii [] h i = lit< tt
start-ascii (c ∷ cs) h zero = letter-ascii c (and-left (is_letter c) (list_all is_name_byte cs) h)
start-ascii (c ∷ cs) h (suc i) = bytes-ascii cs (and-right (is_letter c) (list_all is_name_byte cs) h) i

start-some : (bs : List ℕ) → starts_name bs ≡ true → 0 < length bs
start-some [] h = cc
start-some (c ∷ cs) h = omega arith

starts : (bs : List ℕ) → is_name bs ≡ true → starts_name bs ≡ true
unfolding is_name
starts bs h = and-left (starts_name bs) (not (is_reserved bs)) h

pub name-utf8 : (bs : List ℕ) → IsName bs → IsUtf8 bs
name-utf8 bs h = IsUtf8-from_ascii bs (start-ascii bs (starts bs h.formed))

pub name-some : (bs : List ℕ) → IsName bs → 0 < length bs
name-some bs h = start-some bs (starts bs h.formed)

pub ok-where : {T E : Type 0} (r : Result T E) (U : Type 0) (P : T → Type 0) (Q : E → Type 0) → U → MatchResult r P (λ e. (U → ⊥) × Q e) → IsOk r
ok-where (Ok x) U P Q u h = refl
ok-where (Err e) U P Q u h = absurd (h.0 u)

-- a line that opens a block

le-false : (m n : ℕ) → n < m → nat_le m n ≡ false
le-false m n h = grind (arith, nat_tests)

pub opening-none : (names : List (List ℕ)) (name : List ℕ) (loops : ℕ) → length names ≡ loops → is_long name ≡ false → loops < 1024 → list_any (same_word name) names ≡ false → opening_faults names name ≡ []
opening-none names name loops e long few new =
    ap (λ b. when (b || nat_le 1024 (length names)) Limit ++ when (list_any (same_word name) names) RepeatedName) long
    ∙ ap (λ b. when b Limit ++ when (list_any (same_word name) names) RepeatedName) (le-false 1024 (length names) (omega arith))
    ∙ ap (λ b. when b RepeatedName) new

some-or : {X : Type 0} (o : Option X) (b : Bool) (x : X) → is_some (option_or o (if b then Some x else None)) ≡ (is_some o || (b || false))
some-or None true x = refl
some-or None false x = refl
some-or (Some first) b x = refl

-- the names with one more
pub names-more : {X : Type 0} (names : List (List ℕ)) (name q : List ℕ) (old : Option X) (what : X) → is_some old ≡ list_any (same_word q) names
    → is_some (option_or old (if same_word q name then Some what else None)) ≡ list_any (same_word q) (names ++ name ∷ [])
names-more names name q old what h =
    some-or old (same_word q name) what ∙ ap (λ b. b || (same_word q name || false)) h ∙ sym (list_any-append (same_word q) names (name ∷ []))
