-- The faults of a line by its parts.
use Rattle.std.proofs.Common.{◌≡◌, ℕ, ◌+◌, ◌||◌, Bool, true, false, cond, List, [], ◌∷◌, ◌++◌, Option, Some, None, refl, sym, ◌∙◌, ap, append_assoc, unwrap_or, is_some}
use Rattle.std.proofs.lemmas.Bool.{true≢false}
use Rattle.std.proofs.lemmas.List.{map-append}
use Rattle.std.specs.List.{list_any}
use Rattle.std.specs.Option.{option_or}
use Rattle.loop_lines.specs.Forms.{Subscript, Use}
use Rattle.loop_lines.specs.Parsed.{uses_seen}
use Rattle.loop_lines.specs.declared.form.Use as code
use Rattle.loop_lines.specs.declared.form.Uses.{Uses}
use Rattle.machine_data.specs.declared.opcode.Opcode.{Opcode}
use Rattle.loop_reader.specs.Meaning.{Kinds, any_name, when}
use Rattle.reader_faults.specs.declared.loops.LoopFaultKind.{LoopFaultKind}
use Rattle.reader_faults.specs.declared.loops.LoopFaultKind.TheVariants.{Limit, RepeatedName, UnknownName, UseBeforeDefinition, MissingInit}
use Rattle.loop_lint.specs.Lints.{fault_at, told}
use Rattle.loop_lint.specs.Parts.{AName, APlace, AUse, Part, PartAt, first_part, name_part, place_part, use_parts, use_word}
use Rattle.loop_lines.specs.Columns.{Placed}
use Rattle.loop_lint.specs.Words.{spot_at}
use Rattle.loop_lint.specs.Hints.{no_hint}
use Rattle.loop_lint.specs.declared.fault.Hint.{Hint}
use Rattle.loop_lint.specs.declared.fault.Hint.TheVariants.{Nothing}
use Rattle.loop_lint.specs.declared.fault.LintFault.{LintFault}
use Rattle.loop_lint.specs.declared.tell.Found.{Found}
use Rattle.loop_lint.specs.inner.Founds.{told_all, told_if, use_part}
use Rattle.loop_lint.specs.inner.Tables.{one_if}

-- the word of a fault that a line has or has not
abbrev pub word_when : Bool → ℕ → Option ℕ
word_when b word = cond b (Some word) None

tell-when : (line : ℕ) (words : List Placed) (hint : LoopFaultKind → ℕ → Hint) (word : LoopFaultKind → ℕ) (kind : LoopFaultKind) (b : Bool) → told_if line words hint kind (word_when b (word kind)) ≡ told line words hint word (when b kind)
tell-when line words hint word kind true = refl
tell-when line words hint word kind false = refl

pub told-append : (line : ℕ) (words : List Placed) (hint : LoopFaultKind → ℕ → Hint) (word : LoopFaultKind → ℕ) (xs ys : Kinds) → told line words hint word (xs ++ ys) ≡ told line words hint word xs ++ told line words hint word ys
told-append line words hint word xs ys = map-append (λ kind. fault_at line kind (spot_at words (word kind)) (hint kind (word kind))) xs ys

-- the kinds of which these tests tell
abbrev pub five_kinds : Bool → Bool → Bool → Bool → Bool → Kinds
five_kinds limit repeated unknown early missing =
    when limit Limit ++ (when repeated RepeatedName ++ (when unknown UnknownName ++ (when early UseBeforeDefinition ++ when missing MissingInit)))

five-told : (line : ℕ) (words : List Placed) (hint : LoopFaultKind → ℕ → Hint) (word : LoopFaultKind → ℕ) (a b c d e : Bool)
    → told_if line words hint Limit (word_when a (word Limit))
    ++ (told_if line words hint RepeatedName (word_when b (word RepeatedName))
    ++ (told_if line words hint UnknownName (word_when c (word UnknownName))
    ++ (told_if line words hint UseBeforeDefinition (word_when d (word UseBeforeDefinition))
    ++ told_if line words hint MissingInit (word_when e (word MissingInit)))))
    ≡ told line words hint word (five_kinds a b c d e)
five-told line words hint word a b c d e =
    let t = λ (kind : LoopFaultKind) (x : Bool). tell-when line words hint word kind x in
    let join = λ (xs ys : Kinds). sym (told-append line words hint word xs ys) in
    rw (t Limit a, t RepeatedName b, t UnknownName c, t UseBeforeDefinition d, t MissingInit e)
    (ap (λ r. told line words hint word (when a Limit) ++ (told line words hint word (when b RepeatedName) ++ (told line words hint word (when c UnknownName) ++ r))) (join (when d UseBeforeDefinition) (when e MissingInit))
    ∙ ap (λ r. told line words hint word (when a Limit) ++ (told line words hint word (when b RepeatedName) ++ r)) (join (when c UnknownName) _)
    ∙ ap (λ r. told line words hint word (when a Limit) ++ r) (join (when b RepeatedName) _)
    ∙ join (when a Limit) _)

-- what is found for a line that has just these kinds
pub all_told : (line : ℕ) (words : List Placed) (hint : LoopFaultKind → ℕ → Hint) (word : LoopFaultKind → ℕ) (found : Found) (kinds : Kinds) (a b c d e : Bool) → kinds ≡ five_kinds a b c d e
    → found.limit ≡ word_when a (word Limit) → found.repeated ≡ word_when b (word RepeatedName) → found.unknown ≡ word_when c (word UnknownName)
    → found.early ≡ word_when d (word UseBeforeDefinition) → found.missing ≡ word_when e (word MissingInit)
    → told_all line words hint found ≡ told line words hint word kinds
all_told line words hint word found kinds a b c d e k ha hb hc hd he =
    rw (ha, hb, hc, hd, he) (five-told line words hint word a b c d e ∙ ap (told line words hint word) (sym k))

-- the kinds of each form

pub kinds_two : (a b : Bool) → when a Limit ++ when b RepeatedName ≡ five_kinds a b false false false
kinds_two true true = refl
kinds_two true false = refl
kinds_two false true = refl
kinds_two false false = refl

pub kinds_three : (a b c : Bool) → (when a Limit ++ when b RepeatedName) ++ when c UnknownName ≡ five_kinds a b c false false
kinds_three true true true = refl
kinds_three true true false = refl
kinds_three true false true = refl
kinds_three true false false = refl
kinds_three false true true = refl
kinds_three false true false = refl
kinds_three false false true = refl
kinds_three false false false = refl

pub kinds_four : (a b c e : Bool) → ((when a Limit ++ when b RepeatedName) ++ when c UnknownName) ++ when e MissingInit ≡ five_kinds a b c false e
kinds_four a b c e =
    append_assoc (when a Limit ++ when b RepeatedName) (when c UnknownName) (when e MissingInit)
    ∙ append_assoc (when a Limit) (when b RepeatedName) (when c UnknownName ++ when e MissingInit)

pub kinds_five : (a b c d e : Bool) → (((when a Limit ++ when b RepeatedName) ++ when c UnknownName) ++ when d UseBeforeDefinition) ++ when e MissingInit ≡ five_kinds a b c d e
kinds_five a b c d e =
    append_assoc ((when a Limit ++ when b RepeatedName) ++ when c UnknownName) (when d UseBeforeDefinition) (when e MissingInit)
    ∙ append_assoc (when a Limit ++ when b RepeatedName) (when c UnknownName) (when d UseBeforeDefinition ++ when e MissingInit)
    ∙ append_assoc (when a Limit) (when b RepeatedName) (when c UnknownName ++ (when d UseBeforeDefinition ++ when e MissingInit))

-- the first part

first-at : (b : Bool) (word : ℕ) (some rest all : Option ℕ) → all ≡ option_or some rest → cond b (Some word) all ≡ option_or (cond b (Some word) some) rest
first-at true word some rest all h = refl
first-at false word some rest all h = h

pub first-append : (test : Part → Bool) (xs ys : List PartAt) → first_part test (xs ++ ys) ≡ option_or (first_part test xs) (first_part test ys)
first-append test [] ys = refl
first-append test (x ∷ xs) ys = first-at (test x.part) x.word (first_part test xs) (first_part test ys) (first_part test (xs ++ ys)) (first-append test xs ys)

pub some-or : (a b : Option ℕ) → is_some (option_or a b) ≡ (is_some a || is_some b)
some-or None b = refl
some-or (Some x) b = refl

-- a fault has the word of the first part that has it
pub fitting : (o : Option ℕ) (b : Bool) → is_some o ≡ b → o ≡ word_when b (unwrap_or o 0)
fitting None true h = absurd (true≢false (sym h))
fitting None false h = refl
fitting (Some w) true h = refl
fitting (Some w) false h = absurd (true≢false h)

-- the same of a fault that a count may have, which is told of the first word
pub fitting_count : (o : Option ℕ) (b many : Bool) → is_some o ≡ b → option_or o (word_when many 0) ≡ word_when (b || many) (unwrap_or o 0)
fitting_count None true many h = absurd (true≢false (sym h))
fitting_count None false true h = refl
fitting_count None false false h = refl
fitting_count (Some w) true many h = refl
fitting_count (Some w) false many h = absurd (true≢false h)

some-when : (b : Bool) (w : ℕ) → is_some (word_when b w) ≡ b
some-when true w = refl
some-when false w = refl

pub some_name : (test : Part → Bool) (name : Option (List ℕ)) → is_some (first_part test (name_part name)) ≡ any_name (λ n. test (AName n)) name
some_name test None = refl
some_name test (Some name) = some-when (test (AName name)) 0

abbrev pub any_place : (Subscript → Bool) → Option Subscript → Bool
any_place test None = false
any_place test (Some place) = test place

pub some_place : (test : Part → Bool) (word : ℕ) (place : Option Subscript) → is_some (first_part test (place_part word place)) ≡ any_place (λ p. test (APlace p)) place
some_place test word None = refl
some_place test word (Some place) = some-when (test (APlace place)) word

some-head : (b : Bool) (w : ℕ) (rest : Option ℕ) → is_some (cond b (Some w) rest) ≡ (b || is_some rest)
some-head true w rest = refl
some-head false w rest = refl

pub some_uses : (test : Part → Bool) (opcode : Opcode) (number : ℕ) (us : List Use) → is_some (first_part test (use_parts opcode number us)) ≡ list_any (λ u. test (AUse u)) us
some_uses test opcode number [] = refl
some_uses test opcode number (u ∷ us) =
    some-head (test (AUse u)) (use_word opcode number) (first_part test (use_parts opcode (number + 1) us))
    ∙ ap (λ b. test (AUse u) || b) (some_uses test opcode (number + 1) us)

-- the uses of a statement, one by one

abbrev pub count_in : Option code.Use → ℕ
count_in o = one_if (is_some o)

split-uses : (opcode : Opcode) (first second third : Option code.Use)
    → use_parts opcode 0 (uses_seen (record { first = first; second = second; third = third }))
    ≡ use_part (use_word opcode 0) first ++ (use_part (use_word opcode (count_in first)) second ++ use_part (use_word opcode (count_in first + count_in second)) third)
split-uses opcode None None None = refl
split-uses opcode None None (Some c) = refl
split-uses opcode None (Some b) None = refl
split-uses opcode None (Some b) (Some c) = refl
split-uses opcode (Some a) None None = refl
split-uses opcode (Some a) None (Some c) = refl
split-uses opcode (Some a) (Some b) None = refl
split-uses opcode (Some a) (Some b) (Some c) = refl

pub first_uses : (test : Part → Bool) (opcode : Opcode) (us : Uses) (one two : ℕ) (a b c : Option ℕ) → one ≡ count_in us.first → two ≡ count_in us.first + count_in us.second
    → a ≡ first_part test (use_part (use_word opcode 0) us.first) → b ≡ first_part test (use_part (use_word opcode one) us.second) → c ≡ first_part test (use_part (use_word opcode two) us.third)
    → first_part test (use_parts opcode 0 (uses_seen us)) ≡ option_or a (option_or b c)
first_uses test opcode us one two a b c h k ea eb ec =
    let part = λ (n : ℕ) (o : Option code.Use). use_part (use_word opcode n) o in
    ap (first_part test) (split-uses opcode us.first us.second us.third)
    ∙ first-append test (part 0 us.first) (part (count_in us.first) us.second ++ part (count_in us.first + count_in us.second) us.third)
    ∙ ap (option_or (first_part test (part 0 us.first))) (first-append test (part (count_in us.first) us.second) (part (count_in us.first + count_in us.second) us.third))
    ∙ rw (ea, eb, ec, h, k) refl

-- faults that nothing helps to mend
pub told_plain : (line : ℕ) (words : List Placed) (hint : LoopFaultKind → ℕ → Hint) (kind : LoopFaultKind) (word : Option ℕ) → ((w : ℕ) → hint kind w ≡ Nothing)
    → told_if line words no_hint kind word ≡ told_if line words hint kind word
told_plain line words hint kind None h = refl
told_plain line words hint kind (Some w) h = ap (λ x. fault_at line kind (spot_at words w) x ∷ []) (sym (h w))

-- told one after another
pub joined : (old a b c d e first second third fourth last : List LintFault) → first ≡ old ++ a → second ≡ first ++ b → third ≡ second ++ c → fourth ≡ third ++ d → last ≡ fourth ++ e
    → last ≡ old ++ (a ++ (b ++ (c ++ (d ++ e))))
joined old a b c d e first second third fourth last h i j k l =
    l ∙ ap (λ fs. fs ++ e) (k ∙ ap (λ fs. fs ++ d) (j ∙ ap (λ fs. fs ++ c) (i ∙ ap (λ fs. fs ++ b) h)))
    ∙ append_assoc (((old ++ a) ++ b) ++ c) d e ∙ append_assoc ((old ++ a) ++ b) c (d ++ e) ∙ append_assoc (old ++ a) b (c ++ (d ++ e)) ∙ append_assoc old a (b ++ (c ++ (d ++ e)))
