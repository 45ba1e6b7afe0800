-- Names and labels are the same.
use Rattle.std.proofs.Common.{◌≡◌, ◌≢◌, ◌↔◌, ℕ, ◌<◌, ◌≤◌, true, List, [], ◌∷◌, length, refl, arith}
use Rattle.std.proofs.lemmas.Bool.{and_parts}
use Rattle.std.proofs.lemmas.Bool.Decides.{nat_tests}
use Rattle.std.proofs.lemmas.List.Elements.{All-nil, All-cons, All-head, All-tail}
use Rattle.std.specs.List.{All, list_all}
use Rattle.problems.specs.Labels.{IsLabel, IsPrintable}
use Rattle.problem_lines.specs.Names.{is_name, is_printable}

printable-to : (c : ℕ) → is_printable c ≡ true → IsPrintable c
printable-to c h =
    let low : 33 ≤ c = grind (arith, nat_tests) in
    let high : c ≤ 126 = grind (arith, nat_tests) in
    let no_comment : c ≢ 35 = grind (arith, nat_tests) in
    record { low = low; high = high; no_comment = no_comment }

printable-from : (c : ℕ) → 33 ≤ c → c ≤ 126 → c ≢ 35 → is_printable c ≡ true
printable-from c low high no_comment = grind (arith, nat_tests)

all-to : (cs : List ℕ) → list_all is_printable cs ≡ true → All IsPrintable cs
all-to [] h = All-nil IsPrintable
all-to (c ∷ cs) h =
    let parts = and_parts (is_printable c) (list_all is_printable cs) h in
    All-cons IsPrintable c cs (printable-to c parts.0) (all-to cs parts.1)

all-from : (cs : List ℕ) → All IsPrintable cs → list_all is_printable cs ≡ true
all-from [] h = refl
all-from (c ∷ cs) h =
    let first : IsPrintable c = All-head IsPrintable c cs h in
    rw (printable-from c first.low first.high first.no_comment, all-from cs (All-tail IsPrintable c cs h)) refl

label-to : (word : List ℕ) → is_name word ≡ true → IsLabel word
label-to word h =
    let some : 0 < length word = grind (arith, nat_tests) in
    let few : length word ≤ 64 = grind (arith, nat_tests) in
    let all : list_all is_printable word ≡ true = grind (arith, nat_tests) in
    record { some = some; few = few; printable = all-to word all }

label-from : (word : List ℕ) → 0 < length word → length word ≤ 64 → list_all is_printable word ≡ true → is_name word ≡ true
label-from word some few all = grind (arith, nat_tests)

pub name-label : (word : List ℕ) → (is_name word ≡ true) ↔ IsLabel word
name-label word = (label-to word, λ h. label-from word h.some h.few (all-from word h.printable))
