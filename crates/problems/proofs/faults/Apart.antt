-- Items that are each tested against those before.
use Rattle.std.proofs.Common.{◌≡◌, ◌≢◌, ℕ, ◌<◌, Bool, true, false, List, length, get_or, take, sym, ap, ◌∙◌, arith}
use Rattle.std.specs.List.{AllPairs, list_any}
use Rattle.std.proofs.lemmas.Bool.{both_ways, false_from_ne_true}
use Rattle.std.proofs.lemmas.List.{get_or-take, get_or_default, length-take-le}
use Rattle.std.proofs.lemmas.List.Folds.{list_any_at, list_any_none}

-- no item passes the test with one before it
abbrev pub NoneAgain : {X : Type 0} → (X → X → Bool) → List X → Type 0
NoneAgain {X} test xs = (k : ℕ) (d : X) → k < length xs → list_any (test (get_or xs k d)) (take k xs) ≡ false

pub pairs-from_none : {X : Type 0} (test : X → X → Bool) → ((a b : X) → a ≡ b → test a b ≡ true) → (xs : List X) → NoneAgain test xs → AllPairs (λ a b. a ≢ b) xs
pairs-from_none {X} test same xs none i j d lt within eq =
    let size : length (take j xs) ≡ j = length-take-le j xs (omega arith) in
    let at : get_or (take j xs) i d ≡ get_or xs i d = get_or-take j xs i d lt in
    let there : i < length (take j xs) = omega arith in
    both_ways (list_any (test (get_or xs j d)) (take j xs)) (none j d within)
    (list_any_at (test (get_or xs j d)) (take j xs) i d there (ap (test (get_or xs j d)) at ∙ same (get_or xs j d) (get_or xs i d) (sym eq)))

pub none-from_pairs : {X : Type 0} (test : X → X → Bool) → ((a b : X) → test a b ≡ true → a ≡ b) → (xs : List X) → AllPairs (λ a b. a ≢ b) xs → NoneAgain test xs
none-from_pairs {X} test equal xs pairs k d within =
    let size : length (take k xs) ≡ k = length-take-le k xs (omega arith) in
    list_any_none (test (get_or xs k d)) (take k xs) (λ i e lt.
    let below : i < k = omega arith in
    let at : get_or (take k xs) i e ≡ get_or xs i e = get_or-take k xs i e below in
    let here : get_or xs k d ≡ get_or xs k e = get_or_default xs k d e within in
    false_from_ne_true (test (get_or xs k d) (get_or (take k xs) i e)) (λ h.
    pairs i k e below within (sym at ∙ sym (equal (get_or xs k d) (get_or (take k xs) i e) h) ∙ here)))
