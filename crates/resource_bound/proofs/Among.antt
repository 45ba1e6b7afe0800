-- The choices of the operations that have one number of alternatives.
use Rattle.std.proofs.Common.{◌≡◌, ◌≢◌, ℕ, zero, suc, ◌+◌, ◌-◌, ◌<◌, ◌≤◌, ◌==◌, Bool, true, false, cond, List, [], ◌∷◌, ◌++◌, length, get_or, map, take, set, refl, sym, ap, ◌∙◌, arith, filter}
use Rattle.std.specs.List.{All, flat_map, range_with_len, zip}
use Rattle.std.proofs.lemmas.List.Elements.{All-head, All-tail}
use Rattle.std.proofs.lemmas.List.{append-nil, append_assoc}
use Rattle.std.proofs.lemmas.Bool.{eq-eqb, ne_eqb}
use Rattle.machine_data.specs.declared.alternative.Row.{Row}
use Rattle.resource_bound.specs.Choices.{by_freedom_too, choices_among}

map-cond : {X Y : Type 0} (f : X → Y) (b : Bool) (x : X) (xs : List X) → map f (cond b (x ∷ xs) xs) ≡ cond b (f x ∷ []) [] ++ map f xs
map-cond f true x xs = refl
map-cond f false x xs = refl

pub among-cons : (first : List (List Row)) (operations : List (List (List Row))) (k : ℕ) (choices : List ℕ) (n : ℕ)
    → choices_among (first ∷ operations) (k ∷ choices) n ≡ cond (length first == n) (k ∷ []) [] ++ choices_among operations choices n
among-cons first operations k choices n =
    let second : (List (List Row) × ℕ) → ℕ = λ both. both.1 in
    map-cond second (length first == n) (first, k) (filter (λ (both : List (List Row) × ℕ). length both.0 == n) (zip operations choices))

among-yes : (first : List (List Row)) (operations : List (List (List Row))) (k : ℕ) (choices : List ℕ) (n : ℕ) → length first ≡ n
    → choices_among (first ∷ operations) (k ∷ choices) n ≡ k ∷ choices_among operations choices n
among-yes first operations k choices n e =
    among-cons first operations k choices n ∙ ap (λ b. cond b (k ∷ []) [] ++ choices_among operations choices n) (eq-eqb (length first) n e)

among-no : (first : List (List Row)) (operations : List (List (List Row))) (k : ℕ) (choices : List ℕ) (n : ℕ) → length first ≢ n
    → choices_among (first ∷ operations) (k ∷ choices) n ≡ choices_among operations choices n
among-no first operations k choices n ne =
    among-cons first operations k choices n ∙ ap (λ b. cond b (k ∷ []) [] ++ choices_among operations choices n) (ne_eqb (length first) n ne)

-- a choice changes nothing among operations of another number of alternatives
pub among-other : (operations : List (List (List Row))) (choices : List ℕ) (i choice n : ℕ) → length (get_or operations i []) ≢ n
    → choices_among operations (set choices i choice) n ≡ choices_among operations choices n
among-other [] choices i choice n ne = refl
among-other (first ∷ operations) [] i choice n ne = refl
among-other (first ∷ operations) (k ∷ choices) zero choice n ne =
    among-no first operations choice choices n ne ∙ sym (among-no first operations k choices n ne)
among-other (first ∷ operations) (k ∷ choices) (suc i) choice n ne =
    among-cons first operations k (set choices i choice) n
    ∙ ap (λ l. cond (length first == n) (k ∷ []) [] ++ l) (among-other operations choices i choice n ne)
    ∙ sym (among-cons first operations k choices n)

go-taken : (operations : List (List (List Row))) (choices : List ℕ) (i choice n : ℕ) → i < length operations → i < length choices
    → length (get_or operations i []) ≡ n
    → choices_among (take (suc i) operations) (set choices i choice) n ≡ choices_among (take i operations) choices n ++ choice ∷ []
go-taken [] choices i choice n within there e = absurd (omega arith)
go-taken (first ∷ operations) [] i choice n within there e = absurd (omega arith)
go-taken (first ∷ operations) (k ∷ choices) zero choice n within there e = among-yes first [] choice choices n e
go-taken (first ∷ operations) (k ∷ choices) (suc i) choice n within there e =
    let one : List ℕ = cond (length first == n) (k ∷ []) [] in
    among-cons first (take (suc i) operations) k (set choices i choice) n
    ∙ ap (λ l. one ++ l) (go-taken operations choices i choice n (omega arith) (omega arith) e)
    ∙ sym (append_assoc one (choices_among (take i operations) choices n) (choice ∷ []))
    ∙ ap (λ l. l ++ choice ∷ []) (sym (among-cons first (take i operations) k choices n))

-- one more choice, of an operation that has this number
pub among-taken : (operations : List (List (List Row))) (choices : List ℕ) (i choice n : ℕ) → i < length operations → i < length choices
    → length (get_or operations i []) ≡ n
    → choices_among (take (i + 1) operations) (set choices i choice) n ≡ choices_among (take i operations) choices n ++ choice ∷ []
among-taken operations choices i choice n within there e =
    let next : i + 1 ≡ suc i = omega arith in
    ap (λ j. choices_among (take j operations) (set choices i choice) n) next ∙ go-taken operations choices i choice n within there e

go-passed : (operations : List (List (List Row))) (choices : List ℕ) (i n : ℕ) → i < length operations → length (get_or operations i []) ≢ n
    → choices_among (take (suc i) operations) choices n ≡ choices_among (take i operations) choices n
go-passed [] choices i n within ne = absurd (omega arith)
go-passed (first ∷ operations) [] zero n within ne = refl
go-passed (first ∷ operations) [] (suc i) n within ne = refl
go-passed (first ∷ operations) (k ∷ choices) zero n within ne = among-no first [] k choices n ne
go-passed (first ∷ operations) (k ∷ choices) (suc i) n within ne =
    among-cons first (take (suc i) operations) k choices n
    ∙ ap (λ l. cond (length first == n) (k ∷ []) [] ++ l) (go-passed operations choices i n (omega arith) ne)
    ∙ sym (among-cons first (take i operations) k choices n)

-- an operation that has another number
pub among-passed : (operations : List (List (List Row))) (choices : List ℕ) (i n : ℕ) → i < length operations → length (get_or operations i []) ≢ n
    → choices_among (take (i + 1) operations) choices n ≡ choices_among (take i operations) choices n
among-passed operations choices i n within ne =
    let next : i + 1 ≡ suc i = omega arith in
    ap (λ j. choices_among (take j operations) choices n) next ∙ go-passed operations choices i n within ne

-- the choices of the passes for 1 to n alternatives
abbrev pub passed : List (List (List Row)) → List ℕ → ℕ → List ℕ
passed operations choices zero = []
passed operations choices (suc n) = passed operations choices n ++ choices_among operations choices (suc n)

pub passed-more : (operations : List (List (List Row))) (choices : List ℕ) (n : ℕ) → 0 < n
    → passed operations choices (n - 1) ++ choices_among operations choices n ≡ passed operations choices ((n + 1) - 1)
passed-more operations choices zero some = absurd (omega arith)
passed-more operations choices (suc n) some =
    let a : suc n - 1 ≡ n = omega arith in
    let b : (suc n + 1) - 1 ≡ suc n = omega arith in
    ap (λ k. passed operations choices k ++ choices_among operations choices (suc n)) a ∙ sym (ap (passed operations choices) b)

pub passed-kept : (operations : List (List (List Row))) (choices others : List ℕ) (n : ℕ)
    → ((k : ℕ) → k ≤ n → choices_among operations others k ≡ choices_among operations choices k)
    → passed operations choices n ≡ passed operations others n
passed-kept operations choices others zero same = refl
passed-kept operations choices others (suc n) same =
    ap (λ l. l ++ choices_among operations choices (suc n)) (passed-kept operations choices others n (λ k h. same k (omega arith)))
    ∙ ap (λ l. passed operations others n ++ l) (sym (same (suc n) (omega arith)))

-- n more passes
passed-from : (operations : List (List (List Row))) (choices : List ℕ) (a n : ℕ)
    → passed operations choices (a + n) ≡ passed operations choices a ++ flat_map (choices_among operations choices) (range_with_len (a + 1) n)
passed-from operations choices a zero =
    let none : a + 0 ≡ a = omega arith in
    ap (passed operations choices) none ∙ sym (append-nil (passed operations choices a))
passed-from operations choices a (suc n) =
    let f : ℕ → List ℕ = choices_among operations choices in
    let next : a + suc n ≡ (a + 1) + n = omega arith in
    let one : a + 1 ≡ suc a = omega arith in
    let split : passed operations choices (a + 1) ≡ passed operations choices a ++ f (a + 1)
    = ap (passed operations choices) one ∙ ap (λ k. passed operations choices a ++ f k) (sym one) in
    ap (passed operations choices) next ∙ passed-from operations choices (a + 1) n
    ∙ ap (λ l. l ++ flat_map f (range_with_len ((a + 1) + 1) n)) split
    ∙ append_assoc (passed operations choices a) (f (a + 1)) (flat_map f (range_with_len ((a + 1) + 1) n))

pub passed_all : (operations : List (List (List Row))) (choices : List ℕ) → passed operations choices 16 ≡ by_freedom_too operations choices
passed_all operations choices = passed-from operations choices 0 16

-- among more alternatives than any operation has nothing is chosen
among-none : (operations : List (List (List Row))) (choices : List ℕ) (most n : ℕ) → All (λ (alternatives : List (List Row)). length alternatives ≤ most) operations → most < n
    → choices_among operations choices n ≡ []
among-none [] choices most n few past = refl
among-none (first ∷ operations) [] most n few past = refl
among-none (first ∷ operations) (k ∷ choices) most n few past =
    let here : length first ≤ most = All-head (λ (alternatives : List (List Row)). length alternatives ≤ most) first operations few in
    let ne : length first ≢ n = omega arith in
    among-no first operations k choices n ne
    ∙ among-none operations choices most n (All-tail (λ (alternatives : List (List Row)). length alternatives ≤ most) first operations few) past

passed-rest : (operations : List (List (List Row))) (choices : List ℕ) (most k : ℕ) → All (λ (alternatives : List (List Row)). length alternatives ≤ most) operations
    → passed operations choices (k + most) ≡ passed operations choices most
passed-rest operations choices most zero few = let same : 0 + most ≡ most = omega arith in ap (passed operations choices) same
passed-rest operations choices most (suc k) few =
    let next : suc k + most ≡ suc (k + most) = omega arith in
    ap (passed operations choices) next
    ∙ ap (λ l. l ++ choices_among operations choices (suc (k + most))) (passed-rest operations choices most k few)
    ∙ ap (λ l. passed operations choices most ++ l) (among-none operations choices most (suc (k + most)) few (omega arith))
    ∙ append-nil (passed operations choices most)

-- nor in passes for more
pub passed-past : (operations : List (List (List Row))) (choices : List ℕ) (most n : ℕ) → All (λ (alternatives : List (List Row)). length alternatives ≤ most) operations → most ≤ n
    → passed operations choices n ≡ passed operations choices most
passed-past operations choices most n few past =
    let all : n ≡ (n - most) + most = omega arith in
    ap (passed operations choices) all ∙ passed-rest operations choices most (n - most) few
