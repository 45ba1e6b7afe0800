-- The choices made so far, with one more, and the rows that they take.
use Rattle.std.proofs.Common.{◌≡◌, ◌≢◌, ℕ, zero, suc, ◌+◌, ◌-◌, ◌<◌, ◌≤◌, ◌==◌, Bool, true, false, cond, List, [], ◌∷◌, ◌++◌, length, get_or, take, set, refl, sym, ap, ◌∙◌, subst, arith, filter}
use Rattle.std.specs.List.{All}
use Rattle.std.proofs.lemmas.List.{append-nil, append_assoc}
use Rattle.std.proofs.lemmas.List.Elements.{filter_more}
use Rattle.std.proofs.lemmas.Bool.{eq-eqb, ne_eqb}
use Rattle.machine_data.specs.declared.alternative.Row.{Row}
use Rattle.unit_bound.specs.Units.{IsBest, AreBest, by_freedom, chosen_rows}
use Rattle.unit_bound.specs.Uses.{Tallies}
use Rattle.unit_bound.proofs.Passes.{passes, passes-more, passes_all, passes_past}
use Rattle.resource_bound.specs.Choices.{AreUnitChoices, by_freedom_too, choices_among, rows_at}
use Rattle.resource_bound.specs.inner.Tallies.{HasChosen, TakesChoice}
use Rattle.resource_bound.proofs.Among.{among-taken, among-passed, passed, passed-kept, passed-more, passed-past, passed_all}

best-push : (taken : List Row) (operations : List (List (List Row))) (choices : List ℕ) (alternatives : List (List Row)) (choice : ℕ)
    → AreBest taken operations choices → IsBest (taken ++ chosen_rows operations choices) alternatives choice
    → AreBest taken (operations ++ alternatives ∷ []) (choices ++ choice ∷ [])
best-push taken [] [] alternatives choice h b = (subst (λ rows. IsBest rows alternatives choice) (append-nil taken) b, tt)
best-push taken (first ∷ operations) (k ∷ choices) alternatives choice h b = (
  h.0,
  best-push (taken ++ get_or first k []) operations choices alternatives choice h.1
      (subst (λ rows. IsBest rows alternatives choice) (sym (append_assoc taken (get_or first k []) (chosen_rows operations choices))) b),
)
best-push taken [] (k ∷ choices) alternatives choice h b = absurd h
best-push taken (first ∷ operations) [] alternatives choice h b = absurd h

pub best-length : (taken : List Row) (operations : List (List (List Row))) (choices : List ℕ) → AreBest taken operations choices → length operations ≡ length choices
best-length taken [] [] h = refl
best-length taken (first ∷ operations) (k ∷ choices) h = ap suc (best-length (taken ++ get_or first k []) operations choices h.1)
best-length taken [] (k ∷ choices) h = absurd h
best-length taken (first ∷ operations) [] h = absurd h

pub rows-append : (operations others : List (List (List Row))) (choices more : List ℕ) → length operations ≡ length choices
    → chosen_rows (operations ++ others) (choices ++ more) ≡ chosen_rows operations choices ++ chosen_rows others more
rows-append [] others [] more e = refl
rows-append [] others (k ∷ choices) more e = absurd (omega arith)
rows-append (first ∷ operations) others [] more e = absurd (omega arith)
rows-append (first ∷ operations) others (k ∷ choices) more e =
    ap (λ rows. get_or first k [] ++ rows) (rows-append operations others choices more (omega arith))
    ∙ sym (append_assoc (get_or first k []) (chosen_rows operations choices) (chosen_rows others more))

-- one operation more, by its best alternative
chosen-push : (operations : List (List (List Row))) (choices : List ℕ) (alternatives : List (List Row)) (choice : ℕ) (counts others : List ℕ) (greatest most : ℕ)
    → HasChosen operations choices counts greatest → ((taken : List Row) → Tallies taken counts greatest → TakesChoice taken alternatives choice others most)
    → HasChosen (operations ++ alternatives ∷ []) (choices ++ choice ∷ []) others most
chosen-push operations choices alternatives choice counts others greatest most p takes =
    let next : TakesChoice (chosen_rows operations choices) alternatives choice others most = takes (chosen_rows operations choices) p.tallies in
    let rows : chosen_rows operations choices ++ get_or alternatives choice [] ≡ chosen_rows (operations ++ alternatives ∷ []) (choices ++ choice ∷ [])
    = ap (λ l. chosen_rows operations choices ++ l) (sym (append-nil (get_or alternatives choice [])))
    ∙ sym (rows-append operations (alternatives ∷ []) choices (choice ∷ []) (best-length [] operations choices p.best)) in
    record {
      best = best-push [] operations choices alternatives choice p.best next.best;
      tallies = subst (λ l. Tallies l others most) rows next.tallies;
    }

abbrev test : ℕ → List (List Row) → Bool
test freedom alternatives = length alternatives == freedom

-- a loop comes to an operation that has `freedom` alternatives
pub chosen-taken : (done operations : List (List (List Row))) (made choices : List ℕ) (i freedom choice : ℕ) (alternatives : List (List Row)) (counts others : List ℕ) (greatest most : ℕ)
    → i < length operations → i < length choices → alternatives ≡ get_or operations i [] → length alternatives ≡ freedom
    → ((taken : List Row) → Tallies taken counts greatest → TakesChoice taken alternatives choice others most)
    → HasChosen (done ++ filter (λ a. length a == freedom) (take i operations)) (made ++ choices_among (take i operations) choices freedom) counts greatest
    → HasChosen (done ++ filter (λ a. length a == freedom) (take (i + 1) operations)) (made ++ choices_among (take (i + 1) operations) (set choices i choice) freedom) others most
chosen-taken done operations made choices i freedom choice alternatives counts others greatest most within there is free takes p =
    let before : List (List (List Row)) = filter (test freedom) (take i operations) in
    let long : length (get_or operations i []) ≡ freedom = ap length (sym is) ∙ free in
    let yes : test freedom (get_or operations i []) ≡ true = eq-eqb (length (get_or operations i [])) freedom long in
    let more : filter (test freedom) (take (i + 1) operations) ≡ before ++ get_or operations i [] ∷ []
    = filter_more (test freedom) operations i [] within ∙ ap (λ b. before ++ cond b (get_or operations i [] ∷ []) []) yes in
    let all : (done ++ before) ++ alternatives ∷ [] ≡ done ++ filter (test freedom) (take (i + 1) operations)
    = append_assoc done before (alternatives ∷ []) ∙ ap (λ l. done ++ l) (ap (λ a. before ++ a ∷ []) is ∙ sym more) in
    let among : (made ++ choices_among (take i operations) choices freedom) ++ choice ∷ [] ≡ made ++ choices_among (take (i + 1) operations) (set choices i choice) freedom
    = append_assoc made (choices_among (take i operations) choices freedom) (choice ∷ [])
    ∙ ap (λ l. made ++ l) (sym (among-taken operations choices i choice freedom within there long)) in
    let next : HasChosen ((done ++ before) ++ alternatives ∷ []) ((made ++ choices_among (take i operations) choices freedom) ++ choice ∷ []) others most
    = chosen-push (done ++ before) (made ++ choices_among (take i operations) choices freedom) alternatives choice counts others greatest most p takes in
    subst (λ l. HasChosen l (made ++ choices_among (take (i + 1) operations) (set choices i choice) freedom) others most) all
    (subst (λ l. HasChosen ((done ++ before) ++ alternatives ∷ []) l others most) among next)

-- a loop comes to another operation
pub chosen-passed : (done operations : List (List (List Row))) (made choices : List ℕ) (i freedom : ℕ) (counts : List ℕ) (greatest : ℕ)
    → i < length operations → length (get_or operations i []) ≢ freedom
    → HasChosen (done ++ filter (λ a. length a == freedom) (take i operations)) (made ++ choices_among (take i operations) choices freedom) counts greatest
    → HasChosen (done ++ filter (λ a. length a == freedom) (take (i + 1) operations)) (made ++ choices_among (take (i + 1) operations) choices freedom) counts greatest
chosen-passed done operations made choices i freedom counts greatest within other p =
    let before : List (List (List Row)) = filter (test freedom) (take i operations) in
    let no : test freedom (get_or operations i []) ≡ false = ne_eqb (length (get_or operations i [])) freedom other in
    let more : filter (test freedom) (take (i + 1) operations) ≡ before
    = filter_more (test freedom) operations i [] within ∙ ap (λ b. before ++ cond b (get_or operations i [] ∷ []) []) no ∙ append-nil before in
    subst (λ l. HasChosen (done ++ l) (made ++ choices_among (take (i + 1) operations) choices freedom) counts greatest) (sym more)
    (subst (λ l. HasChosen (done ++ before) (made ++ l) counts greatest) (sym (among-passed operations choices i freedom within other)) p)

go-rows : (operations : List (List (List Row))) (choices : List ℕ) (i : ℕ) → i < length operations → i < length choices
    → chosen_rows (take (suc i) operations) choices ≡ chosen_rows (take i operations) choices ++ rows_at operations choices i
go-rows [] choices i within there = absurd (omega arith)
go-rows (first ∷ operations) [] i within there = absurd (omega arith)
go-rows (first ∷ operations) (k ∷ choices) zero within there = append-nil (get_or first k [])
go-rows (first ∷ operations) (k ∷ choices) (suc i) within there =
    ap (λ rows. get_or first k [] ++ rows) (go-rows operations choices i (omega arith) (omega arith))
    ∙ sym (append_assoc (get_or first k []) (chosen_rows (take i operations) choices) (rows_at operations choices i))

-- the rows of one operation more
pub rows-more : (operations : List (List (List Row))) (choices : List ℕ) (i : ℕ) → i < length operations → i < length choices
    → chosen_rows (take (i + 1) operations) choices ≡ chosen_rows (take i operations) choices ++ rows_at operations choices i
rows-more operations choices i within there =
    let next : i + 1 ≡ suc i = omega arith in
    ap (λ j. chosen_rows (take j operations) choices) next ∙ go-rows operations choices i within there

-- one pass more, which changed no choice of the passes before it
pub chosen-pass : (operations : List (List (List Row))) (choices others : List ℕ) (freedom : ℕ) (counts : List ℕ) (greatest : ℕ) → 0 < freedom
    → ((n : ℕ) → n ≢ freedom → choices_among operations others n ≡ choices_among operations choices n)
    → HasChosen (passes operations (freedom - 1) ++ filter (λ a. length a == freedom) operations) (passed operations choices (freedom - 1) ++ choices_among operations others freedom) counts greatest
    → HasChosen (passes operations ((freedom + 1) - 1)) (passed operations others ((freedom + 1) - 1)) counts greatest
chosen-pass operations choices others freedom counts greatest some kept h =
    let before : passed operations choices (freedom - 1) ≡ passed operations others (freedom - 1)
    = passed-kept operations choices others (freedom - 1) (λ k below. kept k (omega arith)) in
    let same : passed operations choices (freedom - 1) ++ choices_among operations others freedom ≡ passed operations others ((freedom + 1) - 1)
    = ap (λ l. l ++ choices_among operations others freedom) before ∙ passed-more operations others freedom some in
    subst (λ l. HasChosen l (passed operations others ((freedom + 1) - 1)) counts greatest) (passes-more operations freedom some)
    (subst (λ l. HasChosen (passes operations (freedom - 1) ++ filter (λ a. length a == freedom) operations) l counts greatest) same h)

-- all passes
pub choices-all : (operations : List (List (List Row))) (choices : List ℕ) (n : ℕ) (counts : List ℕ) (greatest : ℕ) → n ≡ 16
    → HasChosen (passes operations n) (passed operations choices n) counts greatest → length choices ≡ length operations
    → AreUnitChoices operations choices
choices-all operations choices n counts greatest sixteen h each =
    let order : passes operations n ≡ by_freedom operations = ap (passes operations) sixteen ∙ passes_all operations in
    let too : passed operations choices n ≡ by_freedom_too operations choices = ap (passed operations choices) sixteen ∙ passed_all operations choices in
    record {
      each = each;
      best = subst (λ l. AreBest [] l (by_freedom_too operations choices)) order (subst (AreBest [] (passes operations n)) too h.best);
    }

-- all passes, of which those for more alternatives than any operation has choose nothing
pub choices-past : (operations : List (List (List Row))) (choices : List ℕ) (most n : ℕ) (counts : List ℕ) (greatest : ℕ) → n ≡ most
    → All (λ (alternatives : List (List Row)). length alternatives ≤ most) operations → most ≤ 16
    → HasChosen (passes operations n) (passed operations choices n) counts greatest → length choices ≡ length operations
    → AreUnitChoices operations choices
choices-past operations choices most n counts greatest at few low h each =
    let order : passes operations n ≡ passes operations 16 = ap (passes operations) at ∙ sym (passes_past operations most 16 few low) in
    let too : passed operations choices n ≡ passed operations choices 16 = ap (passed operations choices) at ∙ sym (passed-past operations choices most 16 few low) in
    choices-all operations choices 16 counts greatest refl
    (subst (λ l. HasChosen l (passed operations choices 16) counts greatest) order (subst (λ l. HasChosen (passes operations n) l counts greatest) too h)) each
