-- Lists of alternatives that are told by their numbers, for one kind more at a time.
use Rattle.std.proofs.Common.{◌≡◌, ℕ, suc, Bool, true, ◌+◌, ◌<◌, ◌++◌, List, [], ◌∷◌, length, map, take, get_or, refl, sym, ap, ap₂, ◌∙◌, subst, arith}
use Rattle.std.specs.Prelude.{slice_index}
use Rattle.std.specs.Cmp.Lexicographic.{pointwise}
use Rattle.std.specs.List.{All, slice_index_or}
use Rattle.std.proofs.lemmas.Bool.{true≢false, and_parts}
use Rattle.std.proofs.lemmas.List.{get_or-map, get_or_append_left, length-map, length-append, map_push, take_more}
use Rattle.std.proofs.lemmas.List.Elements.{All-push, All-weaker, All-map}
use Rattle.std.proofs.Math.Seq.{get_or-append_seam}
use Rattle.smallvec.specs.SmallVec.{SmallVec}
use Rattle.machine_data.specs.declared.alternative.Row.{Row}
use Rattle.problems.specs.declared.draft.Hold.{Hold}
use Rattle.problems.specs.declared.draft.Kind.{Kind}
use Rattle.problems.specs.declared.draft.Draft.{Draft}
use Rattle.problems.specs.Drafts.{alternatives_of, operations_of, row_of}
use Rattle.problems.specs.inner.Listed.{AreListed}

abbrev Table : Type 0
Table = List (List Row)

-- as many numbers as lists that they stand for
listed-long : (lists all : List Table) (numbers : List ℕ) → AreListed lists numbers all → length numbers ≡ length all
listed-long lists all numbers is = sym (length-map numbers (λ number. slice_index_or lists number [])) ∙ ap length is.same

-- a number more
listed-more : (lists all : List Table) (numbers : List ℕ) (number : ℕ) (new : Table) → AreListed lists numbers all → number < length lists → slice_index_or lists number [] ≡ new
    → AreListed lists (numbers ++ number ∷ []) (all ++ new ∷ [])
listed-more lists all numbers number new is low stands = record {
  there = All-push (λ number. number < length lists) numbers number is.there low;
  same = map_push (λ number. slice_index_or lists number []) numbers number ∙ ap₂ (λ xs x. xs ++ x ∷ []) is.same stands;
}

-- a list more leaves what numbers stand for
same-there : (lists : List Table) (list : Table) (numbers : List ℕ) → All (λ number. number < length lists) numbers
    → map (λ number. slice_index_or (lists ++ list ∷ []) number []) numbers ≡ map (λ number. slice_index_or lists number []) numbers
same-there lists list [] there = refl
same-there lists list (number ∷ numbers) there =
    ap₂ (λ x xs. x ∷ xs) (get_or_append_left lists (list ∷ []) [] number (there 0 0 (omega arith)))
    (same-there lists list numbers (λ k d low. there (suc k) d (omega arith)))

listed-longer : (lists all : List Table) (numbers : List ℕ) (list : Table) → AreListed lists numbers all → AreListed (lists ++ list ∷ []) numbers all
listed-longer lists all numbers list is =
    let size : length (lists ++ list ∷ []) ≡ length lists + 1 = length-append lists (list ∷ []) in record {
      there = All-weaker (λ number. number < length lists) (λ number. number < length (lists ++ list ∷ [])) (λ number low. omega arith) numbers is.there;
      same = same-there lists list numbers is.there ∙ is.same;
    }

-- the lists of one kind more
one-more : (kinds : List Kind) (number : ℕ) (d : Kind) → number < length kinds
    → map alternatives_of (take number kinds) ++ alternatives_of (get_or kinds number d) ∷ [] ≡ map alternatives_of (take (number + 1) kinds)
one-more kinds number d there = sym (ap (map alternatives_of) (take_more kinds number d there) ∙ map_push alternatives_of (take number kinds) (get_or kinds number d))

-- a kind with a list of its own
pub own-list : (lists : List Table) (numbers : List ℕ) (kinds : List Kind) (number : ℕ) (kind : Kind) → AreListed lists numbers (map alternatives_of (take number kinds)) → number < length kinds
    → kind ≡ get_or kinds number kind → AreListed (lists ++ alternatives_of kind ∷ []) (numbers ++ length lists ∷ []) (map alternatives_of (take (number + 1) kinds))
own-list lists numbers kinds number kind is there at =
    let list : Table = alternatives_of kind in
    let size : length (lists ++ list ∷ []) ≡ length lists + 1 = length-append lists (list ∷ []) in
    subst (AreListed (lists ++ list ∷ []) (numbers ++ length lists ∷ [])) (ap (λ k. map alternatives_of (take number kinds) ++ alternatives_of k ∷ []) at ∙ one-more kinds number kind there)
    (listed-more (lists ++ list ∷ []) (map alternatives_of (take number kinds)) numbers (length lists) list
    (listed-longer lists (map alternatives_of (take number kinds)) numbers list is) (omega arith) (get_or-append_seam lists list [] []))

-- by the numbers of the lists of the kinds, those of the lists of the operations
pub of-operations : (lists : List Table) (of_kinds : List ℕ) (draft : Draft) → AreListed lists of_kinds (map alternatives_of draft.kinds.items)
    → All (λ kind. kind < length draft.kinds.items) draft.operations.items → AreListed lists (map (slice_index of_kinds) draft.operations.items) (operations_of draft)
of-operations lists of_kinds draft is low =
    let long : length of_kinds ≡ length draft.kinds.items = listed-long lists (map alternatives_of draft.kinds.items) of_kinds is ∙ length-map draft.kinds.items alternatives_of in record {
      there = All-map (λ number. number < length lists) (slice_index of_kinds) draft.operations.items
          (λ k d there. let here = low k d there in is.there (get_or draft.operations.items k d) 0 (omega arith));
      same = each draft.operations.items low long;
    }
  where
    each : (operations : List ℕ) → All (λ kind. kind < length draft.kinds.items) operations → length of_kinds ≡ length draft.kinds.items
        → map (λ number. slice_index_or lists number []) (map (slice_index of_kinds) operations) ≡ map (λ kind. slice_index_or (map alternatives_of draft.kinds.items) kind []) operations
    each [] low long = refl
    each (kind ∷ operations) low long =
        let here : kind < length draft.kinds.items = low 0 0 (omega arith) in
        ap₂ (λ x xs. x ∷ xs)
        (sym (get_or-map (λ number. slice_index_or lists number []) of_kinds kind 0 [] (omega arith)) ∙ ap (λ xs. get_or xs kind []) is.same)
        (each operations (λ k d there. low (suc k) d (omega arith)) long)

-- alternatives that are the same, hold by hold

same-rows : (same : Hold → Hold → Bool) → ((a b : Hold) → same a b ≡ true → a ≡ b) → (xs ys : List Hold) → pointwise same xs ys ≡ true → xs ≡ ys
same-rows same equal [] [] h = refl
same-rows same equal [] (y ∷ ys) h = absurd (true≢false (sym h))
same-rows same equal (x ∷ xs) [] h = absurd (true≢false (sym h))
same-rows same equal (x ∷ xs) (y ∷ ys) h =
    let both = and_parts (same x y) (pointwise same xs ys) h in
    ap₂ (λ z zs. z ∷ zs) (equal x y both.0) (same-rows same equal xs ys both.1)

pub same-alternatives : (same : Hold → Hold → Bool) → ((a b : Hold) → same a b ≡ true → a ≡ b) → (xs ys : List (SmallVec Hold))
    → pointwise (λ (v w : SmallVec Hold). pointwise same v.items w.items) xs ys ≡ true → map (λ (rows : SmallVec Hold). map row_of rows.items) xs ≡ map (λ (rows : SmallVec Hold). map row_of rows.items) ys
same-alternatives same equal [] [] h = refl
same-alternatives same equal [] (y ∷ ys) h = absurd (true≢false (sym h))
same-alternatives same equal (x ∷ xs) [] h = absurd (true≢false (sym h))
same-alternatives same equal (x ∷ xs) (y ∷ ys) h =
    let both = and_parts (pointwise same x.items y.items) (pointwise (λ (v w : SmallVec Hold). pointwise same v.items w.items) xs ys) h in
    ap₂ (λ z zs. z ∷ zs) (ap (map row_of) (same-rows same equal x.items y.items both.0)) (same-alternatives same equal xs ys both.1)
