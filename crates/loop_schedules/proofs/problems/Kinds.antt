-- Which operations of a loop have the same alternatives, for one operation more at a time.
use Rattle.std.proofs.Common.{◌≡◌, ℕ, suc, ◌+◌, ◌<◌, ◌++◌, List, [], ◌∷◌, length, map, get_or, set, refl, sym, ap, ap₂, ◌∙◌, arith, ◌⊎◌, inl, inr, Option, Some, None}
use Rattle.std.specs.List.{All, slice_index_or}
use Rattle.std.specs.Option.{option_flatten}
use Rattle.std.specs.Prelude.{slice_get}
use Rattle.std.proofs.lemmas.Bool.{cases_eq}
use Rattle.std.proofs.lemmas.List.{get_or_append_left, get_or_push, get_or-set_same, get_or-set_other, length-append, map_push}
use Rattle.std.proofs.lemmas.List.Elements.{All-push, All-weaker}
use Rattle.std.proofs.lemmas.Option.{same_Some}
use Rattle.machine_data.specs.declared.alternative.Row.{Row}
use Rattle.machine_data.specs.Machines.{OperationData}
use Rattle.graph.specs.Units.{alternatives_in}
use Rattle.schedules.specs.Problems.{AreKinds}
use Rattle.loop_schedules.specs.inner.Offers.{IsAlike}

abbrev pub Table : Type 0
Table = List (List Row)

-- the alternatives that stand at a number of an opcode
abbrev pub at_number : List (Option OperationData) → ℕ → Table
at_number tables number = alternatives_in (option_flatten (slice_get tables number))

-- a list more leaves what numbers stand for
same-there : (list : List Table) (offered : Table) (kinds : List ℕ) → All (λ kind. kind < length list) kinds
    → map (λ kind. slice_index_or (list ++ offered ∷ []) kind []) kinds ≡ map (λ kind. slice_index_or list kind []) kinds
same-there list offered [] there = refl
same-there list offered (kind ∷ kinds) there =
    ap₂ (λ x xs. x ∷ xs) (get_or_append_left list (offered ∷ []) [] kind (there 0 0 (omega arith)))
    (same-there list offered kinds (λ k d low. there (suc k) d (omega arith)))

-- one operation more: `first` is the one that is noted for its opcode, or one that is alike, or itself
module _ (tables : List (Option OperationData)) (list : List Table) (firsts : List (Option ℕ)) (number first : ℕ) (offered : Table)
    (noted : (n f : ℕ) → get_or firsts n None ≡ Some f → (f < length list) × (get_or list f [] ≡ at_number tables n))
    (same : offered ≡ at_number tables number) (is : (get_or firsts number None ≡ Some first) ⊎ IsAlike list offered first) where
  size : length (list ++ offered ∷ []) ≡ length list + 1
  size = length-append list (offered ∷ [])

  in-list : first < length list → get_or list first [] ≡ offered → (first < length list + 1) × (get_or (list ++ offered ∷ []) first [] ≡ offered)
  in-list low at = (omega (arith, low), get_or_append_left list (offered ∷ []) [] first low ∙ at)

  stands : (first < length list + 1) × (get_or (list ++ offered ∷ []) first [] ≡ offered)
  stands = elim is [
    | inl some ↦ let n = noted number first some in in-list n.0 (n.1 ∙ sym same)
    | inr (inl e) ↦ (omega (arith, e), ap (λ k. get_or (list ++ offered ∷ []) k []) e ∙ get_or_push list offered [] (length list) refl)
    | inr (inr other) ↦ in-list other.0 other.1
  ]

  pub noted-more : number < length firsts → (n f : ℕ) → get_or (set firsts number (Some first)) n None ≡ Some f
      → (f < length (list ++ offered ∷ [])) × (get_or (list ++ offered ∷ []) f [] ≡ at_number tables n)
  noted-more there n f found = elim (cases_eq n number) [
    | inl own ↦
        let f_is : first ≡ f = same_Some first f (sym (get_or-set_same firsts number (Some first) None there) ∙ ap (λ k. get_or (set firsts number (Some first)) k None) (sym own) ∙ found) in
        (omega (arith, size, f_is, stands.0), ap (λ k. get_or (list ++ offered ∷ []) k []) (sym f_is) ∙ stands.1 ∙ same ∙ ap (at_number tables) (sym own))
    | inr other ↦
        let before = noted n f (sym (get_or-set_other firsts number n (Some first) None other) ∙ found) in
        (omega (arith, size, before.0), get_or_append_left list (offered ∷ []) [] f before.0 ∙ before.1)
  ]

  pub kinds-more : (kinds : List ℕ) → AreKinds list kinds → AreKinds (list ++ offered ∷ []) (kinds ++ first ∷ [])
  kinds-more kinds are = record {
    there = All-push (λ kind. kind < length (list ++ offered ∷ [])) kinds first
        (All-weaker (λ kind. kind < length list) (λ kind. kind < length (list ++ offered ∷ [])) (λ kind low. omega (arith, size, low)) kinds are.there)
        (omega (arith, size, stands.0));
    same = map_push (λ kind. slice_index_or (list ++ offered ∷ []) kind []) kinds first
        ∙ ap₂ (λ xs x. xs ++ x ∷ []) (same-there list offered kinds are.there ∙ are.same) stands.1;
  }
