-- What is found on the variants that concern a loop.
use Rattle.std.proofs.Common.{◌≡◌, Bool, true, false, cond, List, [], ◌∷◌, ◌++◌, filter, refl, sym, ap, ap₂, ◌∙◌, subst}
use Rattle.std.specs.Prelude.{Option, Some, None}
use Rattle.std.specs.List.{AllZip}
use Rattle.machine_data.specs.Machines.{MachineData}
use Rattle.loop_schedules.specs.Problems.{ProblemData}
use Rattle.machine_variants.specs.declared.variant.Variant.{Variant}
use Rattle.machine_variants.specs.Variants.{concerns}
use Rattle.variants.specs.declared.found.finding.Finding.{Finding}
use Rattle.variants.specs.Intervals.{IsFinding}
use Rattle.variants.specs.Findings.{IsFoundOn}
use Rattle.variants.proofs.Zipped.{zipped}

-- those that are found
abbrev pub somes : List (Option Finding) → List Finding
somes [] = []
somes (None ∷ found) = somes found
somes (Some x ∷ found) = x ∷ somes found

pub taken : {A : Type 0} (p : A → Bool) (x : A) (xs : List A) → p x ≡ true → filter p (x ∷ xs) ≡ x ∷ filter p xs
taken p x xs is = ap (λ b. cond b (x ∷ filter p xs) (filter p xs)) is

pub left-out : {A : Type 0} (p : A → Bool) (x : A) (xs : List A) → p x ≡ false → filter p (x ∷ xs) ≡ filter p xs
left-out p x xs is = ap (λ b. cond b (x ∷ filter p xs) (filter p xs)) is

module _ (machine : MachineData) (problem : ProblemData) where
  abbrev is_concerned : Variant → Bool
  is_concerned variant = concerns machine problem.loop variant

  pub each-found : (variants : List Variant) (found : List (Option Finding)) → AllZip (IsFoundOn machine problem) variants found
      → AllZip (IsFinding machine problem) (filter is_concerned variants) (somes found)
  each-found [] [] h = tt
  each-found [] (x ∷ found) h = absurd h
  each-found (v ∷ variants) [] h = absurd h
  each-found (v ∷ variants) (None ∷ found) h =
      subst (λ vs. AllZip (IsFinding machine problem) vs (somes found)) (sym (left-out is_concerned v variants h.0)) (each-found variants found h.1)
  each-found (v ∷ variants) (Some x ∷ found) h =
      subst (λ vs. AllZip (IsFinding machine problem) vs (x ∷ somes found)) (sym (taken is_concerned v variants h.0.0)) (h.0.1, each-found variants found h.1)

  -- what is made of each of them is what is made of each variant, nothing of those that do not concern the loop
  pub zip-found : {X : Type 0} (f : Variant → Finding → List X) (g : Variant → Option Finding → List X) → ((v : Variant) → g v None ≡ []) → ((v : Variant) (x : Finding) → g v (Some x) ≡ f v x)
      → (variants : List Variant) (found : List (Option Finding)) → AllZip (IsFoundOn machine problem) variants found
      → zipped f (filter is_concerned variants) (somes found) ≡ zipped g variants found
  zip-found f g none some [] [] h = refl
  zip-found f g none some [] (x ∷ found) h = absurd h
  zip-found f g none some (v ∷ variants) [] h = absurd h
  zip-found {X} f g none some (v ∷ variants) (None ∷ found) h =
      ap (λ vs. zipped f vs (somes found)) (left-out is_concerned v variants h.0) ∙ zip-found f g none some variants found h.1
      ∙ ap (λ (xs : List X). xs ++ zipped g variants found) (sym (none v))
  zip-found {X} f g none some (v ∷ variants) (Some x ∷ found) h =
      ap (λ vs. zipped f vs (x ∷ somes found)) (taken is_concerned v variants h.0.0)
      ∙ ap₂ (λ (xs ys : List X). xs ++ ys) (sym (some v x)) (zip-found f g none some variants found h.1)
