-- Lists of what each of some things is told, from the first on.
use Rattle.std.proofs.Common.{◌≡◌, ℕ, suc, ◌+◌, ◌<◌, ◌≤◌, List, [], ◌∷◌, ◌++◌, length, get_or, drop, Option, Some, None, Result, Ok, Err, refl, sym, ◌∙◌, ap, append_assoc, drop-cons, add-one}
use Rattle.std.proofs.lemmas.List.{drop_all}
use Rattle.solution_reader.specs.Resolved.{each_told, with_told}

-- what was found goes in front
abbrev pub ahead : {A : Type 0} → List A → Result (List A) ℕ → Result (List A) ℕ
ahead found (Ok more) = Ok (found ++ more)
ahead found (Err number) = Err number

ahead-more : {A : Type 0} (found : List A) (told : A) (rest : Result (List A) ℕ) → ahead found (with_told told rest) ≡ ahead (found ++ told ∷ []) rest
ahead-more found told (Ok more) = ap Ok (sym (append_assoc found (told ∷ []) more))
ahead-more found told (Err number) = refl

-- what all come to, where the first `number` gave `found`
pub record IsAhead {A : Type 0} (all : List (Option A)) (found : List A) (number : ℕ) : Type 0 where
  pub same : each_told 0 all ≡ ahead found (each_told number (drop number all))

pub ahead_next : {A : Type 0} (all : List (Option A)) (found more : List A) (number : ℕ) (told : A) → IsAhead all found number → number < length all → get_or all number None ≡ Some told → more ≡ found ++ told ∷ [] → IsAhead all more (number + 1)
ahead_next all found more number told is lt here e = record {
  same = is.same
      ∙ ap (λ ls. ahead found (each_told number ls)) (drop-cons all number None lt ∙ ap (λ o. o ∷ drop (suc number) all) here)
      ∙ ahead-more found told (each_told (number + 1) (drop (suc number) all))
      ∙ ap (λ n. ahead (found ++ told ∷ []) (each_told (number + 1) (drop n all))) (sym (add-one number))
      ∙ ap (λ fs. ahead fs (each_told (number + 1) (drop (number + 1) all))) (sym e);
}

pub ahead_stops : {A : Type 0} (all : List (Option A)) (found : List A) (number : ℕ) → IsAhead all found number → number < length all → get_or all number None ≡ None → Err number ≡ each_told 0 all
ahead_stops all found number is lt here =
    sym (is.same ∙ ap (λ ls. ahead found (each_told number ls)) (drop-cons all number None lt ∙ ap (λ o. o ∷ drop (suc number) all) here))

ahead-nil : {A : Type 0} (found : List A) → found ++ [] ≡ found
ahead-nil [] = refl
ahead-nil (x ∷ xs) = ap (λ ys. x ∷ ys) (ahead-nil xs)

pub ahead_ends : {A : Type 0} (all : List (Option A)) (found : List A) (number : ℕ) → IsAhead all found number → length all ≤ number → Ok found ≡ each_told 0 all
ahead_ends all found number is h =
    sym (is.same ∙ ap (λ ls. ahead found (each_told number ls)) (drop_all number all h) ∙ ap Ok (ahead-nil found))
