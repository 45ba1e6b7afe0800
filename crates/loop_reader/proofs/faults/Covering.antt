-- Which initial values the tables have.
use Rattle.std.proofs.Common.{◌≡◌, ℕ, zero, suc, ℤ, ◌<◌, ◌&&◌, Bool, true, false, List, Option, is_some, refl, sym, ◌∙◌, ap, arith, ⊎_elim}
use Rattle.std.proofs.lemmas.Bool.{cases_eq}
use Rattle.loop_reader.specs.inner.Checks.{covers, slot}

and-false : (b : Bool) → (b && false) ≡ false
and-false true = refl
and-false false = refl

pub covers-false : (inits : List (Option ℤ)) (value m d : ℕ) → m < d → is_some (slot inits value m) ≡ false → covers inits value d ≡ false
covers-false inits value m zero h none = absurd (omega arith)
covers-false inits value m (suc n) h none =
    ⊎_elim (λ e. ap (λ k. is_some (slot inits value k) && covers inits value n) (sym e) ∙ ap (λ b. b && covers inits value n) none)
    (λ ne. ap (λ b. is_some (slot inits value n) && b) (covers-false inits value m n (omega arith) none) ∙ and-false (is_some (slot inits value n)))
    (cases_eq m n)
