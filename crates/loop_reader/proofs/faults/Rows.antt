-- The initial values of a statement's value.
use Rattle.std.proofs.Common.{◌≡◌, ℕ, suc, ℤ, ◌+◌, List, ◌++◌, Option, option_map, ◌∙◌, ap, arith}
use Rattle.std.specs.Prelude.{option_to_list}
use Rattle.loop_reader.specs.inner.Building.{row_of}
use Rattle.loop_reader.specs.inner.Checks.{slot}

one-on : (i : ℕ) → i + 1 ≡ suc i
one-on i = omega arith

pub row-more : (inits : List (Option ℤ)) (statement m : ℕ) (o : Option ℤ) → slot inits statement m ≡ o
    → row_of inits statement (m + 1) ≡ row_of inits statement m ++ option_to_list (option_map (λ value. record { statement = statement; number = m + 1; value = value }) o)
row-more inits statement m o h =
    ap (row_of inits statement) (one-on m) ∙ ap (λ o. row_of inits statement m ++ option_to_list (option_map (λ value. record { statement = statement; number = m + 1; value = value }) o)) h
