-- The runs of intervals of which the same is told, as a loop over the intervals reaches them.
use Rattle.std.proofs.Common.{◌≡◌, ℕ, zero, suc, ◌+◌, ◌<◌, true, false, cond, List, [], ◌∷◌, Vec, length, get_or, map, sym, ap, ◌∙◌, add-one, arith}
use Rattle.std.specs.Global.{Global}
use Rattle.reason_lines.specs.Runs.{ends_run, run_at, run_line, run_start}

pub start-ended : (whys : List (List ℕ)) (number : ℕ) → ends_run whys number ≡ true → run_start whys (number + 1) ≡ number + 1
start-ended whys number e = ap (run_start whys) (add-one number) ∙ ap (λ b. cond b (suc number) (run_start whys number)) e ∙ sym (add-one number)

pub start-goes_on : (whys : List (List ℕ)) (number : ℕ) → ends_run whys number ≡ false → run_start whys (number + 1) ≡ run_start whys number
start-goes_on whys number e = ap (run_start whys) (add-one number) ∙ ap (λ b. cond b (suc number) (run_start whys number)) e

pub run-ended : (least : ℕ) (whys : List (List ℕ)) (number start : ℕ) (why : List ℕ) → ends_run whys number ≡ true → start ≡ run_start whys number → why ≡ get_or whys number []
    → run_line (least + start) (least + number) why ≡ run_at least whys number
run-ended least whys number start why e same is =
    ap (λ s. run_line (least + s) (least + number) why) same
    ∙ ap (run_line (least + run_start whys number) (least + number)) is
    ∙ ap (λ b. cond b (run_line (least + run_start whys number) (least + number) (get_or whys number [])) []) (sym e)

pub run-goes_on : (least : ℕ) (whys : List (List ℕ)) (number : ℕ) → ends_run whys number ≡ false → [] ≡ run_at least whys number
run-goes_on least whys number e = ap (λ b. cond b (run_line (least + run_start whys number) (least + number) (get_or whys number [])) []) (sym e)

-- what is told of an interval, as a list of bytes
pub why-at : (whys : List (Vec ℕ Global)) (number : ℕ) (why : Vec ℕ Global) → number < length whys → why ≡ get_or whys number why
    → why.items ≡ get_or (map (λ (w : Vec ℕ Global). w.items) whys) number []
why-at [] number why within is = absurd (omega arith)
why-at (w ∷ whys) zero why within is = ap (λ (v : Vec ℕ Global). v.items) is
why-at (w ∷ whys) (suc number) why within is = why-at whys number why (omega arith) is
