-- The first thing of a list that passes a test.
use Rattle.std.proofs.Common.{◌≡◌, ℕ, suc, ◌+◌, ◌<◌, Bool, true, false, cond, List, [], ◌∷◌, length, get_or, map, drop, Some, refl, sym, ◌∙◌, ap, arith, drop-cons, add-one, not}
use Rattle.std.proofs.Math.ListN.{get_or-map}
use Rattle.std.proofs.lemmas.List.{length-map}
use Rattle.std.specs.Option.{option_map}
use Rattle.std.specs.Prelude.{find}
use Rattle.solution_reader.specs.Data.{OpData, ValueData}
use Rattle.solution_reader.specs.Resolved.{first_op_failing, first_value_failing, unknown_at}
use Rattle.problem_faults.specs.declared.refused_solutions.Part.TheVariants as part

pub find_same : {A : Type 0} (p q : A → Bool) → ((x : A) → p x ≡ q x) → (xs : List A) → find p xs ≡ find q xs
find_same p q h [] = refl
find_same p q h (x ∷ xs) = ap (λ b. cond b (Some x) (find p xs)) (h x) ∙ ap (λ o. cond (q x) (Some x) o) (find_same p q h xs)

-- over rows that are seen as something, those before this number fail
pub record IsPast {R A : Type 0} (seen : R → A) (p : A → Bool) (rows : List R) (number : ℕ) : Type 0 where
  pub same : find p (drop number (map seen rows)) ≡ find p (map seen rows)

past-cut : {R A : Type 0} (seen : R → A) (p : A → Bool) (rows : List R) (number : ℕ) (d : R) → number < length rows → (b : Bool) → p (seen (get_or rows number d)) ≡ b
    → find p (drop number (map seen rows)) ≡ cond b (Some (seen (get_or rows number d))) (find p (drop (suc number) (map seen rows)))
past-cut seen p rows number d lt b here =
    let long : number < length (map seen rows) = omega (arith, length-map rows seen) in
    ap (find p) (drop-cons (map seen rows) number (seen d) long ∙ ap (λ x. x ∷ drop (suc number) (map seen rows)) (get_or-map seen rows number d))
    ∙ ap (λ b. cond b (Some (seen (get_or rows number d))) (find p (drop (suc number) (map seen rows)))) here

pub past_next : {R A : Type 0} (seen : R → A) (p : A → Bool) (rows : List R) (number : ℕ) (d : R) → IsPast seen p rows number → number < length rows → p (seen (get_or rows number d)) ≡ false → IsPast seen p rows (number + 1)
past_next seen p rows number d is lt here = record {
  same = ap (λ n. find p (drop n (map seen rows))) (add-one number) ∙ sym (past-cut seen p rows number d lt false here) ∙ is.same;
}

pub past_here : {R A : Type 0} (seen : R → A) (p : A → Bool) (rows : List R) (number : ℕ) (d : R) → IsPast seen p rows number → number < length rows → p (seen (get_or rows number d)) ≡ true
    → Some (seen (get_or rows number d)) ≡ find p (map seen rows)
past_here seen p rows number d is lt here = sym (past-cut seen p rows number d lt true here) ∙ is.same

-- by another test that says the same

pub op_failing_same : (p q : List ℕ → Bool) → ((x : List ℕ) → p x ≡ q x) → (ops : List OpData) → first_op_failing p ops ≡ first_op_failing q ops
op_failing_same p q h ops =
    ap (option_map (λ (o : OpData). unknown_at o.line o.name part.Operations)) (find_same (λ (o : OpData). not (p o.name.bytes)) (λ (o : OpData). not (q o.name.bytes)) (λ o. ap not (h o.name.bytes)) ops)

pub value_failing_same : (p q : List ℕ → Bool) → ((x : List ℕ) → p x ≡ q x) → (values : List ValueData) → first_value_failing p values ≡ first_value_failing q values
value_failing_same p q h values =
    ap (option_map (λ (v : ValueData). unknown_at v.line v.name part.Values)) (find_same (λ (v : ValueData). not (p v.name.bytes)) (λ (v : ValueData). not (q v.name.bytes)) (λ v. ap not (h v.name.bytes)) values)
