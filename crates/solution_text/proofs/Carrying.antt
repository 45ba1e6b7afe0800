-- How many iterations a value is carried on, read by read.
use Rattle.std.proofs.Common.{◌≡◌, ◌≢◌, ℕ, suc, ◌+◌, ◌<◌, ◌≤◌, max, true, false, Bool, cond, eq-eqb, List, [], ◌∷◌, ◌++◌, length, get_or, map, take, sym, ap, ◌∙◌, subst, inl, inr, arith}
use Rattle.std.specs.Prelude.{◌==◌}
use Rattle.std.specs.List.{All}
use Rattle.std.proofs.lemmas.Bool.{cases_Bool, cond-true, cond-false, ne_eqb}
use Rattle.std.proofs.lemmas.List.{append-nil}
use Rattle.std.proofs.lemmas.List.Elements.{All-take, filter_more}
use Rattle.problems.specs.declared.draft.Draft.{Draft}
use Rattle.registers.specs.declared.value.Read.{Read}
use Rattle.registers.specs.Values.{greatest_of, reads_of}
use Rattle.solutions.specs.Solutions.{SolutionData, IsLawfulSolution}

-- the greatest distance of some reads
abbrev pub farthest : List Read → ℕ
farthest reads = greatest_of (map (λ (r : Read). r.distance) reads)

farthest-push : (reads : List Read) (r : Read) → farthest (reads ++ r ∷ []) ≡ max (farthest reads) r.distance
farthest-push [] r = omega arith
farthest-push (x ∷ reads) r = let rest = farthest-push reads r in omega (arith, rest)

-- one read more, which is of the value or of another one
pub of_value-more : (reads : List Read) (i value before after first : ℕ) (d : Read) → i < length reads
    → before ≡ max (farthest (reads_of (take i reads) value)) first → (get_or reads i d).value ≡ value → after ≡ max (get_or reads i d).distance before
    → after ≡ max (farthest (reads_of (take (i + 1) reads) value)) first
of_value-more reads i value before after first d within b same a =
    let r : Read = get_or reads i d in
    let test : (r.value == value) ≡ true = eq-eqb r.value value same in
    let more : reads_of (take (i + 1) reads) value ≡ reads_of (take i reads) value ++ r ∷ []
    = filter_more (λ (q : Read). q.value == value) reads i d within ∙ ap (λ (t : Bool). reads_of (take i reads) value ++ cond t (r ∷ []) []) test in
    let e : farthest (reads_of (take (i + 1) reads) value) ≡ max (farthest (reads_of (take i reads) value)) r.distance
    = ap farthest more ∙ farthest-push (reads_of (take i reads) value) r in
    omega (arith, e, a, b)

pub of_other-more : (reads : List Read) (i value before after first : ℕ) (d : Read) → i < length reads
    → before ≡ max (farthest (reads_of (take i reads) value)) first → (get_or reads i d).value ≢ value → after ≡ before
    → after ≡ max (farthest (reads_of (take (i + 1) reads) value)) first
of_other-more reads i value before after first d within b other a =
    let r : Read = get_or reads i d in
    let test : (r.value == value) ≡ false = ne_eqb r.value value other in
    let more : reads_of (take (i + 1) reads) value ≡ reads_of (take i reads) value
    = filter_more (λ (q : Read). q.value == value) reads i d within ∙ ap (λ (t : Bool). reads_of (take i reads) value ++ cond t (r ∷ []) []) test
    ∙ append-nil (reads_of (take i reads) value) in
    a ∙ b ∙ ap (λ n. max n first) (ap farthest (sym more))

-- no distance is above 16

pub few-in : (reads : List Read) (value : ℕ) → All (λ (r : Read). r.distance ≤ 16) reads → farthest (reads_of reads value) ≤ 16
few-in [] value all = omega arith
few-in (r ∷ reads) value all =
    let rest : farthest (reads_of reads value) ≤ 16 = few-in reads value (λ k d lt. all (suc k) d (omega arith)) in
    let own : r.distance ≤ 16 = all 0 r (omega arith) in
    elim (cases_Bool (r.value == value)) [
      | inl of_value ↦ let e = ap farthest (cond-true (r.value == value) (r ∷ reads_of reads value) (reads_of reads value) of_value) in omega (arith, e, rest, own)
      | inr of_other ↦ let e = ap farthest (cond-false (r.value == value) (r ∷ reads_of reads value) (reads_of reads value) of_other) in omega (arith, e, rest)
    ]

pub carried-few : (s : SolutionData) (draft : Draft) (reads : List Read) (i value n first : ℕ) → IsLawfulSolution s → draft ≡ s.problem.draft → reads ≡ draft.reads.items
    → n ≡ max (farthest (reads_of (take i reads) value)) first → first ≤ 1 → n ≤ 16
carried-few s draft reads i value n first is same_draft same e f =
    let all : All (λ (r : Read). r.distance ≤ 16) s.problem.draft.reads.items = λ k d lt. (is.is_problem.is_well_formed.reads k d lt).distance in
    let here : All (λ (r : Read). r.distance ≤ 16) reads
    = subst (All (λ (r : Read). r.distance ≤ 16)) (sym (same ∙ ap (λ (d : Draft). d.reads.items) same_draft)) all in
    let few = few-in (take i reads) value (All-take (λ (r : Read). r.distance ≤ 16) i reads here) in
    omega (arith, few, e, f)
