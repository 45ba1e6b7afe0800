-- Edges, latencies, alternatives and settings have one problem.
use Rattle.std.proofs.Common.{◌≡◌, ℕ, ◌<◌, ◌≤◌, List, [], ◌∷◌, ◌++◌, get_or, refl, sym, ap, ◌∙◌, subst, inl, inr, arith}
use Rattle.std.proofs.lemmas.Bool.{cases_lt}
use Rattle.machine_data.specs.declared.alternative.Row.{Row}
use Rattle.edges.specs.Edges.{EdgeData}
use Rattle.edges.specs.Graphs.{GraphData}
use Rattle.unit_bound.specs.Units.{greatest_use, IsBest, AreBest, chosen_rows, by_freedom, IsUnitBound}
use Rattle.walks.specs.Walks.{IsRecurrenceBound}
use Rattle.walks.proofs.Recurrences.{bound-le-fitting}
use Rattle.schedules.specs.Problems.{ProblemData}
use Rattle.schedules.specs.Promises.{OneProblem}

-- ---- one bound by units
one_best : (taken : List Row) (alternatives : List (List Row)) (one other : ℕ) → IsBest taken alternatives one → IsBest taken alternatives other → one ≡ other
one_best taken alternatives one other a b = elim (cases_lt one other) [
  | inl less ↦
      let x : greatest_use (taken ++ get_or alternatives other []) < greatest_use (taken ++ get_or alternatives one []) = b.first one less in
      let y : greatest_use (taken ++ get_or alternatives one []) ≤ greatest_use (taken ++ get_or alternatives other []) = a.least other b.there in
      absurd (omega arith)
  | inr above ↦ elim (cases_lt other one) [
    | inl more ↦
        let x : greatest_use (taken ++ get_or alternatives one []) < greatest_use (taken ++ get_or alternatives other []) = a.first other more in
        let y : greatest_use (taken ++ get_or alternatives other []) ≤ greatest_use (taken ++ get_or alternatives one []) = b.least one a.there in
        absurd (omega arith)
    | inr level ↦ omega arith
  ]
]

one_choices : (taken : List Row) (operations : List (List (List Row))) (one other : List ℕ) → AreBest taken operations one → AreBest taken operations other → one ≡ other
one_choices taken [] [] [] a b = refl
one_choices taken [] [] (d ∷ ds) a b = absurd b
one_choices taken [] (c ∷ cs) other a b = absurd a
one_choices taken (alternatives ∷ operations) [] other a b = absurd a
one_choices taken (alternatives ∷ operations) (c ∷ cs) [] a b = absurd b
one_choices taken (alternatives ∷ operations) (c ∷ cs) (d ∷ ds) a b =
    let same : c ≡ d = one_best taken alternatives c d a.0 b.0 in
    let rest : AreBest (taken ++ get_or alternatives d []) operations cs
    = subst (λ k. AreBest (taken ++ get_or alternatives k []) operations cs) same a.1 in
    ap (λ k. k ∷ cs) same ∙ ap (λ k. d ∷ k) (one_choices (taken ++ get_or alternatives d []) operations cs ds rest b.1)

pub one_unit_bound : (operations : List (List (List Row))) (one other : ℕ) → IsUnitBound operations one → IsUnitBound operations other → one ≡ other
one_unit_bound operations one other a b =
    a.is_use ∙ ap (λ cs. greatest_use (chosen_rows (by_freedom operations) cs)) (one_choices [] (by_freedom operations) a.choices b.choices a.best b.best) ∙ sym b.is_use

-- ---- one bound by circuits
pub one_recurrence_bound : (edges : List EdgeData) (one other : ℕ) → IsRecurrenceBound edges one → IsRecurrenceBound edges other → one ≡ other
one_recurrence_bound edges one other a b =
    let x : 1 ≤ one = a.from_one in
    let y : 1 ≤ other = b.from_one in
    let less : one ≤ other = bound-le-fitting edges one other a (omega arith) b.fits in
    let more : other ≤ one = bound-le-fitting edges other one b (omega arith) a.fits in
    omega arith

-- ---- one problem
same_problems : (one other : ProblemData) → one.graph ≡ other.graph → one.operations ≡ other.operations
    → one.resources ≡ other.resources → one.recurrences ≡ other.recurrences → one.ratio ≡ other.ratio → one.ceiling ≡ other.ceiling → one ≡ other
same_problems one other graph operations resources recurrences ratio ceiling =
    ap (λ k. let p : ProblemData = record { graph = k; operations = one.operations; resources = one.resources; recurrences = one.recurrences; ratio = one.ratio; ceiling = one.ceiling } in p) graph
    ∙ ap (λ k. let p : ProblemData = record { graph = other.graph; operations = k; resources = one.resources; recurrences = one.recurrences; ratio = one.ratio; ceiling = one.ceiling } in p) operations
    ∙ ap (λ k. let p : ProblemData = record { graph = other.graph; operations = other.operations; resources = k; recurrences = one.recurrences; ratio = one.ratio; ceiling = one.ceiling } in p) resources
    ∙ ap (λ k. let p : ProblemData = record { graph = other.graph; operations = other.operations; resources = other.resources; recurrences = k; ratio = one.ratio; ceiling = one.ceiling } in p) recurrences
    ∙ ap (λ k. let p : ProblemData = record { graph = other.graph; operations = other.operations; resources = other.resources; recurrences = other.recurrences; ratio = k; ceiling = one.ceiling } in p) ratio
    ∙ ap (λ k. let p : ProblemData = record { graph = other.graph; operations = other.operations; resources = other.resources; recurrences = other.recurrences; ratio = other.ratio; ceiling = k } in p) ceiling

pub one-problem : OneProblem
one-problem graph operations ratio ceiling one other a b =
    let graphs : one.graph ≡ other.graph = a.same_graph ∙ sym b.same_graph in
    let offered : one.operations ≡ other.operations = a.same_operations ∙ sym b.same_operations in
    let resources : one.resources ≡ other.resources = one_unit_bound other.operations one.resources other.resources
    (subst (λ os. IsUnitBound os one.resources) offered a.is_problem.unit_bound) b.is_problem.unit_bound in
    let recurrences : one.recurrences ≡ other.recurrences = one_recurrence_bound other.graph.edges one.recurrences other.recurrences
    (subst (λ (g : GraphData). IsRecurrenceBound g.edges one.recurrences) graphs a.is_problem.recurrence_bound) b.is_problem.recurrence_bound in
    same_problems one other graphs offered resources recurrences (a.same_ratio ∙ sym b.same_ratio) (a.same_ceiling ∙ sym b.same_ceiling)
