-- A loop, a machine and settings have one problem.
use Rattle.std.proofs.Common.{◌≡◌, ◌⊎◌, ℕ, suc, ◌<◌, List, [], ◌∷◌, length, get_or, refl, sym, ap, ◌∙◌, subst, inl, inr, arith}
use Rattle.std.specs.List.{AllPairs, Contains}
use Rattle.std.proofs.lemmas.Int.{ints}
use Rattle.std.proofs.lemmas.List.Elements.{All-contains}
use Rattle.edges.specs.Edges.{EdgeData, Precedes}
use Rattle.graph.specs.Dependences.{Dependence}
use Rattle.edges.specs.Graphs.{GraphData}
use Rattle.loop_schedules.specs.Problems.{ProblemData, IsProblem, without_loop}
use Rattle.loop_schedules.specs.Promises.{OneProblem}
use Rattle.schedules.specs.Problems as problems
use Rattle.schedules.proofs.OneProblems as given
use Rattle.schedules.proofs.Edges.{in_rest, after}

-- ---- edges that ascend are one list where they are the same edges
level_or : (x y : ℕ) (P Q : Type 0) → (x < y) ⊎ ((x ≡ y) × P) → (y < x) ⊎ ((y ≡ x) × Q) → (P → Q → ⊥) → ⊥
level_or x y P Q (inl a) (inl b) f = absurd (omega arith)
level_or x y P Q (inl a) (inr b) f = let e : y ≡ x = b.0 in absurd (omega arith)
level_or x y P Q (inr a) (inl b) f = let e : x ≡ y = a.0 in absurd (omega arith)
level_or x y P Q (inr a) (inr b) f = f a.1 b.1

pub one_way : (a b : EdgeData) → Precedes a b → Precedes b a → ⊥
one_way a b p q =
    level_or a.from b.from _ _ p q (λ p q. level_or a.to b.to _ _ p q (λ p q. level_or a.distance b.distance _ _ p q (λ p q. omega (arith, ints))))

first_precedes : (x : EdgeData) (xs : List EdgeData) (y : EdgeData) → AllPairs Precedes (x ∷ xs) → Contains xs y → Precedes x y
first_precedes x xs y ascending c =
    let below : c.0 < length xs = c.1 in
    let p : Precedes x (get_or xs c.0 y) = ascending 0 (suc c.0) y (omega arith) (omega arith) in
    subst (Precedes x) c.2 p

rest_ascends : (x : EdgeData) (xs : List EdgeData) → AllPairs Precedes (x ∷ xs) → AllPairs Precedes xs
rest_ascends x xs ascending i j d before within = ascending (suc i) (suc j) d (omega arith) (omega arith)

-- the edges of the one list are among those of the other
abbrev Among : List EdgeData → List EdgeData → Type 0
Among xs ys = (e : EdgeData) → Contains xs e → Contains ys e

in_front : (x : EdgeData) (xs : List EdgeData) → Contains (x ∷ xs) x
in_front x xs = (0, (let h : 0 < length (x ∷ xs) = omega arith in h), refl)

same_first : (x y : EdgeData) (xs ys : List EdgeData) → AllPairs Precedes (x ∷ xs) → AllPairs Precedes (y ∷ ys)
    → Among (x ∷ xs) (y ∷ ys) → Among (y ∷ ys) (x ∷ xs) → x ≡ y
same_first x y xs ys a b one other =
    let p = one x (in_front x xs) in
    let q = other y (in_front y ys) in
    elim (in_rest y ys x p.0 p.1 p.2) [
      | inl same ↦ sym same
      | inr later ↦ elim (in_rest x xs y q.0 q.1 q.2) [
        | inl same ↦ same
        | inr also ↦ absurd (one_way x y (first_precedes x xs y a also) (first_precedes y ys x b later))
      ]
    ]

among_rest : (x y : EdgeData) (xs ys : List EdgeData) → AllPairs Precedes (x ∷ xs) → x ≡ y → Among (x ∷ xs) (y ∷ ys) → Among xs ys
among_rest x y xs ys a same one e c =
    let p = one e (after x xs e c) in
    elim (in_rest y ys e p.0 p.1 p.2) [
      | inl is ↦
          let q : Precedes x e = first_precedes x xs e a c in
          let r : Precedes x x = subst (Precedes x) (sym (same ∙ is)) q in
          absurd (one_way x x r r)
      | inr later ↦ later
    ]

pub same_edges : (xs ys : List EdgeData) → AllPairs Precedes xs → AllPairs Precedes ys → Among xs ys → Among ys xs → xs ≡ ys
same_edges [] [] a b one other = refl
same_edges [] (y ∷ ys) a b one other = let c = other y (in_front y ys) in let below : c.0 < 0 = c.1 in absurd (omega arith)
same_edges (x ∷ xs) [] a b one other = let c = one x (in_front x xs) in let below : c.0 < 0 = c.1 in absurd (omega arith)
same_edges (x ∷ xs) (y ∷ ys) a b one other =
    let same : x ≡ y = same_first x y xs ys a b one other in
    let rest : xs ≡ ys = same_edges xs ys (rest_ascends x xs a) (rest_ascends y ys b) (among_rest x y xs ys a same one) (among_rest y x ys xs b (sym same) other) in
    ap (λ k. k ∷ xs) same ∙ ap (λ k. y ∷ k) rest

-- ---- one problem
same_problems : (one other : ProblemData) → one.loop ≡ other.loop → one.registers ≡ other.registers → without_loop one ≡ without_loop other → one ≡ other
same_problems one other loop registers same =
    ap (λ k. let p : ProblemData = record { loop = k; graph = one.graph; operations = one.operations; registers = one.registers; resources = one.resources; recurrences = one.recurrences; ratio = one.ratio; ceiling = one.ceiling } in p) loop
    ∙ ap (λ k. let p : ProblemData = record { loop = other.loop; graph = one.graph; operations = one.operations; registers = k; resources = one.resources; recurrences = one.recurrences; ratio = one.ratio; ceiling = one.ceiling } in p) registers
    ∙ ap (λ (k : problems.ProblemData). let p : ProblemData = record { loop = other.loop; graph = k.graph; operations = k.operations; registers = other.registers; resources = k.resources; recurrences = k.recurrences; ratio = k.ratio; ceiling = k.ceiling } in p) same

same_graphs : (one other : GraphData) → one.edges ≡ other.edges → one.latencies ≡ other.latencies → one ≡ other
same_graphs one other edges latencies =
    ap (λ k. let g : GraphData = record { edges = k; latencies = one.latencies } in g) edges
    ∙ ap (λ k. let g : GraphData = record { edges = other.edges; latencies = k } in g) latencies

-- a dependence listed by one problem is one listed by the other
among : (one other : ProblemData) → IsProblem one → IsProblem other → one.loop ≡ other.loop → one.graph.latencies ≡ other.graph.latencies → Among one.graph.edges other.graph.edges
among one other a b loop latencies e c =
    let d : Dependence one.loop one.graph.latencies e = All-contains (Dependence one.loop one.graph.latencies) one.graph.edges e a.sound c in
    b.complete e (subst (λ ls. Dependence other.loop ls e) latencies (subst (λ l. Dependence l one.graph.latencies e) loop d))

pub one-problem : OneProblem
one-problem machine loop ratio ceiling one other a b =
    let loops : one.loop ≡ other.loop = a.same_loop ∙ sym b.same_loop in
    let latencies : one.graph.latencies ≡ other.graph.latencies = a.latencies ∙ sym b.latencies in
    let operations : one.operations ≡ other.operations = a.alternatives ∙ sym b.alternatives in
    let edges : one.graph.edges ≡ other.graph.edges = same_edges one.graph.edges other.graph.edges a.is_problem.is_problem.graph.ascending b.is_problem.is_problem.graph.ascending
    (among one other a.is_problem b.is_problem loops latencies) (among other one b.is_problem a.is_problem (sym loops) (sym latencies)) in
    let first : problems.IsProblemOf other.graph other.operations ratio ceiling (without_loop one) = record {
      is_problem = a.is_problem.is_problem;
      same_graph = same_graphs one.graph other.graph edges latencies;
      same_operations = operations;
      same_ratio = a.same_ratio;
      same_ceiling = a.same_ceiling;
    } in
    let second : problems.IsProblemOf other.graph other.operations ratio ceiling (without_loop other) = record {
      is_problem = b.is_problem.is_problem;
      same_graph = refl;
      same_operations = refl;
      same_ratio = b.same_ratio;
      same_ceiling = b.same_ceiling;
    } in
    same_problems one other loops (a.same_registers ∙ sym b.same_registers)
    (given.one-problem other.graph other.operations ratio ceiling (without_loop one) (without_loop other) first second)
