use Rattle.std.proofs.Common.{◌≡◌, ◌∙◌, ℕ, List, length, ap, refl, subst}
use Rattle.std.specs.Prelude.{codes, IfOk}
use Rattle.serde_json.specs.Data.{Members, no_members, put, string}
use Rattle.serde_json.specs.View.{members_view, view}
use Rattle.edges.specs.Edges.{EdgeData}
use Rattle.schedules.specs.Problems.{ProblemData as SchedulingData, mii_of}
use Rattle.problems.specs.declared.draft.Draft.{Draft}
use Rattle.problems.specs.Problems.{ProblemData}
use Rattle.solution_text.specs.Names.{name_in}
use Rattle.solution_json.specs.Bounds.{circuit_value}
use Rattle.solution_json.specs.Outcomes.{head_members}
use Rattle.solution_json.specs.Parts.{array_of, count_value, unit_names}
use Rattle.solution_json.proofs.outcome.head_of.Goals as goal

-- the members, by their counts as they were found
abbrev told : List ℕ → Draft → List EdgeData → List ℕ → ℕ → ℕ → ℕ → ℕ → Members
told name draft circuit units operations resources recurrences mii =
    put (codes "full") (unit_names draft units)
    (put (codes "circuit") (circuit_value draft circuit)
    (put (codes "mii") (count_value mii)
    (put (codes "recurrences") (count_value recurrences)
    (put (codes "resources") (count_value resources)
    (put (codes "operations") (count_value operations)
    (put (codes "name") (string name) no_members))))))

same : (name : List ℕ) (p : ProblemData) (circuit : List EdgeData) (units : List ℕ) (operations resources recurrences mii : ℕ) → operations ≡ length p.scheduling.operations
    → resources ≡ p.scheduling.resources → recurrences ≡ p.scheduling.recurrences → mii ≡ mii_of p.scheduling
    → told name p.draft circuit units operations resources recurrences mii ≡ head_members name p circuit units
unfolding head_members
same name p circuit units operations resources recurrences mii a b d e = rw (a, b, d, e) refl

pub returns : goal.returns
returns c =
    let p = c.args.problem.now in
    let s = p.scheduling in
    let scheduled : c.scheduling-scheduling.result.now ≡ s = c.scheduling-scheduling.ensures.value in
    let drafted : c.draft-draft.result.now ≡ p.draft = c.draft-draft.ensures.value in
    let operations : c.operations.result ≡ length s.operations = c.operations.ensures.value ∙ ap (λ (q : SchedulingData). length q.operations) scheduled in
    let resources : c.resources.result ≡ s.resources = c.resources.ensures.value ∙ ap (λ (q : SchedulingData). q.resources) scheduled in
    let recurrences : c.recurrences.result ≡ s.recurrences = c.recurrences.ensures.value ∙ ap (λ (q : SchedulingData). q.recurrences) scheduled in
    let mii : c.mii.result ≡ mii_of s = c.mii.ensures.value ∙ ap (λ (q : SchedulingData). mii_of q) scheduled in
    let circuit : IfOk c.told_circuit-circuit.result (λ v. view v ≡ circuit_value p.draft c.args.circuit.now)
    = subst (λ (d : Draft). IfOk c.told_circuit-circuit.result (λ v. view v ≡ circuit_value d c.args.circuit.now)) drafted c.told_circuit-circuit.ensures in
    let names : c.as_slice.result.now ≡ p.draft.names.units.items = c.as_slice.ensures.value ∙ ap (λ (d : Draft). d.names.units.items) drafted in
    let full : IfOk c.told_names-full.result (λ v. view v ≡ unit_names p.draft c.args.units.now)
    = subst (λ (ns : List (List ℕ)). IfOk c.told_names-full.result (λ v. view v ≡ array_of (λ (unit : ℕ). string (name_in ns unit)) c.args.units.now)) names c.told_names-full.ensures in
    let one = put (codes "name") (string c.args.name.now) no_members in
    let two = put (codes "operations") (count_value c.operations.result) one in
    let three = put (codes "resources") (count_value c.resources.result) two in
    let four = put (codes "recurrences") (count_value c.recurrences.result) three in
    let five = put (codes "mii") (count_value c.mii.result) four in
    let six = put (codes "circuit") (circuit_value p.draft c.args.circuit.now) five in
    subst (λ (ms : Members). IfOk c.with.result (λ m. members_view m.entries ≡ ms))
    (same c.args.name.now p c.args.circuit.now c.args.units.now c.operations.result c.resources.result c.recurrences.result c.mii.result operations resources recurrences mii)
    (c.with.ensures six (unit_names p.draft c.args.units.now)
    (c.with-members-2.ensures five (circuit_value p.draft c.args.circuit.now)
    (c.with_count-members-4.ensures four
    (c.with_count-members-3.ensures three
    (c.with_count-members-2.ensures two
    (c.with_count-members.ensures one
    (c.with-members.ensures no_members (string c.args.name.now) (ap members_view c.new.ensures.empty) c.to_value.ensures)))))
    circuit) full)
