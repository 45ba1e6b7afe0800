use Rattle.std.proofs.Common.{rules, ◌≡◌, ◌∙◌, List, ℕ, ap, subst, IfOk}
use Rattle.serde_json.specs.Data.{string}
use Rattle.serde_json.specs.View.{members_view, view}
use Rattle.loop_data.specs.Loops.{LoopData}
use Rattle.explain_json.specs.Edges.{circuit_value}
use Rattle.explain_json.specs.Parts.{count_value}
use Rattle.explain_json.specs.inner.Seen.{loop_members}
use Rattle.explain_json.proofs.loops.members_of.Goals as goal

pub returns : goal.returns
unfolding loop_members
returns c objects are =
    let p = c.args.prepared.now in
    let critical : IfOk c.told_circuit-circuit.result (λ v. view v ≡ circuit_value p.graph.edges p.recurrences c.args.circuit.now) = search rules in
    let word : c.as_str.result.now ≡ p.loop.name =
    c.as_str.ensures.value ∙ c.name.ensures.value ∙ ap (λ (l : LoopData). l.name) c.innermost.ensures.value in
    let named = subst (λ (t : List ℕ). IfOk c.to_value-name.result (λ v. view v ≡ string t)) word c.to_value-name.ensures in
    let circuit = c.with-members.ensures _ _ (ap members_view c.new.ensures.empty) critical in
    let edges = c.with_value-members.ensures _ _ circuit are in
    let mii = c.with_value-members-2.ensures _ _ edges (c.from.ensures ∙ ap count_value c.mii.ensures.value) in
    let name = c.with-members-2.ensures _ _ mii named in
    let operations = c.with-members-3.ensures _ _ name c.told_operations-operations.ensures in
    let recurrences = c.with_value-members-3.ensures _ _ operations (c.from-2.ensures ∙ ap count_value c.recurrences-bound.ensures.value) in
    let resources = c.with_value-members-4.ensures _ _ recurrences (c.from-resources.ensures ∙ ap count_value c.resources.ensures.value) in
    let set = c.with-members-4.ensures _ _ resources c.told_set.ensures in
    let tried = c.with-members-5.ensures _ _ set c.told_tried.ensures in
    c.with.ensures _ _ tried c.told_units-units.ensures
