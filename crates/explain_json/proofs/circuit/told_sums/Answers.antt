use Rattle.std.proofs.Common.{rules, ◌≡◌, ◌∙◌, List, ap, subst, IfOk}
use Rattle.serde_json.specs.View.{members_view, view}
use Rattle.edges.specs.Edges.{EdgeData}
use Rattle.walks.specs.Walks.{delay_of}
use Rattle.explain_json.specs.Edges.{place_of}
use Rattle.explain_json.specs.Parts.{array_of, count_value, integer_value}
use Rattle.explain_json.proofs.circuit.told_sums.Goals as goal

pub returns : goal.returns
returns c =
    let places = subst (λ (es : List EdgeData). IfOk c.told_places-places.result (λ v. view v ≡ array_of (λ edge. count_value (place_of es edge)) c.args.circuit.now)) c.all.ensures.value c.told_places-places.ensures in
    let delay-is : view c.from.result ≡ integer_value (delay_of c.args.circuit.now) = search rules in
    let delay = c.with_value-members.ensures _ _ (ap members_view c.new.ensures.empty) delay-is in
    let distance = c.with_value-members-2.ensures _ _ delay (c.from-2.ensures ∙ ap count_value c.sums_of-sums.ensures.distance) in
    let edges = c.with-members.ensures _ _ distance places in
    c.object_of.ensures _ (c.with_value.ensures _ _ edges c.from-3.ensures)
