use Rattle.std.proofs.Common.{pos, List, [], ◌∷◌, ◌++◌, get_or, map, take, sym, ap, ◌∙◌}
use Rattle.std.proofs.lemmas.List.{map-append, take_all, take_more}
use Rattle.serde_json.specs.Data.{Data, array}
use Rattle.serde_json.specs.View.{items_of}
use Rattle.serde_json.proofs.Views.{view-Array}
use Rattle.edges.specs.Edges.{EdgeData}
use Rattle.explain_json.specs.Edges.{place_of}
use Rattle.explain_json.specs.Parts.{count_value}
use Rattle.explain_json.proofs.Lists.{pushed}
use Rattle.explain_json.proofs.circuit.told_places.Goals as goal

pub loop-edge-preserved : goal.loop-edge-preserved
loop-edge-preserved c =
    let es = c.args.edges.now in
    let xs = c.args.circuit.now in
    let i = c.loop-edge.edge-index in
    let d : EdgeData = record { from = 0; to = 0; distance = 0; delay = pos 0 } in
    let f : EdgeData → Data = λ edge. count_value (place_of es edge) in
    pushed c.loop-edge.values.items c.push.new.self.items c.from.result (f (get_or xs i d)) c.in_ok-push.ensures.items (c.from.ensures ∙ ap count_value c.place_of.ensures)
    ∙ ap (λ (ds : List Data). ds ++ f (get_or xs i d) ∷ []) c.loop-edge.invariant
    ∙ sym (ap (map f) (take_more xs i d c.loop-edge-test.true) ∙ map-append f (take i xs) (get_or xs i d ∷ []))

pub returns : goal.returns
returns c =
    let xs = c.args.circuit.now in
    let f : EdgeData → Data = λ edge. count_value (place_of c.args.edges.now edge) in
    view-Array c.loop-edge.values
    ∙ ap (λ (ds : List Data). array (items_of ds)) (c.loop-edge.invariant ∙ ap (map f) (take_all c.loop-edge.edge-index xs c.loop-edge-test.false))
