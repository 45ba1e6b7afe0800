use Rattle.std.proofs.Common.{◌≡◌, ◌<◌, ◌∙◌, ap, sym, arith, get_or, length, map, List, Some}
use Rattle.std.proofs.Math.ListN.{get_or-map}
use Rattle.std.proofs.lemmas.List.{length-map}
use Rattle.solution_reader.specs.Data.{ValueData}
use Rattle.solution_reader.specs.Resolved.{value_named}
use Rattle.solution_reader.specs.inner.Seen.{value_seen}
use Rattle.solution_reader.proofs.Lists.{any_value}
use Rattle.solution_reader.proofs.Names.{found_known, known_below, lost_known}
use Rattle.solution_reader.proofs.values.Values.find.Goals as goal

pub index-requires : goal.index-requires
index-requires c =
    let rows = c.self.inside.rows.items in
    let below : c.in-Some.number.now < length (map value_seen rows)
    = known_below (λ (r : ValueData). r.name.bytes) c.args.name.now any_value c.self.inside.numbers c.in-Some.number.now (map value_seen rows) c.self.invariant (sym c.in-Some.ensures.value) in
    omega (arith, length-map rows value_seen, c.self.inside.rows.ok.0)

pub returns-in-None : goal.returns-in-None
returns-in-None c =
    sym (lost_known (λ (r : ValueData). r.name.bytes) c.args.name.now c.self.inside.numbers (map value_seen c.self.inside.rows.items) c.self.invariant (sym c.in-None.ensures.value))
    ∙ ap (λ (rows : List ValueData). value_named rows c.args.name.now) c.self.view_is

pub returns-in-Some : goal.returns-in-Some
returns-in-Some c =
    let rows = c.self.inside.rows.items in
    let row = c.index.result.now in
    let here : value_seen row ≡ get_or (map value_seen rows) c.in-Some.number.now (value_seen row) = ap value_seen c.index.ensures ∙ sym (get_or-map value_seen rows c.in-Some.number.now row) in
    ap Some here
    ∙ sym (found_known (λ (r : ValueData). r.name.bytes) c.args.name.now (value_seen row) c.self.inside.numbers c.in-Some.number.now (map value_seen rows) c.self.invariant (sym c.in-Some.ensures.value)).1
    ∙ ap (λ (rows : List ValueData). value_named rows c.args.name.now) c.self.view_is
