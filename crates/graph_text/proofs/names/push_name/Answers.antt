use Rattle.std.proofs.Common.{rules, ◌≡◌, None, ap, ◌∙◌}
use Rattle.graph_text.specs.Names.{name_or_place, op_name}
use Rattle.loop_data.specs.NamedParts.{place_word}
use Rattle.graph_text.proofs.Parts.{op-named, place-there}
use Rattle.graph_text.proofs.names.push_name.Goals as goal

pub push_place-requires : goal.push_place-requires
push_place-requires g c =
    place-there c.args.innermost.now c.statements.result.now c.from.result c.args.number c.index-statements-from.result _ c.statements.ensures.well_formed
    c.statements.ensures.value c.from.ensures c.requires c.index-statements-from.is c.in-None-Some.is-1

pub returns-in-Some-default : goal.returns-in-Some-default
returns-in-Some-default g c =
    let s = c.index-statements-from.result in
    let e : op_name c.args.innermost.now c.args.number ≡ c.in-Some-default.name
    = op-named c.args.innermost.now c.statements.result.now c.from.result c.args.number s c.statements.ensures.value c.from.ensures c.requires c.index-statements-from.is
    ∙ ap (λ name. name_or_place c.args.innermost.now name s.place) c.in-Some-default.is-0 in
    rw e (search rules)

pub returns-in-None-Some : goal.returns-in-None-Some
returns-in-None-Some g c =
    let s = c.index-statements-from.result in
    let e : op_name c.args.innermost.now c.args.number ≡ place_word c.args.innermost.now c.in-None-Some.place
    = op-named c.args.innermost.now c.statements.result.now c.from.result c.args.number s c.statements.ensures.value c.from.ensures c.requires c.index-statements-from.is
    ∙ ap (λ name. name_or_place c.args.innermost.now name s.place) c.in-None-Some.is-0
    ∙ ap (name_or_place c.args.innermost.now None) c.in-None-Some.is-1 in
    rw e (search rules)

pub returns-in-None-None : goal.returns-in-None-None
returns-in-None-None g c =
    let s = c.index-statements-from.result in
    let e = op-named c.args.innermost.now c.statements.result.now c.from.result c.args.number s c.statements.ensures.value c.from.ensures c.requires c.index-statements-from.is
    ∙ ap (λ name. name_or_place c.args.innermost.now name s.place) c.in-None-None.is-0
    ∙ ap (name_or_place c.args.innermost.now None) c.in-None-None.is-1 in
    rw e (search rules)
