use Rattle.std.proofs.Common.{◌∙◌, ap, codes, map, string_bytes, Global, List, [], Option, unwrap_or}
use Rattle.std.proofs.lemmas.Result.{IfOk-weaker}
use Rattle.clap.specs.Words.{Text, found_of}
use Rattle.clap.proofs.WalkLemmas.{raw_values-rows}
use Rattle.command_line.proofs.line.given.names_given.Goals as goal

pub returns-in-Some : goal.returns-in-Some
returns-in-Some c =
    let names = ap (λ (o : Option (List Text)). unwrap_or o []) (c.in-Some.ensures ∙ raw_values-rows (found_of c.args.values.now) (codes "loop")) in
    IfOk-weaker c.owned.result _ _ (λ texts h. h ∙ names) c.owned.ensures

pub returns-in-None : goal.returns-in-None
returns-in-None c =
    ap (map (string_bytes {Z = Global})) c.new.ensures.items
    ∙ ap (λ (o : Option (List Text)). unwrap_or o []) (c.in-None.ensures ∙ raw_values-rows (found_of c.args.values.now) (codes "loop"))
