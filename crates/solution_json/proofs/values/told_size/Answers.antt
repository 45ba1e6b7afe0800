use Rattle.std.proofs.Common.{◌≡◌, ◌∙◌, Some, ap, sym}
use Rattle.std.specs.Prelude.{slice_get}
use Rattle.std.proofs.lemmas.Option.{slice_get-get_or}
use Rattle.problems.specs.declared.draft.File.{File}
use Rattle.solution_json.specs.Values.{size_value}
use Rattle.solution_json.proofs.values.told_size.Goals as goal

pub returns : goal.returns
returns c =
    let files = c.args.draft.now.files.items in
    let kind : slice_get files c.args.file ≡ Some c.index.result.now
    = slice_get-get_or files c.args.file c.index.result.now c.requires ∙ ap (λ (k : File). Some k) (sym c.index.ensures) in
    c.told_registers.ensures ∙ ap size_value (sym kind)
