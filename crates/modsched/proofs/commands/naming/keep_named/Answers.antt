use Rattle.std.proofs.Common.{◌∙◌, rules}
use Rattle.std.proofs.lemmas.Fn.{filter_same}
use Rattle.modsched.specs.Naming.{has_one_of}
use Rattle.modsched.proofs.Chosen.{chosen-some}
use Rattle.modsched.proofs.commands.naming.keep_named.Goals as goal

pub returns-then-not-is_empty-clause-kept : goal.returns-then-not-is_empty-clause-kept
returns-then-not-is_empty-clause-kept c =
    let kept = filter_same _ (has_one_of c.args.names.now) _ (λ x b f' k. search rules) _ _ c.retain.ensures.filtered in
    kept ∙ chosen-some c.args.names.now c.args.loops.now.items c.if-not-is_empty.ensures
