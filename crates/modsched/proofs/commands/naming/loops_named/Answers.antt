use Rattle.std.proofs.Common.{◌≡◌, ◌∙◌, ap, Some}
use Rattle.loop_reader.specs.Meaning.{loops_in}
use Rattle.modsched.specs.Naming.{first_unknown}
use Rattle.modsched.proofs.Refused.{unnamed-by}
use Rattle.modsched.proofs.commands.naming.loops_named.Goals as goal

pub returns-in-Some-clause-status : goal.returns-in-Some-clause-status
returns-in-Some-clause-status g c =
    let first : Some c.in-Some.name.now ≡ first_unknown c.args.names.now c.in-Ok.loops.items = c.in-Some.ensures ∙ ap (first_unknown c.args.names.now) c.as_slice.ensures.value in
    unnamed-by c.args.names.now c.in-Ok.loops.items (loops_in c.args.text.now) c.in-Some.name.now _ c.no_loop.result c.in-Ok.ensures.exact first c.as_str.ensures.value c.no_loop.ensures.is
