use Rattle.std.proofs.Common.{◌≡◌, sym, subst, length, rules}
use Rattle.loop_reader.specs.Meaning.{forms_of}
use Rattle.loop_reader.specs.inner.Blocks.{StopsAt, StopsBlock}
use Rattle.loop_reader.proofs.blocks.Blocking.{unfit-block}
use Rattle.loop_reader.proofs.lines.collect.collect_block.Goals as goal

pub returns-in_ok-collect_rest-in-Unfit-clause-stops : goal.returns-in_ok-collect_rest-in-Unfit-clause-stops
returns-in_ok-collect_rest-in-Unfit-clause-stops c =
    let old = c.collect.new.lines.items in
    let new = c.collect_rest.new.lines.items in
    let l : c.len-sound.result ≡ length old = search rules in
    let more = c.in_ok-collect_rest-in-Unfit.ensures.more in
    subst (StopsBlock c.args.number (forms_of c.args.text.now) new c.len-sound.result) (sym c.in-Unfit.is)
    (unfit-block c.args.number (forms_of c.args.text.now) old new more.0 c.len-sound.result c.in-Unfit.field-0 c.in-Unfit.rest
    (subst (StopsAt c.args.number (forms_of c.args.text.now) old) c.in-Unfit.is c.in_ok-seen.ensures.stops)
    more.1 c.in_ok-collect_rest-in-Unfit.ensures.whole l)
