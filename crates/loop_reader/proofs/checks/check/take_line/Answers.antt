use Rattle.std.proofs.Common.{◌∙◌, sym, ap}
use Rattle.loop_lines.specs.Parsed.{form_seen}
use Rattle.loop_reader.specs.inner.Blocks.{forms_in}
use Rattle.loop_reader.specs.inner.Checks.{first_in, kinds_at}
use Rattle.loop_lines.specs.declared.form.Form.{Form}
use Rattle.loop_reader.proofs.checks.check.take_line.Goals as goal

pub returns-in-Array-clause-fault : goal.returns-in-Array-clause-fault
returns-in-Array-clause-fault c =
    c.nothing_unless.ensures ∙ c.array_fault.ensures c.args.given.now.inits c.args.given.now.outs.items
    ∙ ap (λ (f : Form). first_in (kinds_at (forms_in c.args.index.now) c.args.counts c.args.given.now.inits c.args.given.now.outs.items (form_seen f))) (sym c.in-Array.is)

pub returns-in-Param-clause-fault : goal.returns-in-Param-clause-fault
returns-in-Param-clause-fault c =
    c.nothing_unless-in-Param.ensures ∙ c.param_fault.ensures c.args.given.now.inits c.args.given.now.outs.items
    ∙ ap (λ (f : Form). first_in (kinds_at (forms_in c.args.index.now) c.args.counts c.args.given.now.inits c.args.given.now.outs.items (form_seen f))) (sym c.in-Param.is)

pub returns-in-Init-clause-fault : goal.returns-in-Init-clause-fault
returns-in-Init-clause-fault c =
    c.take_init.ensures.fault c.args.counts c.args.given.now.outs.items
    ∙ ap (λ (f : Form). first_in (kinds_at (forms_in c.args.index.now) c.args.counts c.args.given.now.inits c.args.given.now.outs.items (form_seen f))) (sym c.in-Init.is)

pub returns-in-Statement-clause-fault : goal.returns-in-Statement-clause-fault
returns-in-Statement-clause-fault c =
    c.check_statement.ensures.fault c.args.given.now.outs.items
    ∙ ap (λ (f : Form). first_in (kinds_at (forms_in c.args.index.now) c.args.counts c.args.given.now.inits c.args.given.now.outs.items (form_seen f))) (sym c.in-Statement.is)

pub returns-in-Out-clause-fault : goal.returns-in-Out-clause-fault
returns-in-Out-clause-fault c =
    c.take_out.ensures.fault c.args.counts
    ∙ ap (λ (f : Form). first_in (kinds_at (forms_in c.args.index.now) c.args.counts c.args.given.now.inits c.args.given.now.outs.items (form_seen f))) (sym c.in-Out.is)
