use Rattle.std.proofs.Common.{sym, ◌∙◌, arith}
use Rattle.machine_lint.proofs.Stepping.{begins-inside, key-here, step-key, step-none, step-word, word-here, word-longer}
use Rattle.machine_lint.proofs.sought.next.noted.Goals as goal

pub returns-then-bare_at : goal.returns-then-bare_at
returns-then-bare_at c =
    step-none c.args.here.text.now c.args.word.now c.args.here.at c.args.next (word-longer c.args.here.text.now c.args.word.now c.args.here.at (sym c.bare_at.ensures ∙ c.if-bare_at.true))

pub leads_here-requires-clause-inside : goal.leads_here-requires-clause-inside
leads_here-requires-clause-inside c = begins-inside c.args.here.text.now c.args.word.now c.args.here.at (omega (arith, c.requires.inside)) c.requires.first

pub returns-then-leads_here : goal.returns-then-leads_here
returns-then-leads_here c =
    let there = word-here c.args.here.text.now c.args.word.now c.args.here.at c.requires.first (sym c.bare_at.ensures ∙ c.if-bare_at.false) c.requires.clear in
    step-key c.args.here.text.now c.args.word.now c.args.here.at c.args.next there
    (key-here c.args.here.text.now c.args.word.now c.args.here.at c.args.here.begun c.leads_here.result there c.requires.begun c.leads_here.ensures ∙ c.if-leads_here.true)

pub returns-else-leads_here : goal.returns-else-leads_here
returns-else-leads_here c =
    let there = word-here c.args.here.text.now c.args.word.now c.args.here.at c.requires.first (sym c.bare_at.ensures ∙ c.if-bare_at.false) c.requires.clear in
    step-word c.args.here.text.now c.args.word.now c.args.here.at c.args.next there
    (key-here c.args.here.text.now c.args.word.now c.args.here.at c.args.here.begun c.leads_here.result there c.requires.begun c.leads_here.ensures ∙ c.if-leads_here.false)
