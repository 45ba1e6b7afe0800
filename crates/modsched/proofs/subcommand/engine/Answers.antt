use Rattle.std.proofs.Common.{◌≡◌, ◌∙◌, take, refl}
use Rattle.std.specs.Prelude.{Ok, Err}
use Rattle.modsched.specs.Engine.{most_read_by}
use Rattle.modsched.specs.inner.Answers.{ending_of}
use Rattle.modsched.proofs.Ending.{brings-read, refusal_memory}
use Rattle.modsched.proofs.subcommand.engine.Goals as goal

pub returns-in-Ok-answer_of-clause-exact : goal.returns-in-Ok-answer_of-clause-exact
returns-in-Ok-answer_of-clause-exact g c answered first last f l =
    let ff : c.as_slice.result.now ≡ take (most_read_by c.args.command.now) first = c.as_slice.ensures.value ∙ (rw f at c.in-Ok.ensures.text) in
    let ll : c.as_slice-2.result.now ≡ take (most_read_by c.args.command.now) last = c.as_slice-2.ensures.value ∙ (rw l at c.in-Ok-last_text.ensures.text) in
    (ending_of (Ok c.in-Ok-answer_of.answer), brings-read c.args.command.now _ _ _ _ _ ff ll c.in-Ok-answer_of.ensures.brings, c.write.ensures.ends)

pub returns-clause-exact : goal.returns-clause-exact
returns-clause-exact g c answered first last f l =
    let ff : c.as_slice.result.now ≡ take (most_read_by c.args.command.now) first = c.as_slice.ensures.value ∙ (rw f at c.in-Ok.ensures.text) in
    let ll : c.as_slice-2.result.now ≡ take (most_read_by c.args.command.now) last = c.as_slice-2.ensures.value ∙ (rw l at c.in-Ok-last_text.ensures.text) in
    (Err c.in-Err.refusal, brings-read c.args.command.now _ _ _ _ _ ff ll c.in-Err.ensures.brings, (refl, refl))

pub returns-clause-memory : goal.returns-clause-memory
returns-clause-memory g c seven = refusal_memory c.in-Err.refusal c.in-Err.ensures.kind seven
