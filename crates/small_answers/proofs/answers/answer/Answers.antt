use Rattle.std.proofs.Common.{◌≡◌, ◌∙◌, take, refl}
use Rattle.std.specs.Prelude.{Ok, Err}
use Rattle.devices.specs.Devices.{most_read}
use Rattle.small_answers.proofs.Reading.{tells-read}
use Rattle.small_answers.proofs.answers.answer.Goals as goal

pub returns-in-Ok-printout-clause-exact : goal.returns-in-Ok-printout-clause-exact
returns-in-Ok-printout-clause-exact g c answered machine loops on of =
    let m : c.as_slice.result.now ≡ take most_read machine = c.as_slice.ensures.value ∙ (rw on at c.in-Ok.ensures.text) in
    let l : c.as_slice-2.result.now ≡ take most_read loops = c.as_slice-2.ensures.value ∙ (rw of at c.in-Ok-read_text.ensures.text) in (
      Ok c.in-Ok-printout.printout,
      tells-read (g.W.Makes.tells c.args.wanted.now) machine loops _ _ _ m l c.in-Ok-printout.ensures,
      rw (c.text.ensures, c.of_met.ensures, c.all_met.ensures) at c.finish.ensures.ends,
    )

pub returns-clause-exact : goal.returns-clause-exact
returns-clause-exact g c answered machine loops on of =
    let m : c.as_slice.result.now ≡ take most_read machine = c.as_slice.ensures.value ∙ (rw on at c.in-Ok.ensures.text) in
    let l : c.as_slice-2.result.now ≡ take most_read loops = c.as_slice-2.ensures.value ∙ (rw of at c.in-Ok-read_text.ensures.text) in
    (Err c.in-Err.fault, tells-read (g.W.Makes.tells c.args.wanted.now) machine loops _ _ _ m l c.in-Err.ensures, (c.from.ensures, refl))
