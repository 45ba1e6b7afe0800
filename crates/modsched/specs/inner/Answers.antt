-- What answers are, as contracts see them.
use Rattle.std.specs.Prelude.{ℕ, List, Result, Ok, Err}
use Rattle.exit_status.specs.Writing.{verdict_of_met}
use Rattle.exit_status.specs.declared.status.Status.{Status}
use Rattle.exit_status.specs.declared.verdict.Verdict.{Verdict}
use Rattle.modsched.specs.Engine.{Ending, lint_verdict}
use Rattle.modsched.specs.declared.commands.answer.Answer.{Answer}
use Rattle.modsched.specs.declared.commands.answer.Answer.TheVariants.{Parted, Printout, Lint}

abbrev pub text_of : Answer → List ℕ
text_of (Parted written) = written.text
text_of (Printout written) = written.text
text_of (Lint printed) = printed.text.items

abbrev pub verdict_of : Answer → Verdict
verdict_of (Parted written) = verdict_of_met written.all_met
verdict_of (Printout written) = verdict_of_met written.all_met
verdict_of (Lint printed) = lint_verdict printed

abbrev pub ending_of : Result Answer Status → Ending
ending_of (Ok answer) = Ok (record { text = text_of answer; verdict = verdict_of answer })
ending_of (Err status) = Err status
