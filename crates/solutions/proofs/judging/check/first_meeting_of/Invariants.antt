use Rattle.std.proofs.Common.{◌≡◌, ℕ, ◌<◌, Some}
use Rattle.std.specs.Prelude.{slice_get}
use Rattle.problems.specs.declared.draft.File.{File}
use Rattle.solutions.specs.inner.Judging.{IsApart}
use Rattle.solutions.proofs.judging.check.first_meeting_of.Given as goal

abbrev pub invariant-loop-file : goal.invariant-loop-file
invariant-loop-file l = (file : ℕ) (kind : File) → file < l.file → slice_get l.kinds file ≡ Some kind → IsApart l.ii l.files l.lives l.numbers file kind
