-- What is read of words, beside what it stands for.
use Rattle.problem_lines.specs.Forms.{HoldForm}
use Rattle.loop_lines.specs.Columns.{Placed}
use Rattle.problem_lines.specs.declared.kinds.HoldWord.{HoldWord}
use Rattle.problem_lines.specs.declared.word.Word.{Word}

abbrev pub word_seen : Word → Placed
word_seen w = record { bytes = w.bytes.now; column = w.column }

abbrev pub hold_seen : HoldWord → HoldForm
hold_seen h = record { unit = word_seen h.unit; offset = h.offset }
