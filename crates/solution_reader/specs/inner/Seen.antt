-- What the rows of the reader stand for.
use Rattle.problem_lines.specs.Seen.{word_seen}
use Rattle.solution_reader.specs.Data.{HeadData, OpData, ValueData}
use Rattle.solution_reader.specs.declared.rows.Head.{Head}
use Rattle.solution_reader.specs.declared.rows.OpTime.{OpTime}
use Rattle.solution_reader.specs.declared.rows.ValueNumber.{ValueNumber}

abbrev pub head_seen : Head → HeadData
head_seen head = record { name = word_seen head.name; line = head.line; ii = head.ii }

abbrev pub op_seen : OpTime → OpData
op_seen o = record { name = word_seen o.name; line = o.line; time = o.time; alternative = o.alternative }

abbrev pub value_seen : ValueNumber → ValueData
value_seen v = record { name = word_seen v.name; line = v.line; number = v.number }
