use Rattle.registers.proofs.allotted.First.{none-where_lawful}
use Rattle.registers.proofs.numbers.lawful.are_lawful.Goals as goal

pub returns-then-are_registers : goal.returns-then-are_registers
returns-then-are_registers c =
    none-where_lawful c.first_meeting.result c.is_none.result c.args.ii c.args.registers c.args.lives.now c.args.numbers.now c.first_meeting.ensures.exact c.is_none.ensures
