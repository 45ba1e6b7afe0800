use Rattle.std.proofs.Common.{◌≡◌, length, ◌∙◌}
use Rattle.solutions.proofs.Filing.{none_other}
use Rattle.solutions.proofs.Filling.{filled-all}
use Rattle.solutions.proofs.values.numbers.fill_all.Goals as goal

pub returns-clause-filled : goal.returns-clause-filled
returns-clause-filled c =
    let each : length c.fill_least.new.numbers ≡ length c.args.files.now = c.fill_least.ensures.each ∙ c.requires.each_life in
    filled-all c.args.ii c.args.registers c.args.files.now c.args.lives.now c.fill_least.new.numbers c.args.file c.fill_least.result c.requires.each_life each c.requires.all
    c.fill_least.ensures.first

pub returns-clause-others : goal.returns-clause-others
returns-clause-others c =
    let each : length c.fill_least.new.numbers ≡ length c.args.files.now = c.fill_least.ensures.each ∙ c.requires.each_life in
    none_other c.args.files.now c.fill_least.new.numbers c.args.numbers.now c.args.file each c.requires.each c.requires.all
