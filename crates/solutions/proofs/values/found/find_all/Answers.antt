use Rattle.std.proofs.Common.{◌≡◌, length, ◌∙◌}
use Rattle.solutions.proofs.Filing.{none_other}
use Rattle.solutions.proofs.Filling.{found-all}
use Rattle.solutions.proofs.values.found.find_all.Goals as goal

pub returns-clause-found : goal.returns-clause-found
returns-clause-found c =
    let each : length c.find_least.new.numbers ≡ length c.args.files.now = c.find_least.ensures.each ∙ c.requires.each_life in
    found-all c.args.ii c.args.registers c.args.files.now c.args.lives.now c.find_least.new.numbers c.args.file c.find_least.result c.requires.each_life each c.requires.all
    c.find_least.ensures.least c.find_least.ensures.none

pub returns-clause-others : goal.returns-clause-others
returns-clause-others c =
    let each : length c.find_least.new.numbers ≡ length c.args.files.now = c.find_least.ensures.each ∙ c.requires.each_life in
    none_other c.args.files.now c.find_least.new.numbers c.args.numbers.now c.args.file each c.requires.each c.requires.all
