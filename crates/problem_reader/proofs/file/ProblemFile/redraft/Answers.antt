use Rattle.std.proofs.Common.{ap, length, subst, arith, ◌<◌}
use Rattle.std.proofs.lemmas.List.{length-map}
use Rattle.problem_tables.specs.Data.{FileData}
use Rattle.problem_tables.specs.Seen.{problem_seen}
use Rattle.problem_reader.specs.Files.{IsFile, problem_at}
use Rattle.problem_reader.proofs.Drafts.{faultless-at, redraft-at, redraft-faultless}
use Rattle.problem_reader.proofs.file.ProblemFile.redraft.Goals as goal

pub returns-clause-exact : goal.returns-clause-exact
returns-clause-exact c =
    let ended = c.self.inside.ended in
    let count = ap (λ (f : FileData). length f.problems) c.self.view_is in
    let asked = c.requires.there in
    let many = length-map ended.problems.items problem_seen in
    let low : c.args.number < length ended.problems.items = omega (arith, count, asked, many) in
    redraft-at c.redraft_of.result ended c.args.self.now c.args.number c.index.result.now c.args.draft c.self.view_is low c.index.ensures c.requires.machine c.redraft_of.ensures

pub returns-clause-faultless : goal.returns-clause-faultless
returns-clause-faultless c =
    let ended = c.self.inside.ended in
    let count = ap (λ (f : FileData). length f.problems) c.self.view_is in
    let asked = c.requires.there in
    let many = length-map ended.problems.items problem_seen in
    let low : c.args.number < length ended.problems.items = omega (arith, count, asked, many) in
    redraft-faultless c.redraft_of.result c.args.self.now (problem_at c.args.self.now c.args.number)
    (faultless-at c.args.self.now c.args.number (subst IsFile c.self.view_is c.self.invariant) asked)
    (redraft-at c.redraft_of.result ended c.args.self.now c.args.number c.index.result.now c.args.draft c.self.view_is low c.index.ensures c.requires.machine c.redraft_of.ensures)
