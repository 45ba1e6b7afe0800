use Rattle.std.proofs.Common.{ap, length, arith}
use Rattle.std.proofs.lemmas.List.{length-map}
use Rattle.problem_tables.specs.Data.{FileData}
use Rattle.problem_tables.specs.Seen.{machine_seen, problem_seen}
use Rattle.problem_reader.proofs.Drafts.{draft-at, problem-at}
use Rattle.problem_reader.proofs.file.ProblemFile.draft.Goals as goal

pub index-requires : goal.index-requires
index-requires c =
    let ended = c.self.inside.ended in
    let x = c.index-problem.result.now in
    let count = ap (λ (f : FileData). length f.problems) c.self.view_is in
    let asked = c.requires in
    let many = length-map ended.problems.items problem_seen in
    let placed = (problem-at ended c.args.number x c.self.invariant (omega (arith, count, asked, many)) c.index-problem.ensures).placed in
    let size = length-map ended.machines.items machine_seen in
    let whole = ended.machines.ok.0 in
    omega (arith, placed, size, whole)

pub returns-clause-faultless : goal.returns-clause-faultless
returns-clause-faultless c =
    let ended = c.self.inside.ended in
    let x = c.index-problem.result.now in
    let count = ap (λ (f : FileData). length f.problems) c.self.view_is in
    let asked = c.requires in
    let many = length-map ended.problems.items problem_seen in
    let sound = problem-at ended c.args.number x c.self.invariant (omega (arith, count, asked, many)) c.index-problem.ensures in
    draft-at ended x c.index.result.now c.draft_of.result sound c.index.ensures c.draft_of.ensures
