use Rattle.std.proofs.Common.{◌≤◌, ◌<◌, ◌+◌, ◌%◌, Some, ◌∙◌, ap, arith}
use Rattle.std.specs.Prelude.{slice_index}
use Rattle.problems.specs.Problems.{ProblemData}
use Rattle.solution_text.proofs.Places.{kind-at, number-below, registers-few, rotating-is, unallotted-is}
use Rattle.solution_text.proofs.named.register_after.Goals as goal

pub overflow_add-result : goal.overflow_add-result
overflow_add-result c =
    let s = c.args.solution.now in
    let draft = c.draft-draft.ensures.value ∙ ap (λ (p : ProblemData). p.draft) c.problem.ensures.value in
    let at = kind-at s c.draft-draft.result.now c.args.value c.index.result.now c.index-2.result.now c.number.ensures.well_formed draft c.requires.there c.index.ensures c.index-2.ensures in
    let rotating = at.is_kind ∙ ap (λ k. Some k) c.in-Rotating.is in
    let below : slice_index s.numbers c.args.value < c.in-Rotating.registers = number-below s c.args.value c.index.result.now.file c.in-Rotating.registers c.number.ensures.well_formed c.requires.there at.is_file rotating in
    let few : c.in-Rotating.registers ≤ 256 = registers-few s c.index.result.now.file c.in-Rotating.registers c.number.ensures.well_formed rotating in
    let value = c.number.ensures.value in
    omega arith

pub returns-in-Rotating : goal.returns-in-Rotating
returns-in-Rotating c =
    let s = c.args.solution.now in
    let draft = c.draft-draft.ensures.value ∙ ap (λ (p : ProblemData). p.draft) c.problem.ensures.value in
    let at = kind-at s c.draft-draft.result.now c.args.value c.index.result.now c.index-2.result.now c.number.ensures.well_formed draft c.requires.there c.index.ensures c.index-2.ensures in
    let rotating = at.is_kind ∙ ap (λ k. Some k) c.in-Rotating.is in
    ap (λ n. Some (record { file = c.index.result.now.file; number = (n + c.args.above) % c.in-Rotating.registers })) c.number.ensures.value
    ∙ rotating-is s c.args.value c.index.result.now.file c.in-Rotating.registers c.args.above c.number.ensures.well_formed c.requires.there at.is_file rotating

pub returns-in-Unallotted : goal.returns-in-Unallotted
returns-in-Unallotted c =
    let s = c.args.solution.now in
    let is = c.problem.ensures.well_formed in
    let draft = c.draft-draft.ensures.value ∙ ap (λ (p : ProblemData). p.draft) c.problem.ensures.value in
    let at = kind-at s c.draft-draft.result.now c.args.value c.index.result.now c.index-2.result.now is draft c.requires.there c.index.ensures c.index-2.ensures in
    unallotted-is s c.args.value c.index.result.now.file c.args.above is c.requires.there at.is_file (at.is_kind ∙ ap (λ k. Some k) c.in-Unallotted.is)
