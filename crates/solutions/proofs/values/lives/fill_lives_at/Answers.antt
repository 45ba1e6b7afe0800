use Rattle.std.proofs.Common.{sym, ◌∙◌, arith}
use Rattle.std.proofs.lemmas.List.{take_all}
use Rattle.solutions.proofs.Lives.{IsOf, lists-fit, lives-of_parts, values-fit}
use Rattle.solutions.proofs.values.lives.fill_lives_at.Goals as goal

pub end_at-end-requires-clause-values : goal.end_at-end-requires-clause-values
end_at-end-requires-clause-values c =
    let of : IsOf c.args.problem.now c.args.schedule.now
    = record { is_problem = c.draft-draft.ensures.well_formed; is_schedule = c.ii-ii.ensures.well_formed; same = c.requires.scheduled } in
    values-fit c.args.problem.now c.args.schedule.now c.args.times.now c.args.values.now of c.requires.times c.requires.values

pub fill_lives-requires-clause-values : goal.fill_lives-requires-clause-values
fill_lives-requires-clause-values c =
    let of : IsOf c.args.problem.now c.args.schedule.now
    = record { is_problem = c.draft-draft.ensures.well_formed; is_schedule = c.ii-ii.ensures.well_formed; same = c.requires.scheduled } in
    lists-fit c.args.problem.now c.args.schedule.now c.ii-ii.result c.args.times.now c.args.values.now c.as_slice-reads.result.now of
    c.ii-ii.ensures.value c.requires.times c.requires.values (let e = c.draft-draft.ensures.value in let r = c.as_slice-reads.ensures.value in cc)

pub returns : goal.returns
returns c =
    let same = lives-of_parts c.args.problem.now.draft c.args.schedule.now c.ii-ii.result c.end_at-end.result c.args.times.now c.args.values.now c.as_slice-reads.result.now
    c.ii-ii.ensures.value c.requires.times c.requires.values (let e = c.draft-draft.ensures.value in let r = c.as_slice-reads.ensures.value in cc) c.end_at-end.ensures in
    let room = c.requires.room in
    let auto = c.fill_lives.auto.lives in
    sym (take_all _ c.fill_lives.new.lives (omega arith)) ∙ c.fill_lives.ensures.exact ∙ same
