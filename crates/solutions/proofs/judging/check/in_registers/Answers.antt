use Rattle.std.proofs.Common.{◌≡◌, List, length, map, sym, ap, ◌∙◌, subst, arith}
use Rattle.std.specs.Prelude.{slice_get, slice_index}
use Rattle.std.specs.List.{All}
use Rattle.problems.specs.declared.draft.Draft.{Draft}
use Rattle.problems.specs.declared.draft.File.{File}
use Rattle.problems.specs.declared.draft.Value.{Value}
use Rattle.registers.specs.Residues.{IsLifeSpan}
use Rattle.solutions.specs.inner.Judging.{AreApart, MeetsFirst}
use Rattle.solutions.specs.Solutions.{IsLawfulSolution, IsNumberIn, files_of, lives_at}
use Rattle.solutions.proofs.Lives.{IsOf, are-spans, length-files, length-lives}
use Rattle.solutions.proofs.Numbered.{lawful-from, moved, solution_of}
use Rattle.solutions.proofs.judging.check.in_registers.Goals as goal

pub first_meeting_of-found-requires-clause-lives : goal.first_meeting_of-found-requires-clause-lives
first_meeting_of-found-requires-clause-lives c =
    let of : IsOf c.args.problem.now c.args.schedule
    = record { is_problem = c.draft-draft.ensures.well_formed; is_schedule = c.ii-ii.ensures.well_formed; same = c.requires.scheduled } in
    subst (All IsLifeSpan) (sym (c.as_slice-5.ensures.value ∙ c.in_ok-lives.ensures)) (are-spans c.args.problem.now c.args.schedule of)

pub first_meeting_of-found-requires-clause-each_life : goal.first_meeting_of-found-requires-clause-each_life
first_meeting_of-found-requires-clause-each_life c =
    let draft = c.args.problem.now.draft in
    let homes : c.as_slice-4.result.now ≡ files_of draft
    = c.as_slice-4.ensures.value ∙ c.in_ok-homes.ensures ∙ ap (map (λ (v : Value). v.file)) (c.as_slice-2.ensures.value ∙ ap (λ (d : Draft). d.values.items) c.draft-draft.ensures.value) in
    ap length (c.as_slice-5.ensures.value ∙ c.in_ok-lives.ensures) ∙ length-lives draft c.args.schedule ∙ sym (length-files draft) ∙ ap length (sym homes)

pub first_meeting_of-found-requires-clause-right : goal.first_meeting_of-found-requires-clause-right
first_meeting_of-found-requires-clause-right c = λ value lt.
    let draft = c.args.problem.now.draft in
    let homes : c.as_slice-4.result.now ≡ files_of draft
    = c.as_slice-4.ensures.value ∙ c.in_ok-homes.ensures ∙ ap (map (λ (v : Value). v.file)) (c.as_slice-2.ensures.value ∙ ap (λ (d : Draft). d.values.items) c.draft-draft.ensures.value) in
    let kinds : c.as_slice-kinds.result.now ≡ draft.files.items = c.as_slice-kinds.ensures.value ∙ ap (λ (d : Draft). d.files.items) c.draft-draft.ensures.value in
    let long = ap length homes in
    let l = length-files draft in
    subst (λ (ks : List File). IsNumberIn (slice_get ks (slice_index c.as_slice-4.result.now value)) (slice_index c.args.numbers.now value)) (sym kinds)
    (subst (λ fs. IsNumberIn (slice_get draft.files.items (slice_index fs value)) (slice_index c.args.numbers.now value)) (sym homes) (c.requires.right.right value (omega arith)))

pub returns-in-Some : goal.returns-in-Some
returns-in-Some c =
    let draft = c.args.problem.now.draft in
    let homes : c.as_slice-4.result.now ≡ files_of draft
    = c.as_slice-4.ensures.value ∙ c.in_ok-homes.ensures ∙ ap (map (λ (v : Value). v.file)) (c.as_slice-2.ensures.value ∙ ap (λ (d : Draft). d.values.items) c.draft-draft.ensures.value) in
    let kinds : c.as_slice-kinds.result.now ≡ draft.files.items = c.as_slice-kinds.ensures.value ∙ ap (λ (d : Draft). d.files.items) c.draft-draft.ensures.value in
    moved (λ n ks fs ls. MeetsFirst n ks fs ls c.args.numbers.now c.in-Some.broken) c.ii-ii.result c.args.schedule.ii c.as_slice-kinds.result.now draft.files.items c.as_slice-4.result.now (files_of draft)
    c.as_slice-5.result.now (lives_at draft c.args.schedule) c.ii-ii.ensures.value kinds homes (c.as_slice-5.ensures.value ∙ c.in_ok-lives.ensures) c.in-Some.ensures

pub new-solution-requires-clause-lawful : goal.new-solution-requires-clause-lawful
new-solution-requires-clause-lawful c =
    let p = c.args.problem.now in
    let draft = p.draft in
    let homes : c.as_slice-4.result.now ≡ files_of draft
    = c.as_slice-4.ensures.value ∙ c.in_ok-homes.ensures ∙ ap (map (λ (v : Value). v.file)) (c.as_slice-2.ensures.value ∙ ap (λ (d : Draft). d.values.items) c.draft-draft.ensures.value) in
    let kinds : c.as_slice-kinds.result.now ≡ draft.files.items = c.as_slice-kinds.ensures.value ∙ ap (λ (d : Draft). d.files.items) c.draft-draft.ensures.value in
    let apart : AreApart c.args.schedule.ii draft.files.items (files_of draft) (lives_at draft c.args.schedule) c.args.numbers.now
    = moved (λ n ks fs ls. AreApart n ks fs ls c.args.numbers.now) c.ii-ii.result c.args.schedule.ii c.as_slice-kinds.result.now draft.files.items c.as_slice-4.result.now (files_of draft)
    c.as_slice-5.result.now (lives_at draft c.args.schedule) c.ii-ii.ensures.value kinds homes (c.as_slice-5.ensures.value ∙ c.in_ok-lives.ensures) c.in-None.ensures in
    subst (λ ns. IsLawfulSolution (solution_of p c.args.schedule ns)) (sym c.in_ok-numbers-in-None.ensures.items)
    (lawful-from p c.args.schedule c.args.numbers.now c.draft-draft.ensures.well_formed c.ii-ii.ensures.well_formed c.requires.scheduled c.requires.right apart)
