use Rattle.std.proofs.Common.{◌≡◌, length, drop, refl, sym, ap, ◌∙◌, subst, arith}
use Rattle.std.specs.List.{All}
use Rattle.problems.specs.declared.draft.Draft.{Draft}
use Rattle.registers.specs.Residues.{IsLifeSpan}
use Rattle.registers.proofs.allotted.Filled.{take-front}
use Rattle.solutions.specs.inner.Filling.{AreFilled, LacksFirst}
use Rattle.solutions.specs.Outcomes.{Gives, LacksRegister}
use Rattle.solutions.specs.Solutions.{IsLawfulSolution, files_of, lives_at}
use Rattle.solutions.proofs.Lives.{IsOf, are-spans, length-files, length-lives, length-plain}
use Rattle.solutions.proofs.Numbered.{gives-from, lacks-from, moved, solution_of}
use Rattle.solutions.proofs.Rightness.{gives-is_lawful}
use Rattle.solutions.proofs.solving.trials.numbered.Goals as goal

pub fill_numbers-requires-clause-lives : goal.fill_numbers-requires-clause-lives
fill_numbers-requires-clause-lives c =
    let of : IsOf c.args.problem.now c.args.schedule
    = record { is_problem = c.draft-draft.ensures.well_formed; is_schedule = c.ii-ii.ensures.well_formed; same = c.requires.placed.2 } in
    subst (All IsLifeSpan) (sym (c.as_slice.ensures.value ∙ c.in_ok-lives.ensures)) (are-spans c.args.problem.now c.args.schedule of)

pub fill_numbers-requires-clause-each_life : goal.fill_numbers-requires-clause-each_life
fill_numbers-requires-clause-each_life c =
    let draft = c.args.problem.now.draft in
    ap length (c.as_slice.ensures.value ∙ c.in_ok-lives.ensures) ∙ length-lives draft c.args.schedule ∙ sym (length-files draft) ∙ ap length (sym c.requires.files)

pub returns-in-Some : goal.returns-in-Some
returns-in-Some c =
    let p = c.args.problem.now in
    let kinds : c.as_slice-kinds.result.now ≡ p.draft.files.items = c.as_slice-kinds.ensures.value ∙ ap (λ (d : Draft). d.files.items) c.draft-draft.ensures.value in
    let lacks = rw c.in-Some.is at c.in_ok-found.ensures in
    let fails : LacksRegister p c.args.schedule.ii c.in-Some.file c.in-Some.value
    = lacks-from p c.args.schedule c.in-Some.file c.in-Some.value c.requires.placed
    (moved (λ n ks fs ls. LacksFirst n ks fs ls c.in-Some.file c.in-Some.value) c.ii-ii.result c.args.schedule.ii c.as_slice-kinds.result.now p.draft.files.items c.args.files.now (files_of p.draft)
    c.as_slice.result.now (lives_at p.draft c.args.schedule) c.ii-ii.ensures.value kinds c.requires.files (c.as_slice.ensures.value ∙ c.in_ok-lives.ensures) lacks) in
    record { fails = fails; is = refl }

pub new-solution-requires-clause-lawful : goal.new-solution-requires-clause-lawful
new-solution-requires-clause-lawful c =
    let p = c.args.problem.now in
    let kinds : c.as_slice-kinds.result.now ≡ p.draft.files.items = c.as_slice-kinds.ensures.value ∙ ap (λ (d : Draft). d.files.items) c.draft-draft.ensures.value in
    let written = c.fill_numbers.new.numbers in
    let a = c.fill_numbers.auto.numbers in
    let b = c.as_mut_slice.ensures.len in
    let d = c.in_ok-numbers.ensures.len in
    let n : c.in_ok-numbers.numbers.len ≡ length written = omega arith in
    let q : length written ≡ length c.args.values.now = omega arith in
    let long : length written ≡ length p.draft.values.items = q ∙ ap length c.requires.values ∙ length-plain p.draft in
    let filled : AreFilled c.args.schedule.ii p.draft.files.items (files_of p.draft) (lives_at p.draft c.args.schedule) written
    = moved (λ n ks fs ls. AreFilled n ks fs ls written) c.ii-ii.result c.args.schedule.ii c.as_slice-kinds.result.now p.draft.files.items c.args.files.now (files_of p.draft)
    c.as_slice.result.now (lives_at p.draft c.args.schedule) c.ii-ii.ensures.value kinds c.requires.files (c.as_slice.ensures.value ∙ c.in_ok-lives.ensures) (rw c.in-None.is at c.in_ok-found.ensures) in
    subst (λ ns. IsLawfulSolution (solution_of p c.args.schedule ns)) (sym (take-front written (drop (length written) c.in_ok-numbers.numbers.items) c.in_ok-numbers.numbers.len n))
    (gives-is_lawful p c.args.schedule.ii (solution_of p c.args.schedule written) c.draft-draft.ensures.well_formed (gives-from p c.args.schedule written c.requires.placed long filled))

pub returns : goal.returns
returns c =
    let p = c.args.problem.now in
    let kinds : c.as_slice-kinds.result.now ≡ p.draft.files.items = c.as_slice-kinds.ensures.value ∙ ap (λ (d : Draft). d.files.items) c.draft-draft.ensures.value in
    let written = c.fill_numbers.new.numbers in
    let a = c.fill_numbers.auto.numbers in
    let b = c.as_mut_slice.ensures.len in
    let d = c.in_ok-numbers.ensures.len in
    let n : c.in_ok-numbers.numbers.len ≡ length written = omega arith in
    let q : length written ≡ length c.args.values.now = omega arith in
    let long : length written ≡ length p.draft.values.items = q ∙ ap length c.requires.values ∙ length-plain p.draft in
    let filled : AreFilled c.args.schedule.ii p.draft.files.items (files_of p.draft) (lives_at p.draft c.args.schedule) written
    = moved (λ n ks fs ls. AreFilled n ks fs ls written) c.ii-ii.result c.args.schedule.ii c.as_slice-kinds.result.now p.draft.files.items c.args.files.now (files_of p.draft)
    c.as_slice.result.now (lives_at p.draft c.args.schedule) c.ii-ii.ensures.value kinds c.requires.files (c.as_slice.ensures.value ∙ c.in_ok-lives.ensures) (rw c.in-None.is at c.in_ok-found.ensures) in
    subst (Gives p c.args.schedule.ii) (sym (c.new-solution.ensures
    ∙ ap (solution_of p c.args.schedule) (take-front written (drop (length written) c.in_ok-numbers.numbers.items) c.in_ok-numbers.numbers.len n)))
    (gives-from p c.args.schedule written c.requires.placed long filled)
