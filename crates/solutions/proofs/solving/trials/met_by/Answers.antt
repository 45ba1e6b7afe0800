use Rattle.std.proofs.Common.{◌≡◌, false, length, drop, sym, ap, ◌∙◌, subst, arith}
use Rattle.std.specs.List.{All}
use Rattle.problems.specs.declared.draft.Draft.{Draft}
use Rattle.registers.specs.Residues.{IsLifeSpan}
use Rattle.registers.proofs.allotted.Filled.{take-front}
use Rattle.solutions.specs.inner.Filling.{AreFilled, AreFound}
use Rattle.solutions.specs.Outcomes.{Gives}
use Rattle.solutions.specs.Solutions.{IsLawfulSolution, files_of, lives_at}
use Rattle.solutions.proofs.Lives.{IsOf, are-spans, length-files, length-lives, length-plain}
use Rattle.solutions.proofs.Numbered.{gives-from, lacks-some-from, moved, solution_of}
use Rattle.solutions.proofs.Rightness.{gives-is_lawful}
use Rattle.solutions.proofs.solving.trials.met_by.Goals as goal

pub find_numbers-requires-clause-lives : goal.find_numbers-requires-clause-lives
find_numbers-requires-clause-lives c =
    let of : IsOf c.args.problem.now c.args.schedule
    = record { is_problem = c.draft-draft.ensures.well_formed; is_schedule = c.ii-ii.ensures.well_formed; same = c.requires.placed.2 } in
    subst (All IsLifeSpan) (sym (c.as_slice.ensures.value ∙ c.in_ok-lives.ensures)) (are-spans c.args.problem.now c.args.schedule of)

pub find_numbers-requires-clause-each_life : goal.find_numbers-requires-clause-each_life
find_numbers-requires-clause-each_life c =
    let draft = c.args.problem.now.draft in
    ap length (c.as_slice.ensures.value ∙ c.in_ok-lives.ensures) ∙ length-lives draft c.args.schedule ∙ sym (length-files draft) ∙ ap length (sym c.requires.files)

pub new-solution-requires-clause-lawful : goal.new-solution-requires-clause-lawful
new-solution-requires-clause-lawful c =
    let p = c.args.problem.now in
    let kinds : c.as_slice-kinds.result.now ≡ p.draft.files.items = c.as_slice-kinds.ensures.value ∙ ap (λ (d : Draft). d.files.items) c.draft-draft.ensures.value in
    let written = c.find_numbers.new.numbers in
    let a = c.find_numbers.auto.numbers in
    let b = c.as_mut_slice.ensures.len in
    let d = c.in_ok-numbers.ensures.len in
    let n : c.in_ok-numbers.numbers.len ≡ length written = omega arith in
    let q : length written ≡ length c.args.values.now = omega arith in
    let long : length written ≡ length p.draft.values.items = q ∙ ap length c.requires.values ∙ length-plain p.draft in
    let found = subst (AreFound c.ii-ii.result c.as_slice-kinds.result.now c.args.files.now c.as_slice.result.now written) c.if-found.true c.in_ok-found.ensures in
    let filled : AreFilled c.args.schedule.ii p.draft.files.items (files_of p.draft) (lives_at p.draft c.args.schedule) written
    = moved (λ n ks fs ls. AreFilled n ks fs ls written) c.ii-ii.result c.args.schedule.ii c.as_slice-kinds.result.now p.draft.files.items c.args.files.now (files_of p.draft)
    c.as_slice.result.now (lives_at p.draft c.args.schedule) c.ii-ii.ensures.value kinds c.requires.files (c.as_slice.ensures.value ∙ c.in_ok-lives.ensures) found in
    subst (λ ns. IsLawfulSolution (solution_of p c.args.schedule ns)) (sym (take-front written (drop (length written) c.in_ok-numbers.numbers.items) c.in_ok-numbers.numbers.len n))
    (gives-is_lawful p c.args.schedule.ii (solution_of p c.args.schedule written) c.draft-draft.ensures.well_formed (gives-from p c.args.schedule written c.requires.placed long filled))

pub returns-then-found : goal.returns-then-found
returns-then-found c =
    let p = c.args.problem.now in
    let kinds : c.as_slice-kinds.result.now ≡ p.draft.files.items = c.as_slice-kinds.ensures.value ∙ ap (λ (d : Draft). d.files.items) c.draft-draft.ensures.value in
    let written = c.find_numbers.new.numbers in
    let a = c.find_numbers.auto.numbers in
    let b = c.as_mut_slice.ensures.len in
    let d = c.in_ok-numbers.ensures.len in
    let n : c.in_ok-numbers.numbers.len ≡ length written = omega arith in
    let q : length written ≡ length c.args.values.now = omega arith in
    let long : length written ≡ length p.draft.values.items = q ∙ ap length c.requires.values ∙ length-plain p.draft in
    let found = subst (AreFound c.ii-ii.result c.as_slice-kinds.result.now c.args.files.now c.as_slice.result.now written) c.if-found.true c.in_ok-found.ensures in
    let filled : AreFilled c.args.schedule.ii p.draft.files.items (files_of p.draft) (lives_at p.draft c.args.schedule) written
    = moved (λ n ks fs ls. AreFilled n ks fs ls written) c.ii-ii.result c.args.schedule.ii c.as_slice-kinds.result.now p.draft.files.items c.args.files.now (files_of p.draft)
    c.as_slice.result.now (lives_at p.draft c.args.schedule) c.ii-ii.ensures.value kinds c.requires.files (c.as_slice.ensures.value ∙ c.in_ok-lives.ensures) found in
    subst (Gives p c.args.schedule.ii) (sym (c.new-solution.ensures
    ∙ ap (solution_of p c.args.schedule) (take-front written (drop (length written) c.in_ok-numbers.numbers.items) c.in_ok-numbers.numbers.len n)))
    (gives-from p c.args.schedule written c.requires.placed long filled)

pub returns : goal.returns
returns c =
    let p = c.args.problem.now in
    let kinds : c.as_slice-kinds.result.now ≡ p.draft.files.items = c.as_slice-kinds.ensures.value ∙ ap (λ (d : Draft). d.files.items) c.draft-draft.ensures.value in
    let written = c.find_numbers.new.numbers in
    let none = subst (AreFound c.ii-ii.result c.as_slice-kinds.result.now c.args.files.now c.as_slice.result.now written) c.if-found.false c.in_ok-found.ensures in
    lacks-some-from p c.args.schedule c.requires.placed
    (moved (λ n ks fs ls. AreFound n ks fs ls written false) c.ii-ii.result c.args.schedule.ii c.as_slice-kinds.result.now p.draft.files.items c.args.files.now (files_of p.draft)
    c.as_slice.result.now (lives_at p.draft c.args.schedule) c.ii-ii.ensures.value kinds c.requires.files (c.as_slice.ensures.value ∙ c.in_ok-lives.ensures) none)
