use Rattle.std.proofs.Common.{◌≡◌, ◌∙◌, ℕ, List, Option, ap, sym, subst}
use Rattle.std.specs.Prelude.{codes, IfOk, slice_get}
use Rattle.serde_json.specs.Data.{no_members, object, put, string}
use Rattle.serde_json.specs.View.{members_view, view}
use Rattle.problems.specs.declared.draft.Draft.{Draft}
use Rattle.problems.specs.declared.draft.File.{File}
use Rattle.problems.specs.Problems.{ProblemData}
use Rattle.registers.specs.declared.lifetime.Lifetime.{Lifetime}
use Rattle.solution_text.specs.Names.{file_name, name_in, value_name}
use Rattle.solution_text.specs.Values.{file_of}
use Rattle.solution_json.specs.Parts.{count_value}
use Rattle.solution_json.specs.Values.{copies_value, number_value, value_object}
use Rattle.solution_json.proofs.values.told_value.Goals as goal

pub returns : goal.returns
unfolding value_object
returns c =
    let s = c.args.solution.now in
    let value : ℕ = c.args.value in
    let draft : c.draft.result.now ≡ s.problem.draft = c.draft.ensures.value ∙ ap (λ (p : ProblemData). p.draft) c.problem.ensures.value in
    let name : IfOk c.told_name-name.result (λ v. view v ≡ string (value_name s.problem.draft value))
    = subst (λ (ns : List (List ℕ)). IfOk c.told_name-name.result (λ v. view v ≡ string (name_in ns value)))
    (c.as_slice.ensures.value ∙ ap (λ (d : Draft). d.names.values.items) draft) c.told_name-name.ensures in
    let file : IfOk c.told_name-file.result (λ v. view v ≡ string (file_name s.problem.draft (file_of s value)))
    = subst (λ (n : ℕ). IfOk c.told_name-file.result (λ v. view v ≡ string (file_name s.problem.draft n))) c.file_of.ensures
    (subst (λ (ns : List (List ℕ)). IfOk c.told_name-file.result (λ v. view v ≡ string (name_in ns c.file_of.result)))
    (c.as_slice-2.ensures.value ∙ ap (λ (d : Draft). d.names.files.items) draft) c.told_name-file.ensures) in
    let kind : Option File = slice_get s.problem.draft.files.items (file_of s value) in
    let number : view c.told_number-number.result ≡ number_value s value kind = c.told_number-number.ensures ∙ ap (number_value s value) (sym c.kind_of-kind.ensures) in
    let copies : view c.told_copies-copies.result ≡ copies_value s value kind = c.told_copies-copies.ensures ∙ ap (copies_value s value) (sym c.kind_of-kind.ensures) in
    let life : Lifetime = c.life_of-life.result in
    let one = put (codes "name") (string (value_name s.problem.draft value)) no_members in
    let two = put (codes "file") (string (file_name s.problem.draft (file_of s value))) one in
    let three = put (codes "first") (count_value life.first) two in
    let four = put (codes "last") (count_value life.last) three in
    let five = put (codes "number") (number_value s value kind) four in
    subst (λ (l : Lifetime). IfOk c.object_of.result (λ v. view v ≡ object (put (codes "copies") (copies_value s value kind) (put (codes "number") (number_value s value kind)
    (put (codes "last") (count_value l.last) (put (codes "first") (count_value l.first) two)))))) c.life_of-life.ensures
    (c.object_of.ensures (put (codes "copies") (copies_value s value kind) five)
    (c.with.ensures five (copies_value s value kind)
    (c.with-members-3.ensures four (number_value s value kind)
    (c.with_count-members-2.ensures three
    (c.with_count-members.ensures two
    (c.with-members-2.ensures one (string (file_name s.problem.draft (file_of s value)))
    (c.with-members.ensures no_members (string (value_name s.problem.draft value)) (ap members_view c.new.ensures.empty) name) file)))
    number) copies))
