use Rattle.std.proofs.Common.{◌≡◌, List, ℕ, ◌++◌, ap, ◌∙◌}
use Rattle.std.specs.Prelude.{codes}
use Rattle.std.proofs.lemmas.Result.{on_ok_weaker}
use Rattle.problems.specs.declared.draft.Draft.{Draft}
use Rattle.problems.specs.Problems.{ProblemData}
use Rattle.solutions.specs.Copies.{copies_of}
use Rattle.writing.specs.Words.{told}
use Rattle.solution_text.specs.Names.{value_name}
use Rattle.solution_text.specs.Values.{life_of, live_text}
use Rattle.solution_text.proofs.Loops.{and-then}
use Rattle.solution_text.proofs.Shown.{copies-is}
use Rattle.solution_text.proofs.values.push_unallotted.Goals as goal

pub returns : goal.returns
returns c =
    let s = c.args.solution.now in
    let value : ℕ = c.args.value in
    let old : List ℕ = c.args.text.now.items in
    let head : List ℕ = (codes "# value " ++ value_name s.problem.draft value) ++ codes " " in
    let copies : List ℕ = told (codes ", copies ") (copies_of s.ii (life_of s value)) in
    let draft : c.draft.result.now ≡ s.problem.draft = c.draft.ensures.value ∙ ap (λ (p : ProblemData). p.draft) c.problem.ensures.value in
    let named : c.push_parts.new.text.items ≡ old ++ head
    = c.in_ok-push_parts.ensures.ok ∙ ap (λ (d : Draft). old ++ ((codes "# value " ++ value_name d value) ++ codes " ")) draft in
    let lived : c.push_live.new.text.items ≡ old ++ (head ++ live_text s value)
    = and-then old head c.push_parts.new.text.items (live_text s value) c.push_live.new.text.items named c.in_ok-push_live.ensures.ok in
    let copied : c.push_told.new.text.items ≡ old ++ ((head ++ live_text s value) ++ copies)
    = and-then old (head ++ live_text s value) c.push_live.new.text.items copies c.push_told.new.text.items lived
    (c.in_ok-push_told.ensures.ok ∙ ap (λ n. c.push_live.new.text.items ++ told (codes ", copies ") n) (copies-is s value c.copies.result c.requires c.copies.ensures.value)) in
    record {
      ok = on_ok_weaker c.push_piece.result
          (λ last. and-then old ((head ++ live_text s value) ++ copies) c.push_told.new.text.items (codes "\n") c.push_piece.new.self.items copied last) c.push_piece.ensures.ok;
    }
