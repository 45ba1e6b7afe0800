use Rattle.std.proofs.Common.{rules, ◌≡◌, ℕ, List, ◌++◌, ap, ◌∙◌}
use Rattle.std.specs.Prelude.{codes}
use Rattle.std.proofs.lemmas.Result.{on_ok_weaker}
use Rattle.graph_text.specs.Edges.{sums_told}
use Rattle.writing.proofs.Beginnings.{two_pushed}
use Rattle.problem_graphs.specs.Edges.{numbered}
use Rattle.problem_graphs.specs.Whys.{why_text}
use Rattle.problem_graphs.proofs.edge_lines.push_edge.Goals as goal

pub returns : goal.returns
returns c =
    let draft = c.args.draft.now in
    let edge = c.args.edge in
    let old : List ℕ = c.args.text.now.items in
    let from : List ℕ = numbered (codes "edge ") draft edge.from in
    let to : List ℕ = numbered (codes " ") draft edge.to in
    let why : List ℕ = why_text draft c.args.why in
    let sums : List ℕ = sums_told edge.delay edge.distance in
    let one : c.push_numbered.new.text.items ≡ old ++ from
    = c.in_ok-push_numbered.ensures.ok ∙ ap (λ (n : ℕ). old ++ numbered (codes "edge ") draft n) c.from.ensures in
    let two : c.push_numbered-2.new.text.items ≡ old ++ (from ++ to)
    = two_pushed old from to c.push_numbered.new.text.items c.push_numbered-2.new.text.items one
    (c.in_ok-push_numbered-2.ensures.ok ∙ ap (λ (n : ℕ). c.push_numbered.new.text.items ++ numbered (codes " ") draft n) c.from-2.ensures) in
    let word : c.push_why.new.text.items ≡ c.push_numbered-2.new.text.items ++ (codes " " ++ why)
    = two_pushed c.push_numbered-2.new.text.items (codes " ") why c.push_piece.new.self.items c.push_why.new.text.items c.in_ok-push_piece.ensures.ok c.in_ok-push_why.ensures.ok in
    let three : c.push_why.new.text.items ≡ old ++ ((from ++ to) ++ (codes " " ++ why))
    = two_pushed old (from ++ to) (codes " " ++ why) c.push_numbered-2.new.text.items c.push_why.new.text.items two word in
    let both : c.push_sums.new.text.items ≡ c.push_why.new.text.items ++ sums
    = search rules in
    let four : c.push_sums.new.text.items ≡ old ++ (((from ++ to) ++ (codes " " ++ why)) ++ sums)
    = two_pushed old ((from ++ to) ++ (codes " " ++ why)) sums c.push_why.new.text.items c.push_sums.new.text.items three both in
    record {
      ok = on_ok_weaker c.push_piece-2.result
          (λ last. two_pushed old (((from ++ to) ++ (codes " " ++ why)) ++ sums) (codes "\n") c.push_sums.new.text.items c.push_piece-2.new.self.items four last)
          c.push_piece-2.ensures.ok;
    }
