use Rattle.std.proofs.Common.{◌≡◌, ℕ, List, ◌++◌, ap, ◌∙◌}
use Rattle.std.specs.Prelude.{codes, slice_index}
use Rattle.std.proofs.lemmas.Result.{on_ok_weaker}
use Rattle.edges.specs.Graphs.{GraphData}
use Rattle.writing.proofs.Beginnings.{two_pushed}
use Rattle.schedules.specs.Problems.{ProblemData as SchedulingData}
use Rattle.problems.specs.declared.draft.Draft.{Draft}
use Rattle.writing.specs.Words.{told}
use Rattle.problem_graphs.specs.Edges.{numbered}
use Rattle.problem_graphs.specs.Names.{kind_name}
use Rattle.problem_graphs.proofs.edge_lines.push_op.Goals as goal

pub returns : goal.returns
returns c =
    let p = c.args.problem.now in
    let op = c.args.op in
    let old : List ℕ = c.args.text.now.items in
    let head : List ℕ = numbered (codes "op ") p.draft op in
    let kind : List ℕ = kind_name p.draft op in
    let latency : List ℕ = told (codes " latency ") (slice_index p.scheduling.graph.latencies op) in
    let height : List ℕ = told (codes " height ") (slice_index c.args.heights.now op) in
    let one : c.push_numbered.new.text.items ≡ old ++ head
    = c.in_ok-push_numbered.ensures.ok ∙ ap (λ (d : Draft). old ++ numbered (codes "op ") d op) c.draft-draft.ensures.value in
    let named : c.push_kind_name.new.text.items ≡ c.push_numbered.new.text.items ++ (codes " " ++ kind)
    = two_pushed c.push_numbered.new.text.items (codes " ") kind c.push_piece.new.self.items c.push_kind_name.new.text.items c.in_ok-push_piece.ensures.ok
    (c.in_ok-push_kind_name.ensures.ok ∙ ap (λ (d : Draft). c.push_piece.new.self.items ++ kind_name d op) c.draft-draft.ensures.value) in
    let two : c.push_kind_name.new.text.items ≡ old ++ (head ++ (codes " " ++ kind))
    = two_pushed old head (codes " " ++ kind) c.push_numbered.new.text.items c.push_kind_name.new.text.items one named in
    let cycles : c.from.result ≡ slice_index p.scheduling.graph.latencies op
    = c.from.ensures ∙ c.latency-latency.ensures.value ∙ ap (λ (g : GraphData). slice_index g.latencies op) c.edges.ensures.value
    ∙ ap (λ (s : SchedulingData). slice_index s.graph.latencies op) c.scheduling.ensures.value in
    let three : c.push_told.new.text.items ≡ old ++ ((head ++ (codes " " ++ kind)) ++ latency)
    = two_pushed old (head ++ (codes " " ++ kind)) latency c.push_kind_name.new.text.items c.push_told.new.text.items two
    (c.in_ok-push_told.ensures.ok ∙ ap (λ (n : ℕ). c.push_kind_name.new.text.items ++ told (codes " latency ") n) cycles) in
    let four : c.push_told-2.new.text.items ≡ old ++ (((head ++ (codes " " ++ kind)) ++ latency) ++ height)
    = two_pushed old ((head ++ (codes " " ++ kind)) ++ latency) height c.push_told.new.text.items c.push_told-2.new.text.items three c.in_ok-push_told-2.ensures.ok in
    record {
      ok = on_ok_weaker c.push_piece-2.result
          (λ last. two_pushed old (((head ++ (codes " " ++ kind)) ++ latency) ++ height) (codes "\n") c.push_told-2.new.text.items c.push_piece-2.new.self.items four last)
          c.push_piece-2.ensures.ok;
    }
