use Rattle.std.proofs.Common.{◌≡◌, ℕ, List, ◌++◌, refl, ap, ◌∙◌}
use Rattle.std.specs.List.{flat_map}
use Rattle.std.proofs.lemmas.Result.{on_ok_weaker}
use Rattle.writing.proofs.Beginnings.{two_pushed}
use Rattle.problems.specs.declared.draft.Draft.{Draft}
use Rattle.problem_graphs.specs.Edges.{op_lines, order_line, read_line}
use Rattle.problem_graphs.specs.Heads.{problem_line}
use Rattle.problem_graphs.proofs.edge_lines.push_edges.Goals as goal

pub returns : goal.returns
returns c =
    let p = c.args.problem.now in
    let old : List ℕ = c.args.text.now.items in
    let heights : List ℕ = c.in_ok-heights.heights.items in
    let head : List ℕ = problem_line c.args.name.now p in
    let ops : List ℕ = op_lines p heights in
    let reads : List ℕ = flat_map (read_line p.draft) p.draft.reads.items in
    let orders : List ℕ = flat_map (order_line p.draft) p.draft.orders.items in
    let first : List ℕ = c.push_problem_line.new.text.items in
    let second : List ℕ = c.push_ops.new.text.items in
    let third : List ℕ = c.push_reads.new.text.items in
    let with_ops : second ≡ old ++ (head ++ ops)
    = two_pushed old head ops first second c.in_ok-push_problem_line.ensures.ok (c.in_ok-push_ops.ensures.ok ∙ ap (λ (hs : List ℕ). first ++ op_lines p hs) c.as_slice.ensures.value) in
    let with_reads : third ≡ second ++ reads
    = c.in_ok-push_reads.ensures.ok ∙ ap (λ (d : Draft). second ++ flat_map (read_line d) d.reads.items) c.draft.ensures.value in
    record {
      ok = on_ok_weaker c.push_orders.result
          (λ last. (
            (head ++ ops) ++ (reads ++ orders),
            record { heights = heights; are_heights = c.in_ok-heights.ensures.exact; is_text = refl },
            two_pushed old (head ++ ops) (reads ++ orders) second c.push_orders.new.text.items with_ops
                (two_pushed second reads orders third c.push_orders.new.text.items with_reads
                (last ∙ ap (λ (d : Draft). third ++ flat_map (order_line d) d.orders.items) c.draft-2.ensures.value)),
          ))
          c.push_orders.ensures.ok;
    }
