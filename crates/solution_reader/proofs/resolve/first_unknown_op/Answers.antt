use Rattle.std.proofs.Common.{◌≡◌, ◌∙◌, ap, sym, true, false, not, rules, get_or, Some}
use Rattle.std.specs.Option.{option_map}
use Rattle.problem_lines.specs.Seen.{word_seen}
use Rattle.solution_reader.specs.Data.{OpData}
use Rattle.solution_reader.specs.Resolved.{unknown_at}
use Rattle.problem_faults.specs.declared.refused_solutions.Part.TheVariants as part
use Rattle.solution_reader.specs.declared.rows.OpTime.{OpTime}
use Rattle.solution_reader.specs.inner.Found.{is_among}
use Rattle.solution_reader.specs.inner.Seen.{op_seen}
use Rattle.solution_reader.proofs.First.{past_here, past_next}
use Rattle.solution_reader.proofs.resolve.first_unknown_op.Goals as goal

pub returns-then-not-contains : goal.returns-then-not-contains
returns-then-not-contains c =
    let fails : not c.contains.result ≡ true = search rules in
    let row = c.row-item.result in
    let p = λ (r : OpData). not (is_among c.args.names.now r.name.bytes) in
    let here : p (op_seen (get_or c.args.rows.now c.loop-row.row-index row)) ≡ true = ap (λ (r : OpTime). p (op_seen r)) (sym c.row-item.is) ∙ ap not (sym c.contains.ensures) ∙ fails in
    ap Some (c.unknown_at.ensures ∙ ap (λ (r : OpTime). unknown_at r.line (word_seen r.name) part.Operations) c.row-item.is)
    ∙ ap (option_map (λ (r : OpData). unknown_at r.line r.name part.Operations)) (past_here op_seen p c.args.rows.now c.loop-row.row-index row c.loop-row.invariant c.loop-row-test.true here)

pub loop-row-preserved : goal.loop-row-preserved
loop-row-preserved c =
    let fails : not c.contains.result ≡ false = search rules in
    let row = c.row-item.result in
    let p = λ (r : OpData). not (is_among c.args.names.now r.name.bytes) in
    let here : p (op_seen (get_or c.args.rows.now c.loop-row.row-index row)) ≡ false = ap (λ (r : OpTime). p (op_seen r)) (sym c.row-item.is) ∙ ap not (sym c.contains.ensures) ∙ fails in
    past_next op_seen p c.args.rows.now c.loop-row.row-index row c.loop-row.invariant c.loop-row-test.true here
