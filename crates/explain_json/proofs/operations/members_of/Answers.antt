use Rattle.std.proofs.Common.{rules, ◌≡◌, List, ℕ, ap, subst, IfOk}
use Rattle.std.specs.Prelude.{slice_index}
use Rattle.serde_json.specs.Data.{string}
use Rattle.serde_json.specs.View.{members_view, view}
use Rattle.loop_data.specs.Loops.{LoopData}
use Rattle.graph_text.specs.Names.{op_name}
use Rattle.explain_json.specs.Parts.{count_value}
use Rattle.explain_json.specs.inner.Objects.{operation_members}
use Rattle.explain_json.proofs.operations.members_of.Goals as goal

pub returns : goal.returns
unfolding operation_members
returns c =
    let op = c.args.op in
    let name = subst (λ (l : LoopData). IfOk c.told_name-name.result (λ v. view v ≡ string (op_name l op))) c.innermost.ensures.value c.told_name-name.ensures in
    let opcode = subst (λ (word : List ℕ). IfOk c.to_value-opcode.result (λ v. view v ≡ string word)) c.opcode_word.ensures c.to_value-opcode.ensures in
    let slow : view c.from-latency.result ≡ count_value (slice_index c.args.prepared.now.graph.latencies op) = search rules in
    let height = c.with_value-members.ensures _ _ (ap members_view c.new.ensures.empty) c.from.ensures in
    let latency = c.with_value-members-2.ensures _ _ height slow in
    let named = c.with-members.ensures _ _ latency name in
    c.with.ensures _ _ named opcode
