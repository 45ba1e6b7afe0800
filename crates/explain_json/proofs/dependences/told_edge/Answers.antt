use Rattle.std.proofs.Common.{rules, ◌≡◌, List, ℕ, ap, subst, IfOk}
use Rattle.serde_json.specs.Data.{string}
use Rattle.serde_json.specs.View.{members_view, view}
use Rattle.graph_text.specs.Kinds.{kind_word}
use Rattle.explain_json.specs.Parts.{integer_value}
use Rattle.explain_json.proofs.dependences.told_edge.Goals as goal

pub returns : goal.returns
returns c =
    let kind : IfOk c.to_value.result (λ v. view v ≡ string (kind_word c.args.kind)) =
    subst (λ (word : List ℕ). IfOk c.to_value.result (λ v. view v ≡ string word)) c.word.ensures c.to_value.ensures in
    let number : view c.from.result ≡ integer_value c.args.edge.now.delay = search rules in
    let delay = c.with_value-members.ensures _ _ (ap members_view c.new.ensures.empty) number in
    let distance = c.with_value-members-2.ensures _ _ delay c.from-2.ensures in
    let from = c.with_value-members-3.ensures _ _ distance c.from-3.ensures in
    let kinded = c.with-members.ensures _ _ from kind in
    c.object_of.ensures _ (c.with_value.ensures _ _ kinded c.from-4.ensures)
