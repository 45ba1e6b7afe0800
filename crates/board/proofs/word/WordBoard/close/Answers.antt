use Rattle.std.proofs.Common.{◌≡◌, ◌≤◌, sym, ap, ◌∙◌, subst, arith, refl, length, map}
use Rattle.std.specs.Prelude.{All}
use Rattle.board.specs.declared.view.Terms.{Terms}
use Rattle.board.specs.Rule.{Rule}
use Rattle.board.specs.inner.Steps.{Keeps}
use Rattle.board.specs.Boards.{view_of, sizes_of, pass_tag_of, tag_of}
use Rattle.board.proofs.Closing.{closes, count_of_passes, passes_within, dry_once}
use Rattle.board.proofs.word.WordBoard.close.Goals as goal

pub invariant_of-result : goal.invariant_of-result
invariant_of-result c = record {
  whole = record {
    full = c.close_with-table.ensures.values.0;
    words = c.close_with-table.ensures.counts.0 ∙ c.args.self.words;
    slots = c.close_with-table.ensures.counts.1 ∙ c.args.self.slots;
  };
}

pub returns-clause-rule : goal.returns-clause-rule
returns-clause-rule c =
    let last = c.close_with-table.ensures.values.2 in
    let together = c.in-Some.ensures.together in
    let terms : Terms = sizes_of c.args.self in
    let ps = c.args.passes.items in
    let kept : Keeps terms last.0 = subst (λ t. Keeps t last.0) c.args.self.sizes last.1.0 in
    let carried : All (λ p. pass_tag_of p ≡ tag_of c.args.self) ps = subst (All (λ p. pass_tag_of p ≡ tag_of c.args.self)) c.deref.ensures.value (c.if-not-all_carry.ensures.0 refl) in
    let own : All (λ p. p.pieces ≡ terms.pieces) ps = λ k d near. (c.requires k d near (carried k d near)).1 in
    let enough : terms.passes ≤ c.in-Some.seat.me.0.count =
    let count = together.count ∙ count_of_passes ps in
    let all_of = sym (ap length c.deref.ensures.value) ∙ c.deref.ensures.len in
    let made = c.if-len-self.false in
    let len = c.len.ensures in
    omega arith
    in
    subst (λ words. Rule terms words (map view_of ps)) last.2
    (closes terms last.0 c.in-Some.seat.id c.in-Some.seat.me.0 (map view_of ps) kept last.1.1 together (passes_within terms.pieces ps own) enough)

pub returns-clause-once : goal.returns-clause-once
returns-clause-once c = dry_once (sizes_of c.args.self) _ c.args.passes.items (returns-clause-rule c)
