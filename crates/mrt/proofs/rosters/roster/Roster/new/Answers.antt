use Rattle.std.proofs.Common.{◌≡◌, ◌+◌, ◌<◌, ◌++◌, ◌∷◌, [], length, get_or, take, sym, ap, ◌∙◌, arith, rules}
use Rattle.std.proofs.lemmas.List.{take_all, take_more, get_or_default, get_or-take}
use Rattle.std.proofs.lemmas.List.Elements.{All-push, All-contains}
use Rattle.mrt.specs.declared.rosters.kinds.Kind.{Kind}
use Rattle.mrt.specs.Placements.{OperationAlternatives}
use Rattle.mrt.specs.inner.Rosters.{IsKind, first_row}
use Rattle.mrt.proofs.placements.Rostering.{below-more}
use Rattle.mrt.proofs.rosters.roster.Roster.new.Goals as goal
use Rattle.mrt.proofs.rosters.roster.Roster.new.Goals.{in-Some, in-None+in_ok-push-in-None}

pub push_group-requires-clause-earlier : goal.push_group-requires-clause-earlier
push_group-requires-clause-earlier c =
    let i = c.loop-operation.invariant in
    let operations : OperationAlternatives = c.args.operations.now in
    let k = c.loop-operation.operation-index in
    elim c.match-of_kind.branch [
      | in-Some w ↦
          let kind : Kind = w.in-Some.kind in
          let e = kind.operation in
          let before : e < k = All-contains (λ (one : Kind). one.operation < k) c.as_slice.result.now kind (rw c.as_slice.ensures i.kinds) w.in-Some.ensures.0 in
          rw w.earlier-is (omega (arith, i.count), ap (λ os. get_or os e []) i.groups ∙ get_or-take k operations e [] before ∙ w.in-Some.ensures.1 ∙ sym c.as_slice-alternatives.ensures.value)
      | in-None+in_ok-push-in-None w ↦ rw w.earlier-is (search rules)
    ]

pub loop-operation-preserved : goal.loop-operation-preserved
loop-operation-preserved c =
    let i = c.loop-operation.invariant in
    let operations : OperationAlternatives = c.args.operations.now in
    let k = c.loop-operation.operation-index in
    let lt : k < length operations = omega arith in
    let item = c.as_slice-alternatives.ensures.value ∙ c.operation-item.is in
    let pushed = c.in_ok-push_group.ensures in
    let next = pushed.pushed ∙ ap (λ gs. gs ++ c.as_slice-alternatives.result.now ∷ []) i.groups ∙ ap (λ a. take k operations ++ a ∷ []) item ∙ sym (take_more operations k c.operation-item.result lt) in
    elim c.match-of_kind.branch [
      | in-Some w ↦ record {
        interval = c.push_group.ensures.interval ∙ i.interval;
        groups = next;
        each_group = pushed.each_group;
        count = pushed.count ∙ ap (λ n. n + 1) i.count;
        kinds = rw w.kinds-is (below-more k _ i.kinds);
        each_kind = rw w.kinds-is i.each_kind;
      }
      | in-None+in_ok-push-in-None w ↦
          let own : w.new-in-None.result.operation ≡ k = omega (arith, w.new-in-None.ensures.operation, w.len.ensures, i.count) in
          record {
            interval = c.push_group.ensures.interval ∙ i.interval;
            groups = next;
            each_group = pushed.each_group;
            count = pushed.count ∙ ap (λ n. n + 1) i.count;
            kinds = rw (w.kinds-is, w.in_ok-push-in-None.ensures.ok) (All-push (λ (one : Kind). one.operation < k + 1) _ _ (below-more k _ i.kinds) (omega (arith, own)));
            each_kind = rw (w.kinds-is, w.in_ok-push-in-None.ensures.ok) (All-push (IsKind operations) _ _ i.each_kind (record {
              there = omega (arith, own);
              first = w.new-in-None.ensures.first
                  ∙ ap first_row (item ∙ get_or_default operations k c.operation-item.result [] lt ∙ sym (ap (λ n. get_or operations n []) own));
            }));
          }
    ]

pub returns-clause-value : goal.returns-clause-value
returns-clause-value c =
    let all = take_all c.loop-operation.operation-index c.args.operations.now (omega arith) in
    let i = c.loop-operation.invariant in
    search rules
