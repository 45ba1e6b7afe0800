use Rattle.std.proofs.Common.{◌≡◌, ℕ, ◌-◌, ◌∷◌, ◌++◌, [], List, length, sym, ap, ◌∙◌, subst, arith, below_more}
use Rattle.std.specs.Prelude.{slice_index}
use Rattle.std.proofs.lemmas.List.{get_or_append_left, get_or-append_right, length_push}
use Rattle.figures.specs.Slacks.{IsSlack}
use Rattle.figures.proofs.slacks.push_slacks.Goals as goal

pub loop-op-preserved : goal.loop-op-preserved
loop-op-preserved c =
    let schedule = c.args.schedule.now in
    let old : List ℕ = c.loop-op.list.items in
    let slack : ℕ = c.slack_of.result in
    let i = c.loop-op.invariant in
    let new = c.push_reserved.ensures.items in
    let n = c.push_reserved.ensures.len in
    let k = c.push_reserved.ensures.capacity in
    let long = length_push old slack in
    let all = ap length new in
    let last : slice_index (old ++ slack ∷ []) c.loop-op.op ≡ slack
    = get_or-append_right old (slack ∷ []) c.loop-op.op c.loop-op.op 0 i.long (omega arith) ∙ ap (λ m. slice_index (slack ∷ []) m) (let z : c.loop-op.op - c.loop-op.op ≡ 0 = omega arith in z) in
    record {
      room = omega arith;
      count = omega arith;
      long = omega arith;
      each = below_more (λ op. IsSlack schedule op (slice_index c.push_reserved.new.self.items op)) c.loop-op.op
          (λ op lt. subst (IsSlack schedule op) (sym (ap (λ xs. slice_index xs op) new ∙ get_or_append_left old (slack ∷ []) 0 op (omega arith))) (i.each op lt))
          (subst (IsSlack schedule c.loop-op.op) (sym (ap (λ xs. slice_index xs c.loop-op.op) new ∙ last)) c.slack_of.ensures);
    }
