use Rattle.std.proofs.Common.{◌≡◌, ◌++◌, ℕ, List, length, ap, ◌∙◌, subst, arith}
use Rattle.std.specs.Prelude.{Ok, Err}
use Rattle.std.specs.Vec.Iter.{into_iter_items}
use Rattle.std.proofs.lemmas.Result.{err_from_is_err_and}
use Rattle.loop_data.specs.Loops.{LoopData}
use Rattle.graph.specs.Units.{first_lacking}
use Rattle.lower_bounds.specs.Faults.{TextAnswers}
use Rattle.lower_bounds.proofs.Lacking.{answered, complete}
use Rattle.loop_listings.specs.declared.choices.Choice.{Choice}
use Rattle.explain.specs.Explanations.{ArePartsOf, IsPartOf}
use Rattle.explain.specs.declared.file.Tally.{Tally}
use Rattle.explain.proofs.Parts.{all-done, done-more, done-none, refused-here}
use Rattle.explain.proofs.file.push_loops.Goals as goal

pub loop-innermost-init : goal.loop-innermost-init
loop-innermost-init c =
    let whole = c.args.loops.ok.0 in
    let same = ap length c.into_iter-loops.ensures.rest in
    let long = c.into_iter-loops.ensures.len in
    record {
      done = done-none c.args.machine.now c.args.settings.now.ratio c.args.settings.now.ceiling (into_iter_items c.into_iter-loops.result) c.args.text.now.items;
      long = omega arith;
      few = omega (arith, c.args.loops.small);
    }

pub returns-in_err-choice : goal.returns-in_err-choice
returns-in_err-choice c =
    let m = c.args.machine.now in
    let r = c.args.settings.now.ratio in
    let k = c.args.settings.now.ceiling in
    let fault = c.in_err-choice.field-0.0 in
    let P = λ (choice : Choice). (part : List ℕ) × IsPartOf m r k c.in-Some.innermost choice part × (c.push_loop.new.text.items ≡ c.loop-innermost.text.items ++ part) in
    let Q = λ (t : Tally). (parts : List ℕ) × ArePartsOf m r k c.args.loops.items parts t.met t.failed × (c.push_loop.new.text.items ≡ c.args.text.now.items ++ parts) in
    let p = err_from_is_err_and c.from_residual.result c.from_residual.ensures.1 in
    record {
      exact = rw (p.1, p.2) (subst (λ (ls : List LoopData). TextAnswers {A = Tally} (first_lacking m ls) Q (Err fault)) c.into_iter-loops.ensures.rest
          (refused-here {A = Choice} {B = Tally} P Q m r k (into_iter_items c.into_iter-loops.result) (into_iter_items c.loop-innermost.loops)
          (into_iter_items c.next.new.self) _ _ _ _ c.in-Some.innermost fault c.loop-innermost.invariant.done c.in-Some.ensures.items c.in_err-choice.ensures.exact));
    }

pub loop-innermost-preserved-in_ok-choice : goal.loop-innermost-preserved-in_ok-choice
loop-innermost-preserved-in_ok-choice c =
    let a = answered _ _ _ c.in_ok-choice.ensures.exact in
    let long = ap (λ (ls : List LoopData). length ls) c.in-Some.ensures.items in
    record {
      done = done-more c.args.machine.now c.args.settings.now.ratio c.args.settings.now.ceiling (into_iter_items c.into_iter-loops.result) (into_iter_items c.loop-innermost.loops)
          (into_iter_items c.next.new.self) _ _ _ _ _ _ _ c.in-Some.innermost c.in_ok-choice.choice c.loop-innermost.invariant.done c.in-Some.ensures.items a.0 a.1
          c.with-tally.ensures.met c.with-tally.ensures.failed;
      long = omega (arith, c.in-Some.ensures.len, c.loop-innermost.invariant.long);
      few = omega (arith, c.in-Some.ensures.len, c.with-tally.ensures.one, c.loop-innermost.invariant.few);
    }

pub loop-innermost-preserved : goal.loop-innermost-preserved
loop-innermost-preserved c =
    let a = answered _ _ _ c.in_ok-choice.ensures.exact in
    let long = ap (λ (ls : List LoopData). length ls) c.in-Some.ensures.items in
    record {
      done = done-more c.args.machine.now c.args.settings.now.ratio c.args.settings.now.ceiling (into_iter_items c.into_iter-loops.result) (into_iter_items c.loop-innermost.loops)
          (into_iter_items c.next.new.self) _ _ _ _ _ _ _ c.in-Some.innermost c.in_ok-choice.choice c.loop-innermost.invariant.done c.in-Some.ensures.items a.0 a.1
          c.with-tally.ensures.met c.with-tally.ensures.failed;
      long = omega (arith, c.in-Some.ensures.len, c.loop-innermost.invariant.long);
      few = omega (arith, c.in-Some.ensures.len, c.with-tally.ensures.one, c.loop-innermost.invariant.few);
    }

pub returns : goal.returns
returns c =
    let m = c.args.machine.now in
    let r = c.args.settings.now.ratio in
    let k = c.args.settings.now.ceiling in
    let none = c.in_default.ensures.cases.0 in
    let all = all-done m r k (into_iter_items c.into_iter-loops.result) (into_iter_items c.loop-innermost.loops) _ _ _ _ c.loop-innermost.invariant.done (c.loop-innermost.invariant.long ∙ none) in
    record {
      exact = subst (λ (ls : List LoopData). TextAnswers {A = Tally} (first_lacking m ls)
          (λ (t : Tally). (parts : List ℕ) × ArePartsOf m r k ls parts t.met t.failed × (c.loop-innermost.text.items ≡ c.args.text.now.items ++ parts)) (Ok c.loop-innermost.tally))
          c.into_iter-loops.ensures.rest (complete (first_lacking m (into_iter_items c.into_iter-loops.result)) _ c.loop-innermost.tally all.0 all.1);
    }
