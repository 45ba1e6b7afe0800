use Rattle.std.proofs.Common.{◌≡◌, ◌++◌, ◌≤◌, ℕ, List, Vec, map, true, false, sym, ap, ◌∙◌, arith}
use Rattle.std.proofs.lemmas.List.{append-nil}
use Rattle.std.specs.Global.{Global}
use Rattle.lower_bounds.proofs.Texts.{numbered-more}
use Rattle.reason_lines.specs.Runs.{ends_run, run_at}
use Rattle.reason_lines.proofs.Running.{run-ended, run-goes_on, start-ended, start-goes_on, why-at}
use Rattle.reason_lines.proofs.runs.push_runs.Goals as goal
use Rattle.reason_lines.proofs.runs.push_runs.Goals.{then-ends+in_ok-push_run, else-ends}

pub loop-number-preserved : goal.loop-number-preserved
loop-number-preserved c =
    let whys : List (List ℕ) = map (λ (why : Vec ℕ Global). why.items) c.args.whys.now in
    let least = c.args.least in
    let number = c.loop-number.number in
    let here = c.loop-number.text.items in
    elim c.if-ends.branch [
      | then-ends+in_ok-push_run w ↦
          (let ended : ends_run whys number ≡ true = sym c.ends.ensures ∙ w.if-ends.true in
          rw (w.start-is, w.text-is) (record {
            start = sym (start-ended whys number ended);
            within = omega arith;
            text = numbered-more (run_at least whys) c.args.text.now.items here _ number c.loop-number.invariant.text
                (w.in_ok-push_run.ensures.ok
                ∙ ap (λ (t : List ℕ). here ++ t) (run-ended least whys number c.loop-number.start w.as_slice.result.now ended c.loop-number.invariant.start
                (w.as_slice.ensures.value ∙ why-at c.args.whys.now number w.index-whys-number.result c.loop-number-test.true w.index-whys-number.is)));
          }))
      | else-ends w ↦
          (let on : ends_run whys number ≡ false = sym c.ends.ensures ∙ w.if-ends.false in
          rw (w.start-is, w.text-is) (record {
            start = c.loop-number.invariant.start ∙ sym (start-goes_on whys number on);
            within = let l : c.loop-number.start ≤ number = c.loop-number.invariant.within in omega arith;
            text = numbered-more (run_at least whys) c.args.text.now.items here here number c.loop-number.invariant.text
                (sym (append-nil here) ∙ ap (λ (t : List ℕ). here ++ t) (run-goes_on least whys number on));
          }))
    ]
