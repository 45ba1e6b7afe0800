use Rattle.std.proofs.Common.{◌++◌, map, refl}
use Rattle.std.proofs.lemmas.Result.{on_ok_weaker}
use Rattle.writing.proofs.Beginnings.{two_pushed}
use Rattle.loop_schedules.specs.Problems.{mii_of}
use Rattle.reason_lines.specs.Runs.{runs_text}
use Rattle.explain.specs.Tries.{why_text}
use Rattle.explain.proofs.intervals.tries.push_tries.Goals as goal

pub returns : goal.returns
returns c =
    let p = c.args.prepared.now in
    let told = c.requires.told in
    let reasons = c.args.told.now.reasons.items in
    let lines = runs_text (mii_of p) (map (why_text p.loop) reasons) in
    record {
      ok = on_ok_weaker c.push_end.result
          (λ end. (
            lines ++ end.0,
            record { is_choice = told.is_choice; reasons = reasons; are_reasons = told.are_reasons; tell_needs = told.tell_needs; end = end.0; is_end = end.1; is_text = refl },
            two_pushed c.args.text.now.items lines end.0 c.push_failures.new.text.items c.push_end.new.text.items c.in_ok-push_failures.ensures.ok end.2,
          ))
          c.push_end.ensures.ok;
    }
