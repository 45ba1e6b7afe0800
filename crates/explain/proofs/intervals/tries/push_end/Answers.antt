use Rattle.std.proofs.Common.{◌-◌, ◌≤◌, ◌++◌, ℕ, List, ap, subst}
use Rattle.std.specs.List.{AllZip, range_with_len}
use Rattle.std.proofs.lemmas.Result.{on_ok_weaker}
use Rattle.loop_schedules.specs.Problems.{mii_of}
use Rattle.told_choices.specs.declared.why.Why.{Why}
use Rattle.told_choices.specs.Whys.{FailsAs}
use Rattle.told_choices.specs.Holds.{IsHold}
use Rattle.told_choices.specs.Told.{choice_of}
use Rattle.reason_lines.specs.Least.{least_line}
use Rattle.explain.specs.Tries.{hold_line, kernel_line}
use Rattle.explain.proofs.Tried.{met-end}
use Rattle.explain.proofs.intervals.tries.push_end.Goals as goal

pub returns-in-Met : goal.returns-in-Met
returns-in-Met c =
    let p = c.args.prepared.now in
    let told = c.requires.told in
    let free = c.args.free in
    let ii = c.in-Met.ii in
    let hold = c.hold_of-hold.result in
    let reasons = c.args.told.now.reasons.items in
    let lines = kernel_line ii c.parts.result.now.stages ++ hold_line hold in
    let held : (n : ℕ) → mii_of p ≤ n → AllZip (FailsAs p) (range_with_len (mii_of p) (n - mii_of p)) reasons → IsHold p free n hold
    = subst (λ (rs : List Why). (n : ℕ) → mii_of p ≤ n → AllZip (FailsAs p) (range_with_len (mii_of p) (n - mii_of p)) rs → IsHold p free n hold) c.as_slice.ensures.value
    c.hold_of-hold.ensures.is in
    record {
      ok = on_ok_weaker c.push_met.result
          (λ e. (
            lines ++ least_line c.is_least_possible-least.result,
            met-end p c.args.need free (choice_of c.args.told.now.chosen) ii c.in-Met.met.kernel c.parts.result.now reasons hold _ (ap choice_of c.in-Met.is) c.parts.ensures.value told.is_choice
                told.are_reasons held (ap (λ b. lines ++ least_line b) c.is_least_possible-least.ensures),
            e,
          ))
          c.push_met.ensures.ok;
    }
