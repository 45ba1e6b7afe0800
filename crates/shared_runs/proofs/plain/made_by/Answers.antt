use Rattle.std.proofs.Common.{◌∙◌, arith, of_calls, rules}
use Rattle.shared_runs.proofs.plain.made_by.Goals as goal

pub returns-in_ok-made-in-Some : goal.returns-in_ok-made-in-Some
returns-in_ok-made-in-Some g c =
    let made = c.in_ok-made-in-Some.ensures in
    record {
      many = made.each ∙ c.in-Some.ensures.each;
      each = λ k one h. let told = (made.made k one (omega (arith, c.in-Some.ensures.each, h))).met in search (rules, of_calls, told);
    }
