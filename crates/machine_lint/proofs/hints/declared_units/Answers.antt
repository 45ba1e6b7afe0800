use Rattle.std.proofs.Common.{◌≡◌, ◌∙◌}
use Rattle.std.proofs.lemmas.Result.{IfOk-weaker}
use Rattle.machine_lint.specs.Hints.{declared_units}
use Rattle.machine_lint.proofs.Declared.{units_parsed}
use Rattle.machine_lint.proofs.hints.declared_units.Goals as goal

pub returns-in-Ok-table_from_str : goal.returns-in-Ok-table_from_str
returns-in-Ok-table_from_str c =
    let utf8 = c.in-Ok.ensures.cases in
    let parsed = rw utf8.0 at c.in-Ok-table_from_str.ensures.ok in
    IfOk-weaker c.units_in.result _ (λ units. units.items ≡ declared_units c.args.text.now)
    (λ units are. are ∙ units_parsed c.args.text.now _ c.if-text-gt-MAX_TEXT.false utf8.1 parsed) c.units_in.ensures
