use Rattle.std.proofs.Common.{◌≡◌, ◌<◌, List, length, get_or, sym, ap, ◌∙◌, arith}
use Rattle.std.proofs.lemmas.Bool.{true≢false}
use Rattle.std.proofs.lemmas.List.{take_more_same, get_or_default}
use Rattle.machine_data.specs.declared.alternative.Row.{Row}
use Rattle.machine_data.proofs.alternative.are_same.Goals as goal

pub returns-then-not-are_same_rows : goal.returns-then-not-are_same_rows
returns-then-not-are_same_rows c =
    let xs : List (List Row) = c.args.some.now in
    let ys : List (List Row) = c.args.others.now in
    let a : List Row = c.index-some-i.result in
    let b : List Row = c.index-others-i.result in
    let within : c.loop-i.i < length xs = omega arith in
    let also : c.loop-i.i < length ys = omega arith in (
      λ h. absurd (true≢false (sym h)),
      λ e.
          let same : a ≡ b = c.index-some-i.is ∙ ap (λ zs. get_or zs c.loop-i.i a) e ∙ get_or_default ys c.loop-i.i a b also ∙ sym c.index-others-i.is in
          absurd (true≢false (sym (c.are_same_rows.ensures.1 (c.rows.ensures.value ∙ same ∙ sym c.rows-in-loop-i.ensures.value)) ∙ c.if-not-are_same_rows.true)),
    )

pub loop-i-preserved : goal.loop-i-preserved
loop-i-preserved c =
    let xs : List (List Row) = c.args.some.now in
    let ys : List (List Row) = c.args.others.now in
    let a : List Row = c.index-some-i.result in
    let b : List Row = c.index-others-i.result in
    let within : c.loop-i.i < length xs = omega arith in
    let also : c.loop-i.i < length ys = omega arith in
    let same : a ≡ b = sym c.rows.ensures.value ∙ c.are_same_rows.ensures.0 c.if-not-are_same_rows.false ∙ c.rows-in-loop-i.ensures.value in
    take_more_same xs ys c.loop-i.i a within also c.loop-i.invariant (sym c.index-some-i.is ∙ same ∙ c.index-others-i.is ∙ get_or_default ys c.loop-i.i b a also)
