use Rattle.std.proofs.Common.{◌∙◌, sym}
use Rattle.loop_lint.proofs.Fitting.{place_bare, place_else, place_open, place_then}
use Rattle.loop_lint.proofs.fits.is_place.Goals as goal

pub returns-in_default : goal.returns-in_default
returns-in_default c = sym (place_bare c.args.word.now c.in_default.ensures)

pub returns-in-None : goal.returns-in-None
returns-in-None c = sym (place_open c.args.word.now c.in-Some.rest.now c.in-Some.ensures.2 c.in-None.ensures)

pub returns-then-is_name : goal.returns-then-is_name
returns-then-is_name c =
    let bracket = c.in-Some-before_bracket.ensures in
    c.is_subscript.ensures
    ∙ sym (place_then c.args.word.now c.in-Some.name.now c.in-Some.rest.now c.in-Some-before_bracket.inner.now c.in-Some.ensures.1 c.in-Some.ensures.2 (sym c.is_name.ensures ∙ c.if-is_name.true) bracket.0 bracket.1)

pub returns-else-is_name : goal.returns-else-is_name
returns-else-is_name c = c.if-is_name.false ∙ sym (place_else c.args.word.now c.in-Some.name.now c.in-Some.ensures.1 (sym c.is_name.ensures ∙ c.if-is_name.false))
