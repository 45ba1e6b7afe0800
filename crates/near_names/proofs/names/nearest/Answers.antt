use Rattle.std.proofs.Common.{◌≡◌, arith, map, option_map, subst, sym}
use Rattle.std.proofs.lemmas.Grind.{common_steps}
use Rattle.near_names.specs.Nearest.{IsNearest, first_too_far, nearest}
use Rattle.near_names.proofs.Closest.{is_nearest}
use Rattle.near_names.proofs.names.nearest.Goals as goal

pub returns-clause-nearest : goal.returns-clause-nearest
returns-clause-nearest c =
    let names = map (λ n. n.now) c.args.names.now in
    let same : option_map (λ n. n.now) c.loop-name.best ≡ nearest c.args.word.now names = grind (arith, common_steps) in
    subst (IsNearest c.args.word.now names) (sym same) (is_nearest c.args.word.now (first_too_far c.args.word.now) names)
