use Rattle.std.proofs.Common.{◌≡◌, ap, ◌*◌, ◌≤◌, inr, arith}
use Rattle.std.proofs.lemmas.Int.{ints}
use Rattle.std.proofs.Math.Nat.{mul-le-mul}
use Rattle.schedules.proofs.demands.demand.Goals as goal

pub returns-else-least-lt0-clause-exact : goal.returns-else-least-lt0-clause-exact
returns-else-least-lt0-clause-exact c =
    let distance : c.from.result ≤ 255 = omega arith in
    let product : c.args.ii * c.from.result ≤ 16384 * 255 = mul-le-mul c.requires.ii distance in
    let same : c.args.ii * c.from.result ≡ c.args.ii * c.args.edge.distance = ap (λ n. c.args.ii * n) c.from.ensures in
    record { kept = omega (arith, ints); tight = inr (omega (arith, ints)) }
