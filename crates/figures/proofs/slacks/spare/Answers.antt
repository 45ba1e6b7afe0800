use Rattle.std.proofs.Common.{◌≡◌, ◌≤◌, ◌*◌, ap, ◌∙◌, arith}
use Rattle.std.proofs.lemmas.Int.{ints}
use Rattle.std.proofs.Math.Nat.{mul-le-mul}
use Rattle.figures.proofs.slacks.spare.Goals as goal

pub overflow_cast-result-2 : goal.overflow_cast-result-2
overflow_cast-result-2 c =
    let s = c.args.schedule.now in
    let few = c.ii.ensures.well_formed.ii_few in
    let distance : c.from.result ≤ 255 = omega arith in
    let product : c.ii.result * c.from.result ≤ 16384 * 255 = mul-le-mul (let e = c.ii.ensures.value in let h : c.ii.result ≤ 16384 = omega arith in h) distance in
    let same : c.ii.result * c.from.result ≡ s.ii * c.args.edge.distance = ap (λ n. n * c.from.result) c.ii.ensures.value ∙ ap (λ n. s.ii * n) c.from.ensures in
    let kept = c.requires.kept in
    omega (arith, ints)

pub returns : goal.returns
returns c =
    let s = c.args.schedule.now in
    let few = c.ii.ensures.well_formed.ii_few in
    let distance : c.from.result ≤ 255 = omega arith in
    let product : c.ii.result * c.from.result ≤ 16384 * 255 = mul-le-mul (let e = c.ii.ensures.value in let h : c.ii.result ≤ 16384 = omega arith in h) distance in
    let same : c.ii.result * c.from.result ≡ s.ii * c.args.edge.distance = ap (λ n. n * c.from.result) c.ii.ensures.value ∙ ap (λ n. s.ii * n) c.from.ensures in
    let kept = c.requires.kept in
    omega (arith, ints)
