use Rattle.std.proofs.Common.{◌≡◌, ◌≤◌, ◌<◌, length, true, ap, sym, ◌∙◌, arith}
use Rattle.machine_lint.specs.inner.Sought.{begins, nth, texts}
use Rattle.machine_lint.proofs.InOrder.{nth-texts}
use Rattle.machine_lint.proofs.sought.words.most_from.Goals as goal

pub returns-in-Some : goal.returns-in-Some
returns-in-Some c = λ j part first.
    let low : c.in-Some.number < length c.args.links.now = rw c.in-Some.is at c.requires.from in
    let few : length c.args.links.now ≤ length c.args.words.now = c.requires.few in
    let inside : c.in-Some.number < length c.args.words.now = omega (arith, low, few) in
    let reached : (j ≤ c.in-Some.number) × (begins (nth (texts c.args.words.now) j) (nth (texts c.args.words.now) c.in-Some.number) ≡ true) = rw c.in-Some.is at part in
    c.most_of.ensures (nth (texts c.args.words.now) j) (sym (ap (λ t. begins (nth (texts c.args.words.now) j) t) (nth-texts c.args.words.now c.in-Some.number _ inside)) ∙ reached.1) first
