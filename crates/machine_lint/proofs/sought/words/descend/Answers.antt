use Rattle.std.proofs.Common.{◌≡◌, ◌<◌, ◌≤◌, ℕ, List, Option, None, get_or, length, true, sym, ◌∙◌, arith}
use Rattle.std.proofs.lemmas.Bool.{false≢true}
use Rattle.machine_lint.specs.inner.Sought.{IsLink, begins, nth, texts}
use Rattle.machine_lint.proofs.InOrder.{link-inside, nth-texts, pass-on, pass-part, reach-self}
use Rattle.machine_lint.proofs.sought.words.descend.Goals as goal

pub loop-now-init : goal.loop-now-init
loop-now-init c = record {
  inside = c.requires.from;
  part = reach-self (texts c.args.words.now) c.args.from;
  others = λ j first part. part;
}

pub loop-now-preserved : goal.loop-now-preserved
loop-now-preserved c =
    let words : List (List ℕ) = texts c.args.words.now in
    let k : ℕ = c.in-Some.number in
    let link : Option ℕ = get_or c.args.links.now k None in
    let here : k < length c.args.links.now = rw c.in-Some.is at c.loop-now.invariant.inside in
    let few : length c.args.links.now ≤ length c.args.words.now = c.requires.few in
    let inside : k < length c.args.words.now = omega (arith, here, few) in
    let linked : IsLink words k link = c.requires.links k here in
    let spelled = nth-texts c.args.words.now k _ inside in
    let fails : begins (nth words k) c.args.text.now ≡ true → ⊥ = λ first.
    false≢true (sym (sym c.begins_within.ensures ∙ c.if-begins_within.false) ∙ (rw spelled at first)) in
    record {
      inside = link-inside words k (length c.args.links.now) link linked here;
      part = pass-part words k c.args.from link linked (rw c.in-Some.is at c.loop-now.invariant.part);
      others = pass-on words c.args.text.now k c.args.from link linked fails (rw c.in-Some.is at c.loop-now.invariant.others);
    }

pub begins_within-requires : goal.begins_within-requires
begins_within-requires c = λ first.
    let k : ℕ = c.in-Some.number in
    let here : k < length c.args.links.now = rw c.in-Some.is at c.loop-now.invariant.inside in
    let few : length c.args.links.now ≤ length c.args.words.now = c.requires.few in
    let spelled = nth-texts c.args.words.now k _ (omega (arith, here, few)) in
    rw spelled at (c.most_from-most.ensures k (rw c.in-Some.is at c.loop-now.invariant.part) (rw spelled first))
