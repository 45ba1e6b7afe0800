use Rattle.std.proofs.Common.{◌≡◌, ℕ, ◌<◌, List, Option, None, drop, get_or, length, slice_set, true, ap, sym, ◌∙◌}
use Rattle.std.proofs.lemmas.List.{length-map}
use Rattle.machine_lint.specs.inner.Sought.{IsLink, begins, none, nth, stepped, texts}
use Rattle.machine_lint.proofs.InOrder.{link-first, nth-texts}
use Rattle.machine_lint.proofs.Stepping.{each-done, each-more, step-none, word-inside}
use Rattle.machine_lint.proofs.sought.next.step.Goals as goal

pub returns-then-bare_before-clause-each : goal.returns-then-bare_before-clause-each
returns-then-bare_before-clause-each c = λ j inside.
    step-none c.args.here.text.now (nth (texts c.args.words.now) j) c.args.here.at (get_or c.args.nexts.now j none)
    (word-inside c.args.here.text.now (nth (texts c.args.words.now) j) c.args.here.at (sym c.bare_before.ensures ∙ c.if-bare_before.true))

pub loop-now-preserved : goal.loop-now-preserved
loop-now-preserved c =
    let words : List (List ℕ) = texts c.args.words.now in
    let k : ℕ = c.in-Some.number in
    let link : Option ℕ = get_or c.args.links.now k None in
    let here : (k < length c.args.links.now) × (begins (nth words k) (drop c.args.here.at c.args.here.text.now) ≡ true) = rw c.in-Some.is at c.loop-now.invariant.first in
    let linked : IsLink words k link = c.requires.links k here.0 in
    let size : length words ≡ length c.args.words.now = length-map c.args.words.now (λ w. w.now) in
    let all : length c.args.links.now ≡ length c.args.words.now = c.requires.linked in
    let long : length c.loop-now.nexts ≡ length c.args.nexts.now = c.loop-now.auto.nexts in
    let known : length c.args.nexts.now ≡ length c.args.words.now = c.requires.known in
    let inside : k < length c.args.words.now = rw all at here.0 in
    record {
      first = link-first words (drop c.args.here.at c.args.here.text.now) k (length c.args.links.now) link linked here.0 here.1;
      each = each-more c.args.here.text.now c.args.here.at words c.args.nexts.now c.loop-now.nexts (slice_set c.loop-now.nexts k c.noted.result) k link
          (rw size inside) (long ∙ known ∙ sym size) linked (ap (slice_set c.loop-now.nexts k) (c.noted.ensures ∙ ap (λ w. stepped c.args.here.text.now w c.args.here.at (get_or c.loop-now.nexts k none)) (sym (nth-texts c.args.words.now k _ inside)))) (rw c.in-Some.is at c.loop-now.invariant.each);
    }

pub returns-clause-each : goal.returns-clause-each
returns-clause-each c = λ j inside.
    let size : length (texts c.args.words.now) ≡ length c.args.words.now = length-map c.args.words.now (λ w. w.now) in
    each-done c.args.here.text.now c.args.here.at (texts c.args.words.now) c.args.nexts.now c.loop-now.nexts (rw c.in_default.is at c.loop-now.invariant.each) j (rw size inside)

pub noted-requires-clause-first : goal.noted-requires-clause-first
noted-requires-clause-first c =
    let words : List (List ℕ) = texts c.args.words.now in
    let k : ℕ = c.in-Some.number in
    let here : (k < length c.args.links.now) × (begins (nth words k) (drop c.args.here.at c.args.here.text.now) ≡ true) = rw c.in-Some.is at c.loop-now.invariant.first in
    let inside : k < length c.args.words.now = rw c.requires.linked at here.0 in
    ap (λ w. begins w (drop c.args.here.at c.args.here.text.now)) (sym (nth-texts c.args.words.now k _ inside)) ∙ here.1
