use Rattle.std.proofs.Common.{rules, ◌≡◌, ◌<◌, pos, ◌+ℤ◌, Some, None, inl, inr, sym, ap, ◌∙◌, subst, to_z, of_z, w8}
use Rattle.std.proofs.lemmas.Int.{to_z-of_z}
use mir.Val.{SFits}
use Rattle.graph.specs.Subscripts.{IsMemoryEdge}
use Rattle.edges.specs.Edges.{EdgeData}
use Rattle.graph.proofs.finding.Found.{memory_edge-sound, memory_edge-complete}
use Rattle.graph.proofs.dependence.collect.memory_edge.Goals as goal

pub returns-in_err-delay-clause-complete : goal.returns-in_err-delay-clause-complete
returns-in_err-delay-clause-complete c = λ e h.
    let none : None ≡ Some e.delay = c.in_err-delay.ensures.complete e.delay h.delay in cc

far : (c : goal.In_ok-delay) → c.in-Some-Some.place.offset ≡ (c.in-Some-Some.later.offset +ℤ pos c.in_ok-distance.distance)
far c =
    let a : SFits w8 c.in-Some-Some.place.offset = search rules in
    let b : SFits w8 c.in-Some-Some.later.offset = search rules in
    sym (to_z-of_z w8 c.in-Some-Some.place.offset a) ∙ c.in_ok-distance.ensures.sound
    ∙ ap (λ z. z +ℤ pos c.in_ok-distance.distance) (to_z-of_z w8 c.in-Some-Some.later.offset b)

same : (c : goal.In_ok-delay) → to_z w8 (of_z w8 c.in_ok-delay.delay) ≡ c.in_ok-delay.delay
same c = let a : SFits w8 c.in_ok-delay.delay = search rules in to_z-of_z w8 c.in_ok-delay.delay a

pub returns-clause-sound : goal.returns-clause-sound
returns-clause-sound c =
    let order : c.in_ok-distance.distance ≡ 0 → c.args.from < c.args.to = λ e. elim c.if-from-to.either [ inl h ↦ h.1 | inr h ↦ absurd (h e) ] in
    subst (λ z. IsMemoryEdge c.args.latencies.now c.args.from c.args.first.now c.args.to c.args.second.now
    (record { from = c.args.from; to = c.args.to; distance = c.in_ok-distance.distance; delay = z })) (sym (same c))
    (memory_edge-sound c.args.latencies.now c.args.from c.args.first.now c.args.to c.args.second.now c.in-Some-Some.place c.in-Some-Some.later
    c.in_ok-distance.distance c.in_ok-delay.delay c.in-Some-Some.is-0 c.in-Some-Some.is-1 c.if-place-later.false (far c) order c.in_ok-delay.ensures.sound)

pub returns-clause-complete : goal.returns-clause-complete
returns-clause-complete c = λ e h.
    ap (λ z. let edge : EdgeData = record { from = c.args.from; to = c.args.to; distance = c.in_ok-distance.distance; delay = z } in Some edge) (same c)
    ∙ memory_edge-complete c.args.latencies.now c.args.from c.args.first.now c.args.to c.args.second.now c.in-Some-Some.place c.in-Some-Some.later
    c.in_ok-distance.distance c.in_ok-delay.delay c.in-Some-Some.is-0 c.in-Some-Some.is-1 (far c) c.in_ok-delay.ensures.complete e h
