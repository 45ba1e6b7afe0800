use Rattle.std.proofs.Common.{◌≡◌, ℕ, ◌+◌, ◌-◌, ◌<◌, ap, sym, ◌∙◌, arith, length, get_or, rules, slice_index, slice_set, subst}
use Rattle.std.proofs.lemmas.List.{get_or-map, length-map, length-set}
use Rattle.registers.specs.declared.value.Read.{Read}
use Rattle.solution_text.specs.inner.Chains.{AreChained, readers_of}
use Rattle.solution_text.proofs.Chaining.{chained-more, chained-none}
use Rattle.solution_text.proofs.chains.chain_reads.Goals as goal

pub loop-number-init : goal.loop-number-init
loop-number-init c =
    let reads = c.args.reads.now in
    let count : length (readers_of reads) ≡ length reads = length-map reads (λ (r : Read). r.reader) in
    let filled = c.fill.ensures.after (λ y h. search rules) in
    (omega arith, omega arith, chained-none (readers_of reads) c.fill.new.self c.args.nexts.now (length c.args.firsts.now) (length reads) (c.requires.each ∙ sym count) (sym count) filled)

pub loop-number-preserved : goal.loop-number-preserved
loop-number-preserved c =
    let reads = c.args.reads.now in
    let firsts = c.loop-number.firsts in
    let nexts = c.loop-number.nexts in
    let owners = readers_of reads in
    let k : ℕ = c.loop-number.number - 1 in
    let d : Read = record { value = 0; reader = 0; distance = 0; offset = 0 } in
    let at_most = c.loop-number.invariant.0 in
    let some : 0 < c.loop-number.number = omega arith in
    let count : length owners ≡ length reads = length-map reads (λ (r : Read). r.reader) in
    let same : slice_index owners k ≡ (get_or reads k d).reader = get_or-map (λ (r : Read). r.reader) reads k d 0 (omega arith) in
    let low : (get_or reads k d).reader < length c.args.firsts.now = c.requires.readers k d (omega arith) in
    let long = c.loop-number.invariant.1 in
    let filled = c.fill.ensures.len in
    let one : c.loop-number.number ≡ k + 1 = omega arith in
    let was : AreChained owners (k + 1) firsts nexts = subst (λ n. AreChained owners n firsts nexts) one c.loop-number.invariant.2 in
    let more = chained-more owners firsts nexts k (omega arith) (omega (arith, same, low, long, filled)) was in
    let new_firsts : c.link.new.firsts ≡ slice_set firsts (slice_index owners k) k = c.link.ensures.firsts ∙ ap (λ o. slice_set firsts o k) (sym same) in
    let new_nexts : c.link.new.nexts ≡ slice_set nexts k (slice_index firsts (slice_index owners k))
    = c.link.ensures.nexts ∙ ap (λ o. slice_set nexts k (slice_index firsts o)) (sym same) in (
      omega arith,
      ap length new_firsts ∙ length-set firsts (slice_index owners k) k ∙ long,
      subst (λ fs. AreChained owners k fs c.link.new.nexts) (sym new_firsts)
          (subst (λ ns. AreChained owners k (slice_set firsts (slice_index owners k) k) ns) (sym new_nexts) more),
    )
