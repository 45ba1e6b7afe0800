use Rattle.std.proofs.Common.{◌≡◌, ◌<◌, ◌+◌, ℕ, List, ◌∷◌, max, length, get_or, map, drop, sym, ap, ◌∙◌, arith}
use Rattle.std.specs.Prelude.{slice_index}
use Rattle.std.proofs.lemmas.List.{length-set}
use Rattle.std.proofs.lemmas.List.Elements.{All-get_or}
use Rattle.registers.specs.declared.value.Read.{Read}
use Rattle.registers.specs.Values.{IsRead, greatest_of, read_at, reads_of}
use Rattle.registers.proofs.lives.Listed.{drop-at, raised}
use Rattle.registers.proofs.values.lives.raise_reads.Goals as goal

pub loop-k-preserved : goal.loop-k-preserved
loop-k-preserved c =
    let none : Read = record { value = 0; reader = 0; distance = 0; offset = 0 } in
    let reads : List Read = c.args.reads.now in
    let k : ℕ = c.loop-k.k in
    let x : Read = get_or reads k none in
    let t : k < length reads = c.loop-k-test.true in
    let at : drop k reads ≡ x ∷ drop (k + 1) reads = drop-at reads k none t in
    let there = (All-get_or (IsRead (length c.args.times.now) 256) reads k none t c.requires.reads).value in
    let i = c.loop-k.invariant in
    let long_carried = i.0 in
    let long_ends = i.1 in (
      length-set c.loop-k.carried x.value c.max.result ∙ i.0,
      length-set c.loop-k.ends x.value c.max-in-loop-k.result ∙ i.1,
      λ v lt. raised (λ (r : Read). r.distance) c.loop-k.carried x (drop (k + 1) reads) c.max.result (omega arith) c.max.ensures v
          ∙ ap (λ (rs : List Read). max (slice_index c.loop-k.carried v) (greatest_of (map (λ (r : Read). r.distance) (reads_of rs v)))) (sym at) ∙ i.2 v lt,
      λ v lt. raised (λ (r : Read). read_at c.args.ii c.args.times.now r + 1) c.loop-k.ends x (drop (k + 1) reads) c.max-in-loop-k.result (omega arith) c.max-in-loop-k.ensures v
          ∙ ap (λ (rs : List Read). max (slice_index c.loop-k.ends v) (greatest_of (map (λ (r : Read). read_at c.args.ii c.args.times.now r + 1) (reads_of rs v)))) (sym at) ∙ i.3 v lt,
    )
