use Rattle.std.proofs.Common.{◌≡◌, ◌<◌, ◌+◌, ℕ, List, [], ◌∷◌, ◌++◌, false, max, length, get_or, map, take, drop, sym, ap, ◌∙◌, arith, append-nil, append_assoc}
use Rattle.std.specs.Prelude.{slice_index, if◌then◌else◌}
use Rattle.registers.specs.declared.lifetime.Lifetime.{Lifetime}
use Rattle.registers.specs.declared.value.Value.{Value}
use Rattle.registers.specs.declared.value.Read.{Read}
use Rattle.registers.specs.Values.{greatest_of, landing_of, first_cycle, live_of, lives_from, lives_of, read_at, reads_of}
use Rattle.registers.specs.inner.Lasts.{last_or}
use Rattle.registers.proofs.lives.Listed.{after-more, drop-at, drop-none, last-is, put-front, zero-at}
use Rattle.registers.proofs.values.lives.fill_lives.Goals as goal

pub loop-k-preserved : goal.loop-k-preserved
loop-k-preserved c =
    let none : Value = record { maker = 0; lands = 0; out = false } in
    let ii : ℕ = c.args.ii in
    let times : List ℕ = c.args.times.now in
    let end : ℕ = c.args.end in
    let values : List Value = c.args.values.now in
    let reads : List Read = c.args.reads.now in
    let k : ℕ = c.loop-k.k in
    let x : Value = get_or values k none in
    let t : k < length values = c.loop-k-test.true in
    let size = c.requires.values.size in
    let room = c.requires.room in
    let same = c.loop-k.auto.lives in
    let life : Lifetime = c.live_of.result in
    let at : drop k values ≡ x ∷ drop (k + 1) values = drop-at values k none t in
    let zero = zero-at 256 k in
    let far_table = c.raise_reads.ensures.carried k (omega arith) in
    let far : slice_index c.raise_reads.new.carried k ≡ greatest_of (map (λ (r : Read). r.distance) (reads_of reads k)) = omega arith in
    let after_table = c.raise_reads.ensures.ends k (omega arith) in
    let after : slice_index c.raise_reads.new.ends k ≡ greatest_of (map (λ (r : Read). read_at ii times r + 1) (reads_of reads k)) = omega arith in
    let first : life.first ≡ (live_of ii times end reads k x).first
    = c.live_of.ensures.first ∙ ap (λ n. first_cycle ii (landing_of times x) (max n (if x.out then 1 else 0))) far in
    let last : life.last ≡ (live_of ii times end reads k x).last
    = c.live_of.ensures.last ∙ ap (λ n. max (last_or (landing_of times x) n) (if x.out then end else 0)) after
    ∙ ap (λ n. max n (if x.out then end else 0)) (last-is (read_at ii times) (landing_of times x) (reads_of reads k)) in
    let lives : life ≡ live_of ii times end reads k x
    = ap (λ n. record { operation = n; first = life.first; last = life.last }) c.live_of.ensures.operation
    ∙ ap (λ n. record { operation = x.maker; first = n; last = life.last }) first
    ∙ ap (λ n. record { operation = x.maker; first = (live_of ii times end reads k x).first; last = n }) last in
    let rest : List Lifetime = lives_from ii times end reads (k + 1) (drop (k + 1) values) in
    record {
      front = ap (λ (ls : List Lifetime). ls ++ rest) (put-front c.loop-k.lives k life (omega arith))
          ∙ append_assoc (take k c.loop-k.lives) (life ∷ []) rest
          ∙ ap (λ (l : Lifetime). take k c.loop-k.lives ++ l ∷ rest) lives
          ∙ ap (λ (vs : List Value). take k c.loop-k.lives ++ lives_from ii times end reads k vs) (sym at)
          ∙ c.loop-k.invariant.front;
      rest = after-more c.loop-k.lives c.args.lives.now k life c.loop-k.invariant.rest;
    }

pub returns-clause-exact : goal.returns-clause-exact
unfolding lives_of
returns-clause-exact c =
    let values : List Value = c.args.values.now in
    let k : ℕ = c.loop-k.k in
    let t = c.loop-k-test.false in
    let m = c.loop-k.auto.k-end in
    let whole : length values ≡ k = omega arith in
    ap (λ n. take n c.loop-k.lives) whole
    ∙ sym (append-nil (take k c.loop-k.lives))
    ∙ ap (λ (vs : List Value). take k c.loop-k.lives ++ lives_from c.args.ii c.args.times.now c.args.end c.args.reads.now k vs) (sym (drop-none values k (omega arith)))
    ∙ c.loop-k.invariant.front
