use Rattle.std.proofs.Common.{◌≡◌, ℕ, ◌+◌, ◌<◌, ◌≤◌, List, ap, sym, ◌∙◌, arith, length, slice_index, subst}
use Rattle.std.proofs.lemmas.List.{get_or-map, length-map}
use Rattle.schedules.specs.Schedules.{stage_of}
use Rattle.solutions.specs.Solutions.{schedule_of}
use Rattle.problems.specs.declared.draft.Draft.{Draft}
use Rattle.problems.specs.Problems.{ProblemData}
use Rattle.registers.specs.declared.value.Read.{Read}
use Rattle.solution_text.specs.inner.Chains.{AreChained, IsNext, readers_of}
use Rattle.solution_text.proofs.Owned.{no_read, reads-begin, reads-more}
use Rattle.solution_text.proofs.uses.push_read_registers.Goals as goal

-- the chains, of the reads as they are called here
of-reads : (rs reads : List Read) (firsts nexts : List ℕ) → reads ≡ rs → AreChained (readers_of rs) 0 firsts nexts → AreChained (readers_of reads) 0 firsts nexts
of-reads rs reads firsts nexts same c = subst (λ (xs : List Read). AreChained (readers_of xs) 0 firsts nexts) (sym same) c

pub loop-at-init : goal.loop-at-init
loop-at-init c =
    let s = c.args.solution.now in
    let reads = c.as_slice-reads.result.now in
    let same : reads ≡ s.problem.draft.reads.items
    = c.as_slice-reads.ensures.value ∙ ap (λ (d : Draft). d.reads.items) (c.draft.ensures.value ∙ ap (λ (p : ProblemData). p.draft) c.problem.ensures.value) in
    let chained = of-reads s.problem.draft.reads.items reads c.args.of_readers.firsts.now c.args.of_readers.nexts.now same c.requires.chained in
    let each = c.requires.each in
    let first : IsNext (readers_of reads) c.args.op 0 c.first-at.result
    = subst (IsNext (readers_of reads) c.args.op 0) (sym c.first-at.ensures) (chained.first c.args.op (omega arith)) in
    let high : c.first-at.result ≤ length (readers_of reads) = first.high in
    let count : length (readers_of reads) ≡ length reads = length-map reads (λ (r : Read). r.reader) in
    record {
      within = omega arith;
      own = λ lt. first.here (omega arith);
      pushed = reads-begin s c.args.op c.first-at.result reads c.args.text.now.items first;
    }

pub push_source-requires-clause-stage : goal.push_source-requires-clause-stage
push_source-requires-clause-stage c =
    let reads = c.as_slice-reads.result.now in
    let lt : c.loop-at.at < length reads = c.loop-at-test.true in
    c.stage_of-stage.ensures.value ∙ ap (λ op. stage_of (schedule_of c.args.solution.now) op)
    (sym (c.loop-at.invariant.own lt) ∙ get_or-map (λ (r : Read). r.reader) reads c.loop-at.at no_read 0 lt)

pub next-at-requires : goal.next-at-requires
next-at-requires c =
    let s = c.args.solution.now in
    let reads = c.as_slice-reads.result.now in
    let same : reads ≡ s.problem.draft.reads.items
    = c.as_slice-reads.ensures.value ∙ ap (λ (d : Draft). d.reads.items) (c.draft.ensures.value ∙ ap (λ (p : ProblemData). p.draft) c.problem.ensures.value) in
    let chained = of-reads s.problem.draft.reads.items reads c.args.of_readers.firsts.now c.args.of_readers.nexts.now same c.requires.chained in
    let each : length c.args.of_readers.nexts.now ≡ length (readers_of reads) = chained.each in
    let count : length (readers_of reads) ≡ length reads = length-map reads (λ (r : Read). r.reader) in
    let lt : c.loop-at.at < length reads = c.loop-at-test.true in
    omega arith

-- what the next read is
pub loop-at-preserved : goal.loop-at-preserved
loop-at-preserved c =
    let s = c.args.solution.now in
    let reads = c.as_slice-reads.result.now in
    let at : ℕ = c.loop-at.at in
    let op : ℕ = c.args.op in
    let same : reads ≡ s.problem.draft.reads.items
    = c.as_slice-reads.ensures.value ∙ ap (λ (d : Draft). d.reads.items) (c.draft.ensures.value ∙ ap (λ (p : ProblemData). p.draft) c.problem.ensures.value) in
    let chained = of-reads s.problem.draft.reads.items reads c.args.of_readers.firsts.now c.args.of_readers.nexts.now same c.requires.chained in
    let count : length (readers_of reads) ≡ length reads = length-map reads (λ (r : Read). r.reader) in
    let lt : at < length reads = c.loop-at-test.true in
    let own : slice_index (readers_of reads) at ≡ op = c.loop-at.invariant.own lt in
    let next : IsNext (readers_of reads) op (at + 1) c.next-at.result
    = subst (IsNext (readers_of reads) op (at + 1)) (sym c.next-at.ensures)
    (subst (λ o. IsNext (readers_of reads) o (at + 1) (slice_index c.args.of_readers.nexts.now at)) own (chained.next at (omega arith) (omega arith))) in
    let high : c.next-at.result ≤ length (readers_of reads) = next.high in
    record {
      within = omega arith;
      own = λ more. next.here (omega arith);
      pushed = reads-more s op at c.next-at.result reads c.args.text.now.items c.loop-at.text.items c.push_source.new.text.items no_read lt
          (sym (get_or-map (λ (r : Read). r.reader) reads at no_read 0 lt) ∙ own) c.loop-at.invariant.pushed c.in_ok-push_source.ensures.ok next;
    }

pub loop-at-smaller : goal.loop-at-smaller
loop-at-smaller c =
    let s = c.args.solution.now in
    let reads = c.as_slice-reads.result.now in
    let same : reads ≡ s.problem.draft.reads.items
    = c.as_slice-reads.ensures.value ∙ ap (λ (d : Draft). d.reads.items) (c.draft.ensures.value ∙ ap (λ (p : ProblemData). p.draft) c.problem.ensures.value) in
    let chained = of-reads s.problem.draft.reads.items reads c.args.of_readers.firsts.now c.args.of_readers.nexts.now same c.requires.chained in
    let count : length (readers_of reads) ≡ length reads = length-map reads (λ (r : Read). r.reader) in
    let lt : c.loop-at.at < length reads = c.loop-at-test.true in
    let next : IsNext (readers_of reads) (slice_index (readers_of reads) c.loop-at.at) (c.loop-at.at + 1) (slice_index c.args.of_readers.nexts.now c.loop-at.at)
    = chained.next c.loop-at.at (omega arith) (omega arith) in
    let low : c.loop-at.at + 1 ≤ slice_index c.args.of_readers.nexts.now c.loop-at.at = next.low in
    let e : c.next-at.result ≡ slice_index c.args.of_readers.nexts.now c.loop-at.at = c.next-at.ensures in
    omega arith
