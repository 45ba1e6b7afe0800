use Rattle.std.proofs.Common.{rules, ◌≡◌, ◌+◌, ◌-◌, ◌<◌, ◌≤◌, length, get_or, Some, None, refl, arith}
use Rattle.std.proofs.lemmas.Option.{slice_get_read}
use Rattle.std.specs.List.{slice_get}
use Rattle.graph.specs.inner.SameArrays.{IsLink}
use Rattle.graph.proofs.finding.Found.{GainsEdges-none, meetings-pushed, meetings-passed}
use Rattle.graph.proofs.finding.SameArrays.{meetings-skipped, next-link, touches-also}
use Rattle.graph.proofs.dependence.collect.push_meetings.Goals as goal
use Rattle.graph.proofs.dependence.collect.push_meetings.Goals.{in-Some-memory_edge+in_ok-push, in_default-memory_edge}

pub loop-from-init : goal.loop-from-init
loop-from-init c =
    let array : c.in-Some.place.array < 256 = search rules in
    let there : slice_get c.args.statements.now c.args.to ≡ Some c.index-statements-to.result
    = slice_get_read c.args.statements.now (length c.args.statements.now) c.args.to c.index-statements-to.result refl c.requires.to_in c.index-statements-to.is in
    let link : IsLink c.args.statements.now c.in-Some.place.array 0 (get_or c.args.same.now.first c.in-Some.place.array 0)
    = c.requires.linked.first_of c.in-Some.place.array array in
    record {
      touches = touches-also c.args.statements.now c.index-statements-to.result c.in-Some.place _ c.in-Some.is link.touches;
      collected = (
        GainsEdges-none c.args.statements.now c.args.latencies.now c.args.list.now.items,
        meetings-skipped c.args.statements.now c.args.latencies.now c.args.to 0 _ c.index-statements-to.result c.in-Some.place c.args.list.now.items there c.in-Some.is link.skips
            (λ e to_is below meets. absurd (omega arith)),
      );
    }

pub loop-from-smaller : goal.loop-from-smaller
loop-from-smaller c =
    let at : slice_get c.args.statements.now c.loop-from.from ≡ Some c.index-statements-from.result
    = slice_get_read c.args.statements.now (length c.args.statements.now) c.loop-from.from c.index-statements-from.result refl c.loop-from-test.true c.index-statements-from.is in
    let link : IsLink c.args.statements.now c.in-Some.place.array (c.loop-from.from + 1) (get_or c.args.same.now.next c.loop-from.from 0)
    = next-link c.args.statements.now c.args.same.now.first c.args.same.now.next c.in-Some.place.array c.loop-from.from c.index-statements-from.result
    c.requires.linked at (c.loop-from.invariant.touches c.in-Some.place c.in-Some.is c.index-statements-from.result at) in
    let following : c.loop-from.from + 1 ≤ get_or c.args.same.now.next c.loop-from.from 0 = link.following in
    let within : c.loop-from.from < length c.args.statements.now = c.loop-from-test.true in
    let less : length c.args.statements.now - get_or c.args.same.now.next c.loop-from.from 0 < length c.args.statements.now - c.loop-from.from = omega arith in
    less

pub loop-from-preserved : goal.loop-from-preserved
loop-from-preserved c =
    let at : slice_get c.args.statements.now c.loop-from.from ≡ Some c.index-statements-from.result
    = slice_get_read c.args.statements.now (length c.args.statements.now) c.loop-from.from c.index-statements-from.result refl c.loop-from-test.true c.index-statements-from.is in
    let there : slice_get c.args.statements.now c.args.to ≡ Some c.index-statements-to.result
    = slice_get_read c.args.statements.now (length c.args.statements.now) c.args.to c.index-statements-to.result refl c.requires.to_in c.index-statements-to.is in
    let link : IsLink c.args.statements.now c.in-Some.place.array (c.loop-from.from + 1) (get_or c.args.same.now.next c.loop-from.from 0)
    = next-link c.args.statements.now c.args.same.now.first c.args.same.now.next c.in-Some.place.array c.loop-from.from c.index-statements-from.result
    c.requires.linked at (c.loop-from.invariant.touches c.in-Some.place c.in-Some.is c.index-statements-from.result at) in
    record {
      touches = touches-also c.args.statements.now c.index-statements-to.result c.in-Some.place _ c.in-Some.is link.touches;
      collected = elim c.match-memory_edge.branch [
        | in-Some-memory_edge+in_ok-push w ↦ rw (w.list-is, w.in_ok-push.ensures.items)
            (let both = meetings-pushed c.args.statements.now c.args.latencies.now c.args.to c.loop-from.from c.index-statements-from.result c.index-statements-to.result w.in-Some-memory_edge.edge
            c.args.list.now.items c.loop-from.list.items at there w.in-Some-memory_edge.ensures.sound w.in-Some-memory_edge.ensures.complete c.loop-from.invariant.collected in (
              both.0,
              meetings-skipped c.args.statements.now c.args.latencies.now c.args.to (c.loop-from.from + 1) _ c.index-statements-to.result c.in-Some.place _ there c.in-Some.is link.skips both.1,
            ))
        | in_default-memory_edge w ↦ rw w.list-is
            (let both = meetings-passed c.args.statements.now c.args.latencies.now c.args.to c.loop-from.from c.index-statements-from.result c.index-statements-to.result
            c.args.list.now.items c.loop-from.list.items at there
            (λ e h. let none : None ≡ Some e = w.in_default-memory_edge.ensures.complete e h in cc) c.loop-from.invariant.collected in (
              both.0,
              meetings-skipped c.args.statements.now c.args.latencies.now c.args.to (c.loop-from.from + 1) _ c.index-statements-to.result c.in-Some.place c.loop-from.list.items there c.in-Some.is link.skips both.1,
            ))
      ];
    }
