use Rattle.std.proofs.Common.{◌≡◌, ◌+◌, vec_len}
use Rattle.std.specs.List.{All, AllZip}
use Rattle.board_workers.specs.inner.Places.{IsDonePlace, IsReportOn}
use Rattle.board_workers.proofs.run.collect_all.Given as goal

abbrev pub invariant-loop-place : goal.invariant-loop-place
invariant-loop-place g l = AllZip (IsReportOn l._board l._loops l._pieces (g.G.Gate.always_goes_on l._gate)) l.back.passes.items l.back.reports.items
    × All (IsDonePlace l._board l._loops l._pieces (g.G.Gate.always_goes_on l._gate)) l.places.items
    × (vec_len l.back.passes + vec_len l.places ≡ vec_len l.fn.places)

abbrev pub decreases-loop-place : goal.decreases-loop-place
decreases-loop-place g l = vec_len l.places
