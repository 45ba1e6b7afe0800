use Rattle.std.proofs.Common.{map, vec_len, ap, subst, arith}
use Rattle.std.proofs.lemmas.Bool.{false≢true}
use Rattle.board.specs.declared.view.Terms.{Terms}
use Rattle.board.specs.Boards.{view_of}
use Rattle.board.specs.Closes.{words_of}
use Rattle.board.specs.Rule.{Rule}
use Rattle.candidates.proofs.OneOutcomes.{one_outcome}
use Rattle.board_workers.specs.inner.Places.{IsReportOn}
use Rattle.board_workers.proofs.Sharing.{all_passes, all_same, all_dry, all_worked, leave_nothing, zip_long}
use Rattle.board_workers.proofs.run.close.Goals as goal

pub close-requires : goal.close-requires
close-requires g c k d near same =
    all_passes c.args.board c.args.loops.now c.args.pieces.now (g.G.Gate.always_goes_on c.args._gate.now) c.args.back.passes.items c.args.back.reports.items c.requires.on k d near

pub unreachable-requires : goal.unreachable-requires
unreachable-requires g c =
    let goes_on = g.G.Gate.always_goes_on c.args._gate.now in
    let made = ap (λ (t : Terms). t.passes) c.requires.sizes in
    false≢true (c.in_default.ensures.closed.1 (
      (λ k d near. (all_passes c.args.board c.args.loops.now c.args.pieces.now goes_on c.args.back.passes.items c.args.back.reports.items c.requires.on k d near).2),
      omega arith,
    ))

pub returns-clause-same : goal.returns-clause-same
returns-clause-same g c =
    all_same c.args.board c.args.loops.now c.args.pieces.now (g.G.Gate.always_goes_on c.args._gate.now) c.args.back.passes.items c.args.back.reports.items c.requires.on

pub returns-clause-worked : goal.returns-clause-worked
returns-clause-worked g c =
    let goes_on = g.G.Gate.always_goes_on c.args._gate.now in
    let passes = c.args.back.passes.items in
    let reports = c.args.back.reports.items in
    let long = zip_long (IsReportOn c.args.board c.args.loops.now c.args.pieces.now goes_on) passes reports c.requires.on in
    let whole = c.args.back.passes.ok.0 in
    record {
      words = words_of c.in-Ok._closed;
      views = map view_of passes;
      rule = subst (λ (t : Terms). Rule t (words_of c.in-Ok._closed) (map view_of passes)) c.requires.sizes c.in-Ok.ensures.rule;
      worked = all_worked c.args.board c.args.loops.now c.args.pieces.now goes_on passes reports c.requires.on;
      each = (omega arith);
    }

pub returns-clause-ends_dry : goal.returns-clause-ends_dry
returns-clause-ends_dry g c t =
    all_dry c.args.board c.args.loops.now c.args.pieces.now (g.G.Gate.always_goes_on c.args._gate.now) t c.args.back.passes.items c.args.back.reports.items c.requires.on

pub returns-clause-left : goal.returns-clause-left
returns-clause-left g c =
    leave_nothing one_outcome c.args.loops.now c.args.pieces.now c.know_problems.ensures c.requires.ceilings c.requires.each_loop c.ceiling-ceiling.ensures.well_formed
    (vec_len c.args.back.passes) c.args.back.reports.items (returns-clause-worked g c)
