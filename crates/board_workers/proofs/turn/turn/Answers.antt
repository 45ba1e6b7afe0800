use Rattle.std.proofs.Common.{sym, ap, subst, arith, ◌+◌, ◌-◌, ◌≤◌, ◌≡◌, ◌∙◌, ℕ, suc, List, slice_index_or}
use Rattle.std.proofs.lemmas.List.{get_or_read}
use Rattle.loop_schedules.specs.Problems.{ProblemData, mii_of}
use Rattle.reports.specs.Entries.{mii_at}
use Rattle.board_workers.specs.inner.Turns.{EntersOne}
use Rattle.reports.proofs.Least.{mii_there}
use Rattle.board_workers.proofs.Turning.{halfway_on, Halfway}
use Rattle.board_workers.proofs.turn.turn.Goals as goal

pub enter_one-won-requires-clause-its_loop : goal.enter_one-won-requires-clause-its_loop
enter_one-won-requires-clause-its_loop g c =
    let i = c.loop-above.invariant in
    let l : ℕ = c.args.piece.loop_number in
    let p : ProblemData = c.index-loops-piece.result in
    let loops : List ProblemData = c.args.report.now.loops in
    let is : p ≡ slice_index_or loops l p = c.index-loops-piece.is ∙ ap (λ (ps : List ProblemData). slice_index_or ps l p) (c.loops.ensures.value ∙ c.reserve.ensures.loops) in
    λ d. ap (λ (ps : List ProblemData). slice_index_or ps l d) i.1 ∙ sym (get_or_read loops l p c.requires.there is d) ∙ sym (i.6 ∙ c.of-trials.ensures)

pub enter_one-won-requires-clause-from_mii : goal.enter_one-won-requires-clause-from_mii
enter_one-won-requires-clause-from_mii g c =
    let least : mii_of c.loop-above.trials ≡ c.mii-least.result = ap mii_of (c.loop-above.invariant.6 ∙ c.of-trials.ensures) ∙ sym c.mii-least.ensures.value in
    omega arith

pub enter_one-won-requires-clause-to_last : goal.enter_one-won-requires-clause-to_last
enter_one-won-requires-clause-to_last g c =
    let l : ℕ = c.args.piece.loop_number in
    let p : ProblemData = c.index-loops-piece.result in
    let same : c.loop-above.trials ≡ p = c.loop-above.invariant.6 ∙ c.of-trials.ensures in
    let is : p ≡ slice_index_or c.args.report.now.loops l p = c.index-loops-piece.is ∙ ap (λ (ps : List ProblemData). slice_index_or ps l p) (c.loops.ensures.value ∙ c.reserve.ensures.loops) in
    let few : c.args.piece.end ≤ c.loop-above.trials.ceiling + 1 = subst (λ (q : ProblemData). c.args.piece.end ≤ q.ceiling + 1) (sym (same ∙ is)) (c.requires.end p) in
    let least : mii_of c.loop-above.trials ≡ c.mii-least.result = ap mii_of same ∙ sym c.mii-least.ensures.value in
    omega arith

pub loop-above-preserved : goal.loop-above-preserved
loop-above-preserved g c =
    let i = c.loop-above.invariant in
    let e = c.enter_one-won.ensures.entered in
    let l : ℕ = c.args.piece.loop_number in
    let s : ℕ = c.args.piece.start in
    let n : ℕ = c.loop-above.above - s in
    let low = c.loop-above.auto.above in
    let p : ProblemData = c.index-loops-piece.result in
    let is : p ≡ slice_index_or c.args.report.now.loops l p = c.index-loops-piece.is ∙ ap (λ (ps : List ProblemData). slice_index_or ps l p) (c.loops.ensures.value ∙ c.reserve.ensures.loops) in
    let least : c.mii-least.result ≡ mii_at c.loop-above.report.loops l
    = c.mii-least.ensures.value ∙ ap mii_of is ∙ mii_there c.args.report.now.loops l p c.requires.there ∙ ap (λ (ps : List ProblemData). mii_at ps l) (sym i.1) in
    let at : c.mii-least.result + c.loop-above.above ≡ mii_at c.loop-above.report.loops l + (s + n) = omega arith in
    let next : suc n ≡ c.loop-above.above + 1 - s = omega arith in
    let room = e.enters.room in
    let had = i.2 in (
      c.enter_one-won.ensures.of,
      e.enters.same_loops ∙ i.1,
      omega arith,
      c.enter_one-won.ensures.same_dryness ∙ i.3,
      e.enters.same_dry ∙ i.4,
      subst (λ k. Halfway g.B.Board.tells (g.B.Board.view c.args.pass.now) (g.B.Board.view c.enter_one-won.new.pass) l s k c.enter_one-won.result c.args.report.now c.enter_one-won.new.report) next
          (halfway_on g.B.Board.tells (g.B.Board.view c.args.pass.now) (g.B.Board.view c.loop-above.pass) (g.B.Board.view c.enter_one-won.new.pass) l s n c.loop-above.won c.enter_one-won.result
          c.args.report.now c.loop-above.report c.enter_one-won.new.report i.1 i.5
          (subst (λ k. EntersOne g.B.Board.tells (g.B.Board.view c.loop-above.pass) (g.B.Board.view c.enter_one-won.new.pass) l k c.loop-above.won c.enter_one-won.result c.loop-above.report c.enter_one-won.new.report) at e)),
      c.enter_one-won.ensures.same_loop ∙ i.6,
    )
