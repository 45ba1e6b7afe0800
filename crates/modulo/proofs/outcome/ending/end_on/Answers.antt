use Rattle.std.proofs.Common.{◌≡◌, ℕ, ◌<◌, List, length, drop, sym, ◌∙◌, subst, arith}
use Rattle.std.specs.List.{slice_index}
use Rattle.walks.specs.Walks.{AreHeights}
use Rattle.mrt.specs.Placements.{OperationAlternatives, alternatives_of}
use Rattle.modulo.specs.Scheduling.{IsFirstSound, Stops}
use Rattle.modulo.proofs.answers.Answering.{unblocked}
use Rattle.modulo.proofs.answers.Blaming.{first-blocked}
use Rattle.modulo.proofs.problems.Ranking.{all_written}
use Rattle.modulo.proofs.outcome.ending.end_on.Goals as goal

pub returns-in-Some-clause-exact : goal.returns-in-Some-clause-exact
returns-in-Some-clause-exact g c =
    first-blocked c.args.problem.now (g.T.ModuloTable.interval c.args.table.now) c.in-Some.op (g.T.ModuloTable.operations c.args.table.now) c.requires.operations
    c.in-Some.ensures

pub run-requires-clause-sound : goal.run-requires-clause-sound
run-requires-clause-sound g c =
    let sound : List ℕ = c.find_sound.new.sound in
    let ii : ℕ = g.T.ModuloTable.interval c.args.table.now in
    let read : c.deref.result.now ≡ sound
    = c.deref.ensures.value ∙ all_written c.in_ok-sound.sound.len sound (drop (length sound) c.in_ok-sound.sound.items) (omega arith) in
    subst (λ (s : List ℕ). (op : ℕ) → op < length c.args.problem.now.operations → IsFirstSound ii (alternatives_of c.args.problem.now.operations op) (slice_index s op)) (sym read)
    (subst (λ (os : OperationAlternatives). (op : ℕ) → op < length os → IsFirstSound ii (alternatives_of os op) (slice_index sound op)) c.requires.operations c.in_default.ensures)

pub returns-clause-exact : goal.returns-clause-exact
returns-clause-exact g c =
    let ii : ℕ = g.T.ModuloTable.interval c.args.table.now in
    let o = c.in_ok-progress.ensures.order in
    let stops : Stops c.args.problem.now ii c.args.budget c.run.new.progress.state
    = c.run.ensures.stops o.0 (subst (λ n. AreHeights c.args.problem.now.graph n o.0) c.ii.ensures o.1) o.2 o.3 in
    let sound : List ℕ = c.find_sound.new.sound in
    let each : (op : ℕ) → op < length c.args.problem.now.operations → IsFirstSound ii (alternatives_of c.args.problem.now.operations op) (slice_index sound op)
    = subst (λ (os : OperationAlternatives). (op : ℕ) → op < length os → IsFirstSound ii (alternatives_of os op) (slice_index sound op)) c.requires.operations c.in_default.ensures in
    c.end_at.ensures c.args.problem.now ii c.args.budget c.run.ensures.whole stops (unblocked c.args.problem.now ii sound each)
