use Rattle.std.proofs.Common.{ap, sym, subst, ◌≡◌, ◌∙◌}
use Rattle.std.specs.Prelude.{◌||◌}
use Rattle.reports.specs.Entries.{IsEntryOf, is_won}
use Rattle.board_workers.specs.inner.Turns.{entry_of}
use Rattle.board_workers.proofs.turn.enter_one.Goals.{then-won, else-won}
use Rattle.board_workers.proofs.turn.enter_one.Goals as goal

pub enter-requires-clause-truth : goal.enter-requires-clause-truth
enter-requires-clause-truth g c =
    record {
      there = c.requires.there;
      of_loop = λ any. subst (IsEntryOf (entry_of c.args.number c.args.interval c.found_at-found.result)) (sym (c.requires.its_loop any))
          (record { from_mii = c.requires.from_mii; to_last = c.requires.to_last; truth = c.found_at-found.ensures.truth });
    }

pub returns-clause-entered : goal.returns-clause-entered
returns-clause-entered g c =
    let wins : c.if-won.wins ≡ (c.args.won || is_won c.found_at-found.result) = elim c.if-won.branch [ then-won w ↦ (let a = w.wins-is in let d = w.if-won.true in a ∙ d ∙ ap (λ b. b || is_won c.found_at-found.result) (sym d)) | else-won w ↦ (let a = w.wins-is in let b = w.is_won-wins.ensures in let d = w.if-won.false in a ∙ b ∙ ap (λ b. b || is_won c.found_at-found.result) (sym d)) ] in
    record {
      found = c.found_at-found.result;
      enters = c.enter.ensures;
      is_won = wins;
      told = c.found_at-found.ensures.told;
    }
