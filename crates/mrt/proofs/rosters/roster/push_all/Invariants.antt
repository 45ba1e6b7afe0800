use Rattle.std.proofs.Common.{◌≡◌, ◌++◌, take}
use Rattle.mrt.proofs.rosters.roster.push_all.Given as goal

abbrev pub invariant-loop-alternative : goal.invariant-loop-alternative
invariant-loop-alternative l =
    (l.choices.interval ≡ l.initial.choices.interval) × (l.choices.alternatives ≡ l.initial.choices.alternatives ++ take l.alternative-index l.alternatives)
