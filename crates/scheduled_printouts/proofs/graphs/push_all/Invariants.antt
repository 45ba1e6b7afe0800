use Rattle.std.proofs.Common.{◌≡◌, ◌++◌, ℕ, List, take}
use Rattle.scheduled_printouts.specs.Graphs.{AreDrawn}
use Rattle.scheduled_printouts.proofs.graphs.push_all.Given as goal

abbrev pub invariant-loop-one : goal.invariant-loop-one
invariant-loop-one l = (part : List ℕ) × AreDrawn (take l.one-index l.prepared) part l.all_met × (l.text.items ≡ l.initial.text.items ++ part)
