-- What is chosen for a loop, while it is made.
use Rattle.std.specs.Prelude.{◌≡◌, ℕ}
use Rattle.figures.specs.declared.figures.Figures.{Figures}
use Rattle.figures.specs.Figures.{AreFigures}
use Rattle.told_intervals.specs.declared.evidence.Met as evidence
use Rattle.told_choices.specs.declared.chosen.Chosen.{Chosen}
use Rattle.told_choices.specs.declared.chosen.Chosen.TheVariants.{Met}

-- an interval is chosen with what makes its kernel, and the figures of its schedule
abbrev pub IsChosenWith : ℕ → evidence.Met → Chosen → Type 0
IsChosenWith ii met chosen = (figures : Figures) × (chosen ≡ Met ii met figures) × AreFigures met.schedule figures
