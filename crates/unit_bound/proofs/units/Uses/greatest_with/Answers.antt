use Rattle.std.proofs.Common.{◌≡◌, ◌<◌, [], ◌∷◌, ◌++◌, get_or, sym, ap, ◌∙◌, arith}
use Rattle.machine_data.specs.declared.alternative.Row.{Row}
use Rattle.unit_bound.specs.Units.{greatest_use}
use Rattle.unit_bound.proofs.Best.{single}
use Rattle.unit_bound.proofs.Tally.{Tallies-push}
use Rattle.unit_bound.proofs.units.Uses.greatest_with.Goals as goal

pub returns-in-len1 : goal.returns-in-len1
returns-in-len1 c = λ taken t.
    let d : Row = record { unit = 0; offset = 0 } in
    let row : Row = get_or c.args.rows.now 0 d in
    let below : row.unit < 64 = c.requires.units 0 d (omega arith) in
    let one : c.args.rows.now ≡ row ∷ [] = single c.args.rows.now d (omega arith) (omega arith) in
    let more = Tallies-push taken c.args.self.now.counts c.args.self.now.greatest row t below in
    c.max.ensures ∙ more.most ∙ ap (λ rows. greatest_use (taken ++ rows)) (sym one)
