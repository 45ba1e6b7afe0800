use Rattle.std.proofs.Common.{◌≡◌, ◌∙◌, ◌-◌, ℤ, pos, get_or, arith, rules, w64, to_z, of_z}
use Rattle.std.proofs.lemmas.Int.{ints, to_z-of_z}
use Rattle.lines_of_runs.proofs.Openings.{kept-before, kept-past, kept-written}
use Rattle.lines_of_runs.proofs.cells.kept_at.Goals.{then-index-lt-MARGIN-via-then-index-lt-MARGIN, then-index-lt-MARGIN-via-else-index-lt-MARGIN+then-index-written}
use Rattle.lines_of_runs.proofs.cells.kept_at.Goals as goal

pub returns-then-index-lt-MARGIN : goal.returns-then-index-lt-MARGIN
returns-then-index-lt-MARGIN c = λ trip there.
    elim c.then-index-lt-MARGIN.branch [
      | then-index-lt-MARGIN-via-then-index-lt-MARGIN w ↦ kept-before trip c.args.index c.args.written.now w.if-index-lt-MARGIN.true
      | then-index-lt-MARGIN-via-else-index-lt-MARGIN+then-index-written w ↦
          kept-past trip c.args.index c.args.written.now w.if-index-lt-MARGIN.false w.if-index-written.true there
    ]

pub returns : goal.returns
returns c = λ trip there.
    let value : ℤ = to_z w64 (of_z w64 (get_or c.args.written.now (c.args.index - 64) (pos 0))) in
    let same : value ≡ get_or c.args.written.now (c.args.index - 64) (pos 0) = first_of (grind (arith, ints, to_z-of_z), search (rules, to_z-of_z)) in
    same ∙ kept-written trip c.args.index c.args.written.now c.if-index-lt-MARGIN.false c.if-index-written.false there
