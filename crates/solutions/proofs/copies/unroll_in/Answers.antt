use Rattle.std.proofs.Common.{◌≡◌, max, get_or, sym, ap, ◌∙◌}
use Rattle.unit_bound.proofs.Most.{greater}
use Rattle.registers.specs.declared.lifetime.Lifetime.{Lifetime}
use Rattle.solutions.specs.Copies.{copies_of}
use Rattle.solutions.proofs.Copying.{unroll-no, unroll-yes}
use Rattle.solutions.proofs.copies.unroll_in.Goals as goal
use Rattle.solutions.proofs.copies.unroll_in.Goals.{then-is_unallotted, else-is_unallotted}

pub loop-k-preserved : goal.loop-k-preserved
loop-k-preserved c =
    let none : Lifetime = record { operation = 0; first = 0; last = 0 } in
    let at = c.loop-k in
    elim c.if-is_unallotted.branch [
      | then-is_unallotted w ↦
          let more : w.max-greatest.result ≡ max at.greatest w.copies_of.result = w.max-greatest.ensures ∙ greater at.greatest w.copies_of.result in
          let now : c.if-is_unallotted.greatest ≡ max at.greatest (copies_of c.args.ii (get_or c.args.lives.now at.k none))
          = w.greatest-is ∙ more ∙ ap (λ n. max at.greatest n) w.copies_of.ensures in
          rw now
          (unroll-yes c.args.ii c.args.kinds.now c.args.files.now c.args.lives.now at.k none at.greatest _ c.loop-k-test.true c.requires.each
          (sym c.is_unallotted.ensures ∙ w.if-is_unallotted.true) at.invariant)
      | else-is_unallotted w ↦
          rw w.greatest-is
          (unroll-no c.args.ii c.args.kinds.now c.args.files.now c.args.lives.now at.k none at.greatest _ c.loop-k-test.true c.requires.each
          (sym c.is_unallotted.ensures ∙ w.if-is_unallotted.false) at.invariant)
    ]
