use Rattle.std.proofs.Common.{◌↔◌, IsTrue, sym, ap, subst, length}
use Rattle.std.specs.List.{All}
use Rattle.kernel.specs.Check.{RegistersAreThere, IsPlaced}
use Rattle.kernel.specs.Rules.{Keeps}
use Rattle.kernel.proofs.kernels.rules.keeps.Goals as goal

pub returns-in-Register : goal.returns-in-Register
returns-in-Register c =
    let parts = c.args.parts.now in
    subst (λ r. IsTrue c.have_registers.result ↔ Keeps r parts) (sym c.in-Register.is) (subst (λ ops. IsTrue c.have_registers.result ↔ All (RegistersAreThere parts.registers) ops) c.as_slice-operations.ensures c.have_registers.ensures)

pub returns-in-Place : goal.returns-in-Place
returns-in-Place c =
    let parts = c.args.parts.now in
    let arrays = subst (λ n. IsTrue c.are_placed.result ↔ All (IsPlaced n) c.as_slice-operations.result.now) (ap (λ names. length names) c.as_slice-in-Place.ensures) c.are_placed.ensures in
    subst (λ r. IsTrue c.are_placed.result ↔ Keeps r parts) (sym c.in-Place.is) (subst (λ ops. IsTrue c.are_placed.result ↔ All (IsPlaced (length parts.arrays)) ops) c.as_slice-operations.ensures arrays)
