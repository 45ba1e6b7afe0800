use Rattle.std.proofs.Common.{ℕ, List, refl, sym, subst}
use Rattle.std.specs.List.{All}
use Rattle.overlap.specs.Allotments.{IsLawfulAllotment}
use Rattle.overlap.specs.Lifetimes.{lifetimes_of}
use Rattle.registers.specs.Residues.{IsLifeSpan}
use Rattle.rotating.proofs.lives.Spans.{are-spans}
use Rattle.rotating.proofs.numbers.allotment.Allotment.check.Goals as goal

pub are_lawful-requires-clause-lives : goal.are_lawful-requires-clause-lives
are_lawful-requires-clause-lives c = subst (All IsLifeSpan) (sym c.fill_lifetimes-count.ensures.exact) (are-spans c.args.schedule.now c.ii-ii.ensures.well_formed)

pub returns-then-are_lawful : goal.returns-then-are_lawful
returns-then-are_lawful c =
    let ii : ℕ = c.ii-ii.result in
    let numbers : List ℕ = c.args.numbers.items in
    let lawful = c.are_lawful.ensures.0 c.if-are_lawful.true in
    let same : IsLawfulAllotment ii c.args.registers (lifetimes_of c.args.schedule.now) numbers
    = subst (λ lives. IsLawfulAllotment ii c.args.registers lives numbers) c.fill_lifetimes-count.ensures.exact
    (subst (IsLawfulAllotment ii c.args.registers _) c.as_slice.ensures.value lawful) in
    record { exact = (refl, subst (λ n. IsLawfulAllotment n c.args.registers (lifetimes_of c.args.schedule.now) numbers) c.ii-ii.ensures.value same) }
