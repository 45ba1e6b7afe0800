use Rattle.std.proofs.Common.{◌≡◌, ◌<◌, ◌++◌, ℕ, List, length, take, drop, Ok, sym, ap, ◌∙◌, subst, arith}
use Rattle.std.specs.List.{All}
use Rattle.registers.specs.declared.lifetime.Lifetime.{Lifetime}
use Rattle.overlap.specs.Allotments.{IsLawfulAllotment}
use Rattle.overlap.specs.Lifetimes.{lifetimes_of}
use Rattle.registers.specs.Residues.{IsLifeSpan}
use Rattle.registers.proofs.allotted.Filled.{take-front}
use Rattle.registers.proofs.allotted.Least.{least-is_lawful}
use Rattle.rotating.proofs.emitted.Ranks.{lives-few}
use Rattle.rotating.proofs.lives.Spans.{are-spans}
use Rattle.rotating.proofs.numbers.allotment.allot.Goals as goal

pub find_least-requires-clause-lives : goal.find_least-requires-clause-lives
find_least-requires-clause-lives c = subst (All IsLifeSpan) (sym (c.as_slice.ensures.value ∙ c.in_ok-lives.ensures.exact)) (are-spans c.args.schedule.now c.ii.ensures.well_formed)

pub find_least-requires-clause-few_lives : goal.find_least-requires-clause-few_lives
find_least-requires-clause-few_lives c =
    let few = lives-few c.args.schedule.now in
    let same = ap length (c.as_slice.ensures.value ∙ c.in_ok-lives.ensures.exact) in
    let most = c.ii.ensures.well_formed.problem.loop.statements_few in
    omega arith

pub invariant_of-result : goal.invariant_of-result
invariant_of-result c =
    let lives : List Lifetime = c.as_slice.result.now in
    let least = c.find_least.ensures.least (c.in_ok-found.was ∙ ap (λ b. Ok b) c.if-found.true) in
    let a = c.find_least.ensures.each in
    let b = c.in_ok-numbers.ensures in
    let l = c.as_slice.ensures.len in
    let d = c.len.ensures in
    let n : c.in_ok-numbers.numbers.len ≡ length c.find_least.new.numbers = omega arith in
    let g : take c.in_ok-numbers.numbers.len (c.find_least.new.numbers ++ drop (length c.find_least.new.numbers) c.in_ok-numbers.numbers.items) ≡ c.find_least.new.numbers
    = take-front c.find_least.new.numbers (drop (length c.find_least.new.numbers) c.in_ok-numbers.numbers.items) c.in_ok-numbers.numbers.len n in
    record {
      some = c.requires.some;
      few = c.requires.few;
      there = subst (All (λ number. number < c.args.registers)) (sym g) (least-is_lawful c.ii.result c.args.registers lives c.find_least.new.numbers least).there;
    }

pub returns-then-found-clause-lawful : goal.returns-then-found-clause-lawful
returns-then-found-clause-lawful c =
    let lives : List Lifetime = c.as_slice.result.now in
    let e : lives ≡ lifetimes_of c.args.schedule.now = c.as_slice.ensures.value ∙ c.in_ok-lives.ensures.exact in
    let least = c.find_least.ensures.least (c.in_ok-found.was ∙ ap (λ b. Ok b) c.if-found.true) in
    let a = c.find_least.ensures.each in
    let b = c.in_ok-numbers.ensures in
    let l = c.as_slice.ensures.len in
    let d = c.len.ensures in
    let n : c.in_ok-numbers.numbers.len ≡ length c.find_least.new.numbers = omega arith in
    let numbers : List ℕ = take c.in_ok-numbers.numbers.len (c.find_least.new.numbers ++ drop (length c.find_least.new.numbers) c.in_ok-numbers.numbers.items) in
    let g : numbers ≡ c.find_least.new.numbers
    = take-front c.find_least.new.numbers (drop (length c.find_least.new.numbers) c.in_ok-numbers.numbers.items) c.in_ok-numbers.numbers.len n in
    subst (λ ii. IsLawfulAllotment ii c.args.registers (lifetimes_of c.args.schedule.now) numbers) c.ii.ensures.value
    (subst (λ ls. IsLawfulAllotment c.ii.result c.args.registers ls numbers) e
    (subst (IsLawfulAllotment c.ii.result c.args.registers lives) (sym g) (least-is_lawful c.ii.result c.args.registers lives c.find_least.new.numbers least)))
