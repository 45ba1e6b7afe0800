use Rattle.std.proofs.Common.{List, take, sym, subst}
use Rattle.std.specs.List.{All}
use Rattle.registers.specs.declared.lifetime.Lifetime.{Lifetime}
use Rattle.registers.specs.Numberless.{HasNoneAt}
use Rattle.registers.specs.Residues.{IsLifeSpan}
use Rattle.solutions.specs.Files.{in_file}
use Rattle.solutions.proofs.Filing.{All-in_file}
use Rattle.solutions.proofs.Filling.{place-there}
use Rattle.solutions.proofs.values.numbers.fill_some.Goals as goal

pub fill_least-requires-clause-lives : goal.fill_least-requires-clause-lives
fill_least-requires-clause-lives c =
    subst (All IsLifeSpan) (sym c.gather-count.ensures.entries) (All-in_file IsLifeSpan c.args.files.now c.args.file c.args.lives.now c.requires.lives)

pub value_at-requires : goal.value_at-requires
value_at-requires c =
    let held = take c.gather-count.result c.gather-count.new.into in
    let found = rw c.in-Some.is at c.in_ok-place.ensures.first in
    let none : HasNoneAt c.args.ii c.args.registers (in_file c.args.files.now c.args.file c.args.lives.now) c.fill_least.new.numbers c.in-Some.place
    = subst (λ (lives : List Lifetime). HasNoneAt c.args.ii c.args.registers lives c.fill_least.new.numbers c.in-Some.place) c.gather-count.ensures.entries found in
    place-there c.args.ii c.args.registers c.args.files.now c.args.file c.in-Some.place c.args.lives.now c.fill_least.new.numbers c.requires.each_life none

pub returns-in-Some-clause-filled : goal.returns-in-Some-clause-filled
returns-in-Some-clause-filled c =
    let found = rw c.in-Some.is at c.in_ok-place.ensures.first in
    let lives = in_file c.args.files.now c.args.file c.args.lives.now in
    let none : HasNoneAt c.args.ii c.args.registers lives c.fill_least.new.numbers c.in-Some.place
    = subst (λ (ls : List Lifetime). HasNoneAt c.args.ii c.args.registers ls c.fill_least.new.numbers c.in-Some.place) c.gather-count.ensures.entries found in
    record {
      there = c.value_at.ensures.there;
      is_file = c.value_at.ensures.file;
      numbers = c.fill_least.new.numbers;
      has_none = subst (HasNoneAt c.args.ii c.args.registers lives c.fill_least.new.numbers) (sym c.value_at.ensures.place) none;
    }
