use Rattle.std.proofs.Common.{◌≡◌, ◌<◌, ◌++◌, ℕ, List, Option, Some, length, take, drop, sym, ap, ◌∙◌, subst, arith}
use Rattle.std.specs.Prelude.{MatchOption, slice_get}
use Rattle.std.specs.List.{All}
use Rattle.std.proofs.lemmas.Option.{slice_get-get_or}
use Rattle.registers.specs.declared.lifetime.Lifetime.{Lifetime}
use Rattle.overlap.specs.Allotments.{AreLeast}
use Rattle.overlap.specs.Lifetimes.{lifetimes_of}
use Rattle.registers.proofs.allotted.Least.{least-is_lawful, place-within}
use Rattle.registers.specs.Numberless.{HasNone, HasNoneAt}
use Rattle.registers.proofs.allotted.Filled.{has-none, take-front}
use Rattle.registers.specs.Residues.{IsLifeSpan}
use Rattle.rotating.proofs.lives.Spans.{are-spans}
use Rattle.rotating.proofs.numbers.allotment.allot_or_lack.Goals as goal

pub fill_least-requires-clause-lives : goal.fill_least-requires-clause-lives
fill_least-requires-clause-lives c =
    subst (All IsLifeSpan) (sym (c.as_slice.ensures.value ∙ c.in_ok-lives.ensures.exact)) (are-spans c.args.schedule.now c.ii.ensures.well_formed)

pub index-requires : goal.index-requires
index-requires c =
    let lives : List Lifetime = c.as_slice.result.now in
    let first = subst (λ (f : Option ℕ). MatchOption f (AreLeast c.ii.result c.args.registers lives c.fill_least.new.numbers)
    (HasNoneAt c.ii.result c.args.registers lives c.fill_least.new.numbers)) c.in-Some.is c.in_ok-found.ensures.first in
    let within : c.in-Some.place < length lives = place-within lives first.life c.in-Some.place first.is_life in
    let same = c.as_slice.ensures.len in
    omega arith

pub returns-in-Some : goal.returns-in-Some
returns-in-Some c =
    let lives : List Lifetime = c.as_slice.result.now in
    let place : ℕ = c.in-Some.place in
    let first = subst (λ (f : Option ℕ). MatchOption f (AreLeast c.ii.result c.args.registers lives c.fill_least.new.numbers)
    (HasNoneAt c.ii.result c.args.registers lives c.fill_least.new.numbers)) c.in-Some.is c.in_ok-found.ensures.first in
    let within : place < length lives = place-within lives first.life place first.is_life in
    let found : Lifetime = c.index.result.now in
    let there : place < length c.in_ok-lives.lives.items = subst (λ (ls : List Lifetime). place < length ls) c.as_slice.ensures.value within in
    let both : Some first.life ≡ Some found
    = sym first.is_life ∙ ap (λ (ls : List Lifetime). slice_get ls place) c.as_slice.ensures.value ∙ slice_get-get_or c.in_ok-lives.lives.items place found there
    ∙ ap (λ (l : Lifetime). Some l) (sym c.index.ensures) in
    let same : first.life ≡ found = cc in
    record {
      exact = subst (λ ii. HasNone ii c.args.registers (lifetimes_of c.args.schedule.now) found) c.ii.ensures.value
          (subst (λ (ls : List Lifetime). HasNone c.ii.result c.args.registers ls found) (c.as_slice.ensures.value ∙ c.in_ok-lives.ensures.exact)
          (subst (λ (l : Lifetime). HasNone c.ii.result c.args.registers lives l) same (has-none c.ii.result c.args.registers lives c.fill_least.new.numbers place first)));
    }

pub invariant_of-result : goal.invariant_of-result
invariant_of-result c =
    let lives : List Lifetime = c.as_slice.result.now in
    let news : List ℕ = c.fill_least.new.numbers in
    let least = subst (λ (f : Option ℕ). MatchOption f (AreLeast c.ii.result c.args.registers lives news)
    (HasNoneAt c.ii.result c.args.registers lives news)) c.in-None.is c.in_ok-found.ensures.first in
    let a = c.fill_least.ensures.each in
    let b = c.in_ok-numbers.ensures in
    let l = c.as_slice.ensures.len in
    let d = c.len.ensures in
    let n : c.in_ok-numbers.numbers.len ≡ length news = omega arith in
    let g : take c.in_ok-numbers.numbers.len (news ++ drop (length news) c.in_ok-numbers.numbers.items) ≡ news
    = take-front news (drop (length news) c.in_ok-numbers.numbers.items) c.in_ok-numbers.numbers.len n in
    record {
      some = c.requires.some;
      few = c.requires.few;
      there = subst (All (λ number. number < c.args.registers)) (sym g) (least-is_lawful c.ii.result c.args.registers lives news least).there;
    }
