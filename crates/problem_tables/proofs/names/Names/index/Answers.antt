use Rattle.std.proofs.Common.{rules, ◌≡◌, ◌≢◌, ℕ, ◌-◌, ◌<◌, ◌≤◌, List, [], length, get_or, subst, sym, ap, ◌∙◌, arith, Some, None}
use Rattle.problem_tables.specs.Names.{index_of}
use Rattle.problem_tables.specs.inner.Numbered.{bucket_of, number_in}
use Rattle.problem_tables.proofs.Buckets.{index-at, index-new, new-missed, other-name, that-name}
use Rattle.problem_tables.proofs.names.Names.index.Goals as goal
use Rattle.problem_tables.proofs.names.Names.index.Goals.{else-first-gt0-via-then-first-gt0+else-are_same, else-first-gt0-via-else-first-gt0}

pub returns-then-are_same : goal.returns-then-are_same
returns-then-are_same c =
    let names : List (List ℕ) = c.self.inside.labels.items in
    let q : List ℕ = c.args.name.now in
    let first : ℕ = c.from-first.result in
    let low : get_or c.self.inside.firsts c.bucket_of.result 0 ≤ length names = c.self.invariant.within c.bucket_of.result in
    let within : first ≤ length names = subst (λ n. n ≤ length names) (sym c.from-first.ensures) low in
    sym (that-name names first c.index.result.now c.as_bytes.result.now q c.self.invariant.distinct c.if-first-gt0.true within c.index.ensures
    (cc) (sym c.are_same.ensures ∙ c.if-are_same.true)) ∙ ap (λ ns. index_of ns q) c.self.view_is

pub returns-in-None : goal.returns-in-None
returns-in-None c =
    let names : List (List ℕ) = c.self.inside.labels.items in
    let q : List ℕ = c.args.name.now in
    let first : ℕ = c.from-first.result in
    let size : c.len.result ≡ length names = search rules in
    let low : get_or c.self.inside.firsts c.bucket_of.result 0 ≤ length names = c.self.invariant.within c.bucket_of.result in
    let within : first ≤ length names = subst (λ n. n ≤ length names) (sym c.from-first.ensures) low in
    let spot : first ≡ get_or c.self.inside.firsts (bucket_of q) 0 = c.from-first.ensures ∙ ap (λ b. get_or c.self.inside.firsts b 0) c.bucket_of.ensures.value in
    let none : number_in c.self.inside.others q ≡ None = sym c.in-None.ensures.value in
    let missed : 0 < first → get_or names (first - 1) [] ≢ q = elim c.else-first-gt0.branch [
      | else-first-gt0-via-then-first-gt0+else-are_same w ↦ λ some. other-name names first w.index.result.now w.as_bytes.result.now q some within w.index.ensures
          (cc) (sym w.are_same.ensures ∙ w.if-are_same.false)
      | else-first-gt0-via-else-first-gt0 w ↦ λ some. absurd (let none : first ≤ 0 = w.if-first-gt0.false in omega arith)
    ] in
    size ∙ sym (index-new names q (new-missed names c.self.inside.firsts (number_in c.self.inside.others) q c.self.invariant
    (subst (λ n. 0 < n → get_or names (n - 1) [] ≢ q) spot missed) none)) ∙ ap (λ ns. index_of ns q) c.self.view_is

pub returns-in-Some : goal.returns-in-Some
returns-in-Some c =
    let names : List (List ℕ) = c.self.inside.labels.items in
    let q : List ℕ = c.args.name.now in
    let is : number_in c.self.inside.others q ≡ Some c.in-Some.number.now = sym c.in-Some.ensures.value in
    let known = c.self.invariant.known q c.in-Some.number.now is in
    sym (index-at names c.in-Some.number.now q c.self.invariant.distinct known.0 known.1) ∙ ap (λ ns. index_of ns q) c.self.view_is
