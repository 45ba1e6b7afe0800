use Rattle.std.proofs.Common.{◌≡◌, ◌≢◌, ◌<◌, ◌≤◌, List, Some, length, get_or, refl, sym, ap, ◌∙◌, subst, arith}
use Rattle.std.specs.List.{All}
use Rattle.std.proofs.lemmas.List.{take_all}
use Rattle.std.proofs.lemmas.List.Elements.{All-more}
use Rattle.std.proofs.lemmas.Option.{slice_get-get_or}
use Rattle.registers.specs.declared.value.Read.{Read}
use Rattle.problems.specs.Drafts.{read_edge}
use Rattle.problem_reasons.proofs.circuit.why_of.Goals as goal

pub returns-then-demands : goal.returns-then-demands
returns-then-demands c =
    let draft = c.args.draft.now in
    let xs : List Read = c.as_slice-read-items.result.now in
    let reads : List Read = draft.reads.items in
    let i = c.loop-read.read-index in
    let d : Read = record { value = 0; reader = 0; distance = 0; offset = 0 } in
    let same : xs ≡ reads = c.as_slice-read-items.ensures.value in
    let within : i < length reads = subst (λ (zs : List Read). i < length zs) same c.loop-read-test.true in
    record {
      place = i;
      reading = get_or xs i d;
      there = slice_get-get_or reads i d within ∙ ap (λ (zs : List Read). Some (get_or zs i d)) (sym same);
      demands = c.demands.ensures.0 c.if-demands.true;
      is_value = refl;
      first = c.loop-read.invariant;
    }

pub loop-read-preserved : goal.loop-read-preserved
loop-read-preserved c =
    let draft = c.args.draft.now in
    let xs : List Read = c.as_slice-read-items.result.now in
    let reads : List Read = draft.reads.items in
    let i = c.loop-read.read-index in
    let d : Read = record { value = 0; reader = 0; distance = 0; offset = 0 } in
    let same : xs ≡ reads = c.as_slice-read-items.ensures.value in
    let within : i < length reads = subst (λ (zs : List Read). i < length zs) same c.loop-read-test.true in
    let other : read_edge draft (get_or reads i d) ≢ c.args.edge
    = subst (λ (zs : List Read). read_edge draft (get_or zs i d) ≢ c.args.edge) same (λ e. let t = c.demands.ensures.1 e in let f = c.if-demands.false in absurd (cc)) in
    All-more (λ (r : Read). read_edge draft r ≢ c.args.edge) reads i d within c.loop-read.invariant other

pub returns : goal.returns
returns c =
    let draft = c.args.draft.now in
    let reads : List Read = draft.reads.items in
    let i = c.loop-read.read-index in
    let same : length c.as_slice-read-items.result.now ≡ length reads = ap length c.as_slice-read-items.ensures.value in
    let end : length reads ≤ i = (let t = c.loop-read-test.false in omega arith) in
    subst (All (λ (r : Read). read_edge draft r ≢ c.args.edge)) (take_all i reads end) c.loop-read.invariant
