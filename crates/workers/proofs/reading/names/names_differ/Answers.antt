use Rattle.std.proofs.Common.{◌∙◌, ◌+◌, ◌++◌, ◌∷◌, [], List, ℕ, false, refl, take, sym, ap, subst}
use Rattle.std.specs.List.{list_any}
use Rattle.std.proofs.lemmas.List.{take_all, take_more}
use Rattle.machine_data.specs.Opcodes.{same_word}
use Rattle.workers.specs.inner.Pieces.{NamesDiffer, has_name}
use Rattle.workers.proofs.Naming.{differ-more, known-more, not-differ, not-true, told-new, told-old}
use Rattle.workers.proofs.reading.names.names_differ.Goals as goal

pub loop-name-preserved : goal.loop-name-preserved
loop-name-preserved c =
    let i = c.loop-name.name-index in
    let names = take i c.args.names.now in
    let more = take (i + 1) c.args.names.now in
    let one = c.name-item.result in
    let name = c.as_bytes.result.now in
    let before = c.loop-name.invariant in
    let same = c.as_bytes.ensures.value ∙ c.as_str.ensures.value in
    let added = take_more c.args.names.now i one c.loop-name-test.true ∙ ap (λ (o : List ℕ). names ++ o ∷ []) (sym c.name-item.is) in
    let new = told-new (has_name c.loop-name.known name) c.in-Ok-true.field-0 c.in-Ok-true.ensures.new c.in-Ok-true.field-0-test in
    let free = ap (λ (n : List ℕ). list_any (same_word n) names) (sym same) ∙ sym (before.known name) ∙ new in
    record {
      differ = differ-more names more one before.differ free added;
      known = known-more (has_name c.loop-name.known) (has_name c.add_name.new.names) names more one name before.known c.in-Ok-true.ensures.names same added;
    }

pub returns-in-Ok-false : goal.returns-in-Ok-false
returns-in-Ok-false c =
    let i = c.loop-name.name-index in
    let one = c.name-item.result in
    let name = c.as_bytes.result.now in
    let same = c.as_bytes.ensures.value ∙ c.as_str.ensures.value in
    let old = told-old (has_name c.loop-name.known name) c.in-Ok-false.field-0 c.in-Ok-false.ensures.new c.in-Ok-false.field-0-test in
    let there = ap (λ (n : List ℕ). list_any (same_word n) (take i c.args.names.now)) (sym same) ∙ sym (c.loop-name.invariant.known name) ∙ old in
    (λ t. absurd (not-true false refl t), λ differ. absurd (not-differ c.args.names.now i one c.loop-name-test.true c.name-item.is there differ))

pub returns : goal.returns
returns c = (λ t. subst NamesDiffer (take_all c.loop-name.name-index c.args.names.now c.loop-name-test.false) c.loop-name.invariant.differ, λ differ. refl)
