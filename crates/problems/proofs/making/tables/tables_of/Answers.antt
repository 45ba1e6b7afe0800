use Rattle.std.proofs.Common.{◌≡◌, map, sym, ap₂, ◌∙◌, subst}
use Rattle.std.specs.Prelude.{slice_index}
use Rattle.problems.specs.Drafts.{alternatives_of, operations_of}
use Rattle.problems.specs.inner.Listed.{AreListed}
use Rattle.problems.proofs.made.Lists.{of-operations}
use Rattle.problems.proofs.making.tables.tables_of.Goals as goal

pub returns : goal.returns
returns c =
    let draft = c.args.draft.now in
    let lists = c.push_kinds.new.lists.items in
    let of_kinds = c.in_ok-of_kinds.of_kinds.items in
    let kinds : AreListed lists of_kinds (map alternatives_of draft.kinds.items) = subst (λ ks. AreListed lists of_kinds (map alternatives_of ks)) c.as_slice-kinds.ensures.value c.in_ok-of_kinds.ensures in
    let numbers : c.in_ok-numbers.numbers.items ≡ map (slice_index of_kinds) draft.operations.items = c.in_ok-numbers.ensures ∙ ap₂ (λ ks os. map (slice_index ks) os) c.as_slice-2.ensures.value c.as_slice.ensures.value in
    subst (λ ns. AreListed lists ns (operations_of draft)) (sym numbers) (of-operations lists of_kinds draft kinds c.requires.operations)
