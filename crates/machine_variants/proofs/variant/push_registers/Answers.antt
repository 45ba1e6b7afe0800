use Rattle.std.proofs.Common.{◌≡◌, ◌+◌, ◌++◌, ℕ, List, map, filter, sym, ap, ◌∙◌, subst, arith}
use Rattle.std.proofs.lemmas.List.{append-nil}
use Rattle.machine_variants.specs.declared.variant.Variant.TheVariants.{Registers}
use Rattle.machine_variants.specs.Variants.{is_other_number, numbers_to}
use Rattle.machine_variants.proofs.Chosen.{kept-more, numbers-none, numbers-push}
use Rattle.machine_variants.proofs.variant.push_registers.Goals as goal

pub loop-above-init : goal.loop-above-init
loop-above-init c =
    let old = c.args.list.now.items in
    sym (append-nil old) ∙ ap (λ (ns : List ℕ). old ++ map Registers (filter (is_other_number c.args.registers) ns)) (sym numbers-none)

pub loop-above-preserved : goal.loop-above-preserved
loop-above-preserved c =
    let n = c.loop-above.above in
    let p = is_other_number c.args.registers in
    kept-more Registers p (numbers_to n) (1 + n) c.args.list.now.items c.loop-above.list.items c.push_where.new.list.items c.is_other_number-is_other.result c.loop-above.invariant
    c.is_other_number-is_other.ensures c.in_ok-push_where.ensures ∙ ap (λ xs. c.args.list.now.items ++ map Registers (filter p xs)) (sym (numbers-push n))

pub returns : goal.returns
returns c =
    let end = c.loop-above.auto.above-end in
    let past = c.loop-above-test.false in
    let at : c.loop-above.above ≡ 256 = omega (arith, end, past) in
    subst (λ (n : ℕ). c.loop-above.list.items ≡ c.args.list.now.items ++ map Registers (filter (is_other_number c.args.registers) (numbers_to n))) at c.loop-above.invariant
