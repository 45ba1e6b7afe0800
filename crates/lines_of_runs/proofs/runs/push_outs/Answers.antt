use Rattle.std.proofs.Common.{◌≡◌, ◌∙◌, ℕ, ℤ, pos, List, length, get_or, slice_index, refl, sym, ap, arith, w64, to_z, of_z}
use Rattle.std.proofs.lemmas.Int.{ints, to_z-of_z}
use Rattle.loop_data.specs.NamedParts.{value_name}
use Rattle.lines_of_runs.specs.Plain.{out_line}
use Rattle.lines_of_runs.proofs.PlainLines.{pair_more, pair_all}
use Rattle.lines_of_runs.proofs.runs.push_outs.Goals as goal

pub loop-index-preserved : goal.loop-index-preserved
loop-index-preserved c =
    let long : length c.outs-statements.result.now ≡ length c.args.innermost.now.outs = ap length c.outs-statements.ensures.value in
    let fits : to_z w64 (of_z w64 c.out.result) ≡ c.out.result = grind (arith, ints, to_z-of_z) in
    c.in_ok-push_out.ensures ∙ pair_more (λ (o : ℕ × ℤ). out_line (value_name c.args.innermost.now o.0) o.1) c.args.text.now.items c.loop-index.text.items _
    c.args.innermost.now.outs c.args.after.now.outs c.loop-index.index 0 (get_or c.args.innermost.now.outs c.loop-index.index 0) (pos 0) (to_z w64 (of_z w64 c.out.result))
    c.requires (omega arith) refl (sym c.out.ensures ∙ sym fits) c.loop-index.invariant
    (ap (λ (n : List ℕ). out_line n (to_z w64 (of_z w64 c.out.result)))
    (c.value_name-name.ensures.name ∙ ap (λ (xs : List ℕ). value_name c.args.innermost.now (slice_index xs c.loop-index.index)) c.outs-statements.ensures.value))

pub returns : goal.returns
returns c =
    let long : length c.outs-statements.result.now ≡ length c.args.innermost.now.outs = ap length c.outs-statements.ensures.value in
    pair_all (λ (o : ℕ × ℤ). out_line (value_name c.args.innermost.now o.0) o.1) c.args.text.now.items c.loop-index.text.items
    c.args.innermost.now.outs c.args.after.now.outs c.loop-index.index (omega arith) c.loop-index.invariant
