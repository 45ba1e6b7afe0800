use Rattle.std.proofs.Common.{◌≡◌, ◌∙◌, ◌++◌, ℕ, List, length, sym, ap, subst}
use Rattle.std.specs.Prelude.{codes, not, count_by}
use Rattle.std.specs.List.{All}
use Rattle.std.proofs.lemmas.Slice.Zip.{AllZip-long}
use Rattle.writing.specs.Words.{last_line}
use Rattle.loop_schedules.specs.Problems.{ProblemData}
use Rattle.machine_variants.specs.declared.variant.Variant.{Variant}
use Rattle.machine_variants.specs.Variants.{variants_of}
use Rattle.variants.specs.declared.found.finding.LoopFindings.{LoopFindings}
use Rattle.variants.specs.Findings.{AreFindings}
use Rattle.variants.specs.Texts.{is_met}
use Rattle.variants.specs.inner.Told.{part_text}
use Rattle.variants.proofs.Parts.{is-text, long-each}
use Rattle.variants.proofs.Zipped.{zipped}
use Rattle.variants.proofs.told.parts.findings_text.Goals as goal

pub push_parts-requires-clause-same : goal.push_parts-requires-clause-same
push_parts-requires-clause-same c =
    let found = c.args.found.now in
    ap (λ (fs : List LoopFindings). length fs) c.as_slice-loops.ensures.value ∙ AllZip-long (AreFindings c.args.machine.now) found.prepared.items found.loops.items c.requires
    ∙ ap (λ (ps : List ProblemData). length ps) (sym c.as_slice-prepared.ensures.value)

pub push_parts-requires-clause-long : goal.push_parts-requires-clause-long
push_parts-requires-clause-long c =
    let found = c.args.found.now in
    let all : length c.as_slice.result.now ≡ _ = ap (λ (vs : List Variant). length vs) (c.as_slice.ensures.value ∙ c.in_ok-variants.ensures.value) in
    subst (λ (fs : List LoopFindings). All (λ (e : LoopFindings). length e.findings.items ≡ length c.as_slice.result.now) fs) (sym c.as_slice-loops.ensures.value)
    (subst (λ n. All (λ (e : LoopFindings). length e.findings.items ≡ n) found.loops.items) (sym all) (long-each c.args.machine.now found.prepared.items found.loops.items c.requires))

pub returns : goal.returns
returns c =
    let m = c.args.machine.now in
    let found = c.args.found.now in
    let loops = found.loops.items in
    let problems = found.prepared.items in
    let same_loops : c.as_slice-loops.result.now ≡ loops = c.as_slice-loops.ensures.value in
    let same_problems : c.as_slice-prepared.result.now ≡ problems = c.as_slice-prepared.ensures.value in
    let text : c.push_parts.new.text.items ≡ zipped (part_text m (variants_of m)) problems loops =
    c.in_ok-push_parts.ensures.ok
    ∙ ap (λ (t : List ℕ). t ++ zipped (part_text m c.as_slice.result.now) c.as_slice-prepared.result.now c.as_slice-loops.result.now) c.new-text.ensures.items
    ∙ (λ i. zipped (part_text m ((c.as_slice.ensures.value ∙ c.in_ok-variants.ensures.value) i)) (same_problems i) (same_loops i)) in
    let met = c.number_met.ensures ∙ ap (λ (fs : List LoopFindings). count_by (λ (e : LoopFindings). is_met e.standing) fs) same_loops in
    let failed = c.number_failed-failed.ensures ∙ ap (λ (fs : List LoopFindings). count_by (λ (e : LoopFindings). not (is_met e.standing)) fs) same_loops in
    let written = c.new.ensures.text ∙ c.in_ok-push_last.ensures.ok
    ∙ ap (λ (ps : List ProblemData). c.push_parts.new.text.items ++ last_line (codes "loops ") (length ps) c.number_met.result c.number_failed-failed.result) same_problems in
    is-text m problems loops c.push_parts.new.text.items c.number_met.result c.number_failed-failed.result c.new.result c.requires text met failed written c.new.ensures.all_met
