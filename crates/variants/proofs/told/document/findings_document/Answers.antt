use Rattle.std.proofs.Common.{◌≡◌, ◌∙◌, List, length, sym, ap, subst}
use Rattle.std.specs.Prelude.{not, count_by}
use Rattle.std.specs.List.{All}
use Rattle.std.proofs.lemmas.Slice.Zip.{AllZip-long}
use Rattle.serde_json.specs.View.{view}
use Rattle.serde_json.specs.Written.{has_float}
use Rattle.loop_schedules.specs.Problems.{ProblemData}
use Rattle.machine_variants.specs.declared.variant.Variant.{Variant}
use Rattle.variants.specs.declared.found.finding.LoopFindings.{LoopFindings}
use Rattle.variants.specs.Findings.{AreFindings}
use Rattle.variants.specs.Texts.{is_met}
use Rattle.variants.specs.inner.Told.{parts_object}
use Rattle.variants.proofs.Documents.{is-document}
use Rattle.variants.proofs.Parts.{long-each}
use Rattle.variants.proofs.Whole.{file-whole}
use Rattle.variants.proofs.told.document.findings_document.Goals as goal

pub told_file-requires-clause-same : goal.told_file-requires-clause-same
told_file-requires-clause-same c =
    let found = c.args.found.now in
    ap (λ (fs : List LoopFindings). length fs) c.as_slice-loops.ensures.value ∙ AllZip-long (AreFindings c.args.machine.now) found.prepared.items found.loops.items c.requires
    ∙ ap (λ (ps : List ProblemData). length ps) (sym c.as_slice-prepared.ensures.value)

pub told_file-requires-clause-long : goal.told_file-requires-clause-long
told_file-requires-clause-long c =
    let found = c.args.found.now in
    let all : length c.as_slice.result.now ≡ _ = ap (λ (vs : List Variant). length vs) (c.as_slice.ensures.value ∙ c.in_ok-variants.ensures.value) in
    subst (λ (fs : List LoopFindings). All (λ (e : LoopFindings). length e.findings.items ≡ length c.as_slice.result.now) fs) (sym c.as_slice-loops.ensures.value)
    (subst (λ n. All (λ (e : LoopFindings). length e.findings.items ≡ n) found.loops.items) (sym all) (long-each c.args.machine.now found.prepared.items found.loops.items c.requires))

pub returns : goal.returns
returns c =
    let m = c.args.machine.now in
    let found = c.args.found.now in
    let loops = found.loops.items in
    let problems = found.prepared.items in
    let told = c.in_ok-value.value in
    let is_told = c.in_ok-value.ensures ∙ (λ i. parts_object m ((c.as_slice.ensures.value ∙ c.in_ok-variants.ensures.value) i) (c.as_slice-prepared.ensures.value i) (c.as_slice-loops.ensures.value i)) in
    is-document m problems loops (view told) c.in_ok-text.text.items c.number_failed.result c.new.result c.requires is_told
    (c.in_ok-text.ensures (ap (λ d. has_float d) is_told ∙ file-whole m _ problems loops))
    (c.number_failed.ensures ∙ ap (λ (fs : List LoopFindings). count_by (λ (e : LoopFindings). not (is_met e.standing)) fs) c.as_slice-loops.ensures.value)
    c.new.ensures.text c.new.ensures.all_met
