use Rattle.std.proofs.Common.{◌≡◌, ◌∙◌, ◌++◌, ◌∷◌, [], ℕ, List, Some, sym, ap, subst, arith, rules, length, map}
use Rattle.std.proofs.lemmas.List.{length-map, length_push}
use Rattle.std.proofs.lemmas.List.Elements.{All-nil, All-push}
use Rattle.std.specs.List.{All}
use Rattle.std.specs.Result.{IsErrAnd}
use Rattle.reader_faults.specs.declared.loops.LoopFaultKind.{LoopFaultKind}
use Rattle.loop_lines.specs.Words.{words_of}
use Rattle.loop_lines.specs.Forms.{LoopLine, line_form}
use Rattle.loop_data.specs.Loops.{LoopData, IsLoop}
use Rattle.loop_reader.specs.Meaning.{forms_of, whole, loops_in, loop_of}
use Rattle.reader_faults.specs.LoopFaults.{AnswersFault}
use Rattle.loop_lines.specs.Parsed.{form_seen}
use Rattle.loop_reader.specs.inner.Texts.{HasNames}
use Rattle.loop_reader.proofs.blocks.Reading.{forms-next, forms-none}
use Rattle.loop_reader.proofs.blocks.OpeningLines.{Reads, reads-start, reads-as, reads-block, reads-all, reads-other, reads-opening, reads-inside, answer, answer-opening, named, names-with, name-of-loop, few-loops, short-name, handed-up}
use Rattle.loop_reader.proofs.blocks.BlockStanding.{near-words}
use Rattle.loop_reader.proofs.read.read_all.Goals as goal

pub loop-rest-init : goal.loop-rest-init
loop-rest-init c = rw c.requires.none (record {
  reads = reads-start c.args.text.now;
  names = λ q. rw (c.requires.nameless q);
  few = omega arith;
  good = All-nil IsLoop;
  within = omega arith;
})

pub returns : goal.returns
returns c =
    let v = c.loop-rest.invariant in (
      reads-all c.args.text.now _ c.loop-rest.loops.items c.loop-rest.line c.requires.short
          (reads-as _ _ _ _ _ _ (forms-none c.loop-rest.rest.now (sym c.loop-rest-test.false ∙ c.is_empty.ensures)) v.reads),
      v.good,
      v.few,
    )

pub returns-in_default : goal.returns-in_default
returns-in_default c =
    let next = forms-next c.loop-rest.rest.now c.next_line.result.0.now c.next_line.result.1.now (Some (form_seen c.in-Some.form)) c.next_line.ensures.lines c.in-Some.ensures in
    reads-other c.args.text.now _ c.loop-rest.loops.items c.loop-rest.line c.in-Some.form (forms_of c.next_line.result.1.now) c.requires.short (reads-as _ _ _ _ _ _ next c.loop-rest.invariant.reads) c.in_default.not-Loop

-- the names of loops
abbrev names_of : List LoopData → List (List ℕ)
names_of loops = map (λ (x : LoopData). x.name) loops

pub returns-in-Err : goal.returns-in-Err
returns-in-Err c =
    let kind = c.in-Err.kind in
    let text = c.args.text.now in
    let loops = c.loop-rest.loops.items in
    let v = c.loop-rest.invariant in
    let form = ap (λ f. Some (form_seen f)) (sym c.in-Loop.is) ∙ c.in-Some.ensures in
    let next = forms-next c.loop-rest.rest.now c.next_line.result.0.now c.next_line.result.1.now (Some (LoopLine c.in-Loop.name.now)) c.next_line.ensures.lines form in
    let reads = reads-as text (names_of loops) loops c.loop-rest.line (forms_of c.loop-rest.rest.now) (Some (LoopLine c.in-Loop.name.now) ∷ forms_of c.next_line.result.1.now) next v.reads in
    let many : length (names_of loops) ≡ c.len.result = search (rules, length-map) in
    let P : LoopFaultKind → ℕ → Type 0 = λ k l. AnswersFault k (record { line = l; kind = k }) (loops_in text) in
    let first = answer-opening kind c.loop-rest.line _ (loops_in text)
    (reads-opening text (names_of loops) loops c.loop-rest.line c.in-Loop.name.now kind (forms_of c.next_line.result.1.now) c.requires.short reads)
    (c.in-Err.ensures (names_of loops) v.names many) in
    subst (λ k. P k c.at.result.line) (sym c.at.ensures.kind) (subst (P kind) (sym c.at.ensures.line) first)

pub read_block-requires-clause-name : goal.read_block-requires-clause-name
read_block-requires-clause-name c =
    named c.in-Loop.name.now (words_of c.next_line.result.0.now) (line_form (words_of c.next_line.result.0.now))
    (sym c.in-Some.ensures ∙ ap (λ f. Some (form_seen f)) c.in-Loop.is) (near-words (words_of c.next_line.result.0.now))

pub read_block-requires-clause-short : goal.read_block-requires-clause-short
read_block-requires-clause-short c =
    let earlier = names_of c.loop-rest.loops.items in
    let many : length earlier ≡ c.len.result = search (rules, length-map) in
    short-name earlier c.in-Loop.name.now (c.in_default-open.ensures earlier c.loop-rest.invariant.names many).0

pub returns-in_err-block-in-Loop : goal.returns-in_err-block-in-Loop
returns-in_err-block-in-Loop c =
    let text = c.args.text.now in
    let loops = c.loop-rest.loops.items in
    let v = c.loop-rest.invariant in
    let name = c.in-Loop.name.now in
    let fault = c.in_err-block-in-Loop.field-0.0 in
    let form = ap (λ f. Some (form_seen f)) (sym c.in-Loop.is) ∙ c.in-Some.ensures in
    let next = forms-next c.loop-rest.rest.now c.next_line.result.0.now c.next_line.result.1.now (Some (LoopLine name)) c.next_line.ensures.lines form in
    let reads = reads-as text (names_of loops) loops c.loop-rest.line (forms_of c.loop-rest.rest.now) (Some (LoopLine name) ∷ forms_of c.next_line.result.1.now) next v.reads in
    let many : length (names_of loops) ≡ c.len.result = search (rules, length-map) in
    let opened = c.in_default-open.ensures (names_of loops) v.names many in
    let e : IsErrAnd c.from_residual.result (λ e. e ≡ fault) = c.from_residual.ensures.1 in
    handed-up text _ c.from_residual.result fault e
    (answer fault.kind fault _ (loops_in text)
    (λ h. reads-inside text (names_of loops) loops c.loop-rest.line name fault (forms_of c.next_line.result.1.now) c.requires.short reads opened.0 (h (names_of loops ++ name ∷ [])))
    c.in_err-block-in-Loop.ensures)

pub loop-rest-smaller : goal.loop-rest-smaller
loop-rest-smaller c = let h = c.in_ok-block-in-Loop.ensures in let past = h.past in let ends_by = h.ends_by in omega arith

pub loop-rest-preserved : goal.loop-rest-preserved
loop-rest-preserved c =
    let text = c.args.text.now in
    let loops = c.loop-rest.loops.items in
    let v = c.loop-rest.invariant in
    let block = c.in_ok-block-in-Loop.block in
    let h = c.in_ok-block-in-Loop.ensures in
    let past = h.past in
    let ends_by = h.ends_by in
    let name = c.in-Loop.name.now in
    let form = ap (λ f. Some (form_seen f)) (sym c.in-Loop.is) ∙ c.in-Some.ensures in
    let next = forms-next c.loop-rest.rest.now c.next_line.result.0.now c.next_line.result.1.now (Some (LoopLine name)) c.next_line.ensures.lines form in
    let reads = reads-as text (names_of loops) loops c.loop-rest.line (forms_of c.loop-rest.rest.now) (Some (LoopLine name) ∷ forms_of c.next_line.result.1.now) next v.reads in
    let many : length (names_of loops) ≡ c.len.result = search (rules, length-map) in
    let opened = c.in_default-open.ensures (names_of loops) v.names many in
    let lines = forms_of c.next_line.result.1.now in
    let items : c.push.new.self.items ≡ loops ++ block.found ∷ [] = search rules in
    let found = items ∙ ap (λ l. loops ++ l ∷ []) h.found in
    let names = names-with loops c.push.new.self.items (loop_of (name, whole [] lines)) name found (name-of-loop name (whole [] lines)) in
    record {
      reads = subst (λ ns. Reads text ns c.push.new.self.items block.line (forms_of block.rest.now)) (sym names)
          (subst (λ ls. Reads text (names_of loops ++ name ∷ []) ls block.line (forms_of block.rest.now)) (sym found)
          (reads-block text (names_of loops) loops c.loop-rest.line block.line name (whole [] lines) lines (forms_of block.rest.now) reads opened.0 (h.faults (names_of loops ++ name ∷ [])) h.following));
      names = subst (HasNames c.open.new.names) (sym names) opened.1;
      few = omega (arith, few-loops (names_of loops) name opened.0, length-map loops (λ (x : LoopData). x.name), ap length items, length_push loops block.found);
      good = subst (All IsLoop) (sym items) (All-push IsLoop loops block.found v.good h.well_formed);
      within = omega arith;
    }
