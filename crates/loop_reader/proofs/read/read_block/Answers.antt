use Rattle.std.proofs.Common.{◌≡◌, ◌∙◌, ◌+◌, ◌++◌, ◌∷◌, [], None, sym, ap, subst, arith, length, take}
use Rattle.std.proofs.lemmas.List.Sums.{count_by-le-length}
use Rattle.std.proofs.lemmas.List.{length-map}
use Rattle.loop_lines.specs.Forms.{EndLine}
use Rattle.loop_reader.specs.declared.lines.entry.LineEntry.{LineEntry}
use Rattle.loop_reader.specs.Meaning.{how_many, forms_of, faults_of, at_line, is_statement, whole, outside_faults, blocks_of, loop_of}
use Rattle.loop_lines.specs.Parsed.{form_seen}
use Rattle.loop_reader.specs.inner.Blocks.{forms_in, entry_faults, StopsBlock, EndsBy, IsPast}
use Rattle.loop_reader.specs.inner.Checks.{first_in}
use Rattle.loop_reader.proofs.blocks.Blocking.{end-kinds, statement-there, after-front, no-end-kinds}
use Rattle.loop_reader.proofs.blocks.Ending.{stop-fault, no-limit, handed-back}
use Rattle.loop_reader.proofs.read.read_block.Goals as goal

pub reset-requires : goal.reset-requires
reset-requires c =
    let same : c.new-index.result ≡ c.collect_block.new.lines.items = c.new-index.ensures ∙ c.as_slice-2.ensures.value in
    let counted : c.in_ok-counts.counts.statements ≡ how_many is_statement (forms_in c.new-index.result) = c.in_ok-counts.ensures.counts.statements ∙ ap (λ ls. how_many is_statement (forms_in ls)) (c.as_slice.ensures.value ∙ sym same) in
    let all = count_by-le-length is_statement (forms_in c.new-index.result) in
    let l : length (forms_in c.new-index.result) ≡ length c.collect_block.new.lines.items = length-map c.new-index.result (λ (e : LineEntry). form_seen e.form) ∙ ap length same in
    omega (arith, all, l, c.in_ok-sound.ensures.few, counted)

pub returns-in_err-line : goal.returns-in_err-line
returns-in_err-line c =
    let same : c.new-index.result ≡ c.collect_block.new.lines.items = c.new-index.ensures ∙ c.as_slice-2.ensures.value in
    let counted : c.in_ok-counts.counts.statements ≡ how_many is_statement (forms_in c.new-index.result) = c.in_ok-counts.ensures.counts.statements ∙ ap (λ ls. how_many is_statement (forms_in ls)) (c.as_slice.ensures.value ∙ sym same) in
    let stops = subst (λ ls. StopsBlock c.args.number (forms_of c.args.text.now) ls c.in_ok-sound.sound c.in_ok-sound.stop) (sym same) c.in_ok-sound.ensures.stops in
    handed-back c.args.name.now c.args.number c.args.text.now c.from_residual-in_err-line.result c.in_err-line.field-0.0 c.from_residual-in_err-line.ensures.1
    (stop-fault c.args.number (forms_of c.args.text.now) c.new-index.result c.in_ok-sound.sound c.in_ok-first.first c.in_ok-sound.stop c.in_ok-counts.counts.statements c.in_err-line.field-0.0 stops c.in_ok-first.ensures.value counted c.in_err-line.ensures)

pub build-requires-clause-some : goal.build-requires-clause-some
build-requires-clause-some c =
    let same : c.new-index.result ≡ c.collect_block.new.lines.items = c.new-index.ensures ∙ c.as_slice-2.ensures.value in
    let counted : c.in_ok-counts.counts.statements ≡ how_many is_statement (forms_in c.new-index.result) = c.in_ok-counts.ensures.counts.statements ∙ ap (λ ls. how_many is_statement (forms_in ls)) (c.as_slice.ensures.value ∙ sym same) in
    statement-there (forms_in c.new-index.result) c.in_ok-counts.counts.statements counted (no-limit _ c.in_ok-line.ensures.2)

pub returns : goal.returns
returns c =
    let block = forms_in c.new-index.result in
    let same : c.new-index.result ≡ c.collect_block.new.lines.items = c.new-index.ensures ∙ c.as_slice-2.ensures.value in
    let counted : c.in_ok-counts.counts.statements ≡ how_many is_statement (forms_in c.new-index.result) = c.in_ok-counts.ensures.counts.statements ∙ ap (λ ls. how_many is_statement (forms_in ls)) (c.as_slice.ensures.value ∙ sym same) in
    let clean : None ≡ first_in (entry_faults block [] (take c.in_ok-sound.sound c.new-index.result)) = sym c.in_ok-line.ensures.0 ∙ c.in_ok-first.ensures.value in
    let h = subst (λ ls. StopsBlock c.args.number (forms_of c.args.text.now) ls c.in_ok-sound.sound c.in_ok-sound.stop) (sym same) c.in_ok-sound.ensures.stops in
    let at = subst (StopsBlock c.args.number (forms_of c.args.text.now) c.new-index.result c.in_ok-sound.sound) c.in_ok-line.ensures.1 h in
    let good = no-end-kinds (faults_of block block EndLine) (no-limit _ c.in_ok-line.ensures.2 ∙ ap first_in (end-kinds block c.in_ok-counts.counts.statements counted)) in
    let ends_by = subst (EndsBy (c.args.number + length c.args.text.now)) c.in_ok-line.ensures.1 c.in_ok-sound.ensures.ends_by in
    let all : block ≡ whole [] (forms_of c.args.text.now) = ap forms_in same ∙ c.in_ok-sound.ensures.whole in
    record {
      faults = λ names.
          let after = outside_faults (c.in_ok-line.line + 1) names (forms_of c.in_ok-line.rest.now) in
          after-front _ _ (at_line c.in_ok-line.line (faults_of block block EndLine) ++ after) (at.1 names) clean ∙ ap (λ k. at_line c.in_ok-line.line k ++ after) good;
      following = at.2 c.args.name.now ∙ ap (λ b. (c.args.name.now, b) ∷ blocks_of (forms_of c.in_ok-line.rest.now)) all;
      found = c.in_ok-found.ensures.value ∙ ap (λ b. loop_of (c.args.name.now, b)) all;
      well_formed = c.in_ok-found.ensures.well_formed;
      past = let past = subst (IsPast c.args.number) c.in_ok-line.ensures.1 c.in_ok-sound.ensures.past in omega arith;
      ends_by = ends_by;
    }
