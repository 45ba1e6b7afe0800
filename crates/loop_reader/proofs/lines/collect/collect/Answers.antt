use Rattle.std.proofs.Common.{◌||◌, Some, None, ap, sym, ◌∙◌, arith, length}
use Rattle.std.proofs.lemmas.List.{length_push}
use Rattle.loop_lines.specs.Forms as spec
use Rattle.loop_reader.specs.Meaning.{has_statement, has_out, is_statement, is_out, forms_of}
use Rattle.loop_lines.specs.Parsed.{form_seen}
use Rattle.loop_reader.specs.inner.Blocks.{forms_in}
use Rattle.loop_reader.specs.declared.lines.entry.LineEntry.{LineEntry}
use Rattle.loop_reader.proofs.blocks.Reading.{reads-blank, reads-line, reads-same, reads-end, reads-open, reads-unfit, forms-next, forms-none, other-than-end, any-push}
use Rattle.loop_reader.proofs.lines.collect.collect.Goals as goal
use Rattle.loop_reader.proofs.lines.collect.collect.Goals.{in-None, in-Some+in_default+else-not-allows+in_ok-push-in_default}

pub returns-in-End-clause-stops : goal.returns-in-End-clause-stops
returns-in-End-clause-stops c =
    let next = forms-next c.loop-rest.rest.now c.next_line.result.0.now c.next_line.result.1.now (Some spec.EndLine) c.next_line.ensures.lines (ap (λ f. Some (form_seen f)) (sym c.in-End.is) ∙ c.in-Some.ensures) in
    reads-end c.args.number (forms_of c.args.text.now) c.loop-rest.lines.items c.loop-rest.line c.next_line.result.1
    (reads-same _ _ _ _ _ _ next c.loop-rest.invariant.reads)

pub returns-then-not-allows : goal.returns-then-not-allows
returns-then-not-allows c =
    let v = c.loop-rest.invariant in
    let form = form_seen c.in-Some.form in
    let next = forms-next c.loop-rest.rest.now c.next_line.result.0.now c.next_line.result.1.now (Some form) c.next_line.ensures.lines c.in-Some.ensures in
    record {
      stops = reads-unfit c.args.number (forms_of c.args.text.now) c.loop-rest.lines.items c.loop-rest.line form c.next_line.result.1
          (reads-same _ _ _ _ _ _ next v.reads)
          (other-than-end c.in-Some.form c.in_default.not-End)
          (sym (c.allows.ensures (forms_in c.loop-rest.lines.items) (sym v.statement) (sym v.out)) ∙ c.if-not-allows.true);
      ends_by = omega arith;
      past = v.past;
      few = omega (arith, v.few);
      statement = v.statement;
      out = v.out;
    }

pub returns-clause-stops : goal.returns-clause-stops
returns-clause-stops c =
    reads-open c.args.number (forms_of c.args.text.now) c.loop-rest.lines.items c.loop-rest.line
    (reads-same _ _ _ _ _ _ (forms-none c.loop-rest.rest.now (sym c.loop-rest-test.false ∙ c.is_empty.ensures)) c.loop-rest.invariant.reads)

pub loop-rest-preserved : goal.loop-rest-preserved
loop-rest-preserved c =
    let v = c.loop-rest.invariant in
    elim c.match-form_of.branch [
      | in-None w ↦
          let next = forms-next c.loop-rest.rest.now c.next_line.result.0.now c.next_line.result.1.now None c.next_line.ensures.lines w.in-None.ensures in
          record {
            reads = rw w.lines-is (reads-blank _ _ _ _ _ (reads-same _ _ _ _ _ _ next v.reads));
            statement = rw (w.seen-is, w.lines-is) v.statement;
            out = rw (w.seen-is, w.lines-is) v.out;
            few = rw w.lines-is (omega (arith, v.few, c.next_line.ensures.shorter));
            past = omega (arith, v.past);
            within = omega arith;
          }
      | in-Some+in_default+else-not-allows+in_ok-push-in_default w ↦
          let form = form_seen w.in-Some.form in
          let e : LineEntry = record { line = c.loop-rest.line; form = w.in-Some.form } in
          let next = forms-next c.loop-rest.rest.now c.next_line.result.0.now c.next_line.result.1.now (Some form) c.next_line.ensures.lines w.in-Some.ensures in
          let is = w.lines-is in
          let items = ap (λ l. l.items) w.lines-is ∙ w.in_ok-push-in_default.ensures.items in
          record {
            reads = rw items (reads-line c.args.number (forms_of c.args.text.now) c.loop-rest.lines.items e (forms_of c.next_line.result.1.now) (reads-same _ _ _ _ _ _ next v.reads)
                (other-than-end w.in-Some.form w.in_default.not-End)
                (sym (w.allows.ensures (forms_in c.loop-rest.lines.items) (sym v.statement) (sym v.out)) ∙ w.if-not-allows.false));
            statement = ap (λ s. s.statement) w.seen-is ∙ w.with-seen.ensures.statement ∙ ap (λ b. b || is_statement form) v.statement ∙ sym (ap (λ es. has_statement (forms_in es)) items ∙ any-push is_statement c.loop-rest.lines.items e);
            out = ap (λ s. s.out) w.seen-is ∙ w.with-seen.ensures.out ∙ ap (λ b. b || is_out form) v.out ∙ sym (ap (λ es. has_out (forms_in es)) items ∙ any-push is_out c.loop-rest.lines.items e);
            few = omega (arith, v.few, c.next_line.ensures.shorter, ap length items, length_push c.loop-rest.lines.items e);
            past = omega (arith, v.past);
            within = omega arith;
          }
    ]
