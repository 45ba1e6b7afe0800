use Rattle.std.proofs.Common.{◌||◌, ◌++◌, ◌∷◌, [], ◌∙◌, ap, sym, Some, None, arith, length}
use Rattle.std.proofs.lemmas.List.{append_assoc, length_push}
use Rattle.loop_lines.specs.Forms as spec
use Rattle.loop_reader.specs.Meaning.{has_statement, has_out, is_statement, is_out, whole, forms_of}
use Rattle.loop_lines.specs.Parsed.{form_seen}
use Rattle.loop_reader.specs.inner.Blocks.{forms_in}
use Rattle.loop_reader.specs.declared.lines.entry.LineEntry.{LineEntry}
use Rattle.loop_reader.proofs.blocks.Reading.{forms-next, forms-none, other-than-end, whole-fit, whole-unfit, any-push}
use Rattle.loop_reader.proofs.lines.collect.collect_rest.Goals as goal

pub returns-in-End-clause-whole : goal.returns-in-End-clause-whole
returns-in-End-clause-whole c =
    let v = c.loop-rest.invariant in
    let next = forms-next c.loop-rest.rest.now c.next_line.result.0.now c.next_line.result.1.now (Some spec.EndLine) c.next_line.ensures.lines (ap (λ f. Some (form_seen f)) (sym c.in-End.is) ∙ c.in-Some.ensures) in
    sym (v.whole ∙ ap (whole (forms_in c.loop-rest.lines.items)) next)

pub loop-rest-preserved-in-None : goal.loop-rest-preserved-in-None
loop-rest-preserved-in-None c =
    let v = c.loop-rest.invariant in
    let next = forms-next c.loop-rest.rest.now c.next_line.result.0.now c.next_line.result.1.now None c.next_line.ensures.lines c.in-None.ensures in
    record {
      whole = v.whole ∙ ap (whole (forms_in c.loop-rest.lines.items)) next;
      more = v.more;
      few = omega (arith, v.few, c.next_line.ensures.shorter);
      statement = v.statement;
      out = v.out;
    }

pub loop-rest-preserved-in_ok-push-in_default : goal.loop-rest-preserved-in_ok-push-in_default
loop-rest-preserved-in_ok-push-in_default c =
    let v = c.loop-rest.invariant in
    let form = form_seen c.in-Some.form in
    let e : LineEntry = record { line = 0; form = c.in-Some.form } in
    let before = forms_in c.loop-rest.lines.items in
    let after = forms_of c.next_line.result.1.now in
    let next = forms-next c.loop-rest.rest.now c.next_line.result.0.now c.next_line.result.1.now (Some form) c.next_line.ensures.lines c.in-Some.ensures in
    let stands = sym (c.allows.ensures before (sym v.statement) (sym v.out)) ∙ c.if-allows.true in
    let items = c.in_ok-push-in_default.ensures.items in
    record {
      whole = v.whole ∙ ap (whole before) next ∙ whole-fit c.loop-rest.lines.items e after (other-than-end c.in-Some.form c.in_default.not-End) stands ∙ ap (λ es. whole (forms_in es) after) (sym items);
      more = (v.more.0 ++ e ∷ [], items ∙ ap (λ es. es ++ e ∷ []) v.more.1 ∙ append_assoc _ v.more.0 (e ∷ []));
      few = omega (arith, v.few, c.next_line.ensures.shorter, ap length items, length_push c.loop-rest.lines.items e);
      statement = c.with-seen.ensures.statement ∙ ap (λ b. b || is_statement form) v.statement ∙ sym (ap (λ es. has_statement (forms_in es)) items ∙ any-push is_statement c.loop-rest.lines.items e);
      out = c.with-seen.ensures.out ∙ ap (λ b. b || is_out form) v.out ∙ sym (ap (λ es. has_out (forms_in es)) items ∙ any-push is_out c.loop-rest.lines.items e);
    }

pub loop-rest-preserved : goal.loop-rest-preserved
loop-rest-preserved c =
    let v = c.loop-rest.invariant in
    let form = form_seen c.in-Some.form in
    let before = forms_in c.loop-rest.lines.items in
    let next = forms-next c.loop-rest.rest.now c.next_line.result.0.now c.next_line.result.1.now (Some form) c.next_line.ensures.lines c.in-Some.ensures in
    record {
      whole = v.whole ∙ ap (whole before) next ∙ whole-unfit before form (forms_of c.next_line.result.1.now) (other-than-end c.in-Some.form c.in_default.not-End)
          (sym (c.allows.ensures before (sym v.statement) (sym v.out)) ∙ c.if-allows.false);
      more = v.more;
      few = omega (arith, v.few, c.next_line.ensures.shorter);
      statement = v.statement;
      out = v.out;
    }

pub returns-clause-whole : goal.returns-clause-whole
returns-clause-whole c =
    let v = c.loop-rest.invariant in
    sym (v.whole ∙ ap (whole (forms_in c.loop-rest.lines.items)) (forms-none c.loop-rest.rest.now (sym c.loop-rest-test.false ∙ c.is_empty.ensures)))
