use Rattle.std.proofs.Common.{◌∙◌, ◌+◌, [], refl, sym, ap, subst, arith, take}
use Rattle.loop_reader.specs.declared.lines.entry.LineEntry.{LineEntry}
use Rattle.loop_lines.specs.declared.form.Form.TheVariants as forms
use Rattle.loop_reader.specs.Meaning.{is_array, is_param, is_statement}
use Rattle.loop_reader.specs.inner.Blocks.{forms_in, entry_faults}
use Rattle.loop_reader.specs.inner.Checks.{first_in}
use Rattle.loop_reader.proofs.lookups.Declared.{how_many-more, one_if-le}
use Rattle.loop_reader.specs.inner.Found.{AreFound}
use Rattle.loop_reader.proofs.lookups.Finding.{found-none, found-more, found-all}
use Rattle.loop_reader.proofs.faults.Giving.{given-none}
use Rattle.loop_reader.proofs.faults.Turns.{forms_past, block-at, line-fault, line-near, turn-faulty, turn-good, turn-given, same-given}
use Rattle.loop_reader.proofs.checks.check.first_fault.Goals as goal

-- what stands past the last line
none : LineEntry
none = record { line = 0; form = forms.Loop (record { ref_ptr = (0, 0); now = [] }) }

pub loop-entry-init : goal.loop-entry-init
loop-entry-init c = record {
  items = ap (take c.args.sound) c.lines.ensures;
  faults = refl;
  given = given-none (forms_in c.args.index.now) c.args.given.now.inits c.args.given.now.outs.items c.requires.inits c.requires.outs;
  found = λ few. subst (AreFound (forms_in c.args.index.now) (take 0 (take c.args.sound c.lines.result.now))) (sym c.clear.ensures.items) (found-none (forms_in c.args.index.now) (take c.args.sound c.lines.result.now));
  arrays = refl;
  params = refl;
  statements = refl;
  few_arrays = omega arith;
  few_params = omega arith;
  few_statements = omega arith;
}

pub take_line-requires-clause-here : goal.take_line-requires-clause-here
unfolding none
take_line-requires-clause-here c =
    let v = c.loop-entry.invariant in
    let i = c.loop-entry.entry-index in
    let lines = take c.args.sound c.lines.result.now in (
      forms_in (take i lines),
      forms_past c.args.index.now c.args.sound lines i,
      block-at c.args.index.now lines c.args.sound i none v.items c.loop-entry-test.true,
      record { arrays = v.arrays; params = v.params; statements = v.statements },
    )

pub take_line-requires-clause-near : goal.take_line-requires-clause-near
unfolding none
take_line-requires-clause-near c =
    line-near c.args.index.now (take c.args.sound c.lines.result.now) c.args.sound c.loop-entry.entry-index none c.loop-entry.invariant.items c.loop-entry-test.true c.requires.block

pub returns-in-Err-clause-value : goal.returns-in-Err-clause-value
unfolding none
returns-in-Err-clause-value c =
    let v = c.loop-entry.invariant in
    let lines = take c.args.sound c.lines.result.now in
    let same = line-fault c.args.index.now lines c.args.sound c.loop-entry.entry-index none c.loop-entry.counts c.loop-entry.given.inits c.loop-entry.given.outs.items
    v.items c.loop-entry-test.true c.requires.block v.arrays v.params v.statements v.given in
    sym (turn-faulty (forms_in c.args.index.now) (forms_in (take c.loop-entry.entry-index lines)) lines c.loop-entry.entry-index none _ c.in-Err.kind c.loop-entry-test.true same c.in-Err.ensures.fault)
    ∙ sym (sym (ap (λ ls. first_in (entry_faults (forms_in c.args.index.now) [] ls)) v.items) ∙ v.faults)

pub loop-entry-preserved : goal.loop-entry-preserved
unfolding none
loop-entry-preserved c =
    let v = c.loop-entry.invariant in
    let i = c.loop-entry.entry-index in
    let lines = take c.args.sound c.lines.result.now in
    let block = forms_in c.args.index.now in
    let same = line-fault c.args.index.now lines c.args.sound i none c.loop-entry.counts c.loop-entry.given.inits c.loop-entry.given.outs.items
    v.items c.loop-entry-test.true c.requires.block v.arrays v.params v.statements v.given in
    let near = line-near c.args.index.now lines c.args.sound i none v.items c.loop-entry-test.true c.requires.block in
    let clean = c.in-Ok.ensures.fault in
    let h = c.with-counts.ensures in
    record {
      items = v.items;
      faults = v.faults ∙ turn-good block lines i none _ c.loop-entry-test.true same clean;
      given = same-given block (forms_in (take (i + 1) lines)) _ _ _ _ c.in-Ok.ensures.inits c.in-Ok.ensures.outs
          (turn-given block lines i none _ c.loop-entry.given.inits c.loop-entry.given.outs.items c.loop-entry-test.true same clean near v.given);
      found = λ few. subst (AreFound block (take (i + 1) lines)) (sym c.in_ok-push-in-Ok.ensures.items)
          (found-more block lines i none c.loop-entry.found.items c.in-Ok.line c.loop-entry-test.true (v.found few) (c.in-Ok.ensures.found few));
      arrays = how_many-more is_array lines i none _ _ c.loop-entry-test.true v.arrays h.arrays;
      params = how_many-more is_param lines i none _ _ c.loop-entry-test.true v.params h.params;
      statements = how_many-more is_statement lines i none _ _ c.loop-entry-test.true v.statements h.statements;
      few_arrays = omega (arith, h.arrays, v.few_arrays, one_if-le);
      few_params = omega (arith, h.params, v.few_params, one_if-le);
      few_statements = omega (arith, h.statements, v.few_statements, one_if-le);
    }

pub returns-clause-found : goal.returns-clause-found
returns-clause-found c = λ same few.
    let v = c.loop-entry.invariant in
    subst (λ ls. AreFound (forms_in c.args.index.now) ls c.loop-entry.found.items) v.items
    (found-all (forms_in c.args.index.now) (take c.args.sound c.lines.result.now) c.loop-entry.entry-index c.loop-entry.found.items c.loop-entry-test.false (v.found few))
