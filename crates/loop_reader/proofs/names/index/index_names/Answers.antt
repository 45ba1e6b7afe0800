use Rattle.std.proofs.Common.{refl, ap, sym, subst, ◌∙◌, arith, option_map}
use Rattle.std.proofs.lemmas.Bool.{and_parts}
use Rattle.std.proofs.lemmas.List.{take_all}
use Rattle.loop_reader.specs.Meaning.{declared, is_array, is_param, is_statement}
use Rattle.loop_reader.specs.Declarations.{declared_seen}
use Rattle.loop_reader.specs.inner.Known.{known_as, IsIndexed}
use Rattle.loop_reader.proofs.lookups.Declared.{declared-more, how_many-more, one_if-le}
use Rattle.loop_reader.proofs.lookups.Once.{once-none, once-lines}
use Rattle.loop_reader.proofs.names.index.index_names.Goals as goal

pub loop-entry-init : goal.loop-entry-init
unfolding declared
loop-entry-init c = record {
  names = λ q. ap (option_map declared_seen) (c.clear.ensures q);
  once = λ h. once-none;
  arrays = refl;
  params = refl;
  statements = refl;
  few_arrays = omega arith;
  few_params = omega arith;
  few_statements = omega arith;
}

pub loop-entry-preserved : goal.loop-entry-preserved
loop-entry-preserved c =
    let lines = c.args.lines.now in
    let i = c.loop-entry.entry-index in
    let h = c.with-counts.ensures in
    let v = c.loop-entry.invariant in
    record {
      names = declared-more lines i _ (λ q. option_map declared_seen (known_as c.loop-entry.names q)) (λ q. option_map declared_seen (known_as c.add_declared.new.names q)) _ _ _ c.loop-entry-test.true
          v.names v.arrays v.params v.statements c.in_ok-once.ensures.names;
      once = λ both.
          let parts = and_parts c.loop-entry.once c.in_ok-once.field-0 both in
          once-lines lines i _ _ _ _ c.loop-entry-test.true v.arrays v.params v.statements (v.once parts.0)
          (λ q what is. sym (v.names q) ∙ ap (option_map declared_seen) (c.in_ok-once.ensures.fresh parts.1 q what is));
      arrays = how_many-more is_array lines i _ _ _ c.loop-entry-test.true v.arrays h.arrays;
      params = how_many-more is_param lines i _ _ _ c.loop-entry-test.true v.params h.params;
      statements = how_many-more is_statement lines i _ _ _ c.loop-entry-test.true v.statements h.statements;
      few_arrays = omega (arith, h.arrays, v.few_arrays, one_if-le);
      few_params = omega (arith, h.params, v.few_params, one_if-le);
      few_statements = omega (arith, h.statements, v.few_statements, one_if-le);
    }

pub returns-clause-indexed : goal.returns-clause-indexed
returns-clause-indexed c =
    let v = c.loop-entry.invariant in
    subst (λ ls. IsIndexed ls c.loop-entry.names c.loop-entry.once) (take_all c.loop-entry.entry-index c.args.lines.now c.loop-entry-test.false)
    (record { known = v.names; distinct = v.once })
