use Rattle.std.proofs.Common.{◌≡◌, map, take}
use Rattle.std.specs.List.{filter_map}
use Rattle.loop_reader.specs.Meaning.{array_in, param_in, statement_in, out_in, statement_of}
use Rattle.loop_reader.specs.inner.Blocks.{forms_in}
use Rattle.loop_reader.specs.inner.Building.{rows_of}
use Rattle.loop_reader.proofs.build.build.Given as goal

abbrev pub invariant-loop-i : goal.invariant-loop-i
invariant-loop-i l =
    let block = forms_in l.index in
    let done = forms_in (take l.i l.lines) in
    record {
      items : l.lines ≡ l.index;
      arrays : l.parts.arrays.items ≡ filter_map array_in done;
      params : l.parts.params.items ≡ filter_map param_in done;
      statements : l.parts.statements.items ≡ map (statement_of block) (filter_map statement_in done);
      inits : l.parts.inits.items ≡ rows_of l.given.inits 0 (filter_map statement_in done);
      outs : l.parts.outs.items ≡ filter_map (out_in block) done;
    }
