use Rattle.std.proofs.Common.{◌≡◌, ℕ, ◌≤◌, true, List, take, option_map}
use Rattle.loop_reader.specs.inner.Known.{known_as}
use Rattle.loop_reader.specs.Declarations.{declared_seen}
use Rattle.loop_reader.specs.inner.Blocks.{forms_in, DeclaresOnce}
use Rattle.loop_reader.specs.Meaning.{declared, how_many, is_array, is_param, is_statement}
use Rattle.loop_reader.proofs.names.index.index_names.Given as goal

abbrev pub invariant-loop-entry : goal.invariant-loop-entry
invariant-loop-entry l =
    let before = forms_in (take l.entry-index l.lines) in
    record {
      names : (q : List ℕ) → option_map declared_seen (known_as l.names q) ≡ declared before q;
      once : l.once ≡ true → DeclaresOnce before;
      arrays : l.counts.arrays ≡ how_many is_array before;
      params : l.counts.params ≡ how_many is_param before;
      statements : l.counts.statements ≡ how_many is_statement before;
      few_arrays : l.counts.arrays ≤ l.entry-index;
      few_params : l.counts.params ≤ l.entry-index;
      few_statements : l.counts.statements ≤ l.entry-index;
    }
