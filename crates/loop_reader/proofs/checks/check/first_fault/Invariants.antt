use Rattle.std.proofs.Common.{◌≡◌, ◌≤◌, [], take, drop}
use Rattle.loop_reader.specs.Meaning.{how_many, is_array, is_param, is_statement}
use Rattle.loop_reader.specs.inner.Blocks.{forms_in, entry_faults}
use Rattle.loop_reader.specs.inner.Building.{IsFew}
use Rattle.loop_reader.specs.inner.Checks.{first_in, IsGiven}
use Rattle.loop_reader.specs.inner.Found.{AreFound}
use Rattle.loop_reader.proofs.checks.check.first_fault.Given as goal

abbrev pub invariant-loop-entry : goal.invariant-loop-entry
invariant-loop-entry l =
    let block = forms_in l.index in
    let before = forms_in (take l.entry-index l.entry-items) in
    record {
      items : l.entry-items ≡ take l.sound l.index;
      faults : first_in (entry_faults block [] l.entry-items) ≡ first_in (entry_faults block before (drop l.entry-index l.entry-items));
      given : IsGiven block before l.given.inits l.given.outs.items;
      found : IsFew block → AreFound block (take l.entry-index l.entry-items) l.found.items;
      arrays : l.counts.arrays ≡ how_many is_array before;
      params : l.counts.params ≡ how_many is_param before;
      statements : l.counts.statements ≡ how_many is_statement before;
      few_arrays : l.counts.arrays ≤ l.entry-index;
      few_params : l.counts.params ≤ l.entry-index;
      few_statements : l.counts.statements ≤ l.entry-index;
    }
