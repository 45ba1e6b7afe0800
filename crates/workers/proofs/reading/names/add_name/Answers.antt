use Rattle.std.proofs.Common.{◌∙◌, Bool, Some, cond, is_some, sym, ap}
use Rattle.std.proofs.lemmas.Map.Text.{btree_map_updates_str}
use Rattle.machine_data.specs.Opcodes.{same_word}
use Rattle.loop_reader.proofs.lookups.Declared.{at, same_word-sym}
use Rattle.workers.specs.inner.Pieces.{has_name}
use Rattle.workers.proofs.Naming.{there-now, told-other}
use Rattle.workers.proofs.reading.names.add_name.Goals as goal

pub returns : goal.returns
returns c =
    let name = c.args.name.now in
    let old = c.args.names.now in
    record {
      new = told-other (has_name old name) c.is_none.result (ap is_some (sym c.in_ok-earlier.ensures.old) ∙ c.is_none.ensures);
      names = λ q.
          ap is_some (btree_map_updates_str name old c.insert.new.self _ c.in_ok-earlier.ensures.updates q ∙ ap (λ (t : Bool). cond t (Some tt) (at old q)) (same_word-sym name q))
          ∙ there-now (at old q) tt (same_word q name);
    }
