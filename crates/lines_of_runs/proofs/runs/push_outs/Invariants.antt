use Rattle.std.proofs.Common.{◌≡◌, ℕ, ℤ, ◌++◌, take}
use Rattle.std.specs.List.{flat_map, zip}
use Rattle.loop_data.specs.NamedParts.{value_name}
use Rattle.lines_of_runs.specs.Plain.{out_line}
use Rattle.lines_of_runs.proofs.runs.push_outs.Given as goal

abbrev pub invariant-loop-index : goal.invariant-loop-index
invariant-loop-index l = l.text.items ≡ l.initial.text.items ++ flat_map (λ (o : ℕ × ℤ). out_line (value_name l.innermost o.0) o.1) (take l.index (zip l.innermost.outs l.after.outs))
