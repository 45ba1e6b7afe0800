use Rattle.std.proofs.Common.{◌≡◌, ◌++◌, take, string_bytes}
use Rattle.std.specs.List.{flat_map}
use Rattle.loop_data.specs.declared.language.statement.Statement.{Statement}
use Rattle.loops.specs.Text.{line_text, statement_words}
use Rattle.loops.proofs.write.write_statements.Given as goal

abbrev pub invariant-loop-statement : goal.invariant-loop-statement
invariant-loop-statement l = string_bytes l.text ≡ string_bytes l.initial.text ++ flat_map (λ (s : Statement). line_text (statement_words l.innermost s)) (take l.statement-index l.statement-items)
