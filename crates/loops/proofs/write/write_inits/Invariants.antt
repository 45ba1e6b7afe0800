use Rattle.std.proofs.Common.{◌≡◌, ◌++◌, take, string_bytes}
use Rattle.std.specs.List.{flat_map}
use Rattle.loop_data.specs.declared.language.lists.Initial.{Initial}
use Rattle.loops.specs.Text.{line_text, init_words}
use Rattle.loops.proofs.write.write_inits.Given as goal

abbrev pub invariant-loop-init : goal.invariant-loop-init
invariant-loop-init l = string_bytes l.text ≡ string_bytes l.initial.text ++ flat_map (λ (i : Initial). line_text (init_words l.innermost i)) (take l.init-index l.init-items)
