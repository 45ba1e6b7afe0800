use Rattle.std.proofs.Common.{◌≡◌, ◌++◌, take, string_bytes}
use Rattle.std.specs.List.{flat_map}
use Rattle.loop_data.specs.declared.language.lists.Param.{Param}
use Rattle.loops.specs.Text.{line_text, param_words}
use Rattle.loops.proofs.write.write_params.Given as goal

abbrev pub invariant-loop-param : goal.invariant-loop-param
invariant-loop-param l = string_bytes l.text ≡ string_bytes l.initial.text ++ flat_map (λ (p : Param). line_text (param_words p)) (take l.param-index l.params)
