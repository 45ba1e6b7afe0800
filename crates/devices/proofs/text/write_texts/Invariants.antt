use Rattle.std.proofs.Common.{◌≡◌, ◌++◌, option_map, take}
use Rattle.devices.specs.Devices.{joined_text}
use Rattle.devices.proofs.text.write_texts.Given as goal

abbrev pub invariant-loop-text : goal.invariant-loop-text
invariant-loop-text g l = record {
  written : g.O.Output.taken l.output ≡ option_map (λ before. before ++ joined_text (take l.text-index l.texts)) (g.O.Output.taken l.fn.output);
  fine : g.O.Output.failed l.output ≡ g.O.Output.failed l.fn.output;
}
