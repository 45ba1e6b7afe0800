use Rattle.std.proofs.Common.{◌+◌, ◌-◌, ◌≤◌, length, map}
use Rattle.std.specs.List.{All}
use Rattle.loop_data.specs.Loops.{LoopData, IsLoop}
use Rattle.loop_reader.specs.Meaning.{forms_of}
use Rattle.loop_reader.specs.inner.Texts.{HasNames}
use Rattle.loop_reader.proofs.blocks.OpeningLines.{Reads}
use Rattle.loop_reader.proofs.read.read_all.Given as goal

abbrev pub invariant-loop-rest : goal.invariant-loop-rest
invariant-loop-rest l =
    let earlier = map (λ (x : LoopData). x.name) l.loops.items in
    record {
      reads : Reads l.text earlier l.loops.items l.line (forms_of l.rest);
      names : HasNames l.names earlier;
      few : length l.loops.items ≤ 1024;
      good : All IsLoop l.loops.items;
      within : l.line + length l.rest ≤ 1 + length l.text;
    }

abbrev pub decreases-loop-rest : goal.decreases-loop-rest
decreases-loop-rest l = (2 + length l.text) - l.line
