use Rattle.solution_text.specs.Files.{file_line}
use Rattle.solution_text.proofs.Loops.{numbered-more}
use Rattle.solution_text.proofs.files.push_files.Goals as goal

pub loop-file-preserved : goal.loop-file-preserved
loop-file-preserved c = numbered-more (file_line c.args.solution.now) c.args.text.now.items c.loop-file.text.items c.push_file.new.text.items c.loop-file.file c.loop-file.invariant c.in_ok-push_file.ensures.ok
