use Rattle.solution_json.specs.Values.{file_object}
use Rattle.solution_json.proofs.Lists.{numbered-more}
use Rattle.solution_json.proofs.values.told_files.Goals as goal

pub loop-file-preserved : goal.loop-file-preserved
loop-file-preserved c =
    numbered-more (file_object c.args.solution.now) c.loop-file.values.items c.push.new.self.items c.in_ok-told_file.field-0 c.loop-file.file c.loop-file.invariant c.in_ok-told_file.ensures
    c.in_ok-push.ensures.items
