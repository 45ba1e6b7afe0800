use Rattle.std.proofs.Common.{◌≡◌, ◌<◌, length, IfSome, subst, sym}
use Rattle.std.specs.Option.{option_map}
use Rattle.machine_lint.specs.Words.{key_from}
use Rattle.machine_lint.specs.inner.Marks.{mark_at}
use Rattle.machine_lint.specs.declared.index.Mark.{Mark}
use Rattle.machine_lint.proofs.Marks.{key-inside}
use Rattle.machine_lint.proofs.index.Indexed.find_key.Goals as goal

pub returns : goal.returns
returns c =
    let is : c.find_word.result ≡ option_map (mark_at c.args.self.now) (key_from c.args.self.now c.args.word.now c.args.from) = rw c.self.view_is at c.find_word.ensures in
    record {
      is = is;
      inside = subst (λ o. IfSome o (λ (mark : Mark). mark.at < length c.args.self.now)) (sym is) (key-inside c.args.self.now c.args.word.now c.args.from);
    }
