use Rattle.std.proofs.Common.{codes, string_bytes}
use Rattle.lint_text.specs.Words.{shown}
use Rattle.lint_text.proofs.Joined.{three_parts}
use Rattle.lint_text.proofs.what.push_name.Goals as goal

pub returns : goal.returns
returns c =
    three_parts (string_bytes c.args.text.now) (codes ": did you mean ") (shown c.args.name.now) (codes "?") (string_bytes c.push_str.new.self) (string_bytes c.add_bytes.new.text) (string_bytes c.push_str-2.new.self)
    c.in_ok-push_str.ensures.bytes c.in_ok-add_bytes.ensures c.in_ok-push_str-2.ensures.bytes
