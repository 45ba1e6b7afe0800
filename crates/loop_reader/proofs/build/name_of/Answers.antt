use Rattle.std.proofs.Common.{◌≡◌, rules, arith, length}
use Rattle.std.specs.Str.{IsUtf8}
use Rattle.loop_reader.proofs.lookups.Naming.{name-utf8, name-some, ok-where}
use Rattle.loop_reader.proofs.build.name_of.Goals as goal

pub unwrap-text-requires : goal.unwrap-text-requires
unwrap-text-requires c = ok-where c.from_utf8.result (IsUtf8 c.args.bytes.now) _ _ (name-utf8 c.args.bytes.now c.requires.name) c.from_utf8.ensures.cases

pub unwrap-requires : goal.unwrap-requires
unwrap-requires c =
    let same : c.unwrap-text.result.now ≡ c.args.bytes.now = search rules in
    let some = name-some c.args.bytes.now c.requires.name in
    let short = c.requires.name.short in
    let l : length c.unwrap-text.result.now ≡ length c.args.bytes.now = rw same in
    c.new.ensures.fits.1 (omega arith, omega arith)
