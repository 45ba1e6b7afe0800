use Rattle.std.proofs.Common.{◌≡◌, ◌∙◌, true, false, sym, ap, is_some, is_none, refl, Option, Some, None}
use Rattle.std.specs.List.{list_any}
use Rattle.machine_data.specs.Opcodes.{same_word}
use Rattle.loop_reader.specs.inner.Known.{known_as}
use Rattle.loop_reader.proofs.lookups.Naming.{opening-none, names-more}
use Rattle.loop_reader.proofs.read.open.Goals as goal

none-there : {X : Type 0} (o : Option X) → true ≡ is_none o → is_some o ≡ false
none-there None h = refl
none-there (Some x) h = cc

pub returns : goal.returns
returns c = λ names has e.
    let absent : list_any (same_word c.args.name.now) names ≡ false = sym (has c.args.name.now) ∙ none-there (known_as c.args.names.now c.args.name.now) (sym c.if-not-branch.false ∙ c.in_ok-add.ensures.added) in (
      opening-none names c.args.name.now c.args.loops e (sym c.is_long.ensures ∙ c.if-is_long.false) c.if-loops-ge-MAX_LOOPS.false absent,
      λ q. ap is_some (c.in_ok-add.ensures.names q) ∙ names-more names c.args.name.now q (known_as c.args.names.now q) _ (has q),
    )
