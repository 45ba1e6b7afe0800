use Rattle.std.proofs.Common.{not, ◌∙◌, ap, sym, subst}
use Rattle.loop_reader.specs.Declarations.{declared_seen}
use Rattle.loop_reader.specs.inner.Blocks.{forms_in, DeclaresOnce}
use Rattle.loop_reader.proofs.lookups.Once.{not-repeated}
use Rattle.loop_reader.proofs.names.index.Index.is_repeated.Goals as goal

pub returns-else-not-self : goal.returns-else-not-self
returns-else-not-self c =
    let once = c.self.invariant.distinct c.if-not-self.false in
    ap not c.if-not-self.false
    ∙ sym (not-repeated (forms_in c.args.self.now) c.args.name.now (declared_seen c.args.what) (subst (λ ls. DeclaresOnce (forms_in ls)) c.self.view_is once) c.requires)
