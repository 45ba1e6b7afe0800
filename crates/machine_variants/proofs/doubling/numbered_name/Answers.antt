use Rattle.std.proofs.Common.{◌≡◌, ◌<◌, ◌≤◌, ◌++◌, ℕ, List, length, sym, ap, ◌∙◌, subst}
use Rattle.std.specs.Prelude.{codes}
use Rattle.std.proofs.lemmas.Bool.{false≢true}
use Rattle.machine_variants.proofs.Names.{name-short, name_of}
use Rattle.machine_variants.proofs.doubling.numbered_name.Goals as goal

pub unreachable-requires : goal.unreachable-requires
unreachable-requires c =
    let text : c.as_str.result.now ≡ name_of c.args.number
    = c.as_str.ensures.value ∙ c.in_ok-push_str-2.ensures.bytes
    ∙ ap (λ t. t ++ c.format.result.now) (c.in_ok-push_str.ensures.bytes ∙ ap (λ t. t ++ codes "u") c.new-text.ensures.bytes) ∙ ap (λ d. codes "u" ++ d) c.format.ensures.text in
    false≢true (c.in-None.ensures.fits.1 (subst (λ (t : List ℕ). (0 < length t) × (length t ≤ 16)) (sym text) (name-short c.args.number c.requires)))
