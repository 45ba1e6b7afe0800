use Rattle.std.proofs.Common.{◌≡◌, ◌∙◌, ℕ, List, ap, map}
use Rattle.std.proofs.lemmas.Result.{IfOk-weaker}
use Rattle.std.specs.Borrow.{Bor}
use Rattle.near_names.specs.Nearest.{nearest}
use Rattle.loop_lines.specs.Forms.{Form}
use Rattle.loop_lines.specs.Words.{words_of}
use Rattle.reader_faults.specs.declared.loops.LoopFaultKind.TheVariants.{UnknownName}
use Rattle.loop_lint.specs.Hints.{candidates, hint_for, name_hint, name_in}
use Rattle.loop_lint.specs.declared.hints.Wanted.{Wanted}
use Rattle.loop_lint.specs.inner.Tables.{IsTable}
use Rattle.loop_lint.proofs.Hinting.{chosen_are}
use Rattle.loop_lint.proofs.hints.near_name.Goals as goal

pub returns : goal.returns
returns c =
    let given : List (List ℕ) = map (λ (n : Bor (List ℕ)). n.now) c.as_slice.result.now in
    IfOk-weaker c.nearest_of.result _ (λ hint. (forms : List Form) → IsTable forms c.args.block.now → hint ≡ hint_for forms (words_of c.args.line.now) c.args.word.now UnknownName)
    (λ hint is forms table.
    let names : given ≡ candidates forms c.wanted_at.result = rw c.as_slice.ensures.value (chosen_are forms c.args.block.now c.wanted_at.result _ table c.in_ok-names.ensures) in
    is ∙ ap (λ (name : List ℕ). name_hint (nearest name given)) c.name_in.ensures
    ∙ ap (λ (ns : List (List ℕ)). name_hint (nearest (name_in c.args.word.now) ns)) (names ∙ ap (λ (want : Wanted). candidates forms want) c.wanted_at.ensures)) c.nearest_of.ensures
