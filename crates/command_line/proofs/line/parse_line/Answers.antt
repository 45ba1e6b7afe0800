use Rattle.std.proofs.Common.{◌≡◌, ◌∙◌, [], ap, sym, List, ℕ, Bor, map}
use Rattle.clap.specs.Words.{App, HasKind, app_of, fault_of, subcommand_of, is_simple, is_simple_and_free, subcommand_rows_of}
use Rattle.command_line.specs.Lines.{program_line}
use Rattle.command_line.specs.inner.Parts.{line_for}
use Rattle.std.proofs.lemmas.Bool.{and_parts}
use Rattle.command_line.proofs.Beginnings.{line_is_free, same_meaning}
use Rattle.command_line.proofs.LineLemmas.{IsRead-error}
use Rattle.command_line.proofs.line.parse_line.Goals as goal

abbrev texts : List (Bor (List ℕ)) → List (List ℕ)
texts = map (λ w. w.now)

pub returns-in-Ok : goal.returns-in-Ok
returns-in-Ok c =
    let line = line_for c.wanted.result in
    let means = same_meaning c.wanted.result (texts c.args.words.now) c.wanted.ensures in
    let free = line_is_free c.wanted.result in
    let same : app_of c.in_ok-program.field-0 ≡ line = c.in_ok-program.ensures.is_line in
    let rows : subcommand_rows_of c.in-Ok.matches ≡ subcommand_of program_line (texts c.args.words.now) =
    (c.in-Ok.ensures.matches (ap is_simple same ∙ (and_parts _ _ free).0)).1 ∙ ap (λ (a : App). subcommand_of a (texts c.args.words.now)) same ∙ means.1 in
    let kinds : fault_of program_line (texts c.args.words.now) ≡ [] =
    sym means.0 ∙ ap (λ (a : App). fault_of a (texts c.args.words.now)) (sym same) ∙ c.in-Ok.ensures.kinds (ap is_simple_and_free same ∙ free) in
    rw (kinds, ← rows) c.meant.ensures

pub returns-in-Err : goal.returns-in-Err
returns-in-Err c =
    let line = line_for c.wanted.result in
    let means = same_meaning c.wanted.result (texts c.args.words.now) c.wanted.ensures in
    let same : app_of c.in_ok-program.field-0 ≡ line = c.in_ok-program.ensures.is_line in
    let has : HasKind (fault_of (app_of c.in_ok-program.field-0) (texts c.args.words.now)) c.in-Err.error =
    c.in-Err.ensures.kinds (ap is_simple_and_free same ∙ line_is_free c.wanted.result) in
    let told : fault_of (app_of c.in_ok-program.field-0) (texts c.args.words.now) ≡ fault_of program_line (texts c.args.words.now) =
    ap (λ (a : App). fault_of a (texts c.args.words.now)) same ∙ means.0 in
    IsRead-error _ c.in-Err.error _ _ c.usage_of.ensures (rw told at has)
