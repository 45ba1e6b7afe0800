use Rattle.std.proofs.Common.{◌≡◌, ◌∙◌, ℕ, Some, sym, ap, subst}
use Rattle.serde_json.specs.Data.{number, unsigned}
use Rattle.serde_json.specs.View.{view}
use Rattle.problems.specs.declared.draft.File.{File}
use Rattle.solution_text.proofs.Shown.{copies-is}
use Rattle.solution_json.specs.Values.{copies_value}
use Rattle.solution_json.proofs.values.told_copies.Goals as goal

pub returns-in-Unallotted : goal.returns-in-Unallotted
returns-in-Unallotted c =
    let s = c.args.solution.now in
    subst (λ (kind : File). view c.from.result ≡ copies_value s c.args.value (Some kind)) (sym c.in-Unallotted.is)
    (c.from.ensures ∙ ap (λ (n : ℕ). number (unsigned n)) (copies-is s c.args.value c.copies.result c.requires c.copies.ensures.value))
