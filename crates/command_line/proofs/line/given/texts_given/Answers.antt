use Rattle.std.proofs.Common.{◌≡◌, ◌∙◌, option_map, subst, sym, codes, Bor, List, ℕ, Option, Some}
use Rattle.std.proofs.lemmas.Result.{IfOk-weaker}
use Rattle.clap.specs.Words.{Text, found_of, first_of, rows_of}
use Rattle.clap.proofs.WalkLemmas.{first_value-rows}
use Rattle.command_line.specs.declared.command.LintTexts.{LintTexts}
use Rattle.command_line.specs.Lines.{AreTexts, AreTextsGiven}
use Rattle.command_line.proofs.LineLemmas.{no-machine, no-switch, no-texts, none-weaker, some-weaker}
use Rattle.command_line.proofs.line.given.texts_given.Goals as goal
use Rattle.command_line.proofs.line.given.texts_given.Goals.{in_default-via-in-Some+in_default, in_default-via-in_default}

pub returns-in-Some-Some-clause-are : goal.returns-in-Some-Some-clause-are
returns-in-Some-Some-clause-are c =
    let machine : Some c.in-Some-Some.first.now ≡ first_of (codes "machine") (rows_of (found_of c.args.values.now)) =
    c.in-Some-Some.ensures ∙ first_value-rows (found_of c.args.values.now) (codes "machine") in
    let loops : option_map (λ (path : Bor (List ℕ)). path.now) c.get_str-in-Some-Some.result ≡ first_of (codes "loops") (rows_of (found_of c.args.values.now)) =
    c.get_str-in-Some-Some.ensures ∙ first_value-rows (found_of c.args.values.now) (codes "loops") in
    let one : (texts : LintTexts) → AreTexts texts c.in-Some-Some.first.now (option_map (λ (path : Bor (List ℕ)). path.now) c.get_str-in-Some-Some.result) c.in-Some-Some.machine_only
    → AreTextsGiven texts (rows_of (found_of c.args.values.now)) =
    λ texts are. (
      c.in-Some-Some.first.now,
      c.in-Some-Some.machine_only,
      sym machine,
      c.in-Some-Some.ensures'.says,
      subst (λ (second : Option Text). AreTexts texts c.in-Some-Some.first.now second c.in-Some-Some.machine_only) loops are,
    ) in
    IfOk-weaker c.texts_of.result _ _ (λ found. some-weaker found _ _ one) c.texts_of.ensures.are

pub returns-in-Some-Some-clause-none : goal.returns-in-Some-Some-clause-none
returns-in-Some-Some-clause-none c =
    let machine : Some c.in-Some-Some.first.now ≡ first_of (codes "machine") (rows_of (found_of c.args.values.now)) =
    c.in-Some-Some.ensures ∙ first_value-rows (found_of c.args.values.now) (codes "machine") in
    let loops : option_map (λ (path : Bor (List ℕ)). path.now) c.get_str-in-Some-Some.result ≡ first_of (codes "loops") (rows_of (found_of c.args.values.now)) =
    c.get_str-in-Some-Some.ensures ∙ first_value-rows (found_of c.args.values.now) (codes "loops") in
    IfOk-weaker c.texts_of.result _ _
    (λ found. none-weaker found _ _ (no-texts (rows_of (found_of c.args.values.now)) _ _ _ machine c.in-Some-Some.ensures'.says loops))
    c.texts_of.ensures.none

pub returns-in_default-clause-none : goal.returns-in_default-clause-none
returns-in_default-clause-none c =
    elim c.in_default.branch [
      | in_default-via-in-Some+in_default w ↦ no-switch (rows_of (found_of c.args.values.now)) w.in_default.ensures'.none
      | in_default-via-in_default w ↦ no-machine (rows_of (found_of c.args.values.now)) (sym (w.in_default.ensures ∙ first_value-rows (found_of c.args.values.now) (codes "machine")))
    ]
