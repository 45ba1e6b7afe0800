use Rattle.std.proofs.Common.{◌≡◌, ◌∙◌, ap, codes, true}
use Rattle.std.proofs.lemmas.Result.{IfOk-weaker}
use Rattle.clap.specs.Simple.{app_of_fields, on_top}
use Rattle.clap.specs.Words.{App, app_of, new_app}
use Rattle.command_line.proofs.line.form.bare_program.Goals as goal

abbrev bare : App → App
bare = on_top (λ s. record s { no_binary_name = true })

abbrev versioned : App → App
versioned = on_top (λ s. record s { has_version = true })

abbrev demanding : App → App
demanding = on_top (λ s. record s { subcommand_required = true })

abbrev helpful : App → App
helpful = on_top (λ s. record s { arg_required_else_help = true })

pub returns : goal.returns
returns c =
    let named : app_of c.no_binary_name.result ≡ bare (new_app (codes "modsched")) =
    ap app_of_fields c.no_binary_name.ensures ∙ ap bare c.new.ensures.app in
    let numbered : app_of c.version.result ≡ versioned (bare (new_app (codes "modsched"))) =
    ap app_of_fields c.version.ensures ∙ ap versioned named in
    let told : app_of c.after_long_help.result ≡ versioned (bare (new_app (codes "modsched"))) =
    ap app_of_fields c.after_long_help.ensures ∙ ap app_of_fields c.long_about.ensures ∙ ap app_of_fields c.about.ensures ∙ numbered in
    let wants : app_of c.subcommand_required.result ≡ demanding (versioned (bare (new_app (codes "modsched")))) =
    ap app_of_fields c.subcommand_required.ensures ∙ ap demanding told in
    let helps : app_of c.arg_required_else_help.result ≡ helpful (demanding (versioned (bare (new_app (codes "modsched"))))) =
    ap app_of_fields c.arg_required_else_help.ensures ∙ ap helpful wants in
    record { is_line = IfOk-weaker c.bin_name.result _ _ (λ command h. ap app_of_fields h.0 ∙ helps) c.bin_name.ensures }
