use Rattle.std.proofs.Common.{◌≡◌, Option, None, Some, Result, Ok, Err, IfNone, IsOk, is_ok, is_some, true, false}
use Rattle.clap.specs.Words.{found_of, rows_of}
use Rattle.settings.specs.Settings.{SettingsData}
use Rattle.settings.specs.declared.OutOfRange.{OutOfRange}
use Rattle.command_line.proofs.LineLemmas.{say-one}
use Rattle.command_line.proofs.line.given.settings_given.Goals as goal

-- where an `Ok` would say settings, there is none
none-said : {Says : SettingsData → Type 0} (r : Result SettingsData OutOfRange) (o : Option SettingsData) → is_some o ≡ is_ok r
    → ((s : SettingsData) → Says s → IsOk r) → IfNone o ((s : SettingsData) → ¬ Says s)
none-said (Ok t) None same ok = absurd (cc)
none-said (Err e) None same ok = λ s says. let bad : false ≡ true = ok s says in absurd (cc)
none-said r (Some s) same ok = tt

pub returns-clause-none : goal.returns-clause-none
returns-clause-none c =
    none-said c.new.result c.ok.result c.ok.ensures.variant
    (λ s h. c.new.ensures.exact.1 (say-one (rows_of (found_of c.args.values.now)) _ _ _ _ s c.in_ok-ratio.ensures.says c.in_ok-ceiling.ensures.says c.in_ok-workers.ensures.says c.in_ok-cut.ensures.says h))
