use Rattle.std.proofs.Common.{codes, ◌∙◌, arith}
use Rattle.toml.specs.View.{view}
use Rattle.toml.proofs.Views.{table_get}
use Rattle.machine.proofs.checks.Faults.{ReadsPart-err, first-append, first-then, none-append}
use Rattle.machine.proofs.Laws.{number-law}
use Rattle.machine.proofs.checks.Parts.{table-fault, table-of, table-is}
use Rattle.machine.proofs.read.tables.read_operation.Goals as goal

pub returns-in_err-keys : goal.returns-in_err-keys
returns-in_err-keys c = ReadsPart-err _ _ c.from_residual.result c.in_err-keys.field-0.0 c.from_residual.ensures.1 (λ ne.
    table-fault _ _ _ _ (rw (c.table.ensures, c.word-word.ensures) at (c.in_err-keys.ensures ne)))

pub returns-in_err-check_keys : goal.returns-in_err-check_keys
returns-in_err-check_keys c =
    let found = rw (c.table.ensures, c.word-word.ensures) at c.in_ok-keys.ensures in
    ReadsPart-err _ _ c.from_residual-in_err-check_keys.result c.in_err-check_keys.field-0.0 c.from_residual-in_err-check_keys.ensures.1 (λ ne.
    let first = rw (c.inside.ensures, c.word-word.ensures, found.1) at (c.in_err-check_keys.ensures ne) in
    rw (table-of _ _ _ found.0) (first-append _ _ _ (first-append _ _ _ first)))

pub returns-in_err-latency : goal.returns-in_err-latency
returns-in_err-latency c =
    let found = rw (c.table.ensures, c.word-word.ensures) at c.in_ok-keys.ensures in
    let got = table_get c.get.result (codes "latency") c.in_ok-keys.keys.now.entries c.get.ensures.value ∙ rw found.1 in
    let known = rw (c.inside.ensures, c.word-word.ensures, found.1) at c.in_ok-check_keys.ensures in
    ReadsPart-err _ _ c.from_residual-in_err-latency.result c.in_err-latency.field-0.0 c.from_residual-in_err-latency.ensures.1 (λ ne.
    let first = rw (c.inside-path.ensures, c.word-word.ensures, got) at (c.in_err-latency.ensures ne) in
    rw (table-of _ _ _ found.0) (first-append _ _ _ (first-then _ _ _ known.0 first)))

pub returns-in_err-alternatives : goal.returns-in_err-alternatives
returns-in_err-alternatives c =
    let found = rw (c.table.ensures, c.word-word.ensures) at c.in_ok-keys.ensures in
    let got = table_get c.get.result (codes "latency") c.in_ok-keys.keys.now.entries c.get.ensures.value ∙ rw found.1 in
    let alts = table_get c.get-2.result (codes "alts") c.in_ok-keys.keys.now.entries c.get-2.ensures.value ∙ rw found.1 in
    let known = rw (c.inside.ensures, c.word-word.ensures, found.1) at c.in_ok-check_keys.ensures in
    let latency = rw (c.inside-path.ensures, c.word-word.ensures, got) at c.in_ok-latency.ensures in
    ReadsPart-err _ _ c.from_residual-in_err-alternatives.result c.in_err-alternatives.field-0.0 c.from_residual-in_err-alternatives.ensures.1 (λ ne.
    let first = rw (c.inside-2.ensures, c.word-word.ensures, alts) at (c.in_err-alternatives.ensures ne) in
    rw (table-of _ _ _ found.0) (first-then _ _ _ (none-append _ _ known.0 latency.0) first))

pub overflow_cast-latency : goal.overflow_cast-latency
overflow_cast-latency c =
    let law = number-law _ _ 64 _ c.in_ok-latency.ensures.0 in
    omega (arith, law.1, c.in_ok-latency.ensures.1)

pub new-requires-clause-some : goal.new-requires-clause-some
new-requires-clause-some c =
    let law = number-law _ _ 64 _ c.in_ok-latency.ensures.0 in
    omega (arith, law.0, c.in_ok-latency.ensures.1)

pub new-requires-clause-few : goal.new-requires-clause-few
new-requires-clause-few c =
    let law = number-law _ _ 64 _ c.in_ok-latency.ensures.0 in
    omega (arith, law.1, c.in_ok-latency.ensures.1)

pub returns : goal.returns
returns c =
    let found = rw (c.table.ensures, c.word-word.ensures) at c.in_ok-keys.ensures in
    let got = table_get c.get.result (codes "latency") c.in_ok-keys.keys.now.entries c.get.ensures.value ∙ rw found.1 in
    let alts = table_get c.get-2.result (codes "alts") c.in_ok-keys.keys.now.entries c.get-2.ensures.value ∙ rw found.1 in
    let known = rw (c.inside.ensures, c.word-word.ensures, found.1) at c.in_ok-check_keys.ensures in
    let latency = rw (c.inside-path.ensures, c.word-word.ensures, got) at c.in_ok-latency.ensures in
    let alternatives = rw (c.inside-2.ensures, c.word-word.ensures, alts) at c.in_ok-alternatives.ensures in (
      rw (table-of _ _ _ found.0) (none-append _ _ (none-append _ _ known.0 latency.0) alternatives.0),
      c.new.ensures ∙ rw (latency.1, alternatives.1) (table-is c.args.units.now (view c.args.value.now)),
    )
