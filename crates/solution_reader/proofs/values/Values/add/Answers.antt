use Rattle.std.proofs.Common.{◌≡◌, ◌∙◌, ap, arith, length, map, List}
use Rattle.solution_reader.specs.Data.{ValueData, value_names, has_name}
use Rattle.solution_reader.specs.inner.Seen.{value_seen}
use Rattle.solution_reader.proofs.Lists.{names_more, names_count}
use Rattle.solution_reader.proofs.Names.{absent_known, more_numbers}
use Rattle.solution_reader.proofs.values.Values.add.Goals as goal

pub add_number-requires : goal.add_number-requires
add_number-requires c =
    absent_known _ c.self.inside.numbers c.args.row.name.bytes.now c.self.invariant
    (ap (λ (rows : List ValueData). has_name (value_names rows) c.args.row.name.bytes.now) c.self.view_is ∙ c.requires)

pub invariant_of-self-in_default : goal.invariant_of-self-in_default
invariant_of-self-in_default c =
    let rows = c.self.inside.rows.items in
    let count : c.len-number.result ≡ length rows = omega (arith, c.self.inside.rows.ok.0) in
    more_numbers _ _ c.self.inside.numbers c.add_number.new.numbers c.args.row.name.bytes.now c.len-number.result c.self.invariant
    (count ∙ names_count value_seen (λ (r : ValueData). r.name.bytes) rows)
    (ap (λ rs. value_names (map value_seen rs)) c.in_ok-push.ensures.items ∙ names_more value_seen (λ (r : ValueData). r.name.bytes) rows c.args.row)
    c.in_default.ensures.added
