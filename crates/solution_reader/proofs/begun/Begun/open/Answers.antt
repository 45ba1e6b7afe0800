use Rattle.std.proofs.Common.{◌≡◌, ◌∙◌, ap, arith, length, option_map, None}
use Rattle.solution_reader.specs.Data.{has_name}
use Rattle.solution_reader.specs.inner.Seen.{head_seen}
use Rattle.solution_reader.specs.inner.Steps.{BegunData, begun_names}
use Rattle.solution_reader.proofs.Lists.{begun_more, begun_count}
use Rattle.solution_reader.proofs.Names.{absent_known, more_numbers}
use Rattle.solution_reader.proofs.begun.Begun.open.Goals as goal

pub add_number-requires : goal.add_number-requires
add_number-requires c =
    absent_known _ c.self.inside.numbers c.args.head.name.bytes.now c.self.invariant
    (ap (λ (b : BegunData). has_name (begun_names b) c.args.head.name.bytes.now) c.self.view_is ∙ c.requires.absent)

pub invariant_of-self-2 : goal.invariant_of-self-2
invariant_of-self-2 c =
    let was : BegunData = record { ended = c.self.inside.ended.items; head = option_map head_seen c.self.inside.head } in
    let none : was.head ≡ None = ap (λ (b : BegunData). b.head) c.self.view_is ∙ c.requires.outside in
    let count : c.len-number.result ≡ length was.ended = omega (arith, c.self.inside.ended.ok.0) in
    more_numbers (begun_names was) _ c.self.inside.numbers c.add_number.new.numbers c.args.head.name.bytes.now c.len-number.result
    c.self.invariant (count ∙ begun_count was none) (begun_more was (head_seen c.args.head) none) c.in_ok-add_number.ensures.added
