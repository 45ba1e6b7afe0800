use Rattle.std.proofs.Common.{◌≡◌, ◌<◌, ◌≤◌, ◌∙◌, arith, length, map, min}
use Rattle.std.specs.List.{zip}
use Rattle.solution_reader.specs.Resolved.{number_told}
use Rattle.solution_reader.proofs.Each.{ahead_ends, ahead_next, ahead_stops}
use Rattle.solution_reader.proofs.Told.{number_at, numbers_long}
use Rattle.solution_reader.proofs.resolve.numbers_of.Goals as goal

pub returns-in-None : goal.returns-in-None
returns-in-None c =
    let draft = c.args.draft.now in
    let lt : c.loop-number.number < min (length c.as_slice-names.result.now) (length c.as_slice-rows.result.now) = omega (arith, c.loop-number-test.true, c.min-count.ensures) in
    let at = number_at c.args.values.now c.as_slice.result.now draft.files.items c.as_slice-names.result.now draft.names.values.items c.as_slice-rows.result.now draft.values.items c.loop-number.number c.index-names-number.result _ c.number_of.result
    c.as_slice.ensures.value c.as_slice-names.ensures.value c.as_slice-rows.ensures.value lt c.index-names-number.is c.number_of.ensures in
    ahead_stops (map (number_told c.args.values.now draft.files.items) (zip draft.names.values.items draft.values.items)) c.loop-number.numbers.items c.loop-number.number c.loop-number.invariant at.there (at.is ∙ c.in-None.is)

pub loop-number-preserved : goal.loop-number-preserved
loop-number-preserved c =
    let draft = c.args.draft.now in
    let lt : c.loop-number.number < min (length c.as_slice-names.result.now) (length c.as_slice-rows.result.now) = omega (arith, c.loop-number-test.true, c.min-count.ensures) in
    let at = number_at c.args.values.now c.as_slice.result.now draft.files.items c.as_slice-names.result.now draft.names.values.items c.as_slice-rows.result.now draft.values.items c.loop-number.number c.index-names-number.result _ c.number_of.result
    c.as_slice.ensures.value c.as_slice-names.ensures.value c.as_slice-rows.ensures.value lt c.index-names-number.is c.number_of.ensures in
    ahead_next (map (number_told c.args.values.now draft.files.items) (zip draft.names.values.items draft.values.items)) c.loop-number.numbers.items c.push.new.self.items c.loop-number.number c.in-Some.told c.loop-number.invariant
    at.there (at.is ∙ c.in-Some.is) c.in_ok-push-in-Some.ensures.items

pub returns : goal.returns
returns c =
    let draft = c.args.draft.now in
    let all = map (number_told c.args.values.now draft.files.items) (zip draft.names.values.items draft.values.items) in
    let long : length all ≡ min (length c.as_slice-names.result.now) (length c.as_slice-rows.result.now)
    = numbers_long c.args.values.now draft.files.items c.as_slice-names.result.now draft.names.values.items c.as_slice-rows.result.now draft.values.items c.as_slice-names.ensures.value c.as_slice-rows.ensures.value in
    let past : length all ≤ c.loop-number.number = omega (arith, c.loop-number-test.false, c.min-count.ensures) in
    ahead_ends all c.loop-number.numbers.items c.loop-number.number c.loop-number.invariant past
