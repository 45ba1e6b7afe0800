use Rattle.std.proofs.Common.{rules, pos, get_or, FitsSigned, w64, sym, ap, ◌∙◌}
use Rattle.std.proofs.Math.Facts.{to_z-of_z}
use Rattle.std.proofs.lemmas.List.Sorted.{answers_always}
use Rattle.loop_data.specs.declared.language.lists.Initial.{Initial}
use Rattle.loop_data.proofs.Initials.{initial-found, initial-missed}
use Rattle.loop_data.proofs.language.innermost.Loop.initial.Goals as goal

pub returns-in-Ok : goal.returns-in-Ok
returns-in-Ok c =
    let facts = c.binary_search_by_key.ensures in
    let by_key = facts.position (λ i. (i.statement, i.number)) (answers_always _ _ _ (λ f a r g called. search rules)) in
    let loop = c.args.self.now in
    let good = c.inits-inits.ensures.well_formed in
    let at = rw (c.in-Ok.is, c.inits-inits.ensures.value) at by_key in
    let within = rw (c.in-Ok.is, c.inits-inits.ensures.value) at facts.bound in
    let none : Initial = record { statement = 0; number = 0; value = pos 0 } in
    let fits : FitsSigned w64 (get_or c.inits-inits.result.now c.in-Ok.place none).value = search rules in
    to_z-of_z fits
    ∙ ap (λ l. (get_or l c.in-Ok.place none).value) c.inits-inits.ensures.value
    ∙ sym (initial-found loop.inits c.args.statement c.args.number c.in-Ok.place none good.inits_ascend within (at none))

pub returns-in-Err : goal.returns-in-Err
returns-in-Err c =
    let facts = c.binary_search_by_key.ensures in
    let by_key = facts.position (λ i. (i.statement, i.number)) (answers_always _ _ _ (λ f a r g called. search rules)) in
    let none = rw c.in-Err.is at by_key in
    sym (initial-missed c.args.self.now.inits c.args.statement c.args.number c.in-Err.field-0 c.inits-inits.ensures.well_formed.inits_ascend (rw c.inits-inits.ensures.value at none))
