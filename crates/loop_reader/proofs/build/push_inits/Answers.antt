use Rattle.std.proofs.Common.{◌≡◌, ◌∙◌, ◌+◌, ◌++◌, ◌∷◌, [], None, Some, sym, ap, arith, append_assoc, List, ℤ, w64, to_z, of_z}
use Rattle.std.proofs.lemmas.Int.{ints, to_z-of_z}
use Rattle.std.proofs.lemmas.List.{append-nil}
use Rattle.loop_reader.specs.inner.Building.{row_of}
use Rattle.loop_data.specs.declared.language.lists.Initial.{Initial}
use Rattle.loop_reader.proofs.faults.Rows.{row-more}
use Rattle.loop_reader.proofs.build.push_inits.Goals as goal
use Rattle.loop_reader.proofs.build.push_inits.Goals.{in-Some+in_ok-push, in_default}

pub loop-m-preserved : goal.loop-m-preserved
loop-m-preserved c =
    let inits = c.args.given.now.inits in
    let read = sym c.at.ensures in
    let row = row_of inits c.args.statement c.loop-m.m in
    elim c.match-at.branch [
      | in-Some+in_ok-push w ↦
          let one : ℤ → Initial = λ v. record { statement = c.args.statement; number = c.loop-m.m + 1; value = v } in
          let fits : to_z w64 (of_z w64 w.in-Some.value) ≡ w.in-Some.value = grind (arith, ints, to_z-of_z) in
          ◌∙◌ {A = List Initial} (ap (λ v. v.items) w.inits-is) (w.in_ok-push.ensures.items
          ∙ ap (λ v. c.loop-m.inits.items ++ one v ∷ []) fits
          ∙ ap (λ xs. xs ++ one w.in-Some.value ∷ []) c.loop-m.invariant
          ∙ append_assoc c.args.inits.now.items row (one w.in-Some.value ∷ [])
          ∙ ap (λ xs. c.args.inits.now.items ++ xs) (sym (row-more inits c.args.statement c.loop-m.m (Some w.in-Some.value) (read ∙ w.in-Some.is))))
      | in_default w ↦
          ◌∙◌ {A = List Initial} (ap (λ v. v.items) w.inits-is) (c.loop-m.invariant
          ∙ ap (λ xs. c.args.inits.now.items ++ xs) (sym (row-more inits c.args.statement c.loop-m.m None (read ∙ w.in_default.is) ∙ append-nil row)))
    ]
