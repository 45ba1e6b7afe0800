use Rattle.std.proofs.Common.{◌≡◌, ◌∙◌, sym, ap, true, length, Some, None}
use Rattle.solution_reader.specs.Data.{has_name}
use Rattle.solution_reader.specs.Faults.{room_at}
use Rattle.solution_reader.specs.declared.fault.Told.{Told}
use Rattle.problem_faults.specs.declared.refused_solutions.Wrong.{Wrong}
use Rattle.problem_faults.specs.declared.refused_solutions.Wrong.TheVariants as wrong
use Rattle.solution_reader.specs.inner.Taken.{on_spot}
use Rattle.solution_reader.proofs.sofar.name_fault.Goals as goal

pub returns-then-there-clause-value : goal.returns-then-there-clause-value
returns-then-there-clause-value c = λ names e h.
    let room : room_at (on_spot c.args.at) (length names) c.args.most c.args.what ≡ None = ap (λ n. room_at (on_spot c.args.at) n c.args.most c.args.what) e ∙ sym c.in-None.ensures in
    let there : has_name names c.args.name.bytes.now ≡ true = h ∙ c.if-there.true in
    rw (room, there) (ap Some (c.told.ensures ∙ ap (λ (f : Wrong → Told). f wrong.Repeated) c.of_word.ensures))
