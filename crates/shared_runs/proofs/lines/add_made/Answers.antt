use Rattle.std.proofs.Common.{◌≡◌, ◌∙◌, ◌++◌, List, ℕ, sym, subst, ap, slice_index_or}
use Rattle.std.specs.List.{flat_map}
use Rattle.std.proofs.lemmas.List.{get_or_default}
use Rattle.loop_data.specs.Loops.{LoopData}
use Rattle.loop_data.specs.Run.{MemoryData, opening_of}
use Rattle.lines_of_runs.specs.Plain.{run_lines}
use Rattle.shared_runs.specs.declared.made.Made.TheVariants.{After}
use Rattle.shared_runs.specs.inner.Lines.{bytes_in}
use Rattle.shared_runs.specs.inner.Made.{Fits, bytes_of}
use Rattle.shared_runs.proofs.lines.add_made.Goals as goal

pub returns-in_ok-add_run-in-After-clause-text : goal.returns-in_ok-add_run-in-After-clause-text
returns-in_ok-add_run-in-After-clause-text c = λ d e.
    let loops : List LoopData = c.args.loops.now in
    let number : ℕ = c.in-After.number in
    let memory : MemoryData = c.in-After.memory in
    let loop : LoopData = c.index-loops-number.result in
    let old : List ℕ = flat_map (bytes_in e) c.args.lines.now.items in
    let fits : Fits loops (After number memory c.in-After.begun) = subst (Fits loops) c.in-After.is c.requires in
    let one : slice_index_or loops number d ≡ loop = get_or_default loops number d loop fits.0 ∙ sym c.index-loops-number.is in
    let lines : bytes_of loops d c.args.made ≡ run_lines loop (opening_of loop memory.trip) memory
    = ap (bytes_of loops d) c.in-After.is ∙ ap (λ (l : LoopData). run_lines l (opening_of l memory.trip) memory) one in
    c.in_ok-add_run-in-After.ensures.text e ∙ ap (λ t. old ++ t) (sym lines)
