use Rattle.std.proofs.Common.{ℕ, List, ◌++◌, refl}
use Rattle.unit_sets.specs.declared.fullest.UnitSet.{UnitSet}
use Rattle.writing.proofs.Beginnings.{two_pushed}
use Rattle.problem_graphs.specs.Heads.{problem_line}
use Rattle.problem_reasons.specs.Sets.{set_line}
use Rattle.problem_reasons.proofs.reasons.push_reasons.Goals as goal

pub returns : goal.returns
returns c =
    let p = c.args.problem.now in
    let old : List ℕ = c.args.text.now.items in
    let line : List ℕ = problem_line c.args.name.now p in
    let first : List ℕ = c.push_problem_line.new.text.items in
    let second : List ℕ = c.push_units.new.text.items in
    let third : List ℕ = c.push_set.new.text.items in
    let fourth : List ℕ = c.push_circuit.new.text.items in
    let fifth : List ℕ = c.push_tries.new.text.items in
    let new : List ℕ = c.push_outcome.new.text.items in
    let set : UnitSet = c.in_ok-set.set in
    let units = c.in_ok-push_units.ensures.ok in
    let circuit = c.in_ok-push_circuit.ensures.ok in
    let tries = c.in_ok-push_tries.ensures.ok in
    let answer = c.in_ok-push_outcome.ensures.ok in
    let lines : List ℕ = line ++ units.0 in
    let sets : List ℕ = lines ++ set_line p.draft set in
    let circuits : List ℕ = sets ++ circuit.0 in
    record {
      told = (
        (circuits ++ tries.0) ++ answer.0,
        record {
          units = units.0;
          are_units = units.1;
          set = set;
          is_fullest = c.in_ok-set.ensures.fullest;
          circuit = circuit.0;
          is_circuit = circuit.1;
          outcome = c.args.told.now.outcome;
          tries = tries.0;
          are_tries = tries.1;
          answer = answer.0;
          is_answer = answer.1;
          same_met = c.is_met.ensures;
          is_text = refl;
        },
        two_pushed old (circuits ++ tries.0) answer.0 fifth new
            (two_pushed old circuits tries.0 fourth fifth
            (two_pushed old sets circuit.0 third fourth
            (two_pushed old lines (set_line p.draft set) second third
            (two_pushed old line units.0 first second c.in_ok-push_problem_line.ensures.ok units.2) c.in_ok-set.ensures.exact) circuit.2) tries.2) answer.2,
      );
    }
