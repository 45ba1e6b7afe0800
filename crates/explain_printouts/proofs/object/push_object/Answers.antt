use Rattle.std.proofs.Common.{◌≤◌, ◌∙◌, ℕ, List, length, ap, sym, subst}
use Rattle.edges.specs.Edges.{EdgeData}
use Rattle.explain_json.specs.Loops.{IsLoopJson}
use Rattle.explain.proofs.Circuits.{circuit-short, critical-of}
use Rattle.explain_printouts.proofs.object.push_object.Goals as goal

pub push_loop_json-requires : goal.push_loop_json-requires
push_loop_json-requires c =
    let p = c.args.prepared.now in
    let items = c.in_ok-circuit.circuit.items in
    let critical = critical-of p c.edges.result.now c.recurrences.result items c.edges.ensures.value c.recurrences.ensures.value c.in_ok-circuit.ensures.exact in
    record {
      told = c.in_ok-told.ensures.told;
      alternatives = ap (λ (xs : List ℕ). length xs) c.as_slice.ensures.value ∙ c.requires.each;
      few = subst (λ (es : List EdgeData). length es ≤ 128) (sym c.as_slice-2.ensures.value) (circuit-short p p.recurrences items c.edges.ensures.well_formed critical);
    }

pub returns : goal.returns
returns c =
    let m = c.args.machine.now in
    let p = c.args.prepared.now in
    let items = c.in_ok-circuit.circuit.items in
    let alternatives = c.args.counted.now.alternatives.items in
    let told = c.in_ok-told.told in
    let part = c.in_ok-push_loop_json.ensures.ok.0 in
    record {
      exact = (
        part,
        record {
          circuit = items;
          critical = critical-of p c.edges.result.now c.recurrences.result items c.edges.ensures.value c.recurrences.ensures.value c.in_ok-circuit.ensures.exact;
          told = told;
          is_told = c.in_ok-told.ensures.told;
          is_choice = c.into_choice.ensures.value;
          is_json = subst (λ (es : List EdgeData). IsLoopJson (record { machine = m; alternatives = alternatives; set = c.args.counted.now.set; circuit = es; problem = p; told = told }) part) c.as_slice-2.ensures.value
              (subst (λ (xs : List ℕ). IsLoopJson (record { machine = m; alternatives = xs; set = c.args.counted.now.set; circuit = c.as_slice-2.result.now; problem = p; told = told }) part) c.as_slice.ensures.value
              c.in_ok-push_loop_json.ensures.ok.1);
        },
        c.in_ok-push_loop_json.ensures.ok.2,
      );
    }
