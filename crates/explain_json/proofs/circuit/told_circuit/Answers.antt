use Rattle.std.proofs.Common.{◌≡◌, ◌==◌, ℕ, List, [], ◌∷◌, false, length, refl, sym, subst}
use Rattle.std.specs.Prelude.{IfOk}
use Rattle.serde_json.specs.Data.{Data}
use Rattle.serde_json.specs.View.{view}
use Rattle.edges.specs.Edges.{EdgeData}
use Rattle.explain_json.specs.Edges.{circuit_value}
use Rattle.explain_json.specs.inner.Objects.{circuit_object}
use Rattle.explain_json.proofs.circuit.told_circuit.Goals as goal

circuit-is : (edges : List EdgeData) (bound : ℕ) (circuit : List EdgeData) → (length circuit == 0) ≡ false → circuit_value edges bound circuit ≡ circuit_object edges bound circuit
circuit-is edges bound [] some = cc
circuit-is edges bound (e ∷ circuit) some = refl

pub returns : goal.returns
returns c =
    subst (λ (d : Data). IfOk c.told_sums.result (λ v. view v ≡ d)) (sym (circuit-is c.args.graph.now.edges c.args.bound c.args.circuit.now (sym c.if-is_empty.ensures))) c.told_sums.ensures
