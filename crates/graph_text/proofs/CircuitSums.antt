-- The line of a circuit's sums.
use Rattle.std.proofs.Common.{◌≡◌, ℕ, ◌<◌, List, [], ◌∷◌, length, ap, ◌∙◌, arith}
use Rattle.std.specs.Prelude.{ℤ}
use Rattle.edges.specs.Edges.{EdgeData}
use Rattle.walks.specs.Walks.{delay_of, distance_of}
use Rattle.graph_text.specs.CircuitLines.{circuit_line, sums_line}

pub line-of_sums : (circuit : List EdgeData) (bound distance : ℕ) (delay : ℤ) → 0 < length circuit → delay ≡ delay_of circuit → distance ≡ distance_of circuit
    → sums_line delay distance bound ≡ circuit_line circuit bound
line-of_sums [] bound distance delay some d n = absurd (omega arith)
line-of_sums (e ∷ circuit) bound distance delay some d n =
    ap (λ (x : ℤ). sums_line x distance bound) d ∙ ap (λ (x : ℕ). sums_line (delay_of (e ∷ circuit)) x bound) n
