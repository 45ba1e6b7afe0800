-- The parts of a kernel, one by one.
use Rattle.std.proofs.Common.{◌≡◌, ℕ, List}
use Rattle.loop_data.specs.declared.language.lists.Param.{Param}
use Rattle.kernel.specs.declared.kernels.operation.Operation.{Operation}
use Rattle.kernel.specs.declared.kernels.parts.Parts.{Parts}
use Rattle.kernel.specs.declared.kernels.parts.Preload.{Preload}
use Rattle.kernel.specs.declared.kernels.parts.Out.{Out}

abbrev parts : ℕ → ℕ → ℕ → List Param → List (List ℕ) → List Operation → List Preload → List Out → Parts
parts ii stages registers params arrays operations preloads outs = record {
  ii = ii;
  stages = stages;
  registers = registers;
  params = params;
  arrays = arrays;
  operations = operations;
  preloads = preloads;
  outs = outs;
}

pub parts-same : {ii ii2 stages stages2 registers registers2 : ℕ} {params params2 : List Param} {arrays arrays2 : List (List ℕ)}
    {operations operations2 : List Operation} {preloads preloads2 : List Preload} {outs outs2 : List Out}
    → ii ≡ ii2 → stages ≡ stages2 → registers ≡ registers2 → params ≡ params2 → arrays ≡ arrays2 → operations ≡ operations2 → preloads ≡ preloads2 → outs ≡ outs2
    → parts ii stages registers params arrays operations preloads outs ≡ parts ii2 stages2 registers2 params2 arrays2 operations2 preloads2 outs2
parts-same a b c d e f g h = cc
