-- The rules of well-formed kernels one by one, and what the check answers.
use Rattle.std.specs.Prelude.{◌≡◌, ℕ, codes, List, ◌<◌, ◌≤◌, length, Result, Ok, Err}
use Rattle.machine_data.specs.declared.limits.TheConstants.{MAX_LATENCY}
use Rattle.std.specs.List.{All}
use Rattle.kernel.specs.declared.kernels.check.Rule.{Rule}
use Rattle.kernel.specs.declared.kernels.check.Rule.TheVariants as rule
use Rattle.kernel.specs.declared.kernels.check.BadKernel.{BadKernel}
use Rattle.kernel.specs.declared.kernels.operation.Operation.{Operation}
use Rattle.kernel.specs.declared.kernels.parts.Parts.{Parts}
use Rattle.kernel.specs.declared.kernels.parts.Out.{Out}
use Rattle.kernel.specs.Check.{HasSize, RegistersAreThere, IsShaped, IsPlaced, ArePreloads, IsWellFormed}

-- one rule
abbrev pub Keeps : Rule → Parts → Type 0
Keeps rule.Size parts = HasSize parts
Keeps rule.Row parts = All (λ (op : Operation). op.row < parts.ii) parts.operations
Keeps rule.Stage parts = All (λ (op : Operation). op.stage < parts.stages) parts.operations
Keeps rule.Latency parts = All (λ (op : Operation). (1 ≤ op.latency) × (op.latency ≤ MAX_LATENCY)) parts.operations
Keeps rule.Register parts = All (RegistersAreThere parts.registers) parts.operations
Keeps rule.Shape parts = All (IsShaped (length parts.params)) parts.operations
Keeps rule.Place parts = All (IsPlaced (length parts.arrays)) parts.operations
Keeps rule.Preload parts = ArePreloads parts.registers parts.preloads
Keeps rule.Out parts = All (λ (o : Out). o.register < parts.registers) parts.outs

-- the order in which the rules are tested
abbrev pub order_of : Rule → ℕ
order_of rule.Size = 0
order_of rule.Row = 1
order_of rule.Stage = 2
order_of rule.Latency = 3
order_of rule.Register = 4
order_of rule.Shape = 5
order_of rule.Place = 6
order_of rule.Preload = 7
order_of rule.Out = 8

-- the word that tells a rule
abbrev pub told_of : Rule → List ℕ
told_of rule.Size = codes "size"
told_of rule.Row = codes "row"
told_of rule.Stage = codes "stage"
told_of rule.Latency = codes "latency"
told_of rule.Register = codes "register"
told_of rule.Shape = codes "shape"
told_of rule.Place = codes "place"
told_of rule.Preload = codes "preload"
told_of rule.Out = codes "out"

-- a rule fails, and those before it hold
pub record IsFirstFailing (parts : Parts) (rule : Rule) : Type 0 where
  pub fails : ¬ Keeps rule parts
  pub earlier_hold : (earlier : Rule) → order_of earlier < order_of rule → Keeps earlier parts

-- what the check answers for some parts: the kernel of these parts, or the parts with the first rule that fails
abbrev pub Checks : Parts → Result Parts BadKernel → Type 0
Checks parts (Ok kernel) = IsWellFormed parts × (kernel ≡ parts)
Checks parts (Err bad) = IsFirstFailing parts bad.rule × (bad.parts ≡ parts)
