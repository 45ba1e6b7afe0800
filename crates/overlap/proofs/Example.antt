-- The definitions on a loop that was worked by hand.
use Rattle.std.proofs.Common.{◌≡◌, ℕ, List, [], ◌∷◌, Some, None, pos, negsuc, refl}
use Rattle.std.specs.Prelude.{codes}
use Rattle.machine_data.specs.declared.opcode.Opcode.TheVariants.{Load, Store, Add}
use Rattle.loop_data.specs.declared.language.statement.Operand.TheVariants.{Value}
use Rattle.loop_data.specs.Loops.{LoopData}
use Rattle.kernel.specs.declared.kernels.operation.Source.TheVariants.{Register}
use Rattle.overlap.specs.Lifetimes.{lifetimes_of}
use Rattle.overlap.specs.Allotments.{AllotmentData}
use Rattle.overlap.specs.Emission.{emitted}
use Rattle.loop_schedules.specs.Schedules.{ScheduleData}

pub acco : LoopData
acco = record {
  name = codes "acco";
  arrays = record { name = codes "a"; cells = pos 1 ∷ pos 2 ∷ pos 3 ∷ [] } ∷ record { name = codes "b"; cells = [] } ∷ [];
  params = [];
  statements =
      record { opcode = Load; name = Some (codes "t"); place = Some (record { array = 0; offset = pos 0 }); operands = [] }
      ∷ record { opcode = Add; name = Some (codes "s"); place = None; operands = Value 1 1 ∷ Value 0 0 ∷ [] }
      ∷ record { opcode = Store; name = None; place = Some (record { array = 1; offset = pos 0 }); operands = Value 1 0 ∷ [] }
      ∷ [];
  inits = record { statement = 1; number = 1; value = pos 0 } ∷ [];
  outs = 1 ∷ [];
}

pub plan : List ℕ → ScheduleData
plan outs = record {
  problem = record { loop = record acco { outs = outs }; graph = record { edges = []; latencies = 3 ∷ 1 ∷ 1 ∷ [] }; operations = []; registers = 8; resources = 2; recurrences = 1; ratio = 6; ceiling = 32 };
  ii = 2;
  times = 0 ∷ 3 ∷ 5 ∷ [];
  choices = 0 ∷ 0 ∷ 0 ∷ [];
}

lives : lifetimes_of (plan []) ≡ record { operation = 0; first = 3; last = 3 } ∷ record { operation = 1; first = 2; last = 5 } ∷ []
unfolding lifetimes_of plan acco
lives = refl

lives-out : lifetimes_of (plan (1 ∷ [])) ≡ record { operation = 0; first = 3; last = 3 } ∷ record { operation = 1; first = 2; last = 6 } ∷ []
unfolding lifetimes_of plan acco
lives-out = refl

pub given : AllotmentData
given = record { registers = 8; numbers = 0 ∷ 1 ∷ [] }

pub first-two : (emitted (plan (1 ∷ [])) given).operations ≡
    record { row = 0; stage = 0; opcode = Load; latency = 3; alternative = 0; destination = Some 0; sources = []; address = Some (record { array = 0; offset = pos 0 }) }
    ∷ record { row = 1; stage = 1; opcode = Add; latency = 1; alternative = 0; destination = Some 2; sources = Register 3 ∷ Register 1 ∷ []; address = None }
    ∷ record { row = 1; stage = 2; opcode = Store; latency = 1; alternative = 0; destination = None; sources = Register 3 ∷ []; address = Some (record { array = 1; offset = negsuc 1 }) }
    ∷ []
unfolding emitted plan acco given
first-two = refl

pub before : (emitted (plan (1 ∷ [])) given).preloads ≡ record { register = 2; value = pos 0 } ∷ []
unfolding emitted plan acco given
before = refl

pub live : (emitted (plan (1 ∷ [])) given).outs ≡ record { name = codes "s"; register = 3 } ∷ []
unfolding emitted plan acco given
live = refl
