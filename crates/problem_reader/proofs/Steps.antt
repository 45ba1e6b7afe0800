-- The tables' machines and problems stay without a fault, line by line.
use Rattle.std.proofs.Common.{◌≡◌, ℕ, zero, suc, ◌+◌, ◌-◌, ◌<◌, ◌≤◌, Bool, true, false, List, [], ◌∷◌, ◌++◌, get_or, length, map, refl, sym, ◌∙◌, arith, subst, if◌then◌else◌, None}
use Rattle.std.specs.Prelude.{nat_lt}
use Rattle.std.specs.List.{All}
use Rattle.std.proofs.lemmas.Bool.{false≢true, ltb-true}
use Rattle.std.proofs.lemmas.List.{length_push}
use Rattle.std.proofs.lemmas.List.Elements.{All-nil, All-push, All-weaker}
use Rattle.problem_lines.specs.Forms.{Form, MachineLine, UnitsLine, FileLine, KindLine, ProblemLine, OpLine, ValueLine, ReadLine, EdgeLine, EndLine}
use Rattle.problem_tables.specs.Data.{MachineData, ProblemData, file_of, kind_of}
use Rattle.problem_tables.specs.Faults.{alternatives_fault, first_of}
use Rattle.problem_tables.specs.Names.{bytes_of, last_name}
use Rattle.problem_tables.specs.Tables.{MachineParts, ProblemParts, TablesData, form_fault, kind_faults, may_stand, named_machine, named_problem, no_machine, no_problem, no_tables, with_file, with_form, with_kind, with_machine}
use Rattle.problem_faults.specs.declared.refused_problems.Part.TheVariants as part
use Rattle.problem_tables.specs.declared.fault.Told.{Told}
use Rattle.problem_faults.specs.declared.refused_problems.Wrong.{Wrong}
use Rattle.problem_faults.specs.declared.refused_problems.Wrong.TheVariants as wrong
use Rattle.problem_reader.proofs.Faultless.{IsSound, some-machine}
use Rattle.problem_reader.proofs.Faults.{none-at, not-true, well}
use Rattle.problem_reader.proofs.KindLines.{HasHolds}
use Rattle.problem_reader.proofs.Parts.{IsSoundMachine, IsSoundProblem, machine-file, machine-kind, machine-none, machine-units, problem-none, problem-op, problem-order, problem-read, problem-value, problem-weaker}

-- without their names

abbrev pub machine_parts : MachineData → MachineParts
machine_parts m = record { units = m.units; files = m.files; file_names = m.file_names; kinds = m.kinds; kind_names = m.kind_names }

abbrev pub problem_parts : ProblemData → ProblemParts
problem_parts p = record { operations = p.operations; operation_names = p.operation_names; values = p.values; value_names = p.value_names; reads = p.reads; orders = p.orders }

-- the machine with a number, where this one follows those that have ended
abbrev pub machine_on : List MachineData → MachineParts → ℕ → MachineParts
machine_on ended m k = get_or (map machine_parts ended ++ m ∷ []) k no_machine

-- a problem that has ended
pub record IsSoundOn (m : MachineParts) (p : ProblemData) : Type 0 where
  pub machine : IsSoundMachine m
  pub some : 1 ≤ length p.operations
  pub problem : IsSoundProblem (length m.kinds) (length m.files) (problem_parts p)

pub record AreFaultless (t : TablesData) : Type 0 where
  pub machine : IsSoundMachine t.machine
  pub problem : IsSoundProblem (length t.machine.kinds) (length t.machine.files) t.problem
  pub idle : t.inside ≡ false → t.problem ≡ no_problem
  pub ended : All (λ (p : ProblemData). IsSoundOn (machine_on t.ended.machines t.machine p.machine) p) t.ended.problems

pub faultless-none : AreFaultless no_tables
faultless-none = record {
  machine = machine-none;
  problem = problem-none 0 0;
  idle = λ e. refl;
  ended = All-nil (λ (p : ProblemData). IsSoundOn (machine_on [] no_machine p.machine) p);
}

-- the machine under way says more

on-more : (ended : List MachineData) (m n : MachineParts) (k : ℕ) (p : ProblemData) → IsSoundMachine n → length m.kinds ≤ length n.kinds → length m.files ≤ length n.files
    → IsSoundOn (machine_on ended m k) p → IsSoundOn (machine_on ended n k) p
on-more [] m n zero p sound kinds files h = record { machine = sound; some = h.some; problem = problem-weaker (length m.kinds) (length n.kinds) (length m.files) (length n.files) (problem_parts p) kinds files h.problem }
on-more [] m n (suc k) p sound kinds files h = h
on-more (e ∷ ended) m n zero p sound kinds files h = h
on-more (e ∷ ended) m n (suc k) p sound kinds files h = on-more ended m n k p sound kinds files h

with-machine-parts : (t : TablesData) (n : MachineParts) → AreFaultless t → IsSoundMachine n → length t.machine.kinds ≤ length n.kinds → length t.machine.files ≤ length n.files → AreFaultless (record t { machine = n })
with-machine-parts t n f sound kinds files = record {
  machine = sound;
  problem = problem-weaker (length t.machine.kinds) (length n.kinds) (length t.machine.files) (length n.files) t.problem kinds files f.problem;
  idle = f.idle;
  ended = All-weaker (λ (p : ProblemData). IsSoundOn (machine_on t.ended.machines t.machine p.machine) p) (λ (p : ProblemData). IsSoundOn (machine_on t.ended.machines n p.machine) p)
      (λ p h. on-more t.ended.machines t.machine n p.machine p sound kinds files h) t.ended.problems f.ended;
}

-- the machine under way ends

on-ended : (ended : List MachineData) (e : MachineData) (m n : MachineParts) (k : ℕ) → machine_parts e ≡ m → k < length ended + 1 → machine_on (ended ++ e ∷ []) n k ≡ machine_on ended m k
on-ended [] e m n zero is low = is
on-ended [] e m n (suc k) is low = absurd (omega (arith, low))
on-ended (x ∷ ended) e m n zero is low = refl
on-ended (x ∷ ended) e m n (suc k) is low = on-ended ended e m n k is (omega (arith, low))

faultless-machine : (t : TablesData) (name : List ℕ) (b : Bool) → nat_lt 0 (length t.machines) ≡ b → IsSound t → AreFaultless t → t.inside ≡ false
    → AreFaultless (with_machine (if b then record t { machine = no_machine; ended = record t.ended { machines = t.ended.machines ++ named_machine (last_name t.machines) t.machine ∷ [] } } else t) name)
faultless-machine t name true e s f out =
    let some = some-machine (length t.machines) e in
    let count = s.count in
    let ended = named_machine (last_name t.machines) t.machine in
    record {
      machine = machine-none;
      problem = subst (IsSoundProblem 0 0) (sym (f.idle out)) (problem-none 0 0);
      idle = f.idle;
      ended = λ k d low.
          let p = get_or t.ended.problems k d in
          let placed : p.machine < length t.machines = s.numbers k d low in
          subst (λ m. IsSoundOn m p) (sym (on-ended t.ended.machines ended t.machine no_machine p.machine refl (omega (arith, placed, count, some)))) (f.ended k d low);
    }
faultless-machine t name false e s f out = record { machine = f.machine; problem = f.problem; idle = f.idle; ended = f.ended }

-- the problem under way says more
with-problem-parts : (t : TablesData) (p : ProblemParts) → AreFaultless t → t.inside ≡ true → IsSoundProblem (length t.machine.kinds) (length t.machine.files) p → AreFaultless (record t { problem = p })
with-problem-parts t p f here sound = record {
  machine = f.machine;
  problem = sound;
  idle = λ e. absurd (false≢true (sym e ∙ here));
  ended = f.ended;
}

-- it ends

on-last : (ended : List MachineData) (m : MachineParts) → machine_on ended m (length ended) ≡ m
on-last [] m = refl
on-last (e ∷ ended) m = on-last ended m

faultless-end : (t : TablesData) → IsSound t → AreFaultless t → 1 ≤ length t.problem.operations → AreFaultless (with_form t EndLine)
faultless-end t s f some =
    let p = named_problem (last_name t.problems) (length t.machines - 1) t.problem in
    record {
      machine = f.machine;
      problem = problem-none (length t.machine.kinds) (length t.machine.files);
      idle = λ e. refl;
      ended = All-push (λ (q : ProblemData). IsSoundOn (machine_on t.ended.machines t.machine q.machine) q) t.ended.problems p f.ended
          (subst (λ k. IsSoundOn (machine_on t.ended.machines t.machine k) p) s.count
          (subst (λ m. IsSoundOn m p) (sym (on-last t.ended.machines t.machine)) (record { machine = f.machine; some = some; problem = f.problem })));
    }

pub faultless-more : (t : TablesData) (told : Wrong → Told) (form : Form) → IsSound t → AreFaultless t → HasHolds form → may_stand t form ≡ true → form_fault t told form ≡ None → AreFaultless (with_form t form)
faultless-more t told (MachineLine name) s f held stands none = faultless-machine t name.bytes (nat_lt 0 (length t.machines)) refl s f (not-true t.inside stands)
faultless-more t told (UnitsLine names) s f held stands none =
    with-machine-parts t (record t.machine { units = t.machine.units ++ bytes_of names }) f (machine-units t.machine names f.machine none) (omega arith) (omega arith)
faultless-more t told (FileLine name storage) s f held stands none =
    let size = length_push t.machine.files (file_of storage) in
    with-machine-parts t (with_file t.machine name storage) f (machine-file t.machine told name storage f.machine none) (omega arith) (omega (arith, size))
faultless-more t told (KindLine name latency alternatives) s f held stands none =
    let size = length_push t.machine.kinds (kind_of t.machine.units latency alternatives) in
    let faults = first_of (kind_faults t.machine told name latency) ∷ alternatives_fault t.machine.units 0 alternatives ∷ [] in
    with-machine-parts t (with_kind t.machine name latency alternatives) f
    (machine-kind t.machine told name latency alternatives f.machine held.0 held.1 (none-at faults 0 none) (none-at faults 1 none)) (omega (arith, size)) (omega arith)
faultless-more t told (ProblemLine name) s f held stands none = record { machine = f.machine; problem = f.problem; idle = λ e. absurd (false≢true (sym e)); ended = f.ended }
faultless-more t told (OpLine name kind) s f held stands none = with-problem-parts t _ f stands (problem-op t.machine t.problem told name kind f.machine f.problem none)
faultless-more t told (ValueLine name maker lands file out) s f held stands none = with-problem-parts t _ f stands (problem-value t.machine t.problem told name maker lands file out f.machine f.problem none)
faultless-more t told (ReadLine reader value distance offset) s f held stands none =
    with-problem-parts t _ f stands (problem-read (length t.machine.kinds) (length t.machine.files) t.problem told reader value distance offset f.problem none)
faultless-more t told (EdgeLine from to delay distance) s f held stands none =
    with-problem-parts t _ f stands (problem-order (length t.machine.kinds) (length t.machine.files) t.problem told from to delay distance f.problem none)
faultless-more t told EndLine s f held stands none =
    let named = f.problem.operations_named in
    let some = ltb-true 0 (length t.problem.operation_names) (well (nat_lt 0 (length t.problem.operation_names)) (told (wrong.Count part.Operations)) none) in
    faultless-end t s f (omega (arith, named, some))
