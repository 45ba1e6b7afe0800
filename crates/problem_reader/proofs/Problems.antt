-- The problem under way with one more line.
use Rattle.std.proofs.Common.{◌≡◌, ℕ, ◌<◌, List, [], ◌∷◌, ◌++◌, length, refl, ap, ◌∙◌, Some, pos}
use Rattle.std.specs.Prelude.{option_to_list, unwrap_or}
use Rattle.std.specs.List.{All, filter_map}
use Rattle.std.proofs.lemmas.List.{append-nil}
use Rattle.problem_lines.specs.Forms.{Form, MachineLine, UnitsLine, FileLine, KindLine, ProblemLine, OpLine, ValueLine, ReadLine, EdgeLine, EndLine}
use Rattle.problems.specs.declared.draft.Value.{Value}
use Rattle.problems.specs.declared.draft.Order.{Order}
use Rattle.registers.specs.declared.value.Read.{Read}
use Rattle.problem_tables.specs.Faults.{number_or_0}
use Rattle.problem_tables.specs.Names.{index_of}
use Rattle.problem_tables.specs.Tables.{MachineParts, ProblemParts, with_op, with_value, with_read, with_order, value_of, read_of, order_of}
use Rattle.problem_reader.specs.Files.{op_in, value_in, read_in, order_in}
use Rattle.problem_reader.specs.Sofar.{op_name, value_name}
use Rattle.problem_reader.proofs.Pushes.{Stable, filter-push, filter-stable}
use Rattle.problem_reader.proofs.Machines.{index-kept}

-- the problem that these lines are of
abbrev pub problem_in : List (List ℕ) → List (List ℕ) → List Form → ProblemParts
problem_in kinds files ls = record {
  operations = filter_map (op_in kinds) ls;
  operation_names = filter_map op_name ls;
  values = filter_map (value_in (filter_map op_name ls) files) ls;
  value_names = filter_map value_name ls;
  reads = filter_map (read_in (filter_map op_name ls) (filter_map value_name ls)) ls;
  orders = filter_map (order_in (filter_map op_name ls)) ls;
}

-- with what a line adds
abbrev pub problem_with : MachineParts → ProblemParts → Form → ProblemParts
problem_with m p form = record {
  operations = p.operations ++ option_to_list (op_in m.kind_names form);
  operation_names = p.operation_names ++ option_to_list (op_name form);
  values = p.values ++ option_to_list (value_in p.operation_names m.file_names form);
  value_names = p.value_names ++ option_to_list (value_name form);
  reads = p.reads ++ option_to_list (read_in p.operation_names p.value_names form);
  orders = p.orders ++ option_to_list (order_in p.operation_names form);
}

pub problem-same : (a b : ProblemParts) → a.operations ≡ b.operations → a.operation_names ≡ b.operation_names → a.values ≡ b.values → a.value_names ≡ b.value_names → a.reads ≡ b.reads → a.orders ≡ b.orders → a ≡ b
problem-same a b o n v w r s =
    ap (λ x. record { operations = x; operation_names = a.operation_names; values = a.values; value_names = a.value_names; reads = a.reads; orders = a.orders }) o
    ∙ ap (λ x. record { operations = b.operations; operation_names = x; values = a.values; value_names = a.value_names; reads = a.reads; orders = a.orders }) n
    ∙ ap (λ x. record { operations = b.operations; operation_names = b.operation_names; values = x; value_names = a.value_names; reads = a.reads; orders = a.orders }) v
    ∙ ap (λ x. record { operations = b.operations; operation_names = b.operation_names; values = b.values; value_names = x; reads = a.reads; orders = a.orders }) w
    ∙ ap (λ x. record { operations = b.operations; operation_names = b.operation_names; values = b.values; value_names = b.value_names; reads = x; orders = a.orders }) r
    ∙ ap (λ x. record { operations = b.operations; operation_names = b.operation_names; values = b.values; value_names = b.value_names; reads = b.reads; orders = x }) s

-- parts whose names there are

abbrev pub IsMade : ℕ → Value → Type 0
IsMade operations value = value.maker < operations

pub record IsReading (operations values : ℕ) (reading : Read) : Type 0 where
  pub value : reading.value < values
  pub reader : reading.reader < operations

pub record IsOrdered (operations : ℕ) (order : Order) : Type 0 where
  pub from : order.from < operations
  pub to : order.to < operations

pub record AreKnown (p : ProblemParts) : Type 0 where
  pub values : All (IsMade (length p.operation_names)) p.values
  pub reads : All (IsReading (length p.operation_names) (length p.value_names)) p.reads
  pub orders : All (IsOrdered (length p.operation_names)) p.orders

value-stable : (ops more files : List (List ℕ)) (form : Form) → Stable (IsMade (length ops)) (value_in ops files form) (value_in (ops ++ more) files form)
value-stable ops more files (MachineLine name) = refl
value-stable ops more files (UnitsLine names) = refl
value-stable ops more files (FileLine name storage) = refl
value-stable ops more files (KindLine name latency alternatives) = refl
value-stable ops more files (ProblemLine name) = refl
value-stable ops more files (OpLine name kind) = refl
value-stable ops more files (ValueLine name maker lands file out) =
    λ low. ap (λ n. Some (record { maker = n; lands = lands.value; out = out; file = index_of files file.bytes })) (index-kept ops more maker.bytes low)
value-stable ops more files (ReadLine reader value distance offset) = refl
value-stable ops more files (EdgeLine from to delay distance) = refl
value-stable ops more files EndLine = refl

read-stable : (ops more values others : List (List ℕ)) (form : Form) → Stable (IsReading (length ops) (length values)) (read_in ops values form) (read_in (ops ++ more) (values ++ others) form)
read-stable ops more values others (MachineLine name) = refl
read-stable ops more values others (UnitsLine names) = refl
read-stable ops more values others (FileLine name storage) = refl
read-stable ops more values others (KindLine name latency alternatives) = refl
read-stable ops more values others (ProblemLine name) = refl
read-stable ops more values others (OpLine name kind) = refl
read-stable ops more values others (ValueLine name maker lands file out) = refl
read-stable ops more values others (ReadLine reader value distance offset) = λ low.
    ap (λ n. Some (record { value = n; reader = index_of (ops ++ more) reader.bytes; distance = number_or_0 distance; offset = number_or_0 offset })) (index-kept values others value.bytes low.value)
    ∙ ap (λ n. Some (record { value = index_of values value.bytes; reader = n; distance = number_or_0 distance; offset = number_or_0 offset })) (index-kept ops more reader.bytes low.reader)
read-stable ops more values others (EdgeLine from to delay distance) = refl
read-stable ops more values others EndLine = refl

order-stable : (ops more : List (List ℕ)) (form : Form) → Stable (IsOrdered (length ops)) (order_in ops form) (order_in (ops ++ more) form)
order-stable ops more (MachineLine name) = refl
order-stable ops more (UnitsLine names) = refl
order-stable ops more (FileLine name storage) = refl
order-stable ops more (KindLine name latency alternatives) = refl
order-stable ops more (ProblemLine name) = refl
order-stable ops more (OpLine name kind) = refl
order-stable ops more (ValueLine name maker lands file out) = refl
order-stable ops more (ReadLine reader value distance offset) = refl
order-stable ops more (EdgeLine from to delay distance) = λ low.
    ap (λ n. Some (record { from = n; to = index_of (ops ++ more) to.bytes; delay = unwrap_or delay.value (pos 0); distance = distance.value })) (index-kept ops more from.bytes low.from)
    ∙ ap (λ n. Some (record { from = index_of ops from.bytes; to = n; delay = unwrap_or delay.value (pos 0); distance = distance.value })) (index-kept ops more to.bytes low.to)
order-stable ops more EndLine = refl

-- a line that says something of values, reads or orders names no operation and no value that it takes

value-here : (ops files : List (List ℕ)) (form : Form) → value_in (ops ++ option_to_list (op_name form)) files form ≡ value_in ops files form
value-here ops files (MachineLine name) = refl
value-here ops files (UnitsLine names) = refl
value-here ops files (FileLine name storage) = refl
value-here ops files (KindLine name latency alternatives) = refl
value-here ops files (ProblemLine name) = refl
value-here ops files (OpLine name kind) = refl
value-here ops files (ValueLine name maker lands file out) = ap (λ os. value_in os files (ValueLine name maker lands file out)) (append-nil ops)
value-here ops files (ReadLine reader value distance offset) = refl
value-here ops files (EdgeLine from to delay distance) = refl
value-here ops files EndLine = refl

read-here : (ops values : List (List ℕ)) (form : Form) → read_in (ops ++ option_to_list (op_name form)) (values ++ option_to_list (value_name form)) form ≡ read_in ops values form
read-here ops values (MachineLine name) = refl
read-here ops values (UnitsLine names) = refl
read-here ops values (FileLine name storage) = refl
read-here ops values (KindLine name latency alternatives) = refl
read-here ops values (ProblemLine name) = refl
read-here ops values (OpLine name kind) = refl
read-here ops values (ValueLine name maker lands file out) = refl
read-here ops values (ReadLine reader value distance offset) =
    ap (λ os. read_in os (values ++ []) (ReadLine reader value distance offset)) (append-nil ops) ∙ ap (λ vs. read_in ops vs (ReadLine reader value distance offset)) (append-nil values)
read-here ops values (EdgeLine from to delay distance) = refl
read-here ops values EndLine = refl

order-here : (ops : List (List ℕ)) (form : Form) → order_in (ops ++ option_to_list (op_name form)) form ≡ order_in ops form
order-here ops (MachineLine name) = refl
order-here ops (UnitsLine names) = refl
order-here ops (FileLine name storage) = refl
order-here ops (KindLine name latency alternatives) = refl
order-here ops (ProblemLine name) = refl
order-here ops (OpLine name kind) = refl
order-here ops (ValueLine name maker lands file out) = refl
order-here ops (ReadLine reader value distance offset) = refl
order-here ops (EdgeLine from to delay distance) = ap (λ os. order_in os (EdgeLine from to delay distance)) (append-nil ops)
order-here ops EndLine = refl

pub problem-push : (m : MachineParts) (ls : List Form) (form : Form) → AreKnown (problem_in m.kind_names m.file_names ls)
    → problem_in m.kind_names m.file_names (ls ++ form ∷ []) ≡ problem_with m (problem_in m.kind_names m.file_names ls) form
problem-push m ls form known =
    let ops = filter_map op_name ls in
    let values = filter_map value_name ls in
    let here = option_to_list (op_name form) in
    let there = option_to_list (value_name form) in
    let o : filter_map op_name (ls ++ form ∷ []) ≡ ops ++ here = filter-push op_name ls form in
    let v : filter_map value_name (ls ++ form ∷ []) ≡ values ++ there = filter-push value_name ls form in
    problem-same (problem_in m.kind_names m.file_names (ls ++ form ∷ [])) (problem_with m (problem_in m.kind_names m.file_names ls) form)
    (filter-push (op_in m.kind_names) ls form) o
    (ap (λ os. filter_map (value_in os m.file_names) (ls ++ form ∷ [])) o
    ∙ filter-push (value_in (ops ++ here) m.file_names) ls form
    ∙ ap (λ xs. xs ++ option_to_list (value_in (ops ++ here) m.file_names form)) (filter-stable (IsMade (length ops)) (value_in ops m.file_names) (value_in (ops ++ here) m.file_names) (value-stable ops here m.file_names) ls known.values)
    ∙ ap (λ x. filter_map (value_in ops m.file_names) ls ++ option_to_list x) (value-here ops m.file_names form))
    v
    (ap (λ os. filter_map (read_in os (filter_map value_name (ls ++ form ∷ []))) (ls ++ form ∷ [])) o
    ∙ ap (λ vs. filter_map (read_in (ops ++ here) vs) (ls ++ form ∷ [])) v
    ∙ filter-push (read_in (ops ++ here) (values ++ there)) ls form
    ∙ ap (λ xs. xs ++ option_to_list (read_in (ops ++ here) (values ++ there) form)) (filter-stable (IsReading (length ops) (length values)) (read_in ops values) (read_in (ops ++ here) (values ++ there)) (read-stable ops here values there) ls known.reads)
    ∙ ap (λ x. filter_map (read_in ops values) ls ++ option_to_list x) (read-here ops values form))
    (ap (λ os. filter_map (order_in os) (ls ++ form ∷ [])) o
    ∙ filter-push (order_in (ops ++ here)) ls form
    ∙ ap (λ xs. xs ++ option_to_list (order_in (ops ++ here) form)) (filter-stable (IsOrdered (length ops)) (order_in ops) (order_in (ops ++ here)) (order-stable ops here) ls known.orders)
    ∙ ap (λ x. filter_map (order_in ops) ls ++ option_to_list x) (order-here ops form))

-- a line that says nothing of the problem
abbrev pub problem_step : MachineParts → ProblemParts → Form → ProblemParts
problem_step m p (OpLine name kind) = with_op m p name kind
problem_step m p (ValueLine name maker lands file out) = with_value p name (value_of m p maker lands file out)
problem_step m p (ReadLine reader value distance offset) = with_read p (read_of p reader value distance offset)
problem_step m p (EdgeLine from to delay distance) = with_order p (order_of p from to delay distance)
problem_step m p form = p

nothing-more : (p : ProblemParts) → record { operations = p.operations ++ []; operation_names = p.operation_names ++ []; values = p.values ++ []; value_names = p.value_names ++ []; reads = p.reads ++ []; orders = p.orders ++ [] } ≡ p
nothing-more p = problem-same _ p (append-nil p.operations) (append-nil p.operation_names) (append-nil p.values) (append-nil p.value_names) (append-nil p.reads) (append-nil p.orders)

pub problem-with : (m : MachineParts) (p : ProblemParts) (form : Form) → problem_with m p form ≡ problem_step m p form
problem-with m p (MachineLine name) = nothing-more p
problem-with m p (UnitsLine names) = nothing-more p
problem-with m p (FileLine name storage) = nothing-more p
problem-with m p (KindLine name latency alternatives) = nothing-more p
problem-with m p (ProblemLine name) = nothing-more p
problem-with m p (OpLine name kind) =
    problem-same (problem_with m p (OpLine name kind)) (problem_step m p (OpLine name kind)) refl refl (append-nil p.values) (append-nil p.value_names) (append-nil p.reads) (append-nil p.orders)
problem-with m p (ValueLine name maker lands file out) =
    problem-same (problem_with m p (ValueLine name maker lands file out)) (problem_step m p (ValueLine name maker lands file out)) (append-nil p.operations) (append-nil p.operation_names) refl refl (append-nil p.reads) (append-nil p.orders)
problem-with m p (ReadLine reader value distance offset) =
    problem-same (problem_with m p (ReadLine reader value distance offset)) (problem_step m p (ReadLine reader value distance offset))
    (append-nil p.operations) (append-nil p.operation_names) (append-nil p.values) (append-nil p.value_names) refl (append-nil p.orders)
problem-with m p (EdgeLine from to delay distance) =
    problem-same (problem_with m p (EdgeLine from to delay distance)) (problem_step m p (EdgeLine from to delay distance))
    (append-nil p.operations) (append-nil p.operation_names) (append-nil p.values) (append-nil p.value_names) (append-nil p.reads) refl
problem-with m p EndLine = nothing-more p
