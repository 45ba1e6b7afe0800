use Rattle.std.proofs.Common.{ap, length, arith}
use Rattle.std.proofs.lemmas.Int.{ints}
use Rattle.graph_text.proofs.KindRules.{anti-kind, from-within, memory-kind, opcode-read, output-kind, to-within, value-kind}
use Rattle.graph_text.proofs.kind.kind_of.Goals as goal

pub bounds-statements-from : goal.bounds-statements-from
bounds-statements-from c =
    let h = from-within c.args.innermost.now c.requires.0 c.args.edge.now c.statements-statements.ensures.well_formed c.requires.1.dependence in
    omega (arith, ap length c.statements-statements.ensures.value)

pub bounds-statements-from-2 : goal.bounds-statements-from-2
bounds-statements-from-2 c =
    let h = from-within c.args.innermost.now c.requires.0 c.args.edge.now c.statements-statements.ensures.well_formed c.requires.1.dependence in
    omega (arith, ap length c.statements-statements.ensures.value)

pub bounds-statements-from-3 : goal.bounds-statements-from-3
bounds-statements-from-3 c =
    let h = to-within c.args.innermost.now c.requires.0 c.args.edge.now c.requires.1.dependence in
    omega (arith, ap length c.statements-statements.ensures.value)

pub bounds-statements-from-4 : goal.bounds-statements-from-4
bounds-statements-from-4 c =
    let h = to-within c.args.innermost.now c.requires.0 c.args.edge.now c.requires.1.dependence in
    omega (arith, ap length c.statements-statements.ensures.value)

pub returns-in-Load : goal.returns-in-Load
returns-in-Load c = λ latencies timed.
    let loop = c.args.innermost.now in
    let e = c.args.edge.now in
    let is = c.statements-statements.ensures.well_formed in
    let from = opcode-read loop _ _ e.from c.index-statements-from.result c.statements-statements.ensures.value c.from.ensures (from-within loop latencies e is timed.dependence) in
    let to = opcode-read loop _ _ e.to c.index-statements-from-2.result c.statements-statements.ensures.value c.from-2.ensures (to-within loop latencies e timed.dependence) in
    memory-kind loop latencies e _ _ is timed from to c.in-Store.is c.in-Load.is

pub returns-in_default-to : goal.returns-in_default-to
returns-in_default-to c = λ latencies timed.
    let loop = c.args.innermost.now in
    let e = c.args.edge.now in
    let is = c.statements-statements.ensures.well_formed in
    let from = opcode-read loop _ _ e.from c.index-statements-from.result c.statements-statements.ensures.value c.from.ensures (from-within loop latencies e is timed.dependence) in
    let to = opcode-read loop _ _ e.to c.index-statements-from-2.result c.statements-statements.ensures.value c.from-2.ensures (to-within loop latencies e timed.dependence) in
    output-kind loop latencies e _ _ is timed from to c.in-Store.is c.in_default-to.not-Load

pub returns-in_default : goal.returns-in_default
returns-in_default c = λ latencies timed.
    let loop = c.args.innermost.now in
    let e = c.args.edge.now in
    let is = c.statements-statements.ensures.well_formed in
    let from = opcode-read loop _ _ e.from c.index-statements-from.result c.statements-statements.ensures.value c.from.ensures (from-within loop latencies e is timed.dependence) in
    value-kind loop latencies e _ timed from c.in_default.not-Store (omega (arith, ints, c.if-edge-gt0.true))

pub returns-in_default-2 : goal.returns-in_default-2
returns-in_default-2 c = λ latencies timed.
    let loop = c.args.innermost.now in
    let e = c.args.edge.now in
    let is = c.statements-statements.ensures.well_formed in
    let from = opcode-read loop _ _ e.from c.index-statements-from.result c.statements-statements.ensures.value c.from.ensures (from-within loop latencies e is timed.dependence) in
    anti-kind loop latencies e _ is timed from c.in_default-2.not-Store (omega (arith, ints, c.if-edge-gt0.false))
