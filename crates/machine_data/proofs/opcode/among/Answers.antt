use Rattle.std.proofs.Common.{◌≡◌, ◌+◌, true, false, cond, List, get_or, drop, find, Some, sym, ap, ◌∙◌, arith}
use Rattle.std.proofs.Math.ListN.{drop_of_length-le}
use Rattle.std.proofs.lemmas.List.{at_drop_more}
use Rattle.machine_data.specs.declared.opcode.Opcode.{Opcode}
use Rattle.machine_data.specs.declared.opcode.Opcode.TheVariants.{Load}
use Rattle.machine_data.specs.Opcodes.{word_of, same_word}
use Rattle.machine_data.proofs.opcode.among.Goals as goal

pub returns-then-eq : goal.returns-then-eq
returns-then-eq c =
    let opcodes : List Opcode = c.args.opcodes.now in
    let i = c.loop-opcode.opcode-index in
    let P = λ (opcode : Opcode). same_word (word_of opcode) c.args.word.now in
    let opcode : Opcode = get_or opcodes i Load in
    let has : P opcode ≡ true = ap (λ w. same_word w c.args.word.now) (sym (c.as_bytes.ensures.value ∙ c.word.ensures)) ∙ sym c.eq.ensures ∙ c.if-eq.true in
    sym (ap (λ b. cond b (Some opcode) (find P (drop (i + 1) opcodes))) has) ∙ sym (at_drop_more (find P) opcodes i Load (omega arith)) ∙ c.loop-opcode.invariant

pub loop-opcode-preserved : goal.loop-opcode-preserved
loop-opcode-preserved c =
    let opcodes : List Opcode = c.args.opcodes.now in
    let i = c.loop-opcode.opcode-index in
    let P = λ (opcode : Opcode). same_word (word_of opcode) c.args.word.now in
    let opcode : Opcode = get_or opcodes i Load in
    let lacks : P opcode ≡ false = ap (λ w. same_word w c.args.word.now) (sym (c.as_bytes.ensures.value ∙ c.word.ensures)) ∙ sym c.eq.ensures ∙ c.if-eq.false in
    sym (ap (λ b. cond b (Some opcode) (find P (drop (i + 1) opcodes))) lacks) ∙ sym (at_drop_more (find P) opcodes i Load (omega arith)) ∙ c.loop-opcode.invariant

pub returns : goal.returns
returns c =
    let P = λ (opcode : Opcode). same_word (word_of opcode) c.args.word.now in
    sym (ap (find P) (drop_of_length-le c.args.opcodes.now (omega arith))) ∙ c.loop-opcode.invariant
