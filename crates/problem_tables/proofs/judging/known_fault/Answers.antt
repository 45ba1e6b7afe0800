use Rattle.std.proofs.Common.{◌∙◌, ap}
use Rattle.std.specs.Prelude.{nat_lt}
use Rattle.problem_lines.specs.Seen.{word_seen}
use Rattle.problem_tables.specs.Faults.{on_word, unless}
use Rattle.problem_tables.specs.Names.{index_of}
use Rattle.problem_faults.specs.declared.refused_problems.Wrong.TheVariants.{Unknown}
use Rattle.problem_tables.proofs.Naming.{below-has}
use Rattle.problem_tables.proofs.judging.known_fault.Goals as goal

pub returns : goal.returns
returns c =
    let names = c.args.names.now in
    let q = c.args.name.bytes.now in
    let told = on_word (word_seen c.args.name) (Unknown c.args.what) in
    c.word_fault.ensures
    ∙ ap (λ n. unless (nat_lt n c.len.result) told) c.requires
    ∙ ap (λ n. unless (nat_lt (index_of names q) n) told) c.len.ensures
    ∙ ap (λ b. unless b told) (below-has names q)
