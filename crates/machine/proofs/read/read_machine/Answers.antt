use Rattle.std.proofs.Common.{[], ◌∷◌, Err, codes, sym}
use Rattle.std.proofs.lemmas.Bool.{false≢true}
use Rattle.toml.specs.Data.{no_members}
use Rattle.reader_faults.specs.declared.machine.MachineFault.TheVariants.{Limit}
use Rattle.machine.specs.MachineText.{tree_machine}
use Rattle.machine.proofs.Whole.{MachineAnswer-from_Reads, text-long, text-not_utf8, text-not_toml, text-tree}
use Rattle.machine.proofs.read.read_machine.Goals as goal

pub returns-then-text-gt-MAX_TEXT : goal.returns-then-text-gt-MAX_TEXT
returns-then-text-gt-MAX_TEXT c = record { exact = rw (text-long _ c.if-text-gt-MAX_TEXT.true) (MachineAnswer-from_Reads (Limit (codes "text") ∷ []) (tree_machine no_members) (Err c.limit.result) (λ ne. rw (c.limit.ensures ne))) }

pub returns-in_default : goal.returns-in_default
returns-in_default c = record { exact = sym (text-not_utf8 _ c.if-text-gt-MAX_TEXT.false _ c.in_default.ensures.cases.1) }

pub returns-in-Ok-table_from_str : goal.returns-in-Ok-table_from_str
returns-in-Ok-table_from_str c =
    let utf8 = c.in-Ok.ensures.cases in
    let parsed = rw utf8.0 at c.in-Ok-table_from_str.ensures.ok in
    record { exact = rw (text-tree _ c.if-text-gt-MAX_TEXT.false _ utf8.1 parsed) (MachineAnswer-from_Reads _ _ c.read_tree.result c.read_tree.ensures) }

pub returns-else-is_memory : goal.returns-else-is_memory
returns-else-is_memory c =
    let utf8 = c.in-Ok.ensures.cases in
    let refused = rw utf8.0 at (c.in-Err.ensures.refused (λ memory. false≢true (c.if-is_memory.ensures.1 memory))) in
    record { exact = sym (text-not_toml _ c.if-text-gt-MAX_TEXT.false utf8.1 refused) }
