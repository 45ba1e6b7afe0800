use Rattle.kernel.proofs.text.write_operation.Goals as goal

pub write_place-requires : goal.write_place-requires
write_place-requires c = λ a e. (c.requires.placed a e).array
