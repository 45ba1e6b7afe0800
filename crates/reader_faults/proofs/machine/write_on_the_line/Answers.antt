use Rattle.std.proofs.Common.{◌≡◌, [], ◌++◌, encode_utf8_all, append_assoc, append-nil, ap, sym, ◌∙◌, refl, rules}
use Rattle.std.specs.Char.Iter.{escape_rest}
use Rattle.std.proofs.Output.{has_written_append, has_written_of_eq}
use Rattle.reader_faults.proofs.Printed.{encoded_last, printed_escaped, printed_plainly}
use Rattle.reader_faults.proofs.machine.write_on_the_line.Goals as goal

pub returns-then-not-is_ascii_control : goal.returns-then-not-is_ascii_control
returns-then-not-is_ascii_control g c = λ plain ok.
    has_written_of_eq _ _ _ _ _ (sym (printed_plainly c.args.c (search rules))) (c.write_char.ensures.writes plain ok)

pub loop-part-preserved : goal.loop-part-preserved
loop-part-preserved g c = (
  rw (append_assoc, ← c.in-Some.ensures.steps.1.0) c.loop-part.invariant.0,
  λ plain. has_written_of_eq _ _ _ _ _ (sym (encoded_last c.loop-part.yielded c.in-Some.part)) (has_written_append _ _ _ _ _ _ (c.loop-part.invariant.1 plain) (search rules)),
)

pub returns : goal.returns
returns g c = λ plain ok.
    let over : escape_rest c.loop-part.part-iterator ≡ [] = rw c.in-None.ensures.steps.1.0 refl in
    let all = sym (append-nil c.loop-part.yielded) ∙ ap (λ rest. c.loop-part.yielded ++ rest) (sym over) ∙ c.loop-part.invariant.0 in
    has_written_of_eq _ _ _ _ _ (ap encode_utf8_all all ∙ sym (printed_escaped c.args.c (search rules))) (c.loop-part.invariant.1 plain)
