-- A text of loops that is too long means what so long a beginning of it means.
use Rattle.std.proofs.Common.{◌≡◌, ◌∙◌, ap, refl, sym, ℕ, ◌<◌, List, length, take, arith, inl, inr}
use Rattle.std.specs.Prelude.{Err}
use Rattle.std.proofs.lemmas.List.{take_all, length-take-le}
use Rattle.std.proofs.lemmas.Bool.{cases_lt, lt-ltb}
use Rattle.reader_faults.specs.declared.loops.LoopFaultKind.TheVariants as kinds
use Rattle.loop_reader.specs.Meaning.{loops_in}

too_long : (text : List ℕ) → 1048576 < length text → loops_in text ≡ Err (record { line = 0; kind = kinds.Limit })
unfolding loops_in
too_long text h = rw (lt-ltb 1048576 (length text) h) refl

pub loops_in-take : (most : ℕ) (bytes : List ℕ) → 1048576 < most → loops_in (take most bytes) ≡ loops_in bytes
loops_in-take most bytes past = elim (cases_lt most (length bytes)) [
  | inl h ↦ let e : length (take most bytes) ≡ most = length-take-le most bytes (omega arith) in
      too_long (take most bytes) (omega (arith, e)) ∙ sym (too_long bytes (omega arith))
  | inr h ↦ ap loops_in (take_all most bytes h)
]
