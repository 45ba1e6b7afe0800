use Rattle.std.proofs.Common.{◌≡◌, ◌+◌, ◌-◌, arith, refl, length, set, length-set, to_z-of_z}
use Rattle.std.proofs.lemmas.List.{drop-set, drop_all}
use Rattle.lines_of_runs.proofs.cells.write_tail.Goals as goal

pub returns-clause-written : goal.returns-clause-written
returns-clause-written c =
    let v = c.write_signed-start in
    let w = c.write_signed-first in
    let one : w.result - 1 + 1 ≡ w.result = omega arith in
    let two : v.result - 2 + 1 ≡ v.result - 1 = omega arith in
    let three : v.result - 1 + 1 ≡ v.result = omega arith in
    let opened : length (set c.args.buffer.now 43 10) ≡ 44 = omega (arith, length-set c.args.buffer.now 43 10) in
    let valued : length v.new.buffer ≡ 44 = omega (arith, v.auto.buffer, opened) in
    let spaced : length (set v.new.buffer (v.result - 1) 32) ≡ 44 = omega (arith, length-set v.new.buffer (v.result - 1) 32, valued) in
    let closed : length (set (set v.new.buffer (v.result - 1) 32) (v.result - 2) 93) ≡ 44 = omega (arith, length-set (set v.new.buffer (v.result - 1) 32) (v.result - 2) 93, spaced) in
    let whole : length w.new.buffer ≡ 44 = omega (arith, w.auto.buffer, closed) in
    rw (
      drop-set w.new.buffer (w.result - 1) 91 (omega arith),
      one,
      w.ensures.written,
      drop-set (set v.new.buffer (v.result - 1) 32) (v.result - 2) 93 (omega arith),
      two,
      drop-set v.new.buffer (v.result - 1) 32 (omega arith),
      three,
      v.ensures.written,
      drop-set c.args.buffer.now 43 10 (omega arith),
      drop_all 44 c.args.buffer.now (omega arith),
      to_z-of_z c.ranges.cell,
      to_z-of_z c.ranges.value,
    ) refl
