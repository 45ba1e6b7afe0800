use Rattle.std.proofs.Common.{rules, arith, ◌∙◌, ◌<◌, ◌≤◌, ◌+◌, length}
use Rattle.devices.proofs.TextLemmas.{ReadSoFar-read, HoldsText-full, HoldsText-end}
use Rattle.devices.proofs.text.fill.Goals as goal

pub loop-filled-preserved : goal.loop-filled-preserved
loop-filled-preserved g c =
    let within : c.loop-filled.filled + c.in_ok-n.n ≤ length c.read_more.new.buffer.items = search rules in
    let room : c.loop-filled.filled < length c.read_more.new.buffer.items = search rules in
    record {
      some = omega arith;
      room = within;
      bound = search rules;
      read = ReadSoFar-read _ _ _ _ _ _ _ (omega arith) c.in_ok-n.ensures.kept c.loop-filled.invariant.read c.in_ok-n.ensures.reads;
      fine = c.in_ok-n.ensures.fine ∙ c.loop-filled.invariant.fine;
    }

pub returns-after-loop-filled-clause-read : goal.returns-after-loop-filled-clause-read
returns-after-loop-filled-clause-read g c = HoldsText-full _ _ _ _ _ c.loop-filled.invariant.read (search rules)

pub returns-then-n-eq0-clause-read : goal.returns-then-n-eq0-clause-read
returns-then-n-eq0-clause-read g c =
    let room : c.loop-filled.filled < length c.read_more.new.buffer.items = search rules in
    HoldsText-end _ _ _ _ _ _ _ c.in_ok-n.n c.loop-filled-test.true room c.in_ok-n.ensures.kept c.loop-filled.invariant.read c.in_ok-n.ensures.reads (search rules)
