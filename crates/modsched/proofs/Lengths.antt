-- One byte past what a text of a machine or of loops may have is enough to tell what it means.
use Rattle.std.proofs.Common.{◌≡◌, ℕ, List, take}
use Rattle.devices.specs.Devices.{most_read}
use Rattle.devices.proofs.Lengths.{past_limit}
use Rattle.machine.specs.MachineText.{machine_of}
use Rattle.machine.proofs.Lengths as machine_text
use Rattle.loop_reader.specs.Meaning.{loops_in}
use Rattle.loop_reader.proofs.Lengths as loops_text

pub machine_of-take : (bytes : List ℕ) → machine_of (take most_read bytes) ≡ machine_of bytes
machine_of-take bytes = machine_text.machine_of-take most_read bytes past_limit

pub loops_in-take : (bytes : List ℕ) → loops_in (take most_read bytes) ≡ loops_in bytes
loops_in-take bytes = loops_text.loops_in-take most_read bytes past_limit
