-- How the faults of a machine text are told.
use Rattle.std.specs.Prelude.{◌≡◌, ◌≢◌, ℕ, codes, Result, Err, flat_map, if◌then◌else◌, List, [], ◌∷◌, ◌++◌}
use Rattle.std.specs.Char.{is_ascii_control}
use Rattle.std.specs.Char.Escape.{escape_default}
use Rattle.reader_faults.specs.declared.machine.MachineFault.{MachineFault}
use Rattle.reader_faults.specs.declared.machine.MachineFault.TheVariants as fault

-- a control character as in Rust's literals, and any other byte as it is
abbrev pub byte_text : ℕ → List ℕ
byte_text byte = if is_ascii_control byte then escape_default byte else byte ∷ []

-- a key on one line
abbrev pub key_text : List ℕ → List ℕ
key_text = flat_map byte_text

abbrev pub machine_fault_text : MachineFault → List ℕ
machine_fault_text fault.NotUtf8 = codes "not UTF-8"
machine_fault_text fault.NotToml = codes "not TOML"
machine_fault_text (fault.MissingKey key) = codes "missing key " ++ key_text key
machine_fault_text (fault.WrongType key) = codes "wrong type at " ++ key_text key
machine_fault_text (fault.UnknownKey key) = codes "unknown key " ++ key_text key
machine_fault_text (fault.UnknownUnit unit) = codes "unknown unit " ++ key_text unit
machine_fault_text (fault.UnknownOpcode word) = codes "unknown opcode " ++ key_text word
machine_fault_text (fault.RepeatedUnit unit) = codes "repeated unit " ++ key_text unit
machine_fault_text (fault.RepeatedRow key) = codes "repeated row at " ++ key_text key
machine_fault_text (fault.Limit name) = codes "limit " ++ key_text name
machine_fault_text fault.Memory = codes "out of memory"

-- the error is this fault, unless memory ran out
abbrev pub IsFault : MachineFault → MachineFault → Type 0
IsFault e given = e ≢ fault.Memory → e ≡ given

-- the result is the meaning, unless memory ran out
abbrev pub MachineAnswer : {A : Type 0} → Result A MachineFault → Result A MachineFault → Type 0
MachineAnswer (Err fault.Memory) meaning = Unit {0}
MachineAnswer result meaning = result ≡ meaning
