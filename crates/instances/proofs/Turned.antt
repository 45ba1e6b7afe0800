-- Names of registers in turns, and of instances.
use Rattle.std.proofs.Common.{◌≡◌, ℕ, suc, zero, ◌+◌, ◌-◌, ◌*◌, ◌%◌, ◌/◌, ◌<◌, ◌≤◌, List, [], ◌∷◌, get_or, Some, ℤ, pos, negsuc, ◌+ℤ◌, ◌-ℤ◌, refl, sym, ap, ◌∙◌, arith}
use Rattle.std.specs.Prelude.{unsigned_abs}
use Rattle.std.specs.Int.{int_rem_euclid}
use Rattle.std.proofs.lemmas.Int.{ints, int_rem_euclid_is}
use Rattle.std.proofs.Math.Nat.{mul-le-mul_left, div-add-mod', add-mul-mod_self_right}
use Rattle.registers.specs.declared.value.Read.{Read}
use Rattle.registers.specs.Physical.{physical}
use Rattle.instances.specs.Runs.{Home, InRegister, Rotates, Unallotted, RunData, AreHomes, value_of, home_of, place_in, place_of, stage_of, destination_in, destination, source_in, source, preloaded_in, preloaded}
use Rattle.instances.specs.Promises.{NamesAreOfInstances}

-- the physical register of a name in a turn, with `k` rounds added, enough that nothing is below 0
pub physical-is : (registers name : ℕ) (turn : ℤ) (k m : ℕ) → 0 < registers → (pos name -ℤ turn) +ℤ pos (k * registers) ≡ pos m → physical registers name turn ≡ m % registers
physical-is registers name turn k m some e = ap unsigned_abs (int_rem_euclid_is (pos name -ℤ turn) (pos registers) registers k m some refl e)

-- some such number of rounds is there
rounds-there : (registers name : ℕ) (turn : ℤ) → 0 < registers → (k : ℕ) × (m : ℕ) × ((pos name -ℤ turn) +ℤ pos (k * registers) ≡ pos m)
rounds-there registers name (pos t) some =
    let far : t * 1 ≤ t * registers = mul-le-mul_left t some in (t, name + t * registers - t, omega (arith, ints))
rounds-there registers name (negsuc t) some = (0, name + suc t, omega (arith, ints))

-- a name goes around the registers: a multiple of their number changes nothing
pub physical-wrapped : (registers name : ℕ) (turn : ℤ) → 0 < registers → physical registers (name % registers) turn ≡ physical registers name turn
physical-wrapped registers name turn some =
    let r = rounds-there registers (name % registers) turn some in
    let split : (name / registers) * registers + name % registers ≡ name = div-add-mod' name registers in
    let more : (pos name -ℤ turn) +ℤ pos (r.0 * registers) ≡ pos (r.1 + (name / registers) * registers) = let e = r.2 in omega (arith, ints) in
    physical-is registers (name % registers) turn r.0 r.1 some r.2
    ∙ sym (add-mul-mod_self_right r.1 (name / registers) registers)
    ∙ sym (physical-is registers name turn r.0 (r.1 + (name / registers) * registers) some more)

-- a name `more` higher, `more` turns later
pub physical-later : (registers name more : ℕ) (turn : ℤ) → 0 < registers → physical registers (name + more) (turn +ℤ pos more) ≡ physical registers name turn
physical-later registers name more turn some = ap (λ z. unsigned_abs (int_rem_euclid z (pos registers))) (omega (arith, ints))

-- the name of an instance in the turn of an operation's issue
pub name-in_turn : (registers number distance stage iteration : ℕ) → 1 ≤ registers
    → physical registers ((number + distance + stage) % registers) (pos (stage + iteration)) ≡ physical registers number (pos iteration -ℤ pos distance)
name-in_turn registers number distance stage iteration some =
    physical-wrapped registers (number + distance + stage) (pos (stage + iteration)) some
    ∙ ap (λ n. physical registers n (pos (stage + iteration))) (let e : number + distance + stage ≡ number + (distance + stage) = omega arith in e)
    ∙ ap (λ z. physical registers (number + (distance + stage)) z) (let e : pos (stage + iteration) ≡ ((pos iteration -ℤ pos distance) +ℤ pos (distance + stage)) = omega (arith, ints) in e)
    ∙ physical-later registers number (distance + stage) (pos iteration -ℤ pos distance) some

-- homes

-- where a home rotates, its number is one of its registers
abbrev IsHome : Home → Type 0
IsHome home = (file registers number : ℕ) → home ≡ Rotates file registers number → number < registers

home-at : (homes : List Home) (v : ℕ) → AreHomes homes → IsHome (get_or homes v Unallotted)
home-at [] v all = λ file registers number e. cc
home-at (home ∷ homes) zero all = λ file registers number e. all 0 file registers number (ap Some e)
home-at (home ∷ homes) (suc v) all = home-at homes v (λ w. all (suc w))

destination-in : (home : Home) (v stage k : ℕ) → IsHome home → destination_in home v stage k ≡ place_in home v (pos k)
destination-in (Rotates file registers number) v stage k is =
    let some : number < registers = is file registers number refl in
    let none : number + 0 + stage ≡ number + stage = omega arith in
    let same : (pos k -ℤ pos 0) ≡ pos k = omega (arith, ints) in
    ap (InRegister file) (ap (λ n. physical registers (n % registers) (pos (stage + k))) (sym none)
    ∙ name-in_turn registers number 0 stage k (omega arith) ∙ ap (physical registers number) same)
destination-in Unallotted v stage k is = refl

source-in : (home : Home) (v distance stage i : ℕ) → IsHome home → source_in home v distance stage i ≡ place_in home v (pos i -ℤ pos distance)
source-in (Rotates file registers number) v distance stage i is =
    let some : number < registers = is file registers number refl in
    ap (InRegister file) (name-in_turn registers number distance stage i (omega arith))
source-in Unallotted v distance stage i is = refl

preloaded-in : (home : Home) (v m : ℕ) → IsHome home → preloaded_in home v m ≡ place_in home v (pos 0 -ℤ pos m)
preloaded-in (Rotates file registers number) v m is =
    let some : number < registers = is file registers number refl in
    let none : number + m + 0 ≡ number + m = omega arith in
    ap (InRegister file) (ap (λ n. physical registers (n % registers) (pos 0)) (sym none) ∙ name-in_turn registers number m 0 0 (omega arith))
preloaded-in Unallotted v m is = refl

pub destination-is : (run : RunData) → AreHomes run.homes → (v k : ℕ) → destination run v k ≡ place_of run v (pos k)
destination-is run all v k = destination-in (home_of run v) v (stage_of run (value_of run v).maker) k (home-at run.homes v all)

pub source-is : (run : RunData) → AreHomes run.homes → (reading : Read) (i : ℕ) → source run reading i ≡ place_of run reading.value (pos i -ℤ pos reading.distance)
source-is run all reading i = source-in (home_of run reading.value) reading.value reading.distance (stage_of run reading.reader) i (home-at run.homes reading.value all)

pub preloaded-is : (run : RunData) → AreHomes run.homes → (v m : ℕ) → preloaded run v m ≡ place_of run v (pos 0 -ℤ pos m)
preloaded-is run all v m = preloaded-in (home_of run v) v m (home-at run.homes v all)

pub names-are_of_instances : NamesAreOfInstances
names-are_of_instances = (name-in_turn, λ run all. (destination-is run all, source-is run all, preloaded-is run all))
