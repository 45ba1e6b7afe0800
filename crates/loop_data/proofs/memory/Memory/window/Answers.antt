use Rattle.std.proofs.Common.{◌≡◌, ℕ, ◌+◌, ℤ, ◌≤◌, List, length, map, take, drop, sym, ap, subst, arith, rules}
use Rattle.std.specs.List.{All}
use Rattle.std.proofs.lemmas.List.{length-drop, length-take-le}
use Rattle.std.proofs.lemmas.List.Elements.{All-map, All-weaker}
use Rattle.loop_data.specs.Run.{MemoryData}
use Rattle.loop_data.proofs.memory.Memory.window.Goals as goal

-- a window of so many cells is that long
cut : (from count : ℕ) (a : List ℤ) → from + count ≤ length a → length (take count (drop from a)) ≡ count
cut from count a h = length-take-le count (drop from a) (omega (arith, length-drop from a))

-- and all windows of a memory are
cut-all : (whole from trip : ℕ) (arrays : List (List ℤ)) → from + trip ≤ whole → All (λ (a : List ℤ). length a ≡ whole + 128) arrays
    → All (λ (a : List ℤ). length a ≡ trip + 128) (map (λ (a : List ℤ). take (trip + 128) (drop from a)) arrays)
cut-all whole from trip arrays h all =
    All-map (λ (a : List ℤ). length a ≡ trip + 128) (λ (a : List ℤ). take (trip + 128) (drop from a)) arrays
    (All-weaker (λ (a : List ℤ). length a ≡ whole + 128) (λ (a : List ℤ). length (take (trip + 128) (drop from a)) ≡ trip + 128) (λ a e. cut from (trip + 128) a (omega arith)) arrays all)

pub invariant_of-result : goal.invariant_of-result
invariant_of-result c =
    let r = c.self.inside in
    let from = c.args.from in
    let trip = c.args.trip in
    let items : c.in_ok-arrays.arrays.items ≡ map (λ (a : List ℤ). take (trip + 128) (drop from a)) r.arrays.items = search rules in
    let whole : r.trip ≡ c.args.self.now.trip = ap (λ (m : MemoryData). m.trip) c.self.view_is in
    let within : from + trip ≤ r.trip = omega arith in
    record {
      trips = omega (arith, c.self.invariant.trips);
      cells = subst (All (λ (a : List ℤ). length a ≡ trip + 128)) (sym items) (cut-all r.trip from trip r.arrays.items within c.self.invariant.cells);
    }
