-- The gaps tell which numbers are lawful: a value has a number just where its arc fits into a gap.
use Rattle.std.proofs.Common.{◌≡◌, ◌↔◌, ℕ, suc, zero, ◌+◌, ◌-◌, ◌*◌, ◌/◌, ◌%◌, ◌<◌, ◌≤◌, List, [], ◌∷◌, ◌++◌, length, set, take, Option, Some, None, refl, sym, ap, ◌∙◌, subst, inl, inr, arith}
use Rattle.std.specs.Prelude.{slice_get, slice_index, MatchOption}
use Rattle.std.specs.List.{All}
use Rattle.std.proofs.lemmas.Bool.{cases_eq, cases_lt, cases_order}
use Rattle.std.proofs.lemmas.List.{get_or-set_other, get_or-set_same}
use Rattle.std.proofs.Math.Nat.{div-add-mod', mod-lt, add-mul-mod_self_right, mod-eq_of_lt}
use Rattle.registers.specs.declared.lifetime.Lifetime.{Lifetime}
use Rattle.registers.specs.Allotments.{IsLawfulAllotment, IsLeast}
use Rattle.registers.proofs.allotted.Least.{taken-at, index-taken}
use Rattle.registers.proofs.Whole.{times-more}
use Rattle.registers.specs.Residues.{Forbids, FitsItself, IsFreeNumber, IsLifeSpan}
use Rattle.registers.specs.inner.Turns.{point_of, begin_of, arc_of}
use Rattle.registers.specs.inner.Gaps.{AreInOrder, FitsAt, Fits, Overlap, place_at, number_of}
use Rattle.registers.specs.declared.numbers.gaps.Gap.{Gap}
use Rattle.registers.specs.declared.numbers.gaps.Fit.{Fit}
use Rattle.registers.specs.declared.values.turns.Arc.{Arc}
use Rattle.registers.proofs.allotted.Freed.{at-taken, span-at}
use Rattle.registers.proofs.allotted.Fitting.{number-gives}
use Rattle.registers.proofs.allotted.Meeting.{forbids-in, fits-length, point-order, point-small}
use Rattle.registers.proofs.allotted.More.{lawful-more}
use Rattle.registers.proofs.allotted.Taking.{LeavesFits}

-- the first point that a number gives a value, and how far the last one is after it
abbrev pub placed_at : ℕ → ℕ → ℕ → Lifetime → ℕ → ℕ
placed_at ii registers origin life c = place_at (begin_of ii registers origin life % 16384) (((begin_of ii registers origin life / 16384) % registers + c) % registers)

abbrev pub extent : ℕ → Lifetime → ℕ
extent ii life = point_of ii life.last - point_of ii life.first

place-around : (begin registers c : ℕ) → (q : ℕ) × (begin + c * 16384 ≡ place_at (begin % 16384) (((begin / 16384) % registers + c) % registers) + q * (registers * 16384))
place-around begin registers c =
    let t : ℕ = begin / 16384 in
    let s : ℕ = t % registers + c in
    let te : t * 16384 + begin % 16384 ≡ begin = div-add-mod' begin 16384 in
    let tr : (t / registers) * registers + t % registers ≡ t = div-add-mod' t registers in
    let sr : (s / registers) * registers + s % registers ≡ s = div-add-mod' s registers in
    let m : (t / registers + s / registers) * (registers * 16384) ≡ ((t / registers) * registers + (s / registers) * registers) * 16384 = omega arith in
    (t / registers + s / registers, omega arith)

-- what meets around the registers meets on the line, where neither goes past the last point
meets-line : (x l a m u v n : ℕ) → x + l < n → a + m < n → x + u * n ≤ a + m + v * n → a + v * n ≤ x + l + u * n → Overlap x l a m
meets-line x l a m u v n xl am low high = elim (cases_order u v) [
  | inl same ↦ let e : u * n ≡ v * n = ap (λ z. z * n) same in (omega arith, omega arith)
  | inr o ↦ elim o [
    | inl lt ↦
        let g : n * v ≡ n * suc u + n * (v - suc u) = times-more n (suc u) v lt in
        let c : n * suc u ≡ u * n + n = omega arith in
        let d : n * v ≡ v * n = omega arith in
        absurd (omega arith)
    | inr gt ↦
        let g : n * u ≡ n * suc v + n * (u - suc v) = times-more n (suc v) u gt in
        let c : n * suc v ≡ v * n + n = omega arith in
        let d : n * u ≡ u * n = omega arith in
        absurd (omega arith)
  ]
]

pub forbids-line : (ii registers origin n c : ℕ) (one other : Lifetime) → 1 ≤ ii → ii ≤ 16384 → 1 ≤ registers → IsLifeSpan one → IsLifeSpan other → c < registers
    → placed_at ii registers origin one n + extent ii one < registers * 16384 → placed_at ii registers origin other c + extent ii other < registers * 16384
    → Forbids ii registers one n other c → Overlap (placed_at ii registers origin other c) (extent ii other) (placed_at ii registers origin one n) (extent ii one)
forbids-line ii registers origin n c one other some few regs ho ht lt within there f =
    let around : ℕ = registers * 16384 in
    let x : ℕ = placed_at ii registers origin other c in
    let a : ℕ = placed_at ii registers origin one n in
    let w = (forbids-in ii registers n c one other some few regs ho ht lt).0 f in
    let at : ℕ = w.0 in
    let split : (at / registers) * registers + at % registers ≡ at = div-add-mod' at registers in
    let is : at % registers ≡ c = w.2 in
    let turns : (at / registers) * around ≡ ((at / registers) * registers) * 16384 = omega arith in
    let xp = place-around (begin_of ii registers origin other) registers c in
    let op = place-around (begin_of ii registers origin one) registers n in
    let xe = xp.1 in let ae = op.1 in
    let oo = point-order ii one.first one.last some few ho.ordered in
    let oh = point-order ii other.first other.last some few ht.ordered in
    let low = w.1.0 in let high = w.1.1 in
    let xu : (xp.0 + at / registers) * around ≡ xp.0 * around + (at / registers) * around = omega arith in
    let av : (op.0 + 8589934592) * around ≡ op.0 * around + registers * 140737488355328 = omega arith in
    meets-line x (extent ii other) a (extent ii one) (xp.0 + at / registers) (op.0 + 8589934592) around there within (omega arith) (omega arith)

-- and back; once around at most
line-forbids : (ii registers origin n c d : ℕ) (one other : Lifetime) → 1 ≤ ii → ii ≤ 16384 → 1 ≤ registers → IsLifeSpan one → IsLifeSpan other → c < registers → origin ≤ 70368744194048 → d ≤ 1
    → placed_at ii registers origin other c ≤ placed_at ii registers origin one n + extent ii one + d * (registers * 16384)
    → placed_at ii registers origin one n + d * (registers * 16384) ≤ placed_at ii registers origin other c + extent ii other
    → Forbids ii registers one n other c
line-forbids ii registers origin n c d one other some few regs ho ht lt from once low high =
    let around : ℕ = registers * 16384 in
    let x : ℕ = placed_at ii registers origin other c in
    let a : ℕ = placed_at ii registers origin one n in
    let xp = place-around (begin_of ii registers origin other) registers c in
    let op = place-around (begin_of ii registers origin one) registers n in
    let xe = xp.1 in let ae = op.1 in
    let oo = point-order ii one.first one.last some few ho.ordered in
    let oh = point-order ii other.first other.last some few ht.ordered in
    let small = point-small ii other.first some few (let s = ht.ordered in let r = ht.short in omega arith) in
    let turn : ((begin_of ii registers origin one / 16384) % registers + n) % registers < registers = mod-lt ((begin_of ii registers origin one / 16384) % registers + n) regs in
    let phase : begin_of ii registers origin one % 16384 < 16384 = mod-lt (begin_of ii registers origin one) (omega arith) in
    let far : xp.0 + d ≤ op.0 + 8589934592 = elim (cases_lt xp.0 (op.0 + 8589934592)) [
      | inl less ↦ omega arith
      | inr ge ↦
          let g : around * xp.0 ≡ around * (op.0 + 8589934592) + around * (xp.0 - (op.0 + 8589934592)) = times-more around (op.0 + 8589934592) xp.0 ge in
          let p : around * (op.0 + 8589934592) ≡ op.0 * around + registers * 140737488355328 = omega arith in
          let q : around * xp.0 ≡ xp.0 * around = omega arith in
          absurd (omega arith)
    ] in
    let t : ℕ = op.0 + 8589934592 - (xp.0 + d) in
    let at : ℕ = c + t * registers in
    let turns : at * 16384 ≡ c * 16384 + t * around = omega arith in
    let whole : op.0 + 8589934592 ≡ xp.0 + d + t = omega arith in
    let sums : (op.0 + 8589934592) * around ≡ (xp.0 + d + t) * around = ap (λ z. z * around) whole in
    let left : (op.0 + 8589934592) * around ≡ op.0 * around + registers * 140737488355328 = omega arith in
    let right : (xp.0 + d + t) * around ≡ xp.0 * around + d * around + t * around = omega arith in
    let is : at % registers ≡ c = add-mul-mod_self_right c t registers ∙ mod-eq_of_lt lt in
    (forbids-in ii registers n c one other some few regs ho ht lt).1 (at, (omega arith, omega arith), is)

-- the gaps that the first `k` values leave
pub record HaveGaps (ii registers origin : ℕ) (lives : List Lifetime) (numbers : List ℕ) (k : ℕ) (gaps : List Gap) : Type 0 where
  pub order : AreInOrder (registers * 16384) gaps
  pub placed : (j : ℕ) (life : Lifetime) → j < k → slice_get lives j ≡ Some life → placed_at ii registers origin life (slice_index numbers j) + extent ii life < registers * 16384
  pub cut : (life : Lifetime) → 0 < k → slice_get lives 0 ≡ Some life → placed_at ii registers origin life (slice_index numbers 0) ≡ 0
  pub free : (a n : ℕ) → a + n < registers * 16384
      → Fits gaps a n ↔ ((j : ℕ) (life : Lifetime) → j < k → slice_get lives j ≡ Some life → ¬ Overlap a n (placed_at ii registers origin life (slice_index numbers j)) (extent ii life))

-- what fits lies within all points
pub fits-within : (around : ℕ) (gaps : List Gap) (a n : ℕ) → AreInOrder around gaps → Fits gaps a n → a + n < around
fits-within around gaps a n is f = let w = is.within f.0 f.1.0 f.1.1 in let h = f.1.3 in omega arith

fits-free : (ii registers origin : ℕ) (lives : List Lifetime) (numbers : List ℕ) (k : ℕ) (gaps : List Gap) (other : Lifetime) (c : ℕ) → 1 ≤ ii → ii ≤ 16384 → 1 ≤ registers
    → All IsLifeSpan lives → IsLifeSpan other → c < registers → HaveGaps ii registers origin lives numbers k gaps
    → Fits gaps (placed_at ii registers origin other c) (extent ii other) → IsFreeNumber ii registers (take k lives) (take k numbers) other c
fits-free ii registers origin lives numbers k gaps other c some few regs spans span lt have fits j one e f =
    let t = taken-at lives k j one e in
    let within = fits-within (registers * 16384) gaps (placed_at ii registers origin other c) (extent ii other) have.order fits in
    let g : Forbids ii registers one (slice_index numbers j) other c = subst (λ n. Forbids ii registers one n other c) (index-taken numbers k j t.1) f in
    (have.free (placed_at ii registers origin other c) (extent ii other) within).0 fits j one t.1 t.0
    (forbids-line ii registers origin (slice_index numbers j) c one other some few regs (span-at lives j one t.0 spans) span lt (have.placed j one t.1 t.0) within g)

free-fits : (ii registers origin : ℕ) (lives : List Lifetime) (numbers : List ℕ) (k : ℕ) (gaps : List Gap) (first other : Lifetime) (c : ℕ) → 1 ≤ ii → ii ≤ 16384 → 1 ≤ registers
    → All IsLifeSpan lives → IsLifeSpan other → c < registers → origin ≤ 70368744194048 → 0 < k → slice_get lives 0 ≡ Some first → HaveGaps ii registers origin lives numbers k gaps
    → IsFreeNumber ii registers (take k lives) (take k numbers) other c → Fits gaps (placed_at ii registers origin other c) (extent ii other)
free-fits ii registers origin lives numbers k gaps first other c some few regs spans span lt from more begin have free =
    let x : ℕ = placed_at ii registers origin other c in
    elim (cases_lt (x + extent ii other) (registers * 16384)) [
      | inl within ↦ (have.free x (extent ii other) within).1 (λ j one less e o.
          let a = o.0 in let b = o.1 in
          free j one (at-taken lives k j one e less)
          (subst (λ n. Forbids ii registers one n other c) (sym (index-taken numbers k j less))
          (line-forbids ii registers origin (slice_index numbers j) c 0 one other some few regs (span-at lives j one e spans) span lt from (omega arith) (omega arith) (omega arith))))
      | inr over ↦
          let zero : placed_at ii registers origin first (slice_index numbers 0) ≡ 0 = have.cut first more begin in
          let turn : ((begin_of ii registers origin other / 16384) % registers + c) % registers < registers = mod-lt ((begin_of ii registers origin other / 16384) % registers + c) regs in
          let phase : begin_of ii registers origin other % 16384 < 16384 = mod-lt (begin_of ii registers origin other) (omega arith) in
          absurd (free 0 first (at-taken lives k 0 first begin more)
          (subst (λ n. Forbids ii registers first n other c) (sym (index-taken numbers k 0 more))
          (line-forbids ii registers origin (slice_index numbers 0) c 1 first other some few regs (span-at lives 0 first begin spans) span lt from (omega arith) (omega arith) (omega arith))))
    ]

-- the first value begins at the origin
origin-place : (ii registers : ℕ) (life : Lifetime) → 1 ≤ registers → point_of ii life.first ≤ 70368744194048 → placed_at ii registers (point_of ii life.first) life 0 ≡ 0
origin-place ii registers life regs small =
    let b : begin_of ii registers (point_of ii life.first) life ≡ 0 + (registers * 8589934592) * 16384 = omega arith in
    let p : begin_of ii registers (point_of ii life.first) life % 16384 ≡ 0
    = ap (λ n. n % 16384) b ∙ add-mul-mod_self_right 0 (registers * 8589934592) 16384 in
    let s : (begin_of ii registers (point_of ii life.first) life / 16384) * 16384 + begin_of ii registers (point_of ii life.first) life % 16384 ≡ begin_of ii registers (point_of ii life.first) life
    = div-add-mod' (begin_of ii registers (point_of ii life.first) life) 16384 in
    let q : begin_of ii registers (point_of ii life.first) life / 16384 ≡ 0 + 8589934592 * registers = omega arith in
    let t : (begin_of ii registers (point_of ii life.first) life / 16384) % registers ≡ 0
    = ap (λ n. n % registers) q ∙ add-mul-mod_self_right 0 8589934592 registers ∙ mod-eq_of_lt (omega arith) in
    let z : ((begin_of ii registers (point_of ii life.first) life / 16384) % registers + 0) % registers ≡ 0
    = ap (λ n. (n + 0) % registers) t ∙ mod-eq_of_lt (omega arith) in
    omega arith

-- one value more

abbrev pub ArcFits : ℕ → List Gap → Arc → Option Fit → Type 0
ArcFits registers gaps arc found =
    MatchOption found ((c : ℕ) → c < registers → ¬ Fits gaps (place_at arc.phase ((arc.turn + c) % registers)) arc.length)
    (λ f. FitsAt gaps f.gap (place_at arc.phase f.turn) arc.length × (f.turn < registers)
    × ((c : ℕ) → c < number_of registers arc.turn f.turn → ¬ Fits gaps (place_at arc.phase ((arc.turn + c) % registers)) arc.length))

abbrev pub FoundFit : ℕ → ℕ → ℕ → Lifetime → List Gap → Option Fit → Type 0
FoundFit ii registers origin other gaps found = ArcFits registers gaps (arc_of ii registers origin other) found

-- where the number puts it
pub number-place : (ii registers origin : ℕ) (other : Lifetime) (turn : ℕ) → 1 ≤ registers → turn < registers
    → placed_at ii registers origin other (number_of registers ((begin_of ii registers origin other / 16384) % registers) turn) ≡ place_at (begin_of ii registers origin other % 16384) turn
number-place ii registers origin other turn regs there =
    let from : ℕ = (begin_of ii registers origin other / 16384) % registers in
    let few : from < registers = mod-lt (begin_of ii registers origin other / 16384) regs in
    ap (place_at (begin_of ii registers origin other % 16384)) (number-gives registers from turn few there)

number-below : (registers from to : ℕ) → 1 ≤ registers → number_of registers from to < registers
number-below registers from to regs = mod-lt (to + (registers - from)) regs

fit-there : (ii registers origin : ℕ) (other : Lifetime) (gaps : List Gap) (f : Fit) → 1 ≤ registers → FoundFit ii registers origin other gaps (Some f)
    → Fits gaps (placed_at ii registers origin other (number_of registers ((begin_of ii registers origin other / 16384) % registers) f.turn)) (extent ii other)
fit-there ii registers origin other gaps f regs found =
    subst (λ x. Fits gaps x (extent ii other)) (sym (number-place ii registers origin other f.turn regs found.1)) (f.gap, found.0)

abbrev pub FoundLeast : ℕ → ℕ → ℕ → List Lifetime → List ℕ → ℕ → Lifetime → Option Fit → Type 0
FoundLeast ii registers origin lives numbers k other found =
    MatchOption found ((c : ℕ) → ¬ IsLawfulAllotment ii registers (take k lives ++ other ∷ []) (take k numbers ++ c ∷ []))
    (λ f. IsLeast ii registers (take k lives) (take k numbers) other (number_of registers ((begin_of ii registers origin other / 16384) % registers) f.turn))

found-more : (ii registers origin : ℕ) (lives : List Lifetime) (numbers : List ℕ) (k : ℕ) (gaps : List Gap) (first other : Lifetime) (found : Option Fit)
    → 1 ≤ ii → ii ≤ 16384 → 1 ≤ registers → All IsLifeSpan lives → IsLifeSpan other → origin ≤ 70368744194048 → 0 < k → slice_get lives 0 ≡ Some first
    → HaveGaps ii registers origin lives numbers k gaps → IsLawfulAllotment ii registers (take k lives) (take k numbers)
    → FoundFit ii registers origin other gaps found → FoundLeast ii registers origin lives numbers k other found
found-more ii registers origin lives numbers k gaps first other None some few regs spans span from more begin have lawful none = λ c h.
    let p = (lawful-more ii registers (take k lives) (take k numbers) other c some regs span.ordered lawful.each).0 h in
    none c p.1 (free-fits ii registers origin lives numbers k gaps first other c some few regs spans span p.1 from more begin have p.3)
found-more ii registers origin lives numbers k gaps first other (Some f) some few regs spans span from more begin have lawful found =
    let c : ℕ = number_of registers ((begin_of ii registers origin other / 16384) % registers) f.turn in
    let lt : c < registers = number-below registers ((begin_of ii registers origin other / 16384) % registers) f.turn regs in
    let fits = fit-there ii registers origin other gaps f regs found in
    let within = fits-within (registers * 16384) gaps (placed_at ii registers origin other c) (extent ii other) have.order fits in
    record {
      lawful = (lawful-more ii registers (take k lives) (take k numbers) other c some regs span.ordered lawful.each).1 (
        lawful,
        lt,
        (fits-length ii registers other some few span.ordered).1 (omega arith),
        fits-free ii registers origin lives numbers k gaps other c some few regs spans span lt have fits,
      );
      least = λ d less h.
          let p = (lawful-more ii registers (take k lives) (take k numbers) other d some regs span.ordered lawful.each).0 h in
          found.2 d less (free-fits ii registers origin lives numbers k gaps first other d some few regs spans span p.1 from more begin have p.3);
    }

-- the first value has the number 0, or none
first-fits : (ii registers : ℕ) (lives : List Lifetime) (numbers : List ℕ) (gaps : List Gap) (other : Lifetime) → 1 ≤ ii → ii ≤ 16384 → 1 ≤ registers → IsLifeSpan other
    → HaveGaps ii registers (point_of ii other.first) lives numbers 0 gaps → FitsItself ii registers other
    → Fits gaps (placed_at ii registers (point_of ii other.first) other 0) (extent ii other)
first-fits ii registers lives numbers gaps other some few regs span have fits =
    let small = point-small ii other.first some few (let s = span.ordered in let r = span.short in omega arith) in
    let zero = origin-place ii registers other regs small in
    let short = (fits-length ii registers other some few span.ordered).0 fits in
    (have.free (placed_at ii registers (point_of ii other.first) other 0) (extent ii other) (omega arith)).1 (λ j life lt. absurd (omega arith))

found-first : (ii registers : ℕ) (lives : List Lifetime) (numbers : List ℕ) (gaps : List Gap) (other : Lifetime) (found : Option Fit)
    → 1 ≤ ii → ii ≤ 16384 → 1 ≤ registers → All IsLifeSpan lives → IsLifeSpan other
    → HaveGaps ii registers (point_of ii other.first) lives numbers 0 gaps → IsLawfulAllotment ii registers (take 0 lives) (take 0 numbers)
    → FoundFit ii registers (point_of ii other.first) other gaps found → FoundLeast ii registers (point_of ii other.first) lives numbers 0 other found
found-first ii registers lives numbers gaps other None some few regs spans span have lawful none = λ c h.
    let p = (lawful-more ii registers (take 0 lives) (take 0 numbers) other c some regs span.ordered lawful.each).0 h in
    none 0 (omega arith) (first-fits ii registers lives numbers gaps other some few regs span have p.2)
found-first ii registers lives numbers gaps other (Some f) some few regs spans span have lawful found =
    let origin : ℕ = point_of ii other.first in
    let c : ℕ = number_of registers ((begin_of ii registers origin other / 16384) % registers) f.turn in
    let lt : c < registers = number-below registers ((begin_of ii registers origin other / 16384) % registers) f.turn regs in
    let fits = fit-there ii registers origin other gaps f regs found in
    let within = fits-within (registers * 16384) gaps (placed_at ii registers origin other c) (extent ii other) have.order fits in
    record {
      lawful = (lawful-more ii registers (take 0 lives) (take 0 numbers) other c some regs span.ordered lawful.each).1 (
        lawful,
        lt,
        (fits-length ii registers other some few span.ordered).1 (omega arith),
        fits-free ii registers origin lives numbers 0 gaps other c some few regs spans span lt have fits,
      );
      least = λ d less h.
          let p = (lawful-more ii registers (take 0 lives) (take 0 numbers) other d some regs span.ordered lawful.each).0 h in
          found.2 0 (omega arith) (first-fits ii registers lives numbers gaps other some few regs span have p.2);
    }

first-number : (ii registers : ℕ) (lives : List Lifetime) (numbers : List ℕ) (gaps : List Gap) (other : Lifetime) (f : Fit)
    → 1 ≤ ii → ii ≤ 16384 → 1 ≤ registers → IsLifeSpan other → HaveGaps ii registers (point_of ii other.first) lives numbers 0 gaps
    → FoundFit ii registers (point_of ii other.first) other gaps (Some f)
    → number_of registers ((begin_of ii registers (point_of ii other.first) other / 16384) % registers) f.turn ≡ 0
first-number ii registers lives numbers gaps other f some few regs span have found =
    let origin : ℕ = point_of ii other.first in
    let c : ℕ = number_of registers ((begin_of ii registers origin other / 16384) % registers) f.turn in
    let fits = fit-there ii registers origin other gaps f regs found in
    let within = fits-within (registers * 16384) gaps (placed_at ii registers origin other c) (extent ii other) have.order fits in
    let itself = (fits-length ii registers other some few span.ordered).1 (omega arith) in
    elim (cases_lt 0 c) [
      | inl more ↦ absurd (found.2 0 more (first-fits ii registers lives numbers gaps other some few regs span have itself))
      | inr none ↦ omega arith
    ]

pub found-least : (ii registers origin : ℕ) (lives : List Lifetime) (numbers : List ℕ) (k : ℕ) (gaps : List Gap) (first other : Lifetime) (found : Option Fit)
    → 1 ≤ ii → ii ≤ 16384 → 1 ≤ registers → All IsLifeSpan lives → IsLifeSpan other → slice_get lives 0 ≡ Some first → slice_get lives k ≡ Some other → origin ≡ point_of ii first.first
    → HaveGaps ii registers origin lives numbers k gaps → IsLawfulAllotment ii registers (take k lives) (take k numbers)
    → FoundFit ii registers origin other gaps found → FoundLeast ii registers origin lives numbers k other found
found-least ii registers origin lives numbers zero gaps first other found some few regs spans span begin here from have lawful fit =
    let e : Some first ≡ Some other = sym begin ∙ here in
    let same : first ≡ other = cc in
    let o : origin ≡ point_of ii other.first = from ∙ ap (λ (life : Lifetime). point_of ii life.first) same in
    subst (λ z. FoundLeast ii registers z lives numbers zero other found) (sym o)
    (found-first ii registers lives numbers gaps other found some few regs spans span
    (subst (λ z. HaveGaps ii registers z lives numbers zero gaps) o have) lawful
    (subst (λ z. FoundFit ii registers z other gaps found) o fit))
found-least ii registers origin lives numbers (suc k) gaps first other found some few regs spans span begin here from have lawful fit =
    let f = span-at lives 0 first begin spans in
    let small = point-small ii first.first some few (let s = f.ordered in let r = f.short in omega arith) in
    found-more ii registers origin lives numbers (suc k) gaps first other found some few regs spans span (omega arith) (omega arith) begin have lawful fit

-- the gaps that are left after it

free-more : (ii registers origin : ℕ) (lives : List Lifetime) (numbers : List ℕ) (k c a n : ℕ) (gaps left : List Gap) (other : Lifetime) → k < length numbers → slice_get lives k ≡ Some other
    → Fits gaps a n ↔ ((j : ℕ) (life : Lifetime) → j < k → slice_get lives j ≡ Some life → ¬ Overlap a n (placed_at ii registers origin life (slice_index numbers j)) (extent ii life))
    → Fits left a n ↔ (Fits gaps a n × ¬ Overlap a n (placed_at ii registers origin other c) (extent ii other))
    → Fits left a n ↔ ((j : ℕ) (life : Lifetime) → j < k + 1 → slice_get lives j ≡ Some life → ¬ Overlap a n (placed_at ii registers origin life (slice_index (set numbers k c) j)) (extent ii life))
free-more ii registers origin lives numbers k c a n gaps left other within here before step = (
  λ f j life lt e.
      let b = step.0 f in
      elim (cases_eq j k) [
        | inl same ↦
            let z : slice_index (set numbers k c) j ≡ c = ap (slice_index (set numbers k c)) same ∙ get_or-set_same numbers k c 0 within in
            let le : Some other ≡ Some life = sym here ∙ ap (slice_get lives) (sym same) ∙ e in
            let y : other ≡ life = cc in
            subst (λ m. ¬ Overlap a n (placed_at ii registers origin life m) (extent ii life)) (sym z)
            (subst (λ (v : Lifetime). ¬ Overlap a n (placed_at ii registers origin v c) (extent ii v)) y b.1)
        | inr apart ↦
            let z : slice_index (set numbers k c) j ≡ slice_index numbers j = get_or-set_other numbers k j c 0 apart in
            subst (λ m. ¬ Overlap a n (placed_at ii registers origin life m) (extent ii life)) (sym z) (before.0 b.0 j life (omega arith) e)
      ],
  λ all. step.1 (
    before.1 (λ j life lt e.
        let z : slice_index (set numbers k c) j ≡ slice_index numbers j = get_or-set_other numbers k j c 0 (omega arith) in
        subst (λ m. ¬ Overlap a n (placed_at ii registers origin life m) (extent ii life)) z (all j life (omega arith) e)),
    let z : slice_index (set numbers k c) k ≡ c = get_or-set_same numbers k c 0 within in
        subst (λ m. ¬ Overlap a n (placed_at ii registers origin other m) (extent ii other)) z (all k other (omega arith) here),
  ),
)

pub gaps-more : (ii registers origin : ℕ) (lives : List Lifetime) (numbers : List ℕ) (k : ℕ) (gaps left : List Gap) (first other : Lifetime) (f : Fit)
    → 1 ≤ ii → ii ≤ 16384 → 1 ≤ registers → All IsLifeSpan lives → IsLifeSpan other → slice_get lives 0 ≡ Some first → slice_get lives k ≡ Some other → origin ≡ point_of ii first.first → k < length numbers
    → HaveGaps ii registers origin lives numbers k gaps → FoundFit ii registers origin other gaps (Some f)
    → AreInOrder (registers * 16384) left → LeavesFits gaps left (place_at (begin_of ii registers origin other % 16384) f.turn) (extent ii other)
    → HaveGaps ii registers origin lives (set numbers k (number_of registers ((begin_of ii registers origin other / 16384) % registers) f.turn)) (k + 1) left
gaps-more ii registers origin lives numbers k gaps left first other f some few regs spans span begin here from within have found order leaves =
    let c : ℕ = number_of registers ((begin_of ii registers origin other / 16384) % registers) f.turn in
    let place = number-place ii registers origin other f.turn regs found.1 in
    let leaves-there : LeavesFits gaps left (placed_at ii registers origin other c) (extent ii other) = subst (λ x. LeavesFits gaps left x (extent ii other)) (sym place) leaves in
    let fits = fit-there ii registers origin other gaps f regs found in
    let inside = fits-within (registers * 16384) gaps (placed_at ii registers origin other c) (extent ii other) have.order fits in
    record {
      order = order;
      placed = λ j life lt e. elim (cases_eq j k) [
        | inl same ↦
            let z : slice_index (set numbers k c) j ≡ c = ap (slice_index (set numbers k c)) same ∙ get_or-set_same numbers k c 0 within in
            let le : Some other ≡ Some life = sym here ∙ ap (slice_get lives) (sym same) ∙ e in
            let y : other ≡ life = cc in
            subst (λ m. placed_at ii registers origin life m + extent ii life < registers * 16384) (sym z)
            (subst (λ (v : Lifetime). placed_at ii registers origin v c + extent ii v < registers * 16384) y inside)
        | inr apart ↦
            let z : slice_index (set numbers k c) j ≡ slice_index numbers j = get_or-set_other numbers k j c 0 apart in
            subst (λ m. placed_at ii registers origin life m + extent ii life < registers * 16384) (sym z) (have.placed j life (omega arith) e)
      ];
      cut = λ life more e. elim (cases_eq k 0) [
        | inl start ↦
            let z : slice_index (set numbers k c) 0 ≡ c = ap (slice_index (set numbers k c)) (sym start) ∙ get_or-set_same numbers k c 0 within in
            let le : Some other ≡ Some life = sym here ∙ ap (slice_get lives) start ∙ e in
            let y : other ≡ life = cc in
            let fe : Some other ≡ Some first = sym here ∙ ap (slice_get lives) start ∙ begin in
            let fy : first ≡ other = cc in
            let o : origin ≡ point_of ii other.first = from ∙ ap (λ (v : Lifetime). point_of ii v.first) fy in
            let small = point-small ii other.first some few (let s = span.ordered in let r = span.short in omega arith) in
            let none : c ≡ 0 = subst (λ z. number_of registers ((begin_of ii registers z other / 16384) % registers) f.turn ≡ 0) (sym o)
            (first-number ii registers lives numbers gaps other f some few regs span
            (subst (λ m. HaveGaps ii registers (point_of ii other.first) lives numbers m gaps) start (subst (λ z. HaveGaps ii registers z lives numbers k gaps) o have))
            (subst (λ z. FoundFit ii registers z other gaps (Some f)) o found)) in
            let there : placed_at ii registers origin other 0 ≡ 0 = subst (λ z. placed_at ii registers z other 0 ≡ 0) (sym o) (origin-place ii registers other regs small) in
            subst (λ m. placed_at ii registers origin life m ≡ 0) (sym (z ∙ none)) (subst (λ (v : Lifetime). placed_at ii registers origin v 0 ≡ 0) y there)
        | inr later ↦
            let z : slice_index (set numbers k c) 0 ≡ slice_index numbers 0 = get_or-set_other numbers k 0 c 0 (λ e. later (sym e)) in
            subst (λ m. placed_at ii registers origin life m ≡ 0) (sym z) (have.cut life (omega arith) e)
      ];
      free = λ a n lt. free-more ii registers origin lives numbers k c a n gaps left other within here (have.free a n lt) (leaves-there a n);
    }

-- before the first value all points are free

within-one : (registers : ℕ) (gap : Gap) → gap.start ≡ 0 → gap.room ≡ registers * 16384 → (k : ℕ) (one : Gap) → slice_get (gap ∷ []) k ≡ Some one → one.start + one.room ≤ registers * 16384
within-one registers gap start room zero one e =
    let y : gap ≡ one = cc in
    let s : gap.start ≡ one.start = ap (λ (x : Gap). x.start) y in
    let r : gap.room ≡ one.room = ap (λ (x : Gap). x.room) y in
    omega arith
within-one registers gap start room (suc k) one e = cc

one-gap : (gap : Gap) (k l : ℕ) (one other : Gap) → k < l → slice_get (gap ∷ []) k ≡ Some one → slice_get (gap ∷ []) l ≡ Some other → ⊥
one-gap gap k zero one other lt here there = omega arith
one-gap gap k (suc l) one other lt here there = cc

pub gaps-none : (ii registers origin : ℕ) (lives : List Lifetime) (numbers : List ℕ) (gap : Gap) → gap.start ≡ 0 → gap.room ≡ registers * 16384 → HaveGaps ii registers origin lives numbers 0 (gap ∷ [])
gaps-none ii registers origin lives numbers gap start room = record {
  order = record {
    within = within-one registers gap start room;
    order = λ k l one other lt here there. absurd (one-gap gap k l one other lt here there);
  };
  placed = λ j life lt e. absurd (omega arith);
  cut = λ life lt e. absurd (omega arith);
  free = λ a n lt. (λ _ j life less e. absurd (omega arith), λ _. (0, (gap, refl, omega arith, omega arith)));
}
