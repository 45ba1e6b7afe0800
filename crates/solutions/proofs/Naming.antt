-- The copies of a value are the most of its instances that live in one cycle, and the names that they need.
use Rattle.std.proofs.Common.{◌≡◌, ℕ, suc, ◌+◌, ◌-◌, ◌*◌, ◌/◌, ◌%◌, ◌<◌, ◌≤◌, ℤ, pos, negsuc, ◌+ℤ◌, ◌-ℤ◌, ◌*ℤ◌, sym, ap, ◌∙◌, subst, inl, inr, arith}
use Rattle.std.proofs.lemmas.Bool.{cases_lt}
use Rattle.std.proofs.lemmas.Int.{ints}
use Rattle.std.proofs.lemmas.Nat.{div-mul-add}
use Rattle.std.proofs.Math.Nat.{add-mul-div_right, div-add-mod', le-div_iff_mul-le, mod-eq_of_lt, mod-lt}
use Rattle.registers.specs.declared.lifetime.Lifetime.{Lifetime}
use Rattle.registers.specs.Crowds.{ages_end, instances_in, least_age}
use Rattle.registers.specs.Lifetimes.{IsLiveIn}
use Rattle.registers.proofs.Whole.{cases-int}
use Rattle.registers.proofs.allotted.Meeting.{times-diff}
use Rattle.registers.proofs.allotted.Shifts.{nat-from, round-more, round-pos, round-shift}
use Rattle.solutions.specs.Copies.{copies_of}
use Rattle.solutions.specs.Names.{AreEnough, AreTooFew, name_of}
use Rattle.solutions.specs.Promises.{CopiesAreCrowds, CopiesAreEnough}

-- in the cycles of rows

no-more : (ii row : ℕ) (life : Lifetime) → 1 ≤ ii → life.first ≤ life.last → row < ii → instances_in ii row life ≤ copies_of ii life
no-more ii row life some ordered lt =
    let a : ℕ = ages_end ii row life in
    let b : ℕ = least_age ii row life in
    let ad : a * ii + (life.last + (ii - row)) % ii ≡ life.last + (ii - row) = div-add-mod' (life.last + (ii - row)) ii in
    let bd : b * ii + (life.first + (ii - 1 - row)) % ii ≡ life.first + (ii - 1 - row) = div-add-mod' (life.first + (ii - 1 - row)) ii in
    let bm : (life.first + (ii - 1 - row)) % ii < ii = mod-lt (life.first + (ii - 1 - row)) some in
    elim (cases_lt a b) [
      | inl under ↦ omega arith
      | inr over ↦
          let split : a * ii ≡ (a - b) * ii + b * ii = ap (λ n. n * ii) (let e : a ≡ (a - b) + b = omega arith in e) ∙ (let e : ((a - b) + b) * ii ≡ (a - b) * ii + b * ii = omega arith in e) in
          (le-div_iff_mul-le {k = ii} {x = a - b} {y = (life.last + 1 - life.first) + (ii - 1)} some).1 (omega arith)
    ]

that-many : (ii : ℕ) (life : Lifetime) → 1 ≤ ii → life.first ≤ life.last → instances_in ii (life.first % ii) life ≡ copies_of ii life
that-many ii life some ordered =
    let q : ℕ = life.first / ii in
    let r : ℕ = life.first % ii in
    let d : q * ii + r ≡ life.first = div-add-mod' life.first ii in
    let m : r < ii = mod-lt life.first some in
    let least : least_age ii r life ≡ q = ap (λ n. n / ii) (let e : life.first + (ii - 1 - r) ≡ q * ii + (ii - 1) = omega arith in e) ∙ div-mul-add q ii (ii - 1) (omega arith) in
    let last : ages_end ii r life ≡ copies_of ii life + q
    = ap (λ n. n / ii) (let e : life.last + (ii - r) ≡ ((life.last + 1 - life.first) + (ii - 1)) + q * ii = omega arith in e) ∙ add-mul-div_right ((life.last + 1 - life.first) + (ii - 1)) q some in
    omega arith

pub copies-are_crowds : CopiesAreCrowds
copies-are_crowds ii life some ordered = (
  λ row lt. no-more ii row life some ordered lt,
  (life.first % ii, mod-lt life.first some, that-many ii life some ordered),
)

-- in any cycle

later : (i : ℤ) (apart ii : ℕ) → ((i +ℤ pos apart) *ℤ pos ii) ≡ ((i *ℤ pos ii) +ℤ pos (apart * ii))
later i apart ii =
    let x = parts i in
    let xe = x.2 in
    let e : (i +ℤ pos apart) ≡ (pos (x.0 + apart) -ℤ pos x.1) = omega (arith, ints) in
    let a : ((i *ℤ pos ii) +ℤ pos (x.1 * ii)) ≡ pos (x.0 * ii) = ap (λ z. (z *ℤ pos ii) +ℤ pos (x.1 * ii)) x.2 ∙ times-diff x.0 x.1 ii in
    let b : (((i +ℤ pos apart) *ℤ pos ii) +ℤ pos (x.1 * ii)) ≡ pos ((x.0 + apart) * ii) = ap (λ z. (z *ℤ pos ii) +ℤ pos (x.1 * ii)) e ∙ times-diff (x.0 + apart) x.1 ii in
    let c : (x.0 + apart) * ii ≡ x.0 * ii + apart * ii = omega arith in
    omega (arith, ints)
  where
    -- each whole number is a difference
    parts : (z : ℤ) → (a : ℕ) × (b : ℕ) × (z ≡ (pos a -ℤ pos b))
    parts (pos n) = (n, 0, omega (arith, ints))
    parts (negsuc n) = (0, suc n, omega (arith, ints))

-- instances of two iterations live in one cycle just where these are fewer apart than there are copies

near : (ii apart : ℕ) (life : Lifetime) (i cycle : ℤ) → 1 ≤ ii → life.first ≤ life.last → IsLiveIn ii life i cycle → IsLiveIn ii life (i +ℤ pos apart) cycle → apart < copies_of ii life
near ii apart life i cycle some ordered one other =
    let l = later i apart ii in
    let a = one.lasts in
    let b = other.begun in
    let fits : apart * ii ≤ life.last - life.first = omega (arith, ints) in
    let e : suc apart * ii ≡ apart * ii + ii = omega arith in
    (le-div_iff_mul-le {k = ii} {x = suc apart} {y = (life.last + 1 - life.first) + (ii - 1)} some).1 (omega arith)

both-live : (ii apart : ℕ) (life : Lifetime) (i : ℤ) → 1 ≤ ii → life.first ≤ life.last → apart < copies_of ii life
    → IsLiveIn ii life i (pos life.first +ℤ ((i +ℤ pos apart) *ℤ pos ii)) × IsLiveIn ii life (i +ℤ pos apart) (pos life.first +ℤ ((i +ℤ pos apart) *ℤ pos ii))
both-live ii apart life i some ordered lt =
    let l = later i apart ii in
    let e : suc apart * ii ≡ apart * ii + ii = omega arith in
    let h = (le-div_iff_mul-le {k = ii} {x = suc apart} {y = (life.last + 1 - life.first) + (ii - 1)} some).0 lt in
    let fits : apart * ii ≤ life.last - life.first = omega arith in (
      record { begun = omega (arith, ints); lasts = omega (arith, ints) },
      record { begun = omega (arith, ints); lasts = omega (arith, ints) },
    )

-- names come again after so many iterations, and not before

again : (names : ℕ) (i : ℤ) → 1 ≤ names → name_of names i ≡ name_of names (i +ℤ pos names)
again names i some = sym (ap (λ n. name_of names (i +ℤ pos n)) (let e : names ≡ 1 * names = omega arith in e) ∙ round-more names i 1 some)

same-name : (names apart : ℕ) (i : ℤ) → apart < names → name_of names i ≡ name_of names (i +ℤ pos apart) → apart ≡ 0
same-name names apart i lt same =
    let some : 0 < names = omega arith in
    let back : ℤ = pos 0 -ℤ i in
    let one : (i +ℤ back) ≡ pos 0 = omega (arith, ints) in
    let other : ((i +ℤ pos apart) +ℤ back) ≡ pos apart = omega (arith, ints) in
    let before : name_of names (i +ℤ back) ≡ name_of names ((i +ℤ pos apart) +ℤ back) = round-shift names i (i +ℤ pos apart) back some same in
    let here : name_of names (i +ℤ back) ≡ 0 = ap (name_of names) one ∙ round-pos names 0 some ∙ mod-eq_of_lt some in
    let there : name_of names ((i +ℤ pos apart) +ℤ back) ≡ apart = ap (name_of names) other ∙ round-pos names apart some ∙ mod-eq_of_lt lt in
    cc

in-order : (ii names apart : ℕ) (life : Lifetime) (i j cycle : ℤ) → 1 ≤ ii → life.first ≤ life.last → copies_of ii life ≤ names → j ≡ (i +ℤ pos apart) → name_of names i ≡ name_of names j
    → IsLiveIn ii life i cycle → IsLiveIn ii life j cycle → i ≡ j
in-order ii names apart life i j cycle some ordered enough is same one other =
    let n = near ii apart life i cycle some ordered one (subst (λ k. IsLiveIn ii life k cycle) is other) in
    let z = same-name names apart i (omega arith) (same ∙ ap (name_of names) is) in
    omega (arith, ints)

enough : (ii names : ℕ) (life : Lifetime) → 1 ≤ ii → life.first ≤ life.last → copies_of ii life ≤ names → AreEnough ii life names
enough ii names life some ordered le i j clash = elim (cases-int i j) [
  | inl up ↦
      let d = nat-from (j -ℤ i) (omega (arith, ints)) in
      let e = d.1 in
      in-order ii names d.0 life i j clash.cycle some ordered le (omega (arith, ints)) clash.same_name clash.one_lives clash.other_lives
  | inr down ↦
      let d = nat-from (i -ℤ j) (omega (arith, ints)) in
      let e = d.1 in
      sym (in-order ii names d.0 life j i clash.cycle some ordered le (omega (arith, ints)) (sym clash.same_name) clash.other_lives clash.one_lives)
]

too-few : (ii names : ℕ) (life : Lifetime) → 1 ≤ ii → life.first ≤ life.last → 1 ≤ names → names < copies_of ii life → AreTooFew ii life names
too-few ii names life some ordered there lt i =
    let lives = both-live ii names life i some ordered lt in
    record { same_name = again names i there; cycle = pos life.first +ℤ ((i +ℤ pos names) *ℤ pos ii); one_lives = lives.0; other_lives = lives.1 }

pub copies-are_enough : CopiesAreEnough
copies-are_enough ii names life some ordered = (enough ii names life some ordered, too-few ii names life some ordered)
