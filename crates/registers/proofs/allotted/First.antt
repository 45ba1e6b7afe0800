-- The first values that meet in a register.
use Rattle.std.proofs.Common.{◌≡◌, ◌↔◌, ℕ, suc, ◌+◌, ◌-◌, ◌*◌, ◌/◌, ◌%◌, ◌<◌, ◌≤◌, List, [], ◌∷◌, ◌++◌, length, take, Option, None, Some, ℤ, pos, negsuc, ◌+ℤ◌, ◌-ℤ◌, refl, sym, ap, ◌∙◌, subst, inl, inr, arith}
use Rattle.std.specs.Prelude.{◌*ℤ◌, slice_get, slice_index, is_some, Bool, true, false, not, MatchOption}
use Rattle.std.proofs.lemmas.Bool.{true≢false}
use Rattle.std.proofs.lemmas.Int.{ints}
use Rattle.std.proofs.Math.Seq.{take-append_seam}
use Rattle.std.proofs.Math.Nat.{div-add-mod', mod-eq_of_lt}
use Rattle.std.proofs.Math.IntN.{negsuc-*ℤ-pos}
use Rattle.registers.specs.Physical.{physical}
use Rattle.registers.specs.declared.lifetime.Lifetime.{Lifetime}
use Rattle.registers.specs.declared.meeting.Meeting.{Meeting}
use Rattle.registers.specs.Allotments.{DoMeet, IsLawfulAllotment}
use Rattle.registers.specs.Meetings.{IsFirstMeeting, MeetingsAreUnlawful}
use Rattle.registers.specs.Residues.{Forbids, IsFreeNumber}
use Rattle.registers.specs.inner.Forbidding.{MeetIn, IsFirstForbidding}
use Rattle.registers.proofs.Whole.{times-more}
use Rattle.registers.proofs.allotted.Filled.{life-take, number-take, meets-same}
use Rattle.registers.proofs.allotted.Freed.{at-taken}
use Rattle.registers.proofs.allotted.Least.{place-within, taken-at, take-twice, index-taken}
use Rattle.registers.proofs.allotted.More.{forbids-from_meeting, place-cases, place-left, place-last, number-left, number-last}
use Rattle.registers.proofs.allotted.Shifts.{round, round-more, round-pos}

pub meetings-are_unlawful : MeetingsAreUnlawful
meetings-are_unlawful ii registers lives numbers meeting first lawful =
    let same = lawful.apart meeting.earlier meeting.later first.iteration (pos 0) first.meet in
    first.different same.0 same.1

-- one more value

-- its register in iteration 0 is its number
number-register : (registers : ℕ) (numbers : List ℕ) (c n : ℕ) → c < registers → n ≡ length numbers → physical registers (slice_index (numbers ++ c ∷ []) n) (pos 0) ≡ c
number-register registers numbers c n lt is =
    let e : (pos c -ℤ pos 0) ≡ pos c = omega (arith, ints) in
    ap (λ m. physical registers m (pos 0)) (number-last numbers c n is) ∙ ap (round registers) e ∙ round-pos registers c (omega arith) ∙ mod-eq_of_lt lt

-- a value before it that meets it forbids its number
forbids-more : (ii registers : ℕ) (lives : List Lifetime) (numbers : List ℕ) (y : Lifetime) (c k : ℕ) (i j : ℤ) → 1 ≤ registers → length numbers ≡ length lives → k < length lives
    → DoMeet ii registers (lives ++ y ∷ []) (numbers ++ c ∷ []) k i (length lives) j
    → (one : Lifetime) × (slice_get lives k ≡ Some one) × Forbids ii registers one (slice_index numbers k) y c
forbids-more ii registers lives numbers y c k i j some long lt m =
    let f = forbids-from_meeting ii registers (lives ++ y ∷ []) (numbers ++ c ∷ []) k (length lives) i j some m in
    let e : Some m.other ≡ Some y = sym m.is_other ∙ place-last lives y in
    let is_last : m.other ≡ y = cc in
    elim (place-cases lives y m.one k m.is_one) [
      | inl there ↦ (
        m.one,
        there,
        subst (λ (o : Lifetime). Forbids ii registers m.one (slice_index numbers k) o c) is_last
            (subst (λ n. Forbids ii registers m.one (slice_index numbers k) m.other n) (number-last numbers c (length lives) (sym long))
            (subst (λ n. Forbids ii registers m.one n m.other (slice_index (numbers ++ c ∷ []) (length lives))) (number-left numbers c k (omega arith)) f)),
      )
      | inr last ↦ let l = last.0 in absurd (omega arith)
    ]

-- it meets a value before it
pub first-before : (ii registers : ℕ) (lives : List Lifetime) (numbers : List ℕ) (one y : Lifetime) (c k cycle : ℕ) → 1 ≤ registers → c < registers
    → IsLawfulAllotment ii registers lives numbers → slice_get lives k ≡ Some one → IsFirstForbidding ii registers lives numbers y c k → MeetIn ii registers one (slice_index numbers k) y c cycle
    → IsFirstMeeting ii registers (lives ++ y ∷ []) (numbers ++ c ∷ []) (record { earlier = k; later = length lives; register = c; cycle = cycle })
first-before ii registers lives numbers one y c k cycle some lt lawful there f met =
    let long = lawful.each in
    let within = place-within lives one k there in
    record {
      in_order = omega arith;
      iteration = met.iteration;
      different = λ same. absurd (omega arith);
      meet = record {
        one = one;
        is_one = place-left lives y one k there;
        other = y;
        is_other = place-last lives y;
        same_register = ap (λ n. physical registers n met.iteration) (number-left numbers c k (omega arith)) ∙ met.same_register
            ∙ ap (λ n. physical registers n (pos 0)) (sym (number-last numbers c (length lives) (sym long)));
        cycle = pos cycle;
        one_lives = met.one_lives;
        other_lives = met.other_lives;
      };
      is_cycle = refl;
      is_register = number-register registers numbers c (length lives) lt (sym long);
      lawful_before = subst (λ ls. IsLawfulAllotment ii registers ls (take (length lives) (numbers ++ c ∷ []))) (sym (take-append_seam lives (y ∷ [])))
          (subst (IsLawfulAllotment ii registers lives) (sym (ap (λ n. take n (numbers ++ c ∷ [])) (sym long) ∙ take-append_seam numbers (c ∷ []))) lawful);
      none_before = λ n i j before m.
          let g = forbids-more ii registers lives numbers y c n i j some long (omega arith) m in
          f.none_before n g.0 (at-taken lives k n g.0 g.1 before) g.2;
    }

-- it meets no value before it, but itself: its instance `registers` iterations before
pub first-itself : (ii registers : ℕ) (lives : List Lifetime) (numbers : List ℕ) (y : Lifetime) (c : ℕ) → 1 ≤ ii → 1 ≤ registers → c < registers → y.first ≤ y.last
    → IsLawfulAllotment ii registers lives numbers → IsFreeNumber ii registers lives numbers y c → registers ≤ (y.last - y.first) / ii
    → IsFirstMeeting ii registers (lives ++ y ∷ []) (numbers ++ c ∷ []) (record { earlier = length lives; later = length lives; register = c; cycle = y.first })
first-itself ii registers lives numbers y c some regs lt order lawful free long_life =
    let long = lawful.each in
    let before : ℕ = registers - 1 in
    let d : ℕ = y.last - y.first in
    let split : (d / ii) * ii + d % ii ≡ d = div-add-mod' d ii in
    let far : ii * (d / ii) ≡ ii * registers + ii * (d / ii - registers) = times-more ii registers (d / ii) long_life in
    let h : (d / ii) * ii ≡ ii * (d / ii) = omega arith in
    let g = negsuc-*ℤ-pos before ii in
    let all : suc before ≡ registers = omega arith in
    let v : suc before * ii ≡ registers * ii = ap (λ n. n * ii) all in
    let w : registers * ii ≡ ii * registers = omega arith in
    let z : (pos 0 *ℤ pos ii) ≡ pos (0 * ii) = refl in
    let u : 0 * ii ≡ 0 = omega arith in
    let one : 1 * registers ≡ registers = omega arith in
    let last : slice_index (numbers ++ c ∷ []) (length lives) ≡ c = number-last numbers c (length lives) (sym long) in
    let back : (pos c -ℤ negsuc before) ≡ ((pos c -ℤ pos 0) +ℤ pos (1 * registers)) = omega (arith, ints) in
    let around : physical registers c (negsuc before) ≡ physical registers c (pos 0) = ap (round registers) back ∙ round-more registers (pos c -ℤ pos 0) 1 regs in
    record {
      in_order = omega arith;
      iteration = negsuc before;
      different = λ same e. absurd (omega (arith, ints));
      meet = record {
        one = y;
        is_one = place-last lives y;
        other = y;
        is_other = place-last lives y;
        same_register = ap (λ n. physical registers n (negsuc before)) last ∙ around ∙ ap (λ n. physical registers n (pos 0)) (sym last);
        cycle = pos y.first;
        one_lives = record { begun = omega (arith, ints); lasts = omega (arith, ints) };
        other_lives = record { begun = omega (arith, ints); lasts = omega (arith, ints) };
      };
      is_cycle = refl;
      is_register = number-register registers numbers c (length lives) lt (sym long);
      lawful_before = subst (λ ls. IsLawfulAllotment ii registers ls (take (length lives) (numbers ++ c ∷ []))) (sym (take-append_seam lives (y ∷ [])))
          (subst (IsLawfulAllotment ii registers lives) (sym (ap (λ n. take n (numbers ++ c ∷ [])) (sym long) ∙ take-append_seam numbers (c ∷ []))) lawful);
      none_before = λ n i j less m.
          let f = forbids-more ii registers lives numbers y c n i j regs long less m in
          free n f.0 f.1 f.2;
    }

-- the first meeting of the first `n` values is that of all
pub first-whole : (ii registers : ℕ) (lives : List Lifetime) (numbers : List ℕ) (n : ℕ) (meeting : Meeting) → IsFirstMeeting ii registers (take n lives) (take n numbers) meeting
    → IsFirstMeeting ii registers lives numbers meeting
first-whole ii registers lives numbers n meeting first =
    let m = first.meet in
    let one = taken-at lives n meeting.earlier m.one m.is_one in
    let other = taken-at lives n meeting.later m.other m.is_other in
    let le = first.in_order in
    let ln : meeting.later < n = other.1 in
    record {
      in_order = first.in_order;
      iteration = first.iteration;
      different = first.different;
      meet = record {
        one = m.one;
        is_one = one.0;
        other = m.other;
        is_other = other.0;
        same_register = meets-same registers numbers n meeting.earlier meeting.later first.iteration (pos 0) one.1 ln m.same_register;
        cycle = m.cycle;
        one_lives = m.one_lives;
        other_lives = m.other_lives;
      };
      is_cycle = first.is_cycle;
      is_register = ap (λ c. physical registers c (pos 0)) (sym (index-taken numbers n meeting.later ln)) ∙ first.is_register;
      lawful_before = subst (λ ls. IsLawfulAllotment ii registers ls (take meeting.later numbers)) (take-twice lives meeting.later n (omega arith))
          (subst (IsLawfulAllotment ii registers (take meeting.later (take n lives))) (take-twice numbers meeting.later n (omega arith)) first.lawful_before);
      none_before = λ k i j less h. first.none_before k i j less (record {
        one = h.one;
        is_one = at-taken lives n k h.one h.is_one (omega arith);
        other = h.other;
        is_other = at-taken lives n meeting.later h.other h.is_other ln;
        same_register = ap (λ c. physical registers c i) (index-taken numbers n k (omega arith)) ∙ h.same_register ∙ ap (λ c. physical registers c j) (sym (index-taken numbers n meeting.later ln));
        cycle = h.cycle;
        one_lives = h.one_lives;
        other_lives = h.other_lives;
      });
    }

-- so is the first meeting of one value more than those that have lawful numbers
pub first-more : (ii registers : ℕ) (lives : List Lifetime) (numbers : List ℕ) (k : ℕ) (x : Lifetime) (meeting : Meeting) → slice_get lives k ≡ Some x → k < length numbers
    → IsFirstMeeting ii registers (take k lives ++ x ∷ []) (take k numbers ++ slice_index numbers k ∷ []) meeting → IsFirstMeeting ii registers lives numbers meeting
first-more ii registers lives numbers k x meeting there lt first =
    first-whole ii registers lives numbers (k + 1) meeting
    (subst (λ ls. IsFirstMeeting ii registers ls (take (k + 1) numbers) meeting) (sym (life-take lives k x there))
    (subst (λ ns. IsFirstMeeting ii registers (take k lives ++ x ∷ []) ns meeting) (sym (number-take numbers k lt)) first))

-- there is none just where the numbers are lawful
pub none-where_lawful : (found : Option Meeting) (none : Bool) (ii registers : ℕ) (lives : List Lifetime) (numbers : List ℕ)
    → MatchOption found (IsLawfulAllotment ii registers lives numbers) (IsFirstMeeting ii registers lives numbers) → is_some found ≡ not none
    → (none ≡ true) ↔ IsLawfulAllotment ii registers lives numbers
none-where_lawful None true ii registers lives numbers lawful e = (λ _. lawful, λ _. refl)
none-where_lawful None false ii registers lives numbers lawful e = cc
none-where_lawful (Some meeting) true ii registers lives numbers first e = cc
none-where_lawful (Some meeting) false ii registers lives numbers first e =
    (λ none. absurd (true≢false (sym none)), λ lawful. absurd (meetings-are_unlawful ii registers lives numbers meeting first lawful))
