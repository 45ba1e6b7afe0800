-- Why intervals give no kernel, collected while they are tried.
use Rattle.std.proofs.Common.{◌≡◌, ℕ, ◌+◌, ◌<◌, Bool, true, false, not, ◌&&◌, ◌||◌, List, [], ◌∷◌, ◌++◌, map, length, length-append, get_or, Option, refl, sym, ap, ◌∙◌, slice_set, subst, arith}
use Rattle.std.specs.List.{AllZip, list_any, range_with_len}
use Rattle.std.proofs.lemmas.Bool.{false≢true}
use Rattle.std.proofs.lemmas.List.FromFn.{get_or-range_with_len, map-range_with_len_more}
use Rattle.std.proofs.lemmas.Slice.Zip.{all_zipped_more}
use Rattle.loop_schedules.specs.Problems.{ProblemData, mii_of}
use Rattle.loop_schedules.specs.Schedules.{ScheduleData}
use Rattle.registers.specs.declared.lifetime.Lifetime.{Lifetime}
use Rattle.rotating.specs.Needs.{IsNeed}
use Rattle.modulo.specs.declared.outcome.attempts.Culprit.{Culprit}
use Rattle.told_intervals.specs.declared.evidence.Reason.TheVariants as reason
use Rattle.told_intervals.specs.Reasons.{FailsFor}
use Rattle.told_choices.specs.declared.failures.Lack.{Lack}
use Rattle.told_choices.specs.declared.failures.Lack.TheVariants.{Never, Once, Again}
use Rattle.told_choices.specs.declared.why.Why.{Why}
use Rattle.told_choices.specs.declared.why.Why.TheVariants.{Attempt, Register, Need}
use Rattle.told_choices.specs.Whys.{FailsAs, TellNeeds, lacks, tells_need}
use Rattle.told_choices.specs.inner.Collected.{AreFailures, FirstTells, HasLast, IsLack, is_again, is_never}

-- of truth values

or-false : (b : Bool) → (b || false) ≡ b
or-false true = refl
or-false false = refl

or-group : (a b c : Bool) → ((a || b) || c) ≡ (a || (b || c))
or-group true b c = refl
or-group false b c = refl

or-first : (a b : Bool) → (a || b) ≡ false → a ≡ false
or-first true b e = e
or-first false b e = refl

or-second : (a b : Bool) → (a || b) ≡ false → b ≡ false
or-second true b e = absurd (false≢true (sym e))
or-second false b e = e

or-neither : (a b : Bool) → a ≡ false → b ≡ false → (a || b) ≡ false
or-neither true b e f = e
or-neither false b e f = f

or-either : (a b : Bool) → b ≡ true → (a || b) ≡ true
or-either true b e = refl
or-either false b e = e

or-turned : (a b c : Bool) → ((a || b) || c) ≡ true → (b || (c || a)) ≡ true
or-turned true true c e = refl
or-turned true false true e = refl
or-turned true false false e = refl
or-turned false true c e = refl
or-turned false false true e = refl
or-turned false false false e = e

-- where it is false, what else is asked does not matter
and-false : (l a b : Bool) → l ≡ false → (l && a) ≡ (l && b)
and-false true a b e = absurd (false≢true (sym e))
and-false false a b e = refl

not-before : (a b : Bool) → a ≡ false → not a ≡ (not a || not b)
not-before true b e = absurd (false≢true (sym e))
not-before false b e = refl

not-after : (a b : Bool) → b ≡ true → not a ≡ (not a || not b)
not-after true true e = refl
not-after false true e = refl
not-after a false e = absurd (false≢true e)

or-none-after : (a b : Bool) → b ≡ false → true ≡ (a || not b)
or-none-after true b e = refl
or-none-after false true e = absurd (false≢true (sym e))
or-none-after false false e = refl

and-true : (l a : Bool) → l ≡ true → true ≡ a → true ≡ (l && a)
and-true true a e f = f
and-true false a e f = absurd (false≢true e)

-- of lists

any-joined : (xs ys : List Why) → list_any lacks (xs ++ ys) ≡ (list_any lacks xs || list_any lacks ys)
any-joined [] ys = refl
any-joined (x ∷ xs) ys = ap (λ b. lacks x || b) (any-joined xs ys) ∙ sym (or-group (lacks x) (list_any lacks xs) (list_any lacks ys))

joined-more : {A : Type 0} (front : List A) (x : A) (rest : List A) (y : A) → (front ++ x ∷ rest) ++ y ∷ [] ≡ front ++ x ∷ (rest ++ y ∷ [])
joined-more [] x rest y = refl
joined-more (z ∷ front) x rest y = ap (λ xs. z ∷ xs) (joined-more front x rest y)

pub zip-changed : {A B : Type 0} (R : A → B → Type 0) (xs : List A) (front : List B) (old new : B) (rest : List B) (d : A)
    → AllZip R xs (front ++ old ∷ rest) → R (get_or xs (length front) d) new → AllZip R xs (front ++ new ∷ rest)
zip-changed R [] [] old new rest d h r = absurd h
zip-changed R [] (y ∷ front) old new rest d h r = absurd h
zip-changed R (x ∷ xs) [] old new rest d h r = (r, h.1)
zip-changed R (x ∷ xs) (y ∷ front) old new rest d h r = (h.0, zip-changed R xs front old new rest d h.1 r)

-- which ones tell their needs

first-more : (before : Bool) (whys : List Why) (why : Why) → FirstTells before whys → tells_need why ≡ (lacks why && not (before || list_any lacks whys))
    → FirstTells before (whys ++ why ∷ [])
first-more before [] why f t = (t ∙ ap (λ b. lacks why && not b) (or-false before), tt)
first-more before (w ∷ ws) why f t = (f.0, first-more (before || lacks w) ws why f.1 (t ∙ ap (λ b. lacks why && not b) (sym (or-group before (lacks w) (list_any lacks ws)))))

none-tells : (before other : Bool) (whys : List Why) → list_any lacks whys ≡ false → FirstTells before whys → TellNeeds other whys
none-tells before other [] none f = tt
none-tells before other (w ∷ ws) none f = (
  f.0 ∙ and-false (lacks w) (not before) (not other || not (list_any lacks ws)) (or-first (lacks w) (list_any lacks ws) none),
  none-tells (before || lacks w) (other || lacks w) ws (or-second (lacks w) (list_any lacks ws) none) f.1,
)

one-tells : (before : Bool) (front : List Why) (why : Why) (rest : List Why) → before ≡ false → list_any lacks front ≡ false → list_any lacks rest ≡ false
    → FirstTells before (front ++ why ∷ rest) → TellNeeds before (front ++ why ∷ rest)
one-tells before [] why rest none front-none rest-none f = (
  f.0 ∙ ap (λ b. lacks why && b) (not-before before (list_any lacks rest) none),
  none-tells (before || lacks why) (before || lacks why) rest rest-none f.1,
)
one-tells before (w ∷ ws) why rest none front-none rest-none f =
    let w-none = or-first (lacks w) (list_any lacks ws) front-none in (
      f.0 ∙ and-false (lacks w) (not before) (not before || not (list_any lacks (ws ++ why ∷ rest))) w-none,
      one-tells (before || lacks w) ws why rest (or-neither before (lacks w) none w-none) (or-second (lacks w) (list_any lacks ws) front-none) rest-none f.1,
    )

last-tells : (before : Bool) (front : List Why) (old new : Why) (rest : List Why) → (list_any lacks front || before) ≡ true → lacks new ≡ true → tells_need new ≡ true
    → list_any lacks rest ≡ false → FirstTells before (front ++ old ∷ rest) → TellNeeds before (front ++ new ∷ rest)
last-tells before [] old new rest some does tells rest-none f = (
  tells ∙ and-true (lacks new) (not before || not (list_any lacks rest)) does (or-none-after (not before) (list_any lacks rest) rest-none),
  none-tells (before || lacks old) (before || lacks new) rest rest-none f.1,
)
last-tells before (w ∷ ws) old new rest some does tells rest-none f =
    let later : list_any lacks (ws ++ new ∷ rest) ≡ true =
    any-joined ws (new ∷ rest) ∙ or-either (list_any lacks ws) (lacks new || list_any lacks rest) (ap (λ b. b || list_any lacks rest) does) in (
      f.0 ∙ ap (λ b. lacks w && b) (not-after before (list_any lacks (ws ++ new ∷ rest)) later),
      last-tells (before || lacks w) ws old new rest (or-turned (lacks w) (list_any lacks ws) before some) does tells rest-none f.1,
    )

-- one more interval

map-same : (xs : List ℕ) → map (λ x. x) xs ≡ xs
map-same [] = refl
map-same (x ∷ xs) = ap (λ ys. x ∷ ys) (map-same xs)

range-more : (a n : ℕ) → range_with_len a (n + 1) ≡ range_with_len a n ++ (a + n) ∷ []
range-more a n = sym (map-same (range_with_len a (n + 1))) ∙ map-range_with_len_more (λ x. x) a n (a + n) refl ∙ ap (λ xs. xs ++ (a + n) ∷ []) (map-same (range_with_len a n))

more-each : (p : ProblemData) (whys : List Why) (why : Why) → AllZip (FailsAs p) (range_with_len (mii_of p) (length whys)) whys → FailsAs p (mii_of p + length whys) why
    → AllZip (FailsAs p) (range_with_len (mii_of p) (length (whys ++ why ∷ []))) (whys ++ why ∷ [])
more-each p whys why are is =
    subst (λ n. AllZip (FailsAs p) (range_with_len (mii_of p) n) (whys ++ why ∷ [])) (sym (length-append whys (why ∷ [])))
    (subst (λ ns. AllZip (FailsAs p) ns (whys ++ why ∷ [])) (sym (range-more (mii_of p) (length whys)))
    (all_zipped_more (FailsAs p) (range_with_len (mii_of p) (length whys)) whys (mii_of p + length whys) why are is))

none-more : (whys : List Why) (why : Why) → list_any lacks whys ≡ false → lacks why ≡ false → list_any lacks (whys ++ why ∷ []) ≡ false
none-more whys why none not-it = any-joined whys (why ∷ []) ∙ or-neither (list_any lacks whys) (lacks why || false) none (or-neither (lacks why) false not-it refl)

lack-more : (p : ProblemData) (whys : List Why) (why : Why) (lack : Lack) → lacks why ≡ false → IsLack p whys lack → IsLack p (whys ++ why ∷ []) lack
lack-more p whys why Never not-it none = none-more whys why none not-it
lack-more p whys why Once not-it one = record {
  front = one.front;
  why = one.why;
  rest = one.rest ++ why ∷ [];
  is = ap (λ xs. xs ++ why ∷ []) one.is ∙ joined-more one.front one.why one.rest why;
  does = one.does;
  none_before = one.none_before;
  none_after = none-more one.rest why one.none_after not-it;
}
lack-more p whys why (Again place life schedule) not-it last = record {
  front = last.front;
  rest = last.rest ++ why ∷ [];
  is = ap (λ xs. xs ++ why ∷ []) last.is ∙ joined-more last.front (Register life) last.rest why;
  is_place = last.is_place;
  some_before = last.some_before;
  none_after = none-more last.rest why last.none_after not-it;
  fails = last.fails;
}

some-lacks : (front : List Why) (why : Why) (rest whys : List Why) → whys ≡ front ++ why ∷ rest → lacks why ≡ true → list_any lacks whys ≡ true
some-lacks front why rest whys is does =
    ap (λ xs. list_any lacks xs) is ∙ any-joined front (why ∷ rest)
    ∙ or-either (list_any lacks front) (lacks why || list_any lacks rest) (ap (λ b. b || list_any lacks rest) does)

-- .. where one failed for registers before
some-before : (p : ProblemData) (whys : List Why) (lack : Lack) → is_never lack ≡ false → IsLack p whys lack → list_any lacks whys ≡ true
some-before p whys Never e is = absurd (false≢true (sym e))
some-before p whys Once e one = some-lacks one.front one.why one.rest whys one.is one.does
some-before p whys (Again place life schedule) e last = some-lacks last.front (Register life) last.rest whys last.is refl

none-before : (p : ProblemData) (whys : List Why) (lack : Lack) → is_never lack ≡ true → IsLack p whys lack → list_any lacks whys ≡ false
none-before p whys Never e none = none
none-before p whys Once e is = absurd (false≢true e)
none-before p whys (Again place life schedule) e is = absurd (false≢true e)

pub attempt-more : (p : ProblemData) (whys : List Why) (lack : Lack) (culprit : Culprit) → AreFailures p whys lack → FailsFor p (mii_of p + length whys) (reason.Attempt culprit)
    → AreFailures p (whys ++ Attempt culprit ∷ []) lack
attempt-more p whys lack culprit are is = record {
  each = more-each p whys (Attempt culprit) are.each (record { fails = is.fails; is = is.is });
  first_tells = first-more false whys (Attempt culprit) are.first_tells refl;
  is_lack = lack-more p whys (Attempt culprit) lack refl are.is_lack;
}

pub first-lack : (p : ProblemData) (whys : List Why) (lack : Lack) (life : Lifetime) (schedule : ScheduleData) (need : Option ℕ) → is_never lack ≡ true → AreFailures p whys lack
    → FailsFor p (mii_of p + length whys) (reason.Register life schedule) → IsNeed schedule need → AreFailures p (whys ++ Need life need ∷ []) Once
first-lack p whys lack life schedule need never are is is-need =
    let none = none-before p whys lack never are.is_lack in record {
      each = more-each p whys (Need life need) are.each (record { fails = is.fails; is = (schedule, is.is, is-need) });
      first_tells = first-more false whys (Need life need) are.first_tells (ap not (sym none));
      is_lack = record { front = whys; why = Need life need; rest = []; is = refl; does = refl; none_before = none; none_after = refl };
    }

pub next-lack : (p : ProblemData) (whys : List Why) (lack : Lack) (life : Lifetime) (schedule : ScheduleData) → is_never lack ≡ false → AreFailures p whys lack
    → FailsFor p (mii_of p + length whys) (reason.Register life schedule) → AreFailures p (whys ++ Register life ∷ []) (Again (length whys) life schedule)
next-lack p whys lack life schedule some are is =
    let before = some-before p whys lack some are.is_lack in record {
      each = more-each p whys (Register life) are.each (record { fails = is.fails; is = (schedule, is.is) });
      first_tells = first-more false whys (Register life) are.first_tells (ap not (sym before));
      is_lack = record { front = whys; rest = []; is = refl; is_place = refl; some_before = before; none_after = refl; fails = is };
    }

-- all intervals

-- where at most one failed for registers
pub few-told : (p : ProblemData) (whys : List Why) (lack : Lack) → is_again lack ≡ false → AreFailures p whys lack → TellNeeds false whys
few-told p whys Never few are = none-tells false false whys are.is_lack are.first_tells
few-told p whys Once few are =
    let one = are.is_lack in
    subst (λ xs. TellNeeds false xs) (sym one.is) (one-tells false one.front one.why one.rest refl one.none_before one.none_after (subst (λ xs. FirstTells false xs) one.is are.first_tells))
few-told p whys (Again place life schedule) few are = absurd (false≢true (sym few))

set-joined : {A : Type 0} (front : List A) (old new : A) (rest : List A) → slice_set (front ++ old ∷ rest) (length front) new ≡ front ++ new ∷ rest
set-joined [] old new rest = refl
set-joined (x ∷ front) old new rest = ap (λ xs. x ∷ xs) (set-joined front old new rest)

set-last : (p : ProblemData) (whys : List Why) (place : ℕ) (life : Lifetime) (schedule : ScheduleData) (why : Why) (last : HasLast p whys place life schedule)
    → slice_set whys place why ≡ last.front ++ why ∷ last.rest
set-last p whys place life schedule why last =
    ap (λ xs. slice_set xs place why) last.is ∙ ap (λ n. slice_set (last.front ++ Register life ∷ last.rest) n why) last.is_place ∙ set-joined last.front (Register life) why last.rest

-- where several did, and the need of the last one is told too
pub last-within : (p : ProblemData) (whys : List Why) (place : ℕ) (life : Lifetime) (schedule : ScheduleData) → AreFailures p whys (Again place life schedule) → place < length whys
last-within p whys place life schedule are =
    let last = are.is_lack in
    let long : length whys ≡ length last.front + length (Register life ∷ last.rest) = ap length last.is ∙ length-append last.front (Register life ∷ last.rest) in
    let at = last.is_place in
    omega arith

pub last-each : (p : ProblemData) (whys : List Why) (place : ℕ) (life : Lifetime) (schedule : ScheduleData) (need : Option ℕ) → AreFailures p whys (Again place life schedule)
    → IsNeed schedule need → AllZip (FailsAs p) (range_with_len (mii_of p) (length whys)) (slice_set whys place (Need life need))
last-each p whys place life schedule need are is-need =
    let last = are.is_lack in
    let ns = range_with_len (mii_of p) (length whys) in
    let within = last-within p whys place life schedule are in
    let at : get_or ns (length last.front) 0 ≡ mii_of p + place =
    ap (λ n. get_or ns n 0) (sym last.is_place) ∙ get_or-range_with_len (mii_of p) (length whys) place 0 within in
    let why : FailsAs p (mii_of p + place) (Need life need) = record { fails = last.fails.fails; is = (schedule, last.fails.is, is-need) } in
    subst (λ xs. AllZip (FailsAs p) ns xs) (sym (set-last p whys place life schedule (Need life need) last))
    (zip-changed (FailsAs p) ns last.front (Register life) (Need life need) last.rest 0 (subst (λ xs. AllZip (FailsAs p) ns xs) last.is are.each)
    (subst (λ n. FailsAs p n (Need life need)) (sym at) why))

pub last-told : (p : ProblemData) (whys : List Why) (place : ℕ) (life : Lifetime) (schedule : ScheduleData) (need : Option ℕ) → AreFailures p whys (Again place life schedule)
    → TellNeeds false (slice_set whys place (Need life need))
last-told p whys place life schedule need are =
    let last = are.is_lack in
    subst (λ xs. TellNeeds false xs) (sym (set-last p whys place life schedule (Need life need) last))
    (last-tells false last.front (Register life) (Need life need) last.rest (or-false (list_any lacks last.front) ∙ last.some_before) refl refl last.none_after
    (subst (λ xs. FirstTells false xs) last.is are.first_tells))
