-- The values, the initial values and the live values of a block without a fault.
use Rattle.std.proofs.Common.{◌≡◌, ◌≢◌, ℕ, zero, suc, ℤ, ◌+◌, ◌*◌, ◌<◌, ◌≤◌, ◌&&◌, ◌||◌, not, Bool, true, false, if◌then◌else◌, List, [], ◌∷◌, ◌++◌, length, map, get_or, Option, Some, None, is_some, is_none, option_map, refl, sym, ◌∙◌, ap, subst, inl, inr, ⊎_elim, arith, append_assoc}
use Rattle.std.specs.List.{All, AllPairs, AllByRecursion, list_any, filter_map, cons_option, slice_get}
use Rattle.std.specs.Option.{option_or}
use Rattle.std.proofs.lemmas.Bool.{false≢true, true≢false, or_parts, not-false, cases_order}
use Rattle.std.proofs.lemmas.List.Elements.{All-from_recursion}
use Rattle.std.proofs.lemmas.List.Folds.{list_any-append}
use Rattle.std.proofs.lemmas.Option.{none-some, same_Some, slice_get-map}
use Rattle.machine_data.specs.Opcodes.{same_word}
use Rattle.reader_faults.specs.declared.loops.LoopFaultKind.TheVariants.{Limit, RepeatedName, UnknownName, MissingInit}
use Rattle.loop_data.specs.declared.language.lists.Initial.{Initial}
use Rattle.loop_lines.specs.Forms.{Form, InitLine, OutLine, StatementForm}
use Rattle.loop_data.specs.Loops.{LoopData, GivesValue, HasInitial, IsBefore, IsLong}
use Rattle.loop_reader.specs.Meaning.{AValue, declared, is_value, is_init, init_value, init_numbers, value_in, has_init, same_number, is_out_of, when, is_long, is_outside, array_in, param_in, statement_in, out_in, statement_of, inits_at, inits_from, number_at}
use Rattle.loop_reader.proofs.lookups.Declared.{same_word-here}
use Rattle.loop_reader.proofs.making.Numbered.{EachFrom, Ascends, ascends-lower, ascends-append, ascends-pairs, Has, has-left, has-right, IsRun, run-has, run-ascends, run-bounds, all-join, all-filtered}
use Rattle.loop_reader.proofs.making.Lines.{IsClean, append-none, when-only, value-named, one-name, value-of}
use Rattle.loop_reader.proofs.making.Spelled.{IsSpelled, IsKept}

-- the loop of a block
abbrev pub the_loop : List ℕ → List Form → LoopData
the_loop name block = record {
  name = name;
  arrays = filter_map array_in block;
  params = filter_map param_in block;
  statements = map (statement_of block) (filter_map statement_in block);
  inits = inits_from block 0 (filter_map statement_in block);
  outs = filter_map (out_in block) block;
}

pub gives-value : (loop : List ℕ) (block : List Form) (name : List ℕ) (v : ℕ) → declared block name ≡ Some (AValue v) → GivesValue (the_loop loop block) v
gives-value loop block name v h =
    let s = value-named block name v h in
    (statement_of block s.0, slice_get-map (statement_of block) (filter_map statement_in block) v ∙ ap (option_map (statement_of block)) s.1, ap is_some s.2)

-- each initial value is written

abbrev IsValued : Form → Type 0
IsValued (InitLine name number value) = is_none value ≡ false
IsValued _ = Unit {0}

init-line : (block front after : List Form) (name : List ℕ) (number : Option ℕ) (value : Option ℤ) → IsClean block → block ≡ front ++ InitLine name number value ∷ after → is_none value ≡ false
init-line block front after name number value clean e =
    let limit = when (is_long name || is_outside number || is_none value) Limit in
    let repeated = when (list_any (is_init name number) front) RepeatedName in
    let q2 = append-none (limit ++ repeated) _ (clean.faultless front (InitLine name number value) after e) in
    let q1 = append-none limit repeated q2.0 in
    (or_parts (is_long name || is_outside number) (is_none value) (when-only (is_long name || is_outside number || is_none value) Limit q1.0)).1

valued-at : (block : List Form) → IsClean block → (front : List Form) (form : Form) (after : List Form) → block ≡ front ++ form ∷ after → IsValued form
valued-at block clean front (InitLine name number value) after e = init-line block front after name number value clean e
valued-at block clean front _ after e = tt

valued-from : (block before forms : List Form) → IsClean block → block ≡ before ++ forms → AllByRecursion IsValued forms
valued-from block before [] clean e = tt
valued-from block before (form ∷ forms) clean e = (valued-at block clean before form forms e, valued-from block (before ++ form ∷ []) forms clean (e ∙ sym (append_assoc before (form ∷ []) forms)))

init-if : (b : Bool) (value : Option ℤ) → is_none value ≡ false → b ≡ is_some (if b then value else None)
init-if true None h = absurd (true≢false h)
init-if true (Some v) h = refl
init-if false value h = refl

init-given : (name : List ℕ) (number : ℕ) (form : Form) → IsValued form → is_init name (Some number) form ≡ is_some (value_in name number form)
init-given name number (InitLine other n value) h = init-if (same_word name other && same_number (Some number) n) value h
init-given name number _ h = refl

some-or : (o rest : Option ℤ) (b : Bool) → (is_some o || b) ≡ true → (b ≡ true → (z : ℤ) × (rest ≡ Some z)) → (z : ℤ) × (option_or o rest ≡ Some z)
some-or None rest b h later = later h
some-or (Some z) rest b h later = (z, refl)

init-found : (name : List ℕ) (number : ℕ) (forms : List Form) → AllByRecursion IsValued forms → list_any (is_init name (Some number)) forms ≡ true → (z : ℤ) × (init_value name number forms ≡ Some z)
init-found name number [] all h = absurd (false≢true h)
init-found name number (form ∷ forms) all h =
    some-or (value_in name number form) (init_value name number forms) (list_any (is_init name (Some number)) forms)
    (ap (λ b. b || list_any (is_init name (Some number)) forms) (sym (init-given name number form all.0)) ∙ h) (λ k. init-found name number forms all.1 k)

pub numbers-run : IsRun 1 init_numbers 17
numbers-run = (refl, (refl, (refl, (refl, (refl, (refl, (refl, (refl, (refl, (refl, (refl, (refl, (refl, (refl, (refl, (refl, refl))))))))))))))))

abbrev pub initial : ℕ → ℕ → ℤ → Initial
initial statement number value = record { statement = statement; number = number; value = value }

abbrev pub initial_in : List Form → ℕ → List ℕ → ℕ → Option Initial
initial_in block statement name number = option_map (initial statement number) (init_value name number block)

pub inits-has : (block : List Form) (n : ℕ) (sources : List StatementForm) (k : ℕ) (s : StatementForm) (name : List ℕ) (i : Initial) → slice_get sources k ≡ Some s → s.name ≡ Some name → Has (inits_at block (n + k) (Some name)) i
    → Has (inits_from block n sources) i
inits-has block n [] k s name i e f h = absurd (none-some s e)
inits-has block n (t ∷ sources) zero s name i e f h =
    let z : n + 0 ≡ n = omega arith in
    let same = ap (λ (s : StatementForm). s.name) (same_Some t s e) ∙ f in
    has-left (inits_at block n t.name) (inits_from block (n + 1) sources) i (subst (λ o. Has (inits_at block n o) i) (sym same) (subst (λ m. Has (inits_at block m (Some name)) i) z h))
inits-has block n (t ∷ sources) (suc k) s name i e f h =
    let z : n + suc k ≡ (n + 1) + k = omega arith in
    has-right (inits_at block n t.name) (inits_from block (n + 1) sources) i (inits-has block (n + 1) sources k s name i e f (subst (λ m. Has (inits_at block m (Some name)) i) z h))

pub has-initial : (loop : List ℕ) (block : List Form) → IsClean block → (name : List ℕ) (v number : ℕ) → declared block name ≡ Some (AValue v) → 1 ≤ number → number ≤ 16 → has_init block name number ≡ true
    → HasInitial (the_loop loop block) v number
has-initial loop block clean name v number is low high h =
    let s = value-named block name v is in
    let z = init-found name number block (valued-from block [] block clean refl) h in
    let i = initial v number z.0 in
    let here = run-has (initial_in block v name) 1 init_numbers 17 numbers-run number i low (omega arith) (ap (option_map (initial v number)) z.1) in
    let e : v ≡ 0 + v = omega arith in
    let k = inits-has block 0 (filter_map statement_in block) v s.0 name i s.1 s.2 (subst (λ m. Has (inits_at block m (Some name)) i) e here) in
    (k.0, i, k.1, refl, refl)

-- each initial value is of a value, and has a number of 1 to 16

initial-is : (statement number : ℕ) (o : Option ℤ) (i : Initial) → option_map (initial statement number) o ≡ Some i → (i.statement ≡ statement) × (i.number ≡ number)
initial-is statement number None i h = absurd (none-some i h)
initial-is statement number (Some z) i h =
    let e = same_Some (initial statement number z) i h in
    (sym (ap (λ (i : Initial). i.statement) e), sym (ap (λ (i : Initial). i.number) e))

abbrev IsInitialOf : (ℕ → Type 0) → Initial → Type 0
IsInitialOf Q i = Q i.statement × (1 ≤ i.number) × (i.number ≤ 16)

inits-here : (Q : ℕ → Type 0) (block : List Form) (n : ℕ) (o : Option (List ℕ)) → ((name : List ℕ) → o ≡ Some name → Q n) → AllByRecursion (IsInitialOf Q) (inits_at block n o)
inits-here Q block n None q = tt
inits-here Q block n (Some name) q =
    all-filtered (IsInitialOf Q) (initial_in block n name) (λ m. (1 ≤ m) × (m < 17)) (λ m i b e.
    let is = initial-is n m (init_value name m block) i e in
    let low = b.0 in
    let high = b.1 in
    let number = is.1 in
    (subst Q (sym is.0) (q name refl), omega arith, omega arith)) init_numbers (run-bounds 1 1 init_numbers 17 (omega arith) numbers-run)

pub inits-all : (Q : ℕ → Type 0) (block : List Form) (n : ℕ) (sources : List StatementForm) → EachFrom (λ v (s : StatementForm). (name : List ℕ) → s.name ≡ Some name → Q v) n sources → AllByRecursion (IsInitialOf Q) (inits_from block n sources)
inits-all Q block n [] q = tt
inits-all Q block n (s ∷ sources) q = all-join (IsInitialOf Q) (inits_at block n s.name) (inits_from block (n + 1) sources) (inits-here Q block n s.name q.0) (inits-all Q block (n + 1) sources q.1)

-- each is a number of 64 bits

spelled-from : (block before forms : List Form) → IsClean block → block ≡ before ++ forms → AllByRecursion IsSpelled forms
spelled-from block before [] clean e = tt
spelled-from block before (form ∷ forms) clean e = (clean.spelled before form forms e, spelled-from block (before ++ form ∷ []) forms clean (e ∙ sym (append_assoc before (form ∷ []) forms)))

kept-if : (b : Bool) (value : Option ℤ) → IsKept value → IsKept (if b then value else None)
kept-if true value h = h
kept-if false value h = tt

kept-or : (o rest : Option ℤ) → IsKept o → IsKept rest → IsKept (option_or o rest)
kept-or None rest h k = k
kept-or (Some z) rest h k = h

kept-in : (name : List ℕ) (number : ℕ) (form : Form) → IsSpelled form → IsKept (value_in name number form)
kept-in name number (InitLine other n value) h = kept-if (same_word name other && same_number (Some number) n) value h
kept-in name number _ h = tt

kept-value : (name : List ℕ) (number : ℕ) (forms : List Form) → AllByRecursion IsSpelled forms → IsKept (init_value name number forms)
kept-value name number [] all = tt
kept-value name number (form ∷ forms) all = kept-or (value_in name number form) (init_value name number forms) (kept-in name number form all.0) (kept-value name number forms all.1)

abbrev IsLongInitial : Initial → Type 0
IsLongInitial i = IsLong i.value

initial-long : (statement number : ℕ) (o : Option ℤ) (i : Initial) → IsKept o → option_map (initial statement number) o ≡ Some i → IsLongInitial i
initial-long statement number None i k h = absurd (none-some i h)
initial-long statement number (Some z) i k h = subst IsLongInitial (same_Some (initial statement number z) i h) k

long-here : (block : List Form) (n : ℕ) (o : Option (List ℕ)) → AllByRecursion IsSpelled block → AllByRecursion IsLongInitial (inits_at block n o)
long-here block n None all = tt
long-here block n (Some name) all =
    all-filtered IsLongInitial (initial_in block n name) (λ m. (1 ≤ m) × (m < 17)) (λ m i b e. initial-long n m (init_value name m block) i (kept-value name m block all) e)
    init_numbers (run-bounds 1 1 init_numbers 17 (omega arith) numbers-run)

long-from : (block : List Form) (n : ℕ) (sources : List StatementForm) → AllByRecursion IsSpelled block → AllByRecursion IsLongInitial (inits_from block n sources)
long-from block n [] all = tt
long-from block n (s ∷ sources) all = all-join IsLongInitial (inits_at block n s.name) (inits_from block (n + 1) sources) (long-here block n s.name all) (long-from block (n + 1) sources all)

pub inits-long : (block : List Form) → IsClean block → All (λ (i : Initial). IsLong i.value) (inits_from block 0 (filter_map statement_in block))
inits-long block clean = All-from_recursion IsLongInitial (inits_from block 0 (filter_map statement_in block)) (long-from block 0 (filter_map statement_in block) (spelled-from block [] block clean refl))

-- the initial values stand by statement and then by number

initial_rank : Initial → ℕ
initial_rank i = i.statement * 17 + i.number

rank-is : (i : Initial) → initial_rank i ≡ i.statement * 17 + i.number
unfolding initial_rank
rank-is i = refl

ascend-here : (block : List Form) (n : ℕ) (o : Option (List ℕ)) → Ascends initial_rank (n * 17) (inits_at block n o) ((n + 1) * 17)
ascend-here block n None = omega arith
ascend-here block n (Some name) =
    let high : n * 17 + 17 ≡ (n + 1) * 17 = omega arith in
    let low : n * 17 ≤ n * 17 + 1 = omega arith in
    let run = run-ascends initial_rank (n * 17) (initial_in block n name) (λ m i e.
    let is = initial-is n m (init_value name m block) i e in
    rank-is i ∙ ap (λ k. k * 17 + i.number) is.0 ∙ ap (λ k. n * 17 + k) is.1) 1 init_numbers 17 numbers-run in
    subst (λ h. Ascends initial_rank (n * 17) (inits_at block n (Some name)) h) high (ascends-lower initial_rank (n * 17) (n * 17 + 1) (inits_at block n (Some name)) (n * 17 + 17) low run)

ascend-from : (block : List Form) (n : ℕ) (sources : List StatementForm) → Ascends initial_rank (n * 17) (inits_from block n sources) ((n + length sources) * 17)
ascend-from block n [] = omega arith
ascend-from block n (s ∷ sources) =
    let e : (n + 1) + length sources ≡ n + length (s ∷ sources) = omega arith in
    ascends-append initial_rank (n * 17) ((n + 1) * 17) ((n + length (s ∷ sources)) * 17) (inits_at block n s.name) (inits_from block (n + 1) sources) (ascend-here block n s.name)
    (subst (λ m. Ascends initial_rank ((n + 1) * 17) (inits_from block (n + 1) sources) (m * 17)) e (ascend-from block (n + 1) sources))

before-by-rank : (a b : Initial) → 1 ≤ b.number → b.number ≤ 16 → initial_rank a < initial_rank b → IsBefore a b
before-by-rank a b low high h =
    let ra = rank-is a in
    let rb = rank-is b in
    ⊎_elim (λ same. inr (same, omega arith))
    (λ other. ⊎_elim (λ less. inl less) (λ more. absurd (omega arith)) other)
    (cases_order a.statement b.statement)

pub inits-ascend : (Q : ℕ → Type 0) (block : List Form) (sources : List StatementForm) → AllByRecursion (IsInitialOf Q) (inits_from block 0 sources) → AllPairs IsBefore (inits_from block 0 sources)
inits-ascend Q block sources all i j d l k =
    let inits = inits_from block 0 sources in
    let b = All-from_recursion (IsInitialOf Q) inits all j d k in
    let up = ascends-pairs initial_rank (0 * 17) inits ((0 + length sources) * 17) (ascend-from block 0 sources) i j d l k in
    before-by-rank (get_or inits i d) (get_or inits j d) b.1 b.2 up

-- live values

pub record IsOutAt (block front : List Form) (o : ℕ) : Type 0 where
  pub name : List ℕ
  pub is : declared block name ≡ Some (AValue o)
  pub new : list_any (is_out_of name) front ≡ false
  pub given : has_init block name 1 ≡ true

out-value : (block front after : List Form) (name : List ℕ) → IsClean block → block ≡ front ++ OutLine name ∷ after → declared block name ≡ Some (AValue (number_at (declared block name)))
out-value block front after name clean e =
    let limit = when (is_long name) Limit in
    let repeated = when (list_any (is_out_of name) front) RepeatedName in
    let unknown = when (not (is_value (declared block name))) UnknownName in
    let missing = when (not (has_init block name 1)) MissingInit in
    let q3 = append-none ((limit ++ repeated) ++ unknown) missing (clean.faultless front (OutLine name) after e) in
    let q2 = append-none (limit ++ repeated) unknown q3.0 in
    let v = value-of (declared block name) (not-false (is_value (declared block name)) (when-only (not (is_value (declared block name))) UnknownName q2.1)) in
    v.1 ∙ ap (λ n. Some (AValue n)) (sym (ap number_at v.1))

out-line : (block front after : List Form) (name : List ℕ) → IsClean block → block ≡ front ++ OutLine name ∷ after → IsOutAt block front (number_at (declared block name))
out-line block front after name clean e =
    let limit = when (is_long name) Limit in
    let repeated = when (list_any (is_out_of name) front) RepeatedName in
    let unknown = when (not (is_value (declared block name))) UnknownName in
    let missing = when (not (has_init block name 1)) MissingInit in
    let q3 = append-none ((limit ++ repeated) ++ unknown) missing (clean.faultless front (OutLine name) after e) in
    let q2 = append-none (limit ++ repeated) unknown q3.0 in
    let q1 = append-none limit repeated q2.0 in
    record {
      name = name;
      is = out-value block front after name clean e;
      new = when-only (list_any (is_out_of name) front) RepeatedName q1.1;
      given = not-false (has_init block name 1) (when-only (not (has_init block name 1)) MissingInit q3.1);
    }

out-at : (block : List Form) → IsClean block → (front : List Form) (form : Form) (after : List Form) → block ≡ front ++ form ∷ after → (o : ℕ) → out_in block form ≡ Some o → IsOutAt block front o
out-at block clean front (OutLine name) after e o h = subst (IsOutAt block front) (same_Some (number_at (declared block name)) o h) (out-line block front after name clean e)
out-at block clean front _ after e o h = absurd (none-some o h)

abbrev pub Pairs : {X : Type 0} → (X → X → Type 0) → List X → Type 0
Pairs R [] = Unit {0}
Pairs R (x ∷ xs) = AllByRecursion (R x) xs × Pairs R xs

pub pairs-all : {X : Type 0} (R : X → X → Type 0) (xs : List X) → Pairs R xs → AllPairs R xs
pairs-all R [] h i j d l k = absurd (omega arith)
pairs-all R (x ∷ xs) h zero zero d l k = absurd (omega arith)
pairs-all R (x ∷ xs) h zero (suc j) d l k = All-from_recursion (R x) xs h.0 j d (omega arith)
pairs-all R (x ∷ xs) h (suc i) zero d l k = absurd (omega arith)
pairs-all R (x ∷ xs) h (suc i) (suc j) d l k = pairs-all R xs h.1 i j d (omega arith) (omega arith)

all-weaker : {X : Type 0} (P Q : X → Type 0) → ((x : X) → P x → Q x) → (xs : List X) → AllByRecursion P xs → AllByRecursion Q xs
all-weaker P Q w [] h = tt
all-weaker P Q w (x ∷ xs) h = (w x h.0, all-weaker P Q w xs h.1)

out-earlier : (block front : List Form) (form : Form) (o : ℕ) → IsOutAt block (front ++ form ∷ []) o → IsOutAt block front o
out-earlier block front form o h =
    record { name = h.name; is = h.is; new = (or_parts (list_any (is_out_of h.name) front) (list_any (is_out_of h.name) (form ∷ [])) (sym (list_any-append (is_out_of h.name) front (form ∷ [])) ∙ h.new)).0; given = h.given }

out-apart : (block front after : List Form) (name : List ℕ) → IsClean block → block ≡ front ++ OutLine name ∷ after → (p : ℕ) → IsOutAt block (front ++ OutLine name ∷ []) p → number_at (declared block name) ≢ p
out-apart block front after name clean e p k same =
    let one = one-name block k.name name p k.is (out-value block front after name clean e ∙ ap (λ n. Some (AValue n)) same) in
    let parts = or_parts (list_any (is_out_of k.name) front) (same_word k.name name || false) (sym (list_any-append (is_out_of k.name) front (OutLine name ∷ [])) ∙ k.new) in
    let other = (or_parts (same_word k.name name) false parts.1).0 in
    false≢true (sym other ∙ ap (λ n. same_word n name) one ∙ same_word-here name)

out-other : (block front : List Form) (form : Form) (after : List Form) → IsClean block → block ≡ front ++ form ∷ after → (o : ℕ) → out_in block form ≡ Some o → (p : ℕ) → IsOutAt block (front ++ form ∷ []) p → o ≢ p
out-other block front (OutLine name) after clean e o h p k same = out-apart block front after name clean e p k (same_Some (number_at (declared block name)) o h ∙ same)
out-other block front _ after clean e o h p k same = absurd (none-some o h)

outs-step : (block front : List Form) (form : Form) (o : Option ℕ) (xs : List ℕ) → ((v : ℕ) → o ≡ Some v → IsOutAt block front v) → ((v : ℕ) → o ≡ Some v → (p : ℕ) → IsOutAt block (front ++ form ∷ []) p → v ≢ p)
    → AllByRecursion (IsOutAt block (front ++ form ∷ [])) xs × Pairs (λ a b. a ≢ b) xs → AllByRecursion (IsOutAt block front) (cons_option o xs) × Pairs (λ a b. a ≢ b) (cons_option o xs)
outs-step block front form None xs at other h = (all-weaker (IsOutAt block (front ++ form ∷ [])) (IsOutAt block front) (out-earlier block front form) xs h.0, h.1)
outs-step block front form (Some v) xs at other h = (
  (at v refl, all-weaker (IsOutAt block (front ++ form ∷ [])) (IsOutAt block front) (out-earlier block front form) xs h.0),
  (all-weaker (IsOutAt block (front ++ form ∷ [])) (λ p. v ≢ p) (other v refl) xs h.0, h.1),
)

outs-from : (block front forms : List Form) → IsClean block → block ≡ front ++ forms → AllByRecursion (IsOutAt block front) (filter_map (out_in block) forms) × Pairs (λ a b. a ≢ b) (filter_map (out_in block) forms)
outs-from block front [] clean e = (tt, tt)
outs-from block front (form ∷ forms) clean e =
    outs-step block front form (out_in block form) (filter_map (out_in block) forms) (λ v h. out-at block clean front form forms e v h) (λ v h p k. out-other block front form forms clean e v h p k)
    (outs-from block (front ++ form ∷ []) forms clean (e ∙ sym (append_assoc front (form ∷ []) forms)))

pub outs-different : (block : List Form) → IsClean block → AllPairs (λ a b. a ≢ b) (filter_map (out_in block) block)
outs-different block clean = pairs-all (λ a b. a ≢ b) (filter_map (out_in block) block) (outs-from block [] block clean refl).1

out-holds : (loop : List ℕ) (block : List Form) → IsClean block → (o : ℕ) → IsOutAt block [] o → GivesValue (the_loop loop block) o × HasInitial (the_loop loop block) o 1
out-holds loop block clean o h = (gives-value loop block h.name o h.is, has-initial loop block clean h.name o 1 h.is (omega arith) (omega arith) h.given)

pub outs-hold : (loop : List ℕ) (block : List Form) → IsClean block → All (λ o. GivesValue (the_loop loop block) o × HasInitial (the_loop loop block) o 1) (filter_map (out_in block) block)
outs-hold loop block clean =
    All-from_recursion (λ o. GivesValue (the_loop loop block) o × HasInitial (the_loop loop block) o 1) (filter_map (out_in block) block)
    (all-weaker (IsOutAt block []) (λ o. GivesValue (the_loop loop block) o × HasInitial (the_loop loop block) o 1) (out-holds loop block clean) (filter_map (out_in block) block) (outs-from block [] block clean refl).0)
