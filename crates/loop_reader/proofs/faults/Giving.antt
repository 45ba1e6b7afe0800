-- What one more line gives to the values of a block.
use Rattle.std.proofs.Common.{◌≡◌, ◌≢◌, ◌⊎◌, ℕ, zero, suc, ℤ, ◌+◌, ◌*◌, ◌<◌, ◌≤◌, ◌&&◌, ◌||◌, not, Bool, true, false, if◌then◌else◌, List, [], ◌∷◌, ◌++◌, length, Option, Some, None, is_some, is_none, nat_lt, refl, sym, ◌∙◌, ap, subst, inl, inr, ⊎_elim, arith, get_or, set, replicate}
use Rattle.std.specs.Option.{option_or}
use Rattle.std.specs.List.{list_any}
use Rattle.std.proofs.lemmas.Bool.{false≢true, cases_eq, eq-eqb, eqb-true}
use Rattle.std.proofs.lemmas.Bool.Decides.{nat_tests}
use Rattle.std.proofs.lemmas.List.{get_or-set_same, get_or-set_other, get_or-replicate, length-set, length-replicate}
use Rattle.std.proofs.lemmas.List.Folds.{list_any-append}
use Rattle.machine_data.specs.Opcodes.{same_word}
use Rattle.reader_faults.specs.declared.loops.LoopFaultKind.TheVariants.{Limit, RepeatedName, UnknownName, MissingInit}
use Rattle.reader_faults.specs.declared.loops.LoopFaultKind.{LoopFaultKind}
use Rattle.loop_lines.specs.Forms.{Form, LoopLine, ArrayLine, ParamLine, InitLine, StatementLine, OutLine, EndLine, Malformed}
use Rattle.loop_reader.specs.Meaning.{Declared, AnArray, AParam, AValue, declared, first_declared, how_many, is_array, is_param, is_statement, is_value, is_init, is_out_of, init_value, value_in, has_init, same_number, any_name, faults_of, when, is_long, is_outside, Kinds}
use Rattle.loop_lines.specs.Near.{IsNear, IsNearForm}
use Rattle.loop_reader.specs.inner.Checks.{with_init, inits_with, with_live, outs_with, IsCounted, IsGiven}
use Rattle.loop_reader.proofs.lookups.Declared.{how_many-push, option_or-none, option_or-assoc, same_word-here, same_word-yes}
use Rattle.loop_reader.proofs.faults.Checking.{or-none, or-true, not-from, declared-below}

-- two names do not stand for one value

abbrev IsFrom : ℕ → Option Declared → Type 0
IsFrom low (Some (AValue k)) = low ≤ k
IsFrom low _ = Unit {0}

from-wider : (low lower : ℕ) (d : Option Declared) → lower ≤ low → IsFrom low d → IsFrom lower d
from-wider low lower None a h = tt
from-wider low lower (Some (AnArray k)) a h = tt
from-wider low lower (Some (AParam k)) a h = tt
from-wider low lower (Some (AValue k)) a h = omega arith

from-either : (low : ℕ) (b : Bool) (d : Declared) (rest : Option Declared) → IsFrom low (Some d) → IsFrom low rest → IsFrom low (option_or (if b then Some d else None) rest)
from-either low true d rest h k = h
from-either low false d rest h k = k

from-first : (q : List ℕ) (before : List Form) (form : Form) (forms : List Form) → IsFrom (how_many is_statement before) (first_declared q (before ++ form ∷ []) forms) → IsFrom (how_many is_statement before) (first_declared q before (form ∷ forms))
from-first q before (LoopLine n) forms rest = rest
from-first q before (ArrayLine n c) forms rest = from-either (how_many is_statement before) (same_word q n) (AnArray (how_many is_array before)) (first_declared q (before ++ ArrayLine n c ∷ []) forms) tt rest
from-first q before (ParamLine n v) forms rest = from-either (how_many is_statement before) (same_word q n) (AParam (how_many is_param before)) (first_declared q (before ++ ParamLine n v ∷ []) forms) tt rest
from-first q before (InitLine n m v) forms rest = rest
from-first q before (StatementLine s) forms rest = from-either (how_many is_statement before) (any_name (same_word q) s.name) (AValue (how_many is_statement before)) (first_declared q (before ++ StatementLine s ∷ []) forms) (omega arith) rest
from-first q before (OutLine n) forms rest = rest
from-first q before EndLine forms rest = rest
from-first q before Malformed forms rest = rest

from-all : (q : List ℕ) (before forms : List Form) → IsFrom (how_many is_statement before) (first_declared q before forms)
from-all q before [] = tt
from-all q before (form ∷ forms) =
    from-first q before form forms (from-wider (how_many is_statement (before ++ form ∷ [])) (how_many is_statement before) (first_declared q (before ++ form ∷ []) forms)
    (omega (arith, how_many-push is_statement before form)) (from-all q (before ++ form ∷ []) forms))

least-in : (q : List ℕ) (before : List Form) (forms : List Form) (k : ℕ) → first_declared q before forms ≡ Some (AValue k) → how_many is_statement before ≤ k
least-in q before forms k e = subst (IsFrom (how_many is_statement before)) e (from-all q before forms)

value-number : (k n : ℕ) → Some (AValue k) ≡ Some (AValue n) → k ≡ n
value-number k n e = cc

name-same : (x y : List ℕ) → Some x ≡ Some y → x ≡ y
name-same x y e = cc

same-test : (a name : List ℕ) (b : Bool) → same_word a name ≡ b → (n k : ℕ) (rest : Option Declared) → option_or (if b then Some (AValue n) else None) rest ≡ Some (AValue k)
    → ((other : List ℕ) × (Some name ≡ Some other) × (a ≡ other) × (k ≡ n)) ⊎ (rest ≡ Some (AValue k))
same-test a name true h n k rest e = inl (name, refl, same_word-yes a name h, value-number k n (sym e))
same-test a name false h n k rest e = inr e

-- a name is that of this statement or comes after it
same-here : (a : List ℕ) (maybe : Option (List ℕ)) (n k : ℕ) (rest : Option Declared) → option_or (if any_name (same_word a) maybe then Some (AValue n) else None) rest ≡ Some (AValue k)
    → ((name : List ℕ) × (maybe ≡ Some name) × (a ≡ name) × (k ≡ n)) ⊎ (rest ≡ Some (AValue k))
same-here a None n k rest e = inr e
same-here a (Some name) n k rest e = same-test a name (same_word a name) refl n k rest e

skip-test : (b : Bool) (d : Declared) (k : ℕ) (rest : Option Declared) → (Some d ≡ Some (AValue k) → ⊥) → option_or (if b then Some d else None) rest ≡ Some (AValue k) → rest ≡ Some (AValue k)
skip-test true d k rest other e = absurd (other e)
skip-test false d k rest other e = e

array-other : (n k : ℕ) → Some (AnArray n) ≡ Some (AValue k) → ⊥
array-other n k e = cc

param-other : (n k : ℕ) → Some (AParam n) ≡ Some (AValue k) → ⊥
param-other n k e = cc

none-value : (k : ℕ) → None ≡ Some (AValue k) → ⊥
none-value k e = cc

one-name-in : (a b : List ℕ) (before forms : List Form) (k : ℕ) → first_declared a before forms ≡ Some (AValue k) → first_declared b before forms ≡ Some (AValue k) → a ≡ b
one-name-in a b before [] k e f = absurd (none-value k e)
one-name-in a b before (LoopLine n ∷ forms) k e f = one-name-in a b (before ++ LoopLine n ∷ []) forms k e f
one-name-in a b before (ArrayLine n c ∷ forms) k e f = one-name-in a b (before ++ ArrayLine n c ∷ []) forms k
    (skip-test (same_word a n) (AnArray (how_many is_array before)) k (first_declared a (before ++ ArrayLine n c ∷ []) forms) (array-other (how_many is_array before) k) e)
    (skip-test (same_word b n) (AnArray (how_many is_array before)) k (first_declared b (before ++ ArrayLine n c ∷ []) forms) (array-other (how_many is_array before) k) f)
one-name-in a b before (ParamLine n v ∷ forms) k e f = one-name-in a b (before ++ ParamLine n v ∷ []) forms k
    (skip-test (same_word a n) (AParam (how_many is_param before)) k (first_declared a (before ++ ParamLine n v ∷ []) forms) (param-other (how_many is_param before) k) e)
    (skip-test (same_word b n) (AParam (how_many is_param before)) k (first_declared b (before ++ ParamLine n v ∷ []) forms) (param-other (how_many is_param before) k) f)
one-name-in a b before (InitLine n m v ∷ forms) k e f = one-name-in a b (before ++ InitLine n m v ∷ []) forms k e f
one-name-in a b before (StatementLine s ∷ forms) k e f =
    let rest_a = first_declared a (before ++ StatementLine s ∷ []) forms in
    let rest_b = first_declared b (before ++ StatementLine s ∷ []) forms in
    let n = how_many is_statement before in
    let more = how_many-push is_statement before (StatementLine s) in
    ⊎_elim
    (λ x. ⊎_elim (λ y. x.2 ∙ name-same x.0 y.0 (sym x.1 ∙ y.1) ∙ sym y.2)
    (λ y. absurd (omega (arith, x.3, more, least-in b (before ++ StatementLine s ∷ []) forms k y)))
    (same-here b s.name n k rest_b f))
    (λ x. ⊎_elim (λ y. absurd (omega (arith, y.3, more, least-in a (before ++ StatementLine s ∷ []) forms k x)))
    (λ y. one-name-in a b (before ++ StatementLine s ∷ []) forms k x y)
    (same-here b s.name n k rest_b f))
    (same-here a s.name n k rest_a e)
one-name-in a b before (OutLine n ∷ forms) k e f = one-name-in a b (before ++ OutLine n ∷ []) forms k e f
one-name-in a b before (EndLine ∷ forms) k e f = one-name-in a b (before ++ EndLine ∷ []) forms k e f
one-name-in a b before (Malformed ∷ forms) k e f = one-name-in a b (before ++ Malformed ∷ []) forms k e f

pub one-name : (block : List Form) (a b : List ℕ) (k : ℕ) → declared block a ≡ Some (AValue k) → declared block b ≡ Some (AValue k) → a ≡ b
unfolding declared
one-name block a b k e f = one-name-in a b [] block k e f

-- lists with one more line

any-more : (p : Form → Bool) (before : List Form) (form : Form) → list_any p (before ++ form ∷ []) ≡ (list_any p before || p form)
any-more p before form = list_any-append p before (form ∷ []) ∙ ap (λ b. list_any p before || b) (or-none (p form))

any-same : (p : Form → Bool) (before : List Form) (form : Form) → p form ≡ false → list_any p (before ++ form ∷ []) ≡ list_any p before
any-same p before form h = any-more p before form ∙ ap (λ b. list_any p before || b) h ∙ or-none (list_any p before)

value-more : (name : List ℕ) (number : ℕ) (before : List Form) (form : Form) → init_value name number (before ++ form ∷ []) ≡ option_or (init_value name number before) (value_in name number form)
value-more name number [] form = option_or-none (value_in name number form)
value-more name number (f ∷ before) form =
    ap (option_or (value_in name number f)) (value-more name number before form)
    ∙ option_or-assoc (value_in name number f) (init_value name number before) (value_in name number form)

value-same : (name : List ℕ) (number : ℕ) (before : List Form) (form : Form) → value_in name number form ≡ None → init_value name number (before ++ form ∷ []) ≡ init_value name number before
value-same name number before form h = value-more name number before form ∙ ap (option_or (init_value name number before)) h ∙ option_or-none (init_value name number before)

-- a line that gives nothing
pub given-nothing : (block before : List Form) (inits : List (Option ℤ)) (outs : List Bool) (form : Form) → IsGiven block before inits outs
    → ((name : List ℕ) (number : Option ℕ) → is_init name number form ≡ false) → ((name : List ℕ) (number : ℕ) → value_in name number form ≡ None) → ((name : List ℕ) → is_out_of name form ≡ false)
    → IsGiven block (before ++ form ∷ []) inits outs
given-nothing block before inits outs form g no-init no-value no-out = record {
  room = g.room;
  flags = g.flags;
  slots = λ name k m e h. g.slots name k m e h ∙ sym (value-same name (suc m) before form (no-value name (suc m)));
  valued = λ name m. any-same (is_init name (Some m)) before form (no-init name (Some m)) ∙ g.valued name m ∙ ap is_some (sym (value-same name m before form (no-value name m)));
  known = λ name number h. g.known name number (sym (any-same (is_init name number) before form (no-init name number)) ∙ h);
  marks = λ name k e. g.marks name k e ∙ sym (any-same (is_out_of name) before form (no-out name));
  known_marks = λ name h. g.known_marks name (sym (any-same (is_out_of name) before form (no-out name)) ∙ h);
}

-- what the absence of faults says

pub none-front : (xs ys : Kinds) → xs ++ ys ≡ [] → (xs ≡ []) × (ys ≡ [])
none-front [] ys h = (refl, h)
none-front (x ∷ xs) ys h = cc

pub when-false : (b : Bool) (k : LoopFaultKind) → when b k ≡ [] → b ≡ false
when-false true k h = cc
when-false false k h = refl

pub or-false-left : (a b : Bool) → (a || b) ≡ false → a ≡ false
or-false-left true b h = h
or-false-left false b h = refl

pub or-false-right : (a b : Bool) → (a || b) ≡ false → b ≡ false
or-false-right true b h = cc
or-false-right false b h = h

not-false : (b : Bool) → not b ≡ false → b ≡ true
not-false true h = refl
not-false false h = cc

inside-number : (number : Option ℕ) → is_outside number ≡ false → IsNear number → (m : ℕ) × (number ≡ Some (suc m)) × (m < 16)
inside-number None h near = cc
inside-number (Some zero) h near = cc
inside-number (Some (suc m)) h near = (m, refl, omega arith)

some-value : (value : Option ℤ) → is_none value ≡ false → (v : ℤ) × (value ≡ Some v)
some-value None h = cc
some-value (Some v) h = (v, refl)

value-true : (d : Option Declared) → is_value d ≡ true → (k : ℕ) × (d ≡ Some (AValue k))
value-true None h = cc
value-true (Some (AnArray k)) h = cc
value-true (Some (AParam k)) h = cc
value-true (Some (AValue k)) h = (k, refl)

same-number-here : (m : ℕ) → same_number (Some m) (Some m) ≡ true
same-number-here m = eq-eqb m m refl

same-numbers : (a b : Option ℕ) → same_number a b ≡ true → a ≡ b
same-numbers None None h = refl
same-numbers None (Some n) h = cc
same-numbers (Some m) None h = cc
same-numbers (Some m) (Some n) h = ap Some (eqb-true m n h)

init-parts : (name other : List ℕ) (number n : Option ℕ) (b : Bool) → same_word name other ≡ b → (b && same_number number n) ≡ true → (name ≡ other) × (number ≡ n)
init-parts name other number n true e h = (same_word-yes name other e, same-numbers number n h)
init-parts name other number n false e h = cc

-- the words and numbers of an initial value agree with others only where both are the same
pub init-test : (name other : List ℕ) (number n : Option ℕ) → (same_word name other && same_number number n) ≡ true → (name ≡ other) × (number ≡ n)
init-test name other number n h = init-parts name other number n (same_word name other) refl h

or-cases : (a b : Bool) → (a || b) ≡ true → (a ≡ true) ⊎ (b ≡ true)
or-cases true b h = inl refl
or-cases false b h = inr h

init-value-test : (b : Bool) (v : ℤ) → is_some (if b then Some v else None) ≡ b
init-value-test true v = refl
init-value-test false v = refl

is-some-or : (a b : Option ℤ) → is_some (option_or a b) ≡ (is_some a || is_some b)
is-some-or None b = refl
is-some-or (Some x) b = refl

none-of : (a : Option ℤ) → is_some a ≡ false → a ≡ None
none-of None h = refl
none-of (Some x) h = cc

some-same : (m n : ℕ) → Some m ≡ Some n → m ≡ n
some-same m n e = cc

number-same : (m n : ℕ) → Some (suc m) ≡ Some (suc n) → m ≡ n
number-same m n e = omega (arith, some-same (suc m) (suc n) e)

row-index : (k j m n : ℕ) → m < 16 → n < 16 → ((k ≡ j) → (m ≡ n) → ⊥) → 16 * k + m ≢ 16 * j + n
row-index k j m n hm hn apart e = apart (omega arith) (omega arith)

-- the slots after one more initial value
slots-more : (block before : List Form) (inits : List (Option ℤ)) (outs : List Bool) (other : List ℕ) (k m : ℕ) (v : ℤ) → IsGiven block before inits outs
    → declared block other ≡ Some (AValue k) → m < 16 → k < how_many is_statement block → is_some (init_value other (suc m) before) ≡ false
    → (name : List ℕ) (j n : ℕ) → declared block name ≡ Some (AValue j) → n < 16
    → get_or (set inits (16 * k + m) (Some v)) (16 * j + n) None ≡ init_value name (suc n) (before ++ InitLine other (Some (suc m)) (Some v) ∷ [])
slots-more block before inits outs other k m v g e hm hk fresh name j n f hn =
    let form = InitLine other (Some (suc m)) (Some v) in
    let go : (b : Bool) → (same_word name other && same_number (Some (suc n)) (Some (suc m))) ≡ b → get_or (set inits (16 * k + m) (Some v)) (16 * j + n) None ≡ init_value name (suc n) (before ++ form ∷ []) = λ b.
    elim b as (λ b. (same_word name other && same_number (Some (suc n)) (Some (suc m))) ≡ b → get_or (set inits (16 * k + m) (Some v)) (16 * j + n) None ≡ init_value name (suc n) (before ++ form ∷ [])) [
      | true ↦ λ t.
          let both = init-test name other (Some (suc n)) (Some (suc m)) t in
          let nm = number-same n m both.1 in
          let kj = value-number j k (sym f ∙ ap (declared block) both.0 ∙ e) in
          let at : 16 * j + n ≡ 16 * k + m = omega arith in
          ap (λ i. get_or (set inits (16 * k + m) (Some v)) i None) at
          ∙ get_or-set_same inits (16 * k + m) (Some v) None (omega (arith, g.room))
          ∙ sym (value-more name (suc n) before form
          ∙ ap (λ o. option_or o (value_in name (suc n) form)) (ap (λ q. init_value q (suc n) before) both.0 ∙ ap (λ q. init_value other (suc q) before) nm ∙ none-of (init_value other (suc m) before) fresh)
          ∙ ap (λ b. if b then Some v else None) t)
      | false ↦ λ t.
          let ne : 16 * j + n ≢ 16 * k + m = row-index j k n m hn hm (λ a c. false≢true (sym t ∙ ap (λ q. q && same_number (Some (suc n)) (Some (suc m))) (ap (same_word name) (sym (one-name block name other k (f ∙ ap (λ i. Some (AValue i)) a) e)) ∙ same_word-here name) ∙ ap (λ i. same_number (Some (suc n)) (Some (suc i))) (sym c) ∙ same-number-here (suc n))) in
          get_or-set_other inits (16 * k + m) (16 * j + n) (Some v) None ne
          ∙ g.slots name j n f hn
          ∙ sym (value-same name (suc n) before form (ap (λ b. if b then Some v else None) t))
    ] in
    go (same_word name other && same_number (Some (suc n)) (Some (suc m))) refl

pub given-init : (block before : List Form) (inits : List (Option ℤ)) (outs : List Bool) (other : List ℕ) (k m : ℕ) (v : ℤ) → IsGiven block before inits outs
    → declared block other ≡ Some (AValue k) → m < 16 → k < how_many is_statement block → list_any (is_init other (Some (suc m))) before ≡ false
    → IsGiven block (before ++ InitLine other (Some (suc m)) (Some v) ∷ []) (set inits (16 * k + m) (Some v)) outs
given-init block before inits outs other k m v g e hm hk first =
    let form = InitLine other (Some (suc m)) (Some v) in
    let fresh = sym (g.valued other (suc m)) ∙ first in
    record {
      room = length-set inits (16 * k + m) (Some v) ∙ g.room;
      flags = g.flags;
      slots = slots-more block before inits outs other k m v g e hm hk fresh;
      valued = λ name n.
          any-more (is_init name (Some n)) before form
          ∙ ap (λ b. b || is_init name (Some n) form) (g.valued name n)
          ∙ ap (λ b. is_some (init_value name n before) || b) (sym (init-value-test (is_init name (Some n) form) v))
          ∙ sym (ap is_some (value-more name n before form) ∙ is-some-or (init_value name n before) (value_in name n form));
      known = λ name number h.
          ⊎_elim (g.known name number)
          (λ t. let both = init-test name other number (Some (suc m)) t in
          (ap (λ q. is_value (declared block q)) both.0 ∙ ap is_value e, m, both.1, hm))
          (or-cases (list_any (is_init name number) before) (is_init name number form) (sym (any-more (is_init name number) before form) ∙ h));
      marks = λ name j f. g.marks name j f ∙ sym (any-same (is_out_of name) before form refl);
      known_marks = λ name h. g.known_marks name (sym (any-same (is_out_of name) before form refl) ∙ h);
    }

pub given-out : (block before : List Form) (inits : List (Option ℤ)) (outs : List Bool) (other : List ℕ) (k : ℕ) → IsGiven block before inits outs
    → declared block other ≡ Some (AValue k) → k < how_many is_statement block
    → IsGiven block (before ++ OutLine other ∷ []) inits (set outs k true)
given-out block before inits outs other k g e hk =
    let form = OutLine other in
    record {
      room = g.room;
      flags = length-set outs k true ∙ g.flags;
      slots = λ name j m f h. g.slots name j m f h ∙ sym (value-same name (suc m) before form refl);
      valued = λ name m. any-same (is_init name (Some m)) before form refl ∙ g.valued name m ∙ ap is_some (sym (value-same name m before form refl));
      known = λ name number h. g.known name number (sym (any-same (is_init name number) before form refl) ∙ h);
      marks = λ name j f.
          ⊎_elim
          (λ (a : j ≡ k). ap (λ i. get_or (set outs k true) i false) a ∙ get_or-set_same outs k true false (omega (arith, g.flags))
          ∙ sym (any-more (is_out_of name) before form ∙ ap (λ b. list_any (is_out_of name) before || b) (ap (same_word name) (sym (one-name block name other k (f ∙ ap (λ i. Some (AValue i)) a) e)) ∙ same_word-here name) ∙ or-true (list_any (is_out_of name) before)))
          (λ (a : j ≡ k → ⊥). get_or-set_other outs k j true false a ∙ g.marks name j f
          ∙ sym (any-same (is_out_of name) before form (not-from (same_word name other) (λ t. a (value-number j k (sym f ∙ ap (declared block) (same_word-yes name other t) ∙ e))))))
          (cases_eq j k);
      known_marks = λ name h.
          ⊎_elim (g.known_marks name)
          (λ t. ap (λ q. is_value (declared block q)) (same_word-yes name other t) ∙ ap is_value e)
          (or-cases (list_any (is_out_of name) before) (same_word name other) (sym (any-more (is_out_of name) before form) ∙ h));
    }

below-value : (block : List Form) (other : List ℕ) (k : ℕ) → declared block other ≡ Some (AValue k) → k < how_many is_statement block
below-value block other k e = subst (IsCounted block) e (declared-below block other)

lt-true : (m n : ℕ) → m < n → nat_lt m n ≡ true
lt-true m n h = grind (arith, nat_tests)

inits-given : (inits : List (Option ℤ)) (d : Option Declared) (k m : ℕ) (v : ℤ) → d ≡ Some (AValue k) → m < 16 → with_init inits d (Some (suc m)) (Some v) ≡ set inits (16 * k + m) (Some v)
inits-given inits d k m v e h =
    ap (λ x. with_init inits x (Some (suc m)) (Some v)) e ∙ ap (λ b. if b then set inits (16 * k + m) (Some v) else inits) (lt-true m 16 h)

-- what a line without a fault gives
pub given-more : (block before : List Form) (inits : List (Option ℤ)) (outs : List Bool) (form : Form) → IsGiven block before inits outs → IsNearForm form → faults_of before block form ≡ []
    → IsGiven block (before ++ form ∷ []) (inits_with block inits form) (outs_with block outs form)
given-more block before inits outs (LoopLine n) g near h = given-nothing block before inits outs (LoopLine n) g (λ a b. refl) (λ a b. refl) (λ a. refl)
given-more block before inits outs (ArrayLine n c) g near h = given-nothing block before inits outs (ArrayLine n c) g (λ a b. refl) (λ a b. refl) (λ a. refl)
given-more block before inits outs (ParamLine n v) g near h = given-nothing block before inits outs (ParamLine n v) g (λ a b. refl) (λ a b. refl) (λ a. refl)
given-more block before inits outs (StatementLine s) g near h = given-nothing block before inits outs (StatementLine s) g (λ a b. refl) (λ a b. refl) (λ a. refl)
given-more block before inits outs EndLine g near h = given-nothing block before inits outs EndLine g (λ a b. refl) (λ a b. refl) (λ a. refl)
given-more block before inits outs Malformed g near h = given-nothing block before inits outs Malformed g (λ a b. refl) (λ a b. refl) (λ a. refl)
given-more block before inits outs (InitLine name number value) g near h =
    let limits = when (is_long name || is_outside number || is_none value) Limit in
    let again = when (list_any (is_init name number) before) RepeatedName in
    let unknown = when (not (is_value (declared block name))) UnknownName in
    let a = none-front (limits ++ again) unknown h in
    let b = none-front limits again a.0 in
    let wide = when-false (is_long name || is_outside number || is_none value) Limit b.0 in
    let n = inside-number number (or-false-right (is_long name) (is_outside number) (or-false-left (is_long name || is_outside number) (is_none value) wide)) near in
    let v = some-value value (or-false-right (is_long name || is_outside number) (is_none value) wide) in
    let k = value-true (declared block name) (not-false (is_value (declared block name)) (when-false (not (is_value (declared block name))) UnknownName a.1)) in
    let first = when-false (list_any (is_init name number) before) RepeatedName b.1 in
    let P : Option ℕ → Option ℤ → Type 0 = λ number value. IsGiven block (before ++ InitLine name number value ∷ []) (with_init inits (declared block name) number value) outs in
    subst (λ x. P x value) (sym n.1) (subst (P (Some (suc n.0))) (sym v.1)
    (subst (λ is. IsGiven block (before ++ InitLine name (Some (suc n.0)) (Some v.0) ∷ []) is outs) (sym (inits-given inits (declared block name) k.0 n.0 v.0 k.1 n.2))
    (given-init block before inits outs name k.0 n.0 v.0 g k.1 n.2 (below-value block name k.0 k.1) (ap (λ x. list_any (is_init name x) before) (sym n.1) ∙ first))))
given-more block before inits outs (OutLine name) g near h =
    let limits = when (is_long name) Limit in
    let again = when (list_any (is_out_of name) before) RepeatedName in
    let unknown = when (not (is_value (declared block name))) UnknownName in
    let missing = when (not (has_init block name 1)) MissingInit in
    let a = none-front ((limits ++ again) ++ unknown) missing h in
    let b = none-front (limits ++ again) unknown a.0 in
    let k = value-true (declared block name) (not-false (is_value (declared block name)) (when-false (not (is_value (declared block name))) UnknownName b.1)) in
    subst (λ os. IsGiven block (before ++ OutLine name ∷ []) inits os) (sym (ap (with_live outs) k.1)) (given-out block before inits outs name k.0 g k.1 (below-value block name k.0 k.1))

-- nothing is given by no line
pub given-none : (block : List Form) (inits : List (Option ℤ)) (outs : List Bool) → inits ≡ replicate (16 * how_many is_statement block) None → outs ≡ replicate (how_many is_statement block) false → IsGiven block [] inits outs
given-none block inits outs e f = record {
  room = ap length e ∙ length-replicate (16 * how_many is_statement block) None;
  flags = ap length f ∙ length-replicate (how_many is_statement block) false;
  slots = λ name k m d h. let low = below-value block name k d in ap (λ is. get_or is (16 * k + m) None) e ∙ get_or-replicate (16 * how_many is_statement block) (16 * k + m) None None (omega arith);
  valued = λ name m. refl;
  known = λ name number h. cc;
  marks = λ name k d. ap (λ os. get_or os k false) f ∙ get_or-replicate (how_many is_statement block) k false false (below-value block name k d);
  known_marks = λ name h. cc;
}
