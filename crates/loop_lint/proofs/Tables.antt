-- What is known of names with one more line.
use Rattle.std.proofs.Common.{◌≡◌, ◌≢◌, ◌==◌, ℕ, zero, suc, ◌+◌, ◌<◌, ◌≤◌, ◌||◌, ◌&&◌, Bool, true, false, not, cond, List, [], ◌∷◌, ◌++◌, length, map, get_or, set, Option, Some, None, refl, sym, ◌∙◌, ap, arith, eqb, eq-eqb, replicate, is_some, unwrap_or}
use Rattle.std.proofs.lemmas.Bool.{eqb-true, true≢false}
use Rattle.std.proofs.lemmas.List.Folds.{list_any-append}
use Rattle.std.proofs.Math.ListN.{length-set}
use Rattle.std.proofs.lemmas.List.{get_or-replicate}
use Rattle.std.proofs.Common.{get_or-set_other, get_or-set_same}
use Rattle.std.specs.Borrow.{Bor}
use Rattle.std.specs.BTreeMap.{BTreeMap, is_at}
use Rattle.std.specs.Cmp.Lexicographic.{slice_cmp}
use Rattle.std.specs.Ordering.{nat_cmp}
use Rattle.std.specs.Map.{lookup, update}
use Rattle.std.specs.Str.{bytes_eq}
use Rattle.std.specs.List.{list_any}
use Rattle.std.specs.Option.{option_or, option_map}
use Rattle.machine_data.specs.Opcodes.{same_word}
use Rattle.loop_lines.specs.Forms.{Form, LoopLine, ArrayLine, ParamLine, InitLine, StatementLine, OutLine, EndLine, Malformed, At}
use Rattle.loop_reader.specs.Meaning.{any_name, has_init, has_inits, declared, declared_by, is_array, is_init, is_out, is_out_of, is_param, is_statement, is_uncovered, same_number}
use Rattle.loop_lines.specs.Near.{IsNear, IsNearForm}
use Rattle.loop_reader.proofs.lookups.Declared.{at, same_word-sym, same_word-yes, option_or-none, declared-counted, declared-push, how_many-push}
use Rattle.loop_reader.proofs.faults.Checking.{or-none}
use Rattle.loop_lint.specs.Hints.{declares}
use Rattle.loop_lint.proofs.Hinting.{names_more}
use Rattle.loop_reader.specs.Declarations.{declared_seen}
use Rattle.loop_lint.specs.inner.Tables.{covers, is_bare, flag_of, known_at, known_with, one_if, place_of, with_declared, with_init, with_names, with_out, nothing, IsTable}
use Rattle.loop_reader.specs.declared.names.index.Declared.{Declared}
use Rattle.loop_reader.specs.declared.names.index.Declared.TheVariants as variants
use Rattle.loop_lint.specs.declared.block.Known.{Known}
use Rattle.loop_lint.specs.declared.block.Table.{Table}

-- declarations

map-or : (a : Option Declared) (what : Declared) → option_map declared_seen (option_or a (Some what)) ≡ option_or (option_map declared_seen a) (Some (declared_seen what))
map-or None what = refl
map-or (Some first) what = refl

declared-if : (b : Bool) (what : Declared) (k : Known) → option_map declared_seen (cond b (with_declared what k) k).declared ≡ option_or (option_map declared_seen k.declared) (cond b (Some (declared_seen what)) None)
declared-if true what k = map-or k.declared what
declared-if false what k = sym (option_or-none (option_map declared_seen k.declared))

declared-init : (b : Bool) (number : Option ℕ) (k : Known) → (cond b (with_init number k) k).declared ≡ k.declared
declared-init true number k = refl
declared-init false number k = refl

declared-out : (b : Bool) (k : Known) → (cond b (with_out k) k).declared ≡ k.declared
declared-out true k = refl
declared-out false k = refl

declared-same : (a b : Option Declared) → a ≡ b → option_map declared_seen a ≡ option_or (option_map declared_seen b) None
declared-same a b h = ap (option_map declared_seen) h ∙ sym (option_or-none (option_map declared_seen b))

declared-with : (q : List ℕ) (a p s : ℕ) (form : Form) (k : Known) → option_map declared_seen (known_with q a p s form k).declared ≡ option_or (option_map declared_seen k.declared) (declared_by q a p s form)
declared-with q a p s (LoopLine name) k = declared-same k.declared k.declared refl
declared-with q a p s (ArrayLine name cells) k = declared-if (same_word q name) (variants.Array a) k
declared-with q a p s (ParamLine name value) k = declared-if (same_word q name) (variants.Param p) k
declared-with q a p s (InitLine name number value) k = declared-same _ k.declared (declared-init (same_word q name) number k)
declared-with q a p s (StatementLine source) k = declared-if (any_name (same_word q) source.name) (variants.Value s) k
declared-with q a p s (OutLine name) k = declared-same _ k.declared (declared-out (same_word q name) k)
declared-with q a p s EndLine k = declared-same k.declared k.declared refl
declared-with q a p s Malformed k = declared-same k.declared k.declared refl

-- initial values

or-late : (b : Bool) → (b || true) ≡ true
or-late true = refl
or-late false = refl

here : (flags : List Bool) (n : ℕ) → n < length flags → get_or (set flags n true) n false ≡ (get_or flags n false || true)
here flags n h = rw get_or-set_same (sym (or-late (get_or flags n false)))

there : (flags : List Bool) (m n : ℕ) → m ≢ n → get_or (set flags n true) m false ≡ (get_or flags m false || false)
there flags m n h = rw get_or-set_other (sym (or-none (get_or flags m false)))

some-set : (flags : List Bool) (m n : ℕ) (b : Bool) → (m == n) ≡ b → n < length flags → get_or (set flags n true) m false ≡ (get_or flags m false || b)
some-set flags m n true e h = let same : m ≡ n = eqb-true m n e in rw same (here flags n h)
some-set flags m n false e h = there flags m n (λ same. true≢false (sym (eq-eqb m n same) ∙ e))

flag-set : (flags : List Bool) (number n : Option ℕ) → IsNear number → IsNear n → length flags ≡ 18
    → flag_of (set flags (place_of n) true) number ≡ (flag_of flags number || same_number number n)
flag-set flags None None h k e = here flags 17 (omega arith)
flag-set flags None (Some n) h k e = there flags 17 n (omega arith)
flag-set flags (Some m) None h k e = there flags m 17 (omega arith)
flag-set flags (Some m) (Some n) h k e = some-set flags m n (m == n) refl (omega arith)

gives-init : (b : Bool) (k : Known) (number n : Option ℕ) → IsNear number → IsNear n → length k.inits ≡ 18
    → flag_of (cond b (with_init n k) k).inits number ≡ (flag_of k.inits number || (b && same_number number n))
gives-init true k number n h near e = flag-set k.inits number n h near e
gives-init false k number n h near e = sym (or-none (flag_of k.inits number))

inits-declared : (b : Bool) (what : Declared) (k : Known) → (cond b (with_declared what k) k).inits ≡ k.inits
inits-declared true what k = refl
inits-declared false what k = refl

inits-out : (b : Bool) (k : Known) → (cond b (with_out k) k).inits ≡ k.inits
inits-out true k = refl
inits-out false k = refl

flags-same : (number : Option ℕ) (a b : List Bool) → a ≡ b → flag_of a number ≡ (flag_of b number || false)
flags-same number a b h = ap (λ flags. flag_of flags number) h ∙ sym (or-none (flag_of b number))

gives-with : (q : List ℕ) (a p s : ℕ) (form : Form) (k : Known) (number : Option ℕ) → IsNear number → IsNearForm form → length k.inits ≡ 18
    → flag_of (known_with q a p s form k).inits number ≡ (flag_of k.inits number || is_init q number form)
gives-with q a p s (LoopLine name) k number h near e = flags-same number k.inits k.inits refl
gives-with q a p s (ArrayLine name cells) k number h near e = flags-same number _ k.inits (inits-declared (same_word q name) (variants.Array a) k)
gives-with q a p s (ParamLine name value) k number h near e = flags-same number _ k.inits (inits-declared (same_word q name) (variants.Param p) k)
gives-with q a p s (InitLine name n value) k number h near e = gives-init (same_word q name) k number n h near e
gives-with q a p s (StatementLine source) k number h near e = flags-same number _ k.inits (inits-declared (any_name (same_word q) source.name) (variants.Value s) k)
gives-with q a p s (OutLine name) k number h near e = flags-same number _ k.inits (inits-out (same_word q name) k)
gives-with q a p s EndLine k number h near e = flags-same number k.inits k.inits refl
gives-with q a p s Malformed k number h near e = flags-same number k.inits k.inits refl

long-init : (b : Bool) (n : Option ℕ) (k : Known) → length (cond b (with_init n k) k).inits ≡ length k.inits
long-init true n k = length-set k.inits (place_of n) true
long-init false n k = refl

long-with : (q : List ℕ) (a p s : ℕ) (form : Form) (k : Known) → length (known_with q a p s form k).inits ≡ length k.inits
long-with q a p s (LoopLine name) k = refl
long-with q a p s (ArrayLine name cells) k = ap length (inits-declared (same_word q name) (variants.Array a) k)
long-with q a p s (ParamLine name value) k = ap length (inits-declared (same_word q name) (variants.Param p) k)
long-with q a p s (InitLine name n value) k = long-init (same_word q name) n k
long-with q a p s (StatementLine source) k = ap length (inits-declared (any_name (same_word q) source.name) (variants.Value s) k)
long-with q a p s (OutLine name) k = ap length (inits-out (same_word q name) k)
long-with q a p s EndLine k = refl
long-with q a p s Malformed k = refl

-- outs

out-declared : (b : Bool) (what : Declared) (k : Known) → (cond b (with_declared what k) k).out ≡ (k.out || false)
out-declared true what k = sym (or-none k.out)
out-declared false what k = sym (or-none k.out)

out-init : (b : Bool) (n : Option ℕ) (k : Known) → (cond b (with_init n k) k).out ≡ (k.out || false)
out-init true n k = sym (or-none k.out)
out-init false n k = sym (or-none k.out)

out-out : (b : Bool) (k : Known) → (cond b (with_out k) k).out ≡ (k.out || b)
out-out true k = sym (or-late k.out)
out-out false k = sym (or-none k.out)

lives-with : (q : List ℕ) (a p s : ℕ) (form : Form) (k : Known) → (known_with q a p s form k).out ≡ (k.out || is_out_of q form)
lives-with q a p s (LoopLine name) k = sym (or-none k.out)
lives-with q a p s (ArrayLine name cells) k = out-declared (same_word q name) (variants.Array a) k
lives-with q a p s (ParamLine name value) k = out-declared (same_word q name) (variants.Param p) k
lives-with q a p s (InitLine name n value) k = out-init (same_word q name) n k
lives-with q a p s (StatementLine source) k = out-declared (any_name (same_word q) source.name) (variants.Value s) k
lives-with q a p s (OutLine name) k = out-out (same_word q name) k
lives-with q a p s EndLine k = sym (or-none k.out)
lives-with q a p s Malformed k = sym (or-none k.out)

none-flag : (number : Option ℕ) → IsNear number → flag_of (replicate 18 false) number ≡ false
none-flag None h = refl
none-flag (Some n) h = get_or-replicate 18 n false false (omega arith)

-- one more line

any-push : (p : Form → Bool) (before : List Form) (form : Form) → list_any p (before ++ form ∷ []) ≡ (list_any p before || p form)
any-push p before form = list_any-append p before (form ∷ []) ∙ ap (λ b. list_any p before || b) (or-none (p form))

pub table_more : (before : List Form) (form : Form) (old new : Table) → IsTable before old → IsNearForm form
    → ((q : List ℕ) → known_at new.names q ≡ known_with q old.arrays old.params old.statements form (known_at old.names q))
    → map (λ (n : Bor (List ℕ)). n.now) new.order.items ≡ with_names (map (λ (n : Bor (List ℕ)). n.now) old.order.items) (declares form)
    → new.arrays ≡ old.arrays + one_if (is_array form) → new.params ≡ old.params + one_if (is_param form) → new.statements ≡ old.statements + one_if (is_statement form)
    → new.statement ≡ (old.statement || is_statement form) → new.out ≡ (old.out || is_out form)
    → IsTable (before ++ form ∷ []) new
table_more before form old new is near names order arrays params statements statement out = record {
  declares = λ q.
      ap (λ (k : Known). option_map declared_seen k.declared) (names q)
      ∙ declared-with q old.arrays old.params old.statements form (known_at old.names q)
      ∙ ap (λ d. option_or d (declared_by q old.arrays old.params old.statements form)) (is.declares q)
      ∙ ap (option_or (declared before q)) (declared-counted q before form old.arrays old.params old.statements is.arrays is.params is.statements)
      ∙ sym (declared-push q before form);
  gives = λ q number h.
      ap (λ (k : Known). flag_of k.inits number) (names q)
      ∙ gives-with q old.arrays old.params old.statements form (known_at old.names q) number h near (is.long q)
      ∙ ap (λ b. b || is_init q number form) (is.gives q number h)
      ∙ sym (any-push (is_init q number) before form);
  lives = λ q.
      ap (λ (k : Known). k.out) (names q)
      ∙ lives-with q old.arrays old.params old.statements form (known_at old.names q)
      ∙ ap (λ b. b || is_out_of q form) (is.lives q)
      ∙ sym (any-push (is_out_of q) before form);
  long = λ q.
      ap (λ (k : Known). length k.inits) (names q)
      ∙ long-with q old.arrays old.params old.statements form (known_at old.names q)
      ∙ is.long q;
  order = order ∙ names_more before form (map (λ (n : Bor (List ℕ)). n.now) old.order.items) is.order;
  arrays = arrays ∙ ap (λ n. n + one_if (is_array form)) is.arrays ∙ sym (how_many-push is_array before form);
  params = params ∙ ap (λ n. n + one_if (is_param form)) is.params ∙ sym (how_many-push is_param before form);
  statements = statements ∙ ap (λ n. n + one_if (is_statement form)) is.statements ∙ sym (how_many-push is_statement before form);
  statement = statement ∙ ap (λ b. b || is_statement form) is.statement ∙ sym (any-push is_statement before form);
  out = out ∙ ap (λ b. b || is_out form) is.out ∙ sym (any-push is_out before form);
}

-- no lines

pub empty_known : (names : BTreeMap (Bor (List ℕ)) Known) → names.entries ≡ [] → (q : List ℕ) → known_at names q ≡ nothing
empty_known names h q = ap (λ es. unwrap_or (lookup (is_at (λ (k : Bor (List ℕ)). slice_cmp nat_cmp q k.now)) es) nothing) h

pub table_none : (table : Table) → ((q : List ℕ) → known_at table.names q ≡ nothing) → table.order.items ≡ [] → table.arrays ≡ 0 → table.params ≡ 0 → table.statements ≡ 0 → table.statement ≡ false → table.out ≡ false → IsTable [] table
unfolding declared
table_none table names order arrays params statements statement out = record {
  declares = λ q. ap (λ (k : Known). option_map declared_seen k.declared) (names q);
  gives = λ q number h. ap (λ (k : Known). flag_of k.inits number) (names q) ∙ none-flag number h;
  lives = λ q. ap (λ (k : Known). k.out) (names q);
  long = λ q. ap (λ (k : Known). length k.inits) (names q);
  order = ap (map (λ (n : Bor (List ℕ)). n.now)) order;
  arrays = arrays;
  params = params;
  statements = statements;
  statement = statement;
  out = out;
}

-- what is put down

put-at : (b : Bool) (known : Known) (o : Option Known) → unwrap_or (cond b (Some known) o) nothing ≡ cond b known (unwrap_or o nothing)
put-at true known o = refl
put-at false known o = refl

pub put_known : (old new : BTreeMap (Bor (List ℕ)) Known) (name : List ℕ) (known : Known)
    → ((q : List ℕ) → at new q ≡ update bytes_eq (at old) name (Some known) q)
    → (q : List ℕ) → known_at new q ≡ cond (same_word q name) known (known_at old q)
put_known old new name known updates q =
    ap (λ o. unwrap_or o nothing) (updates q)
    ∙ put-at (same_word name q) known (at old q)
    ∙ ap (λ b. cond b known (known_at old q)) (same_word-sym name q)

-- where what is put down is what was known of the name, with one more thing
change-at : (b : Bool) (f : Known → Known) (q name : List ℕ) (known : List ℕ → Known) → same_word q name ≡ b → cond b (f (known name)) (known q) ≡ cond b (f (known q)) (known q)
change-at true f q name known h = ap (λ n. f (known n)) (sym (same_word-yes q name h))
change-at false f q name known h = refl

pub changed : (f : Known → Known) (old new : BTreeMap (Bor (List ℕ)) Known) (name : List ℕ) (known : Known) → known ≡ f (known_at old name)
    → ((q : List ℕ) → known_at new q ≡ cond (same_word q name) known (known_at old q))
    → (q : List ℕ) → known_at new q ≡ cond (same_word q name) (f (known_at old q)) (known_at old q)
changed f old new name known h put q =
    put q ∙ ap (λ k. cond (same_word q name) k (known_at old q)) h ∙ change-at (same_word q name) f q name (known_at old) refl

-- what a table says of a name

seen-some : (o : Option Declared) → is_some (option_map declared_seen o) ≡ is_some o
seen-some None = refl
seen-some (Some d) = refl

pub declared_there : (lines : List Form) (table : Table) (q : List ℕ) → IsTable lines table → is_some (known_at table.names q).declared ≡ is_some (declared lines q)
declared_there lines table q is = sym (seen-some (known_at table.names q).declared) ∙ ap is_some (is.declares q)

covers-inits : (lines : List Form) (flags : List Bool) (q : List ℕ) (d : ℕ) → ((n : ℕ) → n ≤ 16 → get_or flags n false ≡ has_init lines q n) → d ≤ 16 → covers flags d ≡ has_inits lines q d
covers-inits lines flags q zero h low = refl
covers-inits lines flags q (suc d) h low =
    let less : d ≤ 16 = omega arith in
    ap (λ b. b && covers flags d) (h (suc d) low) ∙ ap (λ b. has_init lines q (suc d) && b) (covers-inits lines flags q d h less)

pub covers_there : (lines : List Form) (table : Table) (q : List ℕ) (d : ℕ) → IsTable lines table → d ≤ 16 → covers (known_at table.names q).inits d ≡ has_inits lines q d
covers_there lines table q d is low = covers-inits lines (known_at table.names q).inits q d (λ n h. is.gives q (Some n) h) low

-- flags from 1 on

and-late : (b : Bool) → (b && false) ≡ false
and-late true = refl
and-late false = refl

false-at : (flags : List Bool) (k d : ℕ) (b : Bool) → eqb k d ≡ b → k < suc d → get_or flags (k + 1) false ≡ false → (k < d → covers flags d ≡ false) → (get_or flags (suc d) false && covers flags d) ≡ false
false-at flags k d true same h e ih =
    let next : k + 1 ≡ suc d = omega (arith, eqb-true k d same) in
    ap (λ b. b && covers flags d) (ap (λ n. get_or flags n false) (sym next) ∙ e)
false-at flags k d false other h e ih =
    let ne : k ≢ d = λ (same : k ≡ d). true≢false (sym (eq-eqb k d same) ∙ other) in
    let less : k < d = omega arith in
    ap (λ b. get_or flags (suc d) false && b) (ih less) ∙ and-late (get_or flags (suc d) false)

pub covers_false : (flags : List Bool) (k d : ℕ) → k < d → get_or flags (k + 1) false ≡ false → covers flags d ≡ false
covers_false flags k zero h e = absurd (omega arith)
covers_false flags k (suc d) h e = false-at flags k d (eqb k d) refl h e (λ less. covers_false flags k d less e)

pub covers_true : (flags : List Bool) (d : ℕ) → ((k : ℕ) → k < d → get_or flags (k + 1) false ≡ true) → covers flags d ≡ true
covers_true flags zero h = refl
covers_true flags (suc d) h =
    let one : d + 1 ≡ suc d = omega arith in
    let here : get_or flags (suc d) false ≡ true = ap (λ n. get_or flags n false) (sym one) ∙ h d (omega arith) in
    ap (λ b. b && covers flags d) here ∙ covers_true flags d (λ k less. h k (omega arith))

pub bare_there : (lines : List Form) (table : Table) (q : List ℕ) (distance : Option ℕ) → IsTable lines table → IsNear distance → is_bare (known_at table.names q).inits distance ≡ is_uncovered lines (At q distance)
bare_there lines table q None is near = refl
bare_there lines table q (Some d) is near = ap not (covers_there lines table q d is near)
