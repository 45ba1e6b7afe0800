-- How a text is read and written part by part.
use Rattle.std.proofs.Common.{◌≡◌, ◌+◌, ◌-◌, ◌<◌, ◌≤◌, ◌++◌, ◌∙◌, ℕ, zero, suc, List, [], ◌∷◌, Option, Some, None, get_or, take, drop, length, length-append, option_map, Vec}
use Rattle.std.specs.Global.{Global}
use Rattle.std.proofs.Common.{◌↔◌, Result, Ok, Err, IsErrAnd, IsErrOf}
use Rattle.devices.specs.declared.text.ReadTextError.{ReadTextError}
use Rattle.devices.specs.declared.text.ReadTextError.TheVariants.{Fault, Memory}
use Rattle.std.proofs.Common.{IfSome, refl, ap, ap₂, sym, arith, append_assoc}
use Rattle.std.proofs.lemmas.List.{take_at, drop_at, take-append-le, take-append-drop, take-take, drop-take, drop-drop, length-drop, take_all, drop_all}
use Rattle.devices.specs.Devices.{Reads, Writes, HoldsText, TakesBeginning, joined_text}

-- a beginning is a shorter beginning and what follows there
pub take-add : (n m : ℕ) (xs : List ℕ) → take (n + m) xs ≡ take n xs ++ take m (drop n xs)
take-add n m xs =
    let whole = sym (take-append-drop n (take (n + m) xs)) in
    let front = take-take n (n + m) xs (omega arith) in
    let back = drop-take n m xs in
    cc

-- what an output took once it took more of a text of which it had taken the first n bytes
takes-more : (taken now after : Option (List ℕ)) (text : List ℕ) (n m : ℕ)
    → now ≡ option_map (λ before. before ++ take n text) taken
    → after ≡ option_map (λ before. before ++ take m (drop n text)) now
    → after ≡ option_map (λ before. before ++ take (n + m) text) taken
takes-more None now after text n m e f = f ∙ ap (option_map (λ before. before ++ take m (drop n text))) e
takes-more (Some before) now after text n m e f =
    let more : Some (before ++ take (n + m) text) ≡ Some (before ++ (take n text ++ take m (drop n text))) = ap (λ (part : List ℕ). Some (before ++ part)) (take-add n m text) in
    let regrouped : (before ++ take n text) ++ take m (drop n text) ≡ before ++ (take n text ++ take m (drop n text)) = rw append_assoc refl in
    f ∙ ap (option_map (λ before. before ++ take m (drop n text))) e ∙ ap (λ (part : List ℕ). Some part) regrouped ∙ sym more

-- an output took the first bytes of a text, and the rest is still to be written
pub record Written (taken now : Option (List ℕ)) (text rest : List ℕ) : Type 0 where
  pub done : ℕ
  pub there : done ≤ length text
  pub left : rest ≡ drop done text
  pub took : now ≡ option_map (λ before. before ++ take done text) taken

pub Written-write : (taken now after : Option (List ℕ)) (text rest later : List ℕ) (n : ℕ)
    → Written taken now text rest → Writes now after rest n → later ≡ drop n rest → Written taken after text later
Written-write taken now after text rest later n w s e =
    let fits : n ≤ length (drop w.done text) = rw (← w.left) s.there in
    let long : length (drop w.done text) ≡ length text - w.done = length-drop w.done text in
    record {
      done = w.done + n;
      there = omega arith;
      left = e ∙ ap (drop n) w.left ∙ drop-drop n w.done text;
      took = takes-more taken now after text w.done n w.took (rw (← w.left) s.known);
    }

-- an output that took some bytes and then a beginning of a text took a beginning of those bytes, the text, and what comes after it
pub begins_after : (taken now after : Option (List ℕ)) (done text later : List ℕ)
    → now ≡ option_map (λ before. before ++ done) taken → TakesBeginning now after text → TakesBeginning taken after (done ++ (text ++ later))
begins_after taken now after done text later e b =
    let n = b.0 in
    let whole : List ℕ = done ++ (text ++ later) in
    let fits : n ≤ length text = b.1 in
    let all : length whole ≡ length done + (length text + length later) = simp length-append refl in
    let front : done ≡ take (length done) whole = sym (take_at done (text ++ later) (length done) refl) in
    let rest : drop (length done) whole ≡ text ++ later = drop_at done (text ++ later) (length done) refl in
    let part : take n text ≡ take n (drop (length done) whole) = sym (ap (take n) rest ∙ take-append-le n text later fits) in (
      length done + n,
      omega arith,
      takes-more taken now after whole (length done) n
          (e ∙ ap (λ (p : List ℕ). option_map (λ before. before ++ p) taken) front)
          (b.2 ∙ ap (λ (p : List ℕ). option_map (λ before. before ++ p) now) part),
    )

-- texts one after another are those before one, that one, and those after it
pub joined-apart : (texts : List (Vec ℕ Global)) (i : ℕ) (text : Vec ℕ Global) → i < length texts → text ≡ get_or texts i text
    → joined_text texts ≡ joined_text (take i texts) ++ (text.items ++ joined_text (drop (suc i) texts))
joined-apart [] i text h e = absurd (omega (arith, h))
joined-apart (x ∷ texts) zero text h e = ap (λ (t : Vec ℕ Global). t.items ++ joined_text texts) (sym e)
joined-apart (x ∷ texts) (suc i) text h e =
    ap (λ (t : List ℕ). x.items ++ t) (joined-apart texts i text (omega (arith, h)) e)
    ∙ sym (append_assoc x.items (joined_text (take i texts)) (text.items ++ joined_text (drop (suc i) texts)))

-- the first n bytes of an input stand at the front of a buffer, and the others are left
pub record ReadSoFar (left now : Option (List ℕ)) (buffer : List ℕ) (n : ℕ) : Type 0 where
  pub known : (bytes : List ℕ) → left ≡ Some bytes → now ≡ Some (drop n bytes)
  pub given : (bytes : List ℕ) → left ≡ Some bytes → take n buffer ≡ take n bytes
  pub there : (bytes : List ℕ) → left ≡ Some bytes → n ≤ length bytes

-- m more bytes were read after the first n
pub ReadSoFar-read : (left now after : Option (List ℕ)) (buffer other : List ℕ) (n m : ℕ)
    → n ≤ length other → take n other ≡ take n buffer → ReadSoFar left now buffer n
    → Reads now after (drop n other) m → ReadSoFar left after other (n + m)
ReadSoFar-read left now after buffer other n m fits kept r s = record {
  known = λ bytes h. s.known (drop n bytes) (r.known bytes h) ∙ ap (λ (xs : List ℕ). Some xs) (drop-drop m n bytes);
  given = λ bytes h.
      let front : take n other ≡ take n bytes = kept ∙ r.given bytes h in
      let more : take m (drop n other) ≡ take m (drop n bytes) = s.given (drop n bytes) (r.known bytes h) in
      take-add n m other ∙ ap₂ (λ (xs ys : List ℕ). xs ++ ys) front more ∙ sym (take-add n m bytes);
  there = λ bytes h.
      let fits : m ≤ length (drop n bytes) = s.there (drop n bytes) (r.known bytes h) in
      let long : length (drop n bytes) ≡ length bytes - n = length-drop n bytes in
      let before : n ≤ length bytes = r.there bytes h in
      omega arith;
}

-- as much as is read at most is all that is read
pub HoldsText-full : (most : ℕ) (left now : Option (List ℕ)) (buffer : List ℕ) (n : ℕ)
    → ReadSoFar left now buffer n → n ≡ most → HoldsText most left now buffer n
HoldsText-full most left now buffer n r same = record {
  text = λ bytes h. r.given bytes h ∙ ap (λ (k : ℕ). take k bytes) same;
  rest = λ bytes h. r.known bytes h ∙ ap (λ (k : ℕ). Some (drop k bytes)) same;
}

-- where a read with room gave nothing, all was read before
pub HoldsText-end : (most : ℕ) (left now after : Option (List ℕ)) (buffer other : List ℕ) (n m : ℕ)
    → n < most → n < length other → take n other ≡ take n buffer → ReadSoFar left now buffer n
    → Reads now after (drop n other) m → m ≡ 0 → HoldsText most left after other n
HoldsText-end most left now after buffer other n m below room kept r s e = record {
  text = λ bytes h. kept ∙ r.given bytes h ∙ take_all n bytes (short bytes h) ∙ sym (take_all most bytes (less bytes h));
  rest = λ bytes h.
      s.known (drop n bytes) (r.known bytes h) ∙ ap (λ (k : ℕ). Some (drop k (drop n bytes))) e
      ∙ ap (λ (xs : List ℕ). Some xs) (drop_all n bytes (short bytes h) ∙ sym (drop_all most bytes (less bytes h)));
}
  where
    following : 0 < length (drop n other)
    following = let long : length (drop n other) ≡ length other - n = length-drop n other in omega arith

    short : (bytes : List ℕ) → left ≡ Some bytes → length bytes ≤ n
    short bytes h =
        let none : length (drop n bytes) ≡ 0 = ap length (s.whole (drop n bytes) (r.known bytes h) e following) in
        let long : length (drop n bytes) ≡ length bytes - n = length-drop n bytes in
        omega arith

    less : (bytes : List ℕ) → left ≡ Some bytes → length bytes ≤ most
    less bytes h = let few : length bytes ≤ n = short bytes h in omega arith

-- what holds of each value that an option may have holds of the one that it has
pub IfSome-from : (o : Option (List ℕ)) (P : List ℕ → Type 0) → ((x : List ℕ) → o ≡ Some x → P x) → IfSome o P
IfSome-from None P h = tt
IfSome-from (Some x) P h = h x refl

-- an error is the one of which the counts tell, where each error says what became of the count
pub fault_exactly : {T : Type 0} (r : Result T ReadTextError) (e : ReadTextError) (old new : ℕ)
    → IsErrAnd r (λ x. x ≡ e) → (e ≡ Fault → new ≡ old + 1) → (e ≡ Memory → new ≡ old)
    → IsErrOf r Fault ↔ (new ≡ old + 1)
fault_exactly (Ok x) e old new h f m = absurd h
fault_exactly (Err x) Fault old new h f m = (λ _. f refl, λ _. ap (λ (y : ReadTextError). Err y) h)
fault_exactly (Err x) Memory old new h f m =
    let same : new ≡ old = m refl in
    let mine : x ≡ Memory = h in
    (λ g. let wrong : Err x ≡ Err Fault = g in absurd (cc), λ g. absurd (omega arith))
