-- Lists of lines, some of them still to be written.
use Rattle.std.proofs.Common.{◌≡◌, ◌∙◌, ℕ, suc, ◌+◌, ◌-◌, ◌≤◌, List, [], ◌∷◌, ◌++◌, Result, Ok, Err, IfOk, sym, subst, ap, arith, append-nil, append_assoc}
use Rattle.std.specs.List.{All, flat_map, range_with_len}
use Rattle.std.specs.Prelude.{Vec}
use Rattle.std.specs.Global.{Global}
use Rattle.std.proofs.lemmas.Grind.{flat_map-append}
use Rattle.std.proofs.lemmas.List.Elements.{All-append, All-cons, All-nil}
use Rattle.loop_data.specs.declared.language.lists.Array.{Array}
use Rattle.shared_runs.specs.declared.lines.Lines.{Lines}
use Rattle.shared_runs.specs.inner.Lines.{AreWritten, IsPiece, bytes_in, bytes_left}
use Rattle.shared_runs.proofs.PieceLines.{range_parts}

-- the bytes of one more
pub pushed_bytes : (e : Array) (ls ms : List Lines) (l : Lines) → ms ≡ ls ++ l ∷ [] → flat_map (bytes_in e) ms ≡ flat_map (bytes_in e) ls ++ bytes_in e l
pushed_bytes e ls ms l is =
    ap (flat_map (bytes_in e)) is ∙ flat_map-append (bytes_in e) ls (l ∷ []) ∙ ap (λ t. flat_map (bytes_in e) ls ++ t) (append-nil (bytes_in e l))

pub pushed_pieces : (ls ms : List Lines) (l : Lines) → ms ≡ ls ++ l ∷ [] → All IsPiece ls → IsPiece l → All IsPiece ms
pushed_pieces ls ms l is h p = subst (All IsPiece) (sym is) (All-append IsPiece ls (l ∷ []) h (All-cons IsPiece l [] p (All-nil IsPiece)))

-- what is made of one number more
pub next_bytes : (f : ℕ → List ℕ) (from number : ℕ) → from ≤ number
    → flat_map f (range_with_len from (number - from)) ++ f number ≡ flat_map f (range_with_len from (number + 1 - from))
next_bytes f from number h =
    let here : from + (number - from) ≡ number = omega (arith, h) in
    let next : (number - from) + 1 ≡ number + 1 - from = omega (arith, h) in
    let done : List ℕ = range_with_len from (number - from) in
    ap (λ t. flat_map f done ++ t) (sym (append-nil (f number)))
    ∙ ap (λ n. flat_map f done ++ flat_map f (n ∷ [])) (sym here)
    ∙ sym (flat_map-append f done (range_with_len (from + (number - from)) 1))
    ∙ ap (flat_map f) (sym (range_parts from (number - from) 1))
    ∙ ap (λ n. flat_map f (range_with_len from n)) next

-- a text with a head, two parts that are the whole, and an end
pub joined_parts : (before head begun left end whole : List ℕ) → begun ++ left ≡ whole → (((before ++ head) ++ begun) ++ left) ++ end ≡ before ++ ((head ++ whole) ++ end)
joined_parts before head begun left end whole is =
    ap (λ t. t ++ end) (append_assoc (before ++ head) begun left ∙ ap (λ t. (before ++ head) ++ t) is ∙ append_assoc before head whole)
    ∙ append_assoc before (head ++ whole) end

-- what was still to be written of the first lines, and of the others
pub first_written : (l : Lines) (ls : List Lines) (t : Vec ℕ Global) (ts : List (Vec ℕ Global)) → AreWritten (l ∷ ls) (t ∷ ts) → (e : Array) → t.items ≡ bytes_left e l
first_written l ls t ts are e = are.each 0 t l e (omega arith)

pub others_written : (l : Lines) (ls : List Lines) (t : Vec ℕ Global) (ts : List (Vec ℕ Global)) → AreWritten (l ∷ ls) (t ∷ ts) → AreWritten ls ts
others_written l ls t ts are = record {
  many = omega (arith, are.many);
  each = λ k u m e h. are.each (suc k) u m e (omega (arith, h));
}

-- what follows from what is so of a result
pub ok_more : {A E : Type 0} (P Q : A → Type 0) (r : Result A E) → ((x : A) → P x → Q x) → IfOk r P → IfOk r Q
ok_more P Q (Ok x) more h = more x h
ok_more P Q (Err e) more h = tt
