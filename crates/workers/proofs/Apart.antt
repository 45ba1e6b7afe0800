-- Two texts that are read apart mean the loops of both.
use Rattle.std.proofs.Common.{◌≡◌, ◌≢◌, ◌∙◌, ℕ, ◌+◌, ◌≤◌, Bool, true, false, ◌||◌, if◌then◌else◌, nat_lt, suc, List, [], ◌∷◌, ◌++◌, length, map, Option, Result, Ok, Err, refl, sym, ap, ap₂, subst, arith, length-append}
use Rattle.std.specs.List.{All, list_any}
use Rattle.std.proofs.lemmas.Bool.Decides.{nat_tests}
use Rattle.std.proofs.lemmas.List.{append-nil, length-map, map-append}
use Rattle.machine_data.specs.Opcodes.{same_word}
use Rattle.loop_data.specs.Loops.{LoopData}
use Rattle.loop_lines.specs.Forms.{Form}
use Rattle.reader_faults.specs.declared.loops.LoopFault.{LoopFault}
use Rattle.reader_faults.specs.declared.loops.LoopFaultKind.TheVariants.{Limit}
use Rattle.loop_reader.specs.Meaning.{blocks_of, first_fault, forms_of, loop_of, loops_in, outside_faults}
use Rattle.loop_reader.proofs.blocks.OpeningLines.{accepted}
use Rattle.loop_reader.proofs.lookups.Declared.{same_word-yes}
use Rattle.workers.specs.Apart.{NamesAreApart, TextsAreReadApart}
use Rattle.workers.specs.inner.Pieces.{names_of}
use Rattle.workers.proofs.Lines.{forms-then}
use Rattle.workers.proofs.Following.{AreOther, after-outside, blocks-front, front-outside, names-opened, names_outside}

fits : (n : ℕ) → n ≤ 1048576 → nat_lt 1048576 n ≡ false
fits n h = grind (arith, nat_tests)

same-loops : (found : List LoopData) (loops : List LoopData) (one other : Result (List LoopData) LoopFault) → one ≡ other → one ≡ Ok found → other ≡ Ok loops → found ≡ loops
same-loops found loops one other h e f = cc

none-first : (faults : List LoopFault) (found loops : List LoopData) → first_fault faults found ≡ Ok loops → (faults ≡ []) × (found ≡ loops)
none-first [] found loops h = (refl, same-loops found loops (first_fault [] found) (Ok loops) h refl refl)
none-first (fault ∷ faults) found loops h = cc

-- a text that means loops has no fault, and these loops are those of its blocks
faultless : (text : List ℕ) (loops : List LoopData) → length text ≤ 1048576 → loops_in text ≡ Ok loops
    → (outside_faults 1 [] (forms_of text) ≡ []) × (map loop_of (blocks_of (forms_of text)) ≡ loops)
unfolding loops_in
faultless text loops small h =
    let faults = outside_faults 1 [] (forms_of text) in
    let found = map loop_of (blocks_of (forms_of text)) in
    none-first faults found loops (sym (ap (λ (b : Bool). if b then Err (record { line = 0; kind = Limit }) else first_fault faults found) (fits (length text) small)) ∙ h)

not-same : (name other : List ℕ) → (other ≢ name) → same_word name other ≡ false
not-same name other h =
    let by_case : (b : Bool) → same_word name other ≡ b → same_word name other ≡ false = λ b.
    elim b as (λ b. same_word name other ≡ b → same_word name other ≡ false) [ true ↦ λ e. absurd (h (sym (same_word-yes name other e))) | false ↦ λ e. e ] in
    by_case (same_word name other) refl

not-there : (name : List ℕ) (loops : List LoopData) → All (λ (x : LoopData). x.name ≢ name) loops → list_any (same_word name) (names_of loops) ≡ false
not-there name [] h = refl
not-there name (x ∷ xs) h = ap₂ (λ (p q : Bool). p || q) (not-same name x.name (h 0 x (omega arith))) (not-there name xs (λ k d g. h (suc k) d (omega (arith, g))))

are-other : (earlier later : List LoopData) → NamesAreApart earlier later → AreOther (names_of earlier) (names_of later)
are-other earlier [] h = tt
are-other earlier (y ∷ ys) h = (not-there y.name earlier (h 0 y (omega arith)), are-other earlier ys (λ k d g. h (suc k) d (omega (arith, g))))

-- .. also by the names that their lines have
are-opened : (earlier later : List LoopData) (xs ys : List (Option Form)) → NamesAreApart earlier later → names_outside xs ≡ names_of earlier → names_outside ys ≡ names_of later
    → AreOther (names_outside xs) (names_outside ys)
are-opened earlier later xs ys h e f =
    subst (λ (ns : List (List ℕ)). AreOther ns (names_outside ys)) (sym e) (subst (AreOther (names_of earlier)) (sym f) (are-other earlier later h))

pub read_apart : TextsAreReadApart
read_apart first second earlier later ends h k apart few small =
    let xs = forms_of first in
    let ys = forms_of second in
    let a = faultless first earlier (omega (arith, length-append first second, small)) h in
    let b = faultless second later (omega (arith, length-append first second, small)) k in
    let e = names-opened xs earlier a.1 in
    let f = names-opened ys later b.1 in
    let fit : length (names_outside xs) + (length {A = List ℕ} [] + length (names_outside ys)) ≤ 1024 =
    omega (arith, few, ap length e, ap length f, length-map earlier (λ (x : LoopData). x.name), length-map later (λ (x : LoopData). x.name)) in
    let clean : outside_faults 1 [] (xs ++ ys) ≡ [] =
    front-outside 1 [] xs ys a.0
    (λ other. subst (λ (ns : List (List ℕ)). outside_faults other ns ys ≡ []) (append-nil (names_outside xs))
    (after-outside 1 other [] (names_outside xs) ys b.0 (are-opened earlier later xs ys apart e f) fit)) in
    let loops : map loop_of (blocks_of (xs ++ ys)) ≡ earlier ++ later =
    ap (map loop_of) (blocks-front 1 [] xs ys a.0) ∙ map-append loop_of (blocks_of xs) (blocks_of ys) ∙ ap₂ (λ (l m : List LoopData). l ++ m) a.1 b.1 in
    let forms = forms-then first second ends in
    sym (accepted (first ++ second) (earlier ++ later) small
    (subst (λ (fs : List (Option Form)). outside_faults 1 [] fs ≡ []) (sym forms) clean)
    (ap (λ (fs : List (Option Form)). map loop_of (blocks_of fs)) forms ∙ loops))
