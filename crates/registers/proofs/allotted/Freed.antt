-- Free numbers and lawful ones.
use Rattle.std.proofs.Common.{◌≡◌, ◌↔◌, ℕ, suc, zero, ◌+◌, ◌<◌, ◌≤◌, List, [], ◌∷◌, ◌++◌, length, get_or, take, Option, Some, None, refl, sym, ap, ◌∙◌, subst, inl, inr, arith}
use Rattle.std.specs.Prelude.{slice_get, slice_index, MatchOption}
use Rattle.std.specs.List.{All}
use Rattle.std.proofs.lemmas.Bool.{cases_eq}
use Rattle.registers.specs.declared.lifetime.Lifetime.{Lifetime}
use Rattle.registers.specs.Allotments.{IsLawfulAllotment, IsLeast}
use Rattle.registers.proofs.allotted.Least.{taken-at}
use Rattle.registers.specs.Residues.{Forbids, FitsItself, IsFreeNumber, IsLifeSpan}
use Rattle.registers.proofs.allotted.More.{lawful-more}

-- one value more

pub at-taken : {X : Type 0} (xs : List X) (n k : ℕ) (x : X) → slice_get xs k ≡ Some x → k < n → slice_get (take n xs) k ≡ Some x
at-taken xs zero k x e lt = absurd (omega arith)
at-taken [] (suc n) k x e lt = cc
at-taken (y ∷ xs) (suc n) zero x e lt = e
at-taken (y ∷ xs) (suc n) (suc k) x e lt = at-taken xs n k x e (omega arith)

pub free-more : (ii registers : ℕ) (lives : List Lifetime) (numbers : List ℕ) (other : Lifetime) (c n : ℕ) (one : Lifetime) → slice_get lives n ≡ Some one
    → IsFreeNumber ii registers (take (n + 1) lives) numbers other c ↔ (IsFreeNumber ii registers (take n lives) numbers other c × ¬ Forbids ii registers one (slice_index numbers n) other c)
free-more ii registers lives numbers other c n one there = (
  λ free. (
    λ k x h. let t = taken-at lives n k x h in let l = t.1 in free k x (at-taken lives (n + 1) k x t.0 (omega arith)),
    free n one (at-taken lives (n + 1) n one there (omega arith)),
  ),
  λ both k x h.
      let t = taken-at lives (n + 1) k x h in
      let l = t.1 in
      elim (cases_eq k n) [
        | inl same ↦
            let e : Some x ≡ Some one = sym t.0 ∙ ap (slice_get lives) same ∙ there in
            let y : x ≡ one = cc in
            subst (λ (z : Lifetime). ¬ Forbids ii registers z (slice_index numbers k) other c) (sym y)
            (subst (λ m. ¬ Forbids ii registers one (slice_index numbers m) other c) (sym same) both.1)
        | inr apart ↦ both.0 k x (at-taken lives n k x t.0 (omega arith))
      ],
)

pub one-there : {X : Type 0} (xs : List X) (k : ℕ) (d : X) → k < length xs → slice_get xs k ≡ Some (get_or xs k d)
one-there [] k d lt = absurd (omega arith)
one-there (x ∷ xs) zero d lt = refl
one-there (x ∷ xs) (suc k) d lt = one-there xs k d (omega arith)

pub span-at : (xs : List Lifetime) (k : ℕ) (x : Lifetime) → slice_get xs k ≡ Some x → All IsLifeSpan xs → IsLifeSpan x
span-at [] k x e h = cc
span-at (y ∷ xs) zero x e h = let z : y ≡ x = cc in subst IsLifeSpan z (h 0 x (omega arith))
span-at (y ∷ xs) (suc k) x e h = span-at xs k x e (λ n d l. h (suc n) d (omega arith))

pub least-found : (found : Option ℕ) (ii registers : ℕ) (lives : List Lifetime) (numbers : List ℕ) (other : Lifetime) → 1 ≤ ii → 1 ≤ registers → other.first ≤ other.last
    → IsLawfulAllotment ii registers lives numbers → FitsItself ii registers other
    → MatchOption found ((c : ℕ) → c < registers → ¬ IsFreeNumber ii registers lives numbers other c)
    (λ c. (c < registers) × IsFreeNumber ii registers lives numbers other c × ((d : ℕ) → d < c → ¬ IsFreeNumber ii registers lives numbers other d))
    → MatchOption found ((c : ℕ) → ¬ IsLawfulAllotment ii registers (lives ++ other ∷ []) (numbers ++ c ∷ [])) (λ c. IsLeast ii registers lives numbers other c)
least-found None ii registers lives numbers other some regs order lawful fits none =
    λ c h. let p = (lawful-more ii registers lives numbers other c some regs order lawful.each).0 h in none c p.1 p.3
least-found (Some c) ii registers lives numbers other some regs order lawful fits found = record {
  lawful = (lawful-more ii registers lives numbers other c some regs order lawful.each).1 (lawful, found.0, fits, found.1);
  least = λ d lt h. found.2 d lt ((lawful-more ii registers lives numbers other d some regs order lawful.each).0 h).3;
}

pub fits-not : (ii registers : ℕ) (lives : List Lifetime) (numbers : List ℕ) (other : Lifetime) → 1 ≤ ii → 1 ≤ registers → other.first ≤ other.last
    → length numbers ≡ length lives → ¬ FitsItself ii registers other → (c : ℕ) → ¬ IsLawfulAllotment ii registers (lives ++ other ∷ []) (numbers ++ c ∷ [])
fits-not ii registers lives numbers other some regs order long not c h = not ((lawful-more ii registers lives numbers other c some regs order long).0 h).2
