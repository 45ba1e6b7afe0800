-- The first of some faults.
use Rattle.std.proofs.Common.{◌≡◌, Option, Some, None, refl, sym, ap, ◌∙◌}
use Rattle.std.specs.Option.{option_or}

pub or-none : {T : Type 0} (a : Option T) → option_or a None ≡ a
or-none None = refl
or-none (Some x) = refl

pub or-assoc : {T : Type 0} (a b c : Option T) → option_or (option_or a b) c ≡ option_or a (option_or b c)
or-assoc None b c = refl
or-assoc (Some x) b c = refl

-- one after five, of which the last is another where the third is none

abbrev pub after-5 : {T : Type 0} → Option T → Option T → Option T → Option T → Option T → Option T → Option T
after-5 a b c d e f = option_or a (option_or b (option_or c (option_or d (option_or e f))))

pub pass-5 : {T : Type 0} (a b c d e e' f : Option T) → (c ≡ None → e ≡ e') → after-5 a b c d e None ≡ None → after-5 a b c d e' f ≡ f
pass-5 None None None None None e' f same h = ap (λ o. option_or o f) (sym (same refl))
pass-5 None None None None (Some x) e' f same h = cc
pass-5 None None None (Some x) e e' f same h = cc
pass-5 None None (Some x) d e e' f same h = cc
pass-5 None (Some x) c d e e' f same h = cc
pass-5 (Some x) b c d e e' f same h = cc

pub fail-5 : {T : Type 0} (a b c d e e' f : Option T) (x : T) → (c ≡ None → e ≡ e') → after-5 a b c d e None ≡ Some x → after-5 a b c d e' f ≡ Some x
fail-5 None None None None None e' f x same h = cc
fail-5 None None None None (Some y) e' f x same h = ap (λ o. option_or o f) (sym (same refl)) ∙ h
fail-5 None None None (Some y) e e' f x same h = h
fail-5 None None (Some y) d e e' f x same h = h
fail-5 None (Some y) c d e e' f x same h = h
fail-5 (Some y) b c d e e' f x same h = h

pub third-none : {T : Type 0} (a b c d e : Option T) → after-5 a b c d e None ≡ None → c ≡ None
third-none None None None d e h = refl
third-none None None (Some x) d e h = cc
third-none None (Some x) c d e h = cc
third-none (Some x) b c d e h = cc
