-- Residues, from those of their parts.
use Rattle.std.proofs.Common.{◌≡◌, ℕ, ◌+◌, ◌-◌, ◌%◌, ◌<◌, ◌≤◌, sym, ap, ◌∙◌, arith}
use Rattle.std.proofs.Math.Nat.{add-mod-mod, mod-add-mod, add-mod_left, mod-eq_of_lt}

residue_parts : (ii time offset : ℕ) → (time % ii + offset % ii) % ii ≡ (time + offset) % ii
residue_parts ii time offset = add-mod-mod (time % ii) offset ii ∙ mod-add-mod time ii offset

pub residue_below : (ii base turn time offset : ℕ) → time % ii ≡ base → turn ≡ offset % ii → base + turn < ii → base + turn ≡ (time + offset) % ii
residue_below ii base turn time offset b t h = sym (mod-eq_of_lt h) ∙ ap (λ n. (n + turn) % ii) (sym b) ∙ ap (λ n. (time % ii + n) % ii) t ∙ residue_parts ii time offset

pub residue_past : (ii base turn time offset : ℕ) → 0 < ii → time % ii ≡ base → turn ≡ offset % ii → ii ≤ base + turn → base + turn - ii ≡ (time + offset) % ii
residue_past ii base turn time offset some b t h =
    let small : base + turn - ii < ii = omega arith in
    let whole : ii + (base + turn - ii) ≡ base + turn = omega arith in
    sym (mod-eq_of_lt small) ∙ sym (add-mod_left ii (base + turn - ii)) ∙ ap (λ n. n % ii) whole
    ∙ ap (λ n. (n + turn) % ii) (sym b) ∙ ap (λ n. (time % ii + n) % ii) t ∙ residue_parts ii time offset

-- ---- the residue of a later time
pub residue_later : (ii base time step : ℕ) → time % ii ≡ base → base + step < ii → (time + step) % ii ≡ base + step
residue_later ii base time step b h = sym (mod-add-mod time ii step) ∙ ap (λ n. (n + step) % ii) b ∙ mod-eq_of_lt h

pub residue_around : (ii base time step : ℕ) → 0 < ii → time % ii ≡ base → step ≤ ii → ii ≤ base + step → (time + step) % ii ≡ base + step - ii
residue_around ii base time step some b short h =
    let below : base < ii = omega arith in
    let small : base + step - ii < ii = omega arith in
    let whole : ii + (base + step - ii) ≡ base + step = omega arith in
    sym (mod-add-mod time ii step) ∙ ap (λ n. (n + step) % ii) b ∙ sym (ap (λ n. n % ii) whole) ∙ add-mod_left ii (base + step - ii) ∙ mod-eq_of_lt small
