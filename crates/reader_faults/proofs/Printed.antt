-- What is printed of a key's characters: control characters are escaped, and the others stand as they are.
use Rattle.std.proofs.Common.{◌≡◌, ℕ, ◌+◌, ◌/◌, ◌%◌, ◌<◌, ◌≤◌, Bool, true, false, cond, nat_lt, ◌==◌, List, [], ◌∷◌, ◌++◌, flat_map, encode_utf8, encode_utf8_all, refl, sym, ap, ◌∙◌, append_assoc, append-nil, arith, rules}
use Rattle.std.specs.Char.{is_ascii_control}
use Rattle.std.specs.Char.Escape.{hex_digit_at, short_escape, escape_unicode, escape_default}
use Rattle.std.specs.List.{AllByRecursion}
use Rattle.std.proofs.Math.Utf8.{encode}
use Rattle.std.proofs.lemmas.Str.{encode_ascii}
use Rattle.std.proofs.lemmas.Grind.{flat_map-append}
use Rattle.reader_faults.specs.MachineFaults.{byte_text}

past_ascii : (b : ℕ) → 128 ≤ b → is_ascii_control b ≡ false
past_ascii b h = search rules

all_past : (bs : List ℕ) → AllByRecursion (λ b. 128 ≤ b) bs → flat_map byte_text bs ≡ bs
all_past [] h = refl
all_past (b ∷ bs) h = rw (past_ascii b h.0, all_past bs h.1) refl

-- the bytes of a character past ASCII are past it
bytes_past : (two three : Bool) (a b c d e f : ℕ) → AllByRecursion (λ b. 128 ≤ b) (cond two ((192 + a) ∷ (128 + b) ∷ []) (cond three ((224 + c) ∷ (128 + d) ∷ (128 + b) ∷ []) ((240 + e) ∷ (128 + f) ∷ (128 + d) ∷ (128 + b) ∷ [])))
bytes_past true three a b c d e f = (omega arith, (omega arith, tt))
bytes_past false true a b c d e f = (omega arith, (omega arith, (omega arith, tt)))
bytes_past false false a b c d e f = (omega arith, (omega arith, (omega arith, (omega arith, tt))))

printed_at : (c : ℕ) (low : Bool) → nat_lt c 128 ≡ low → is_ascii_control c ≡ false → flat_map byte_text (encode c) ≡ encode c
unfolding encode
printed_at c true e h = rw (e, h) refl
printed_at c false e h = rw e (all_past _ (bytes_past (nat_lt c 2048) (nat_lt c 65536) (c / 64) (c % 64) (c / 4096) (c / 64 % 64) (c / 262144) (c / 4096 % 64)))

-- what is no control character is printed as it is
pub printed_plainly : (c : ℕ) → is_ascii_control c ≡ false → flat_map byte_text (encode_utf8 c) ≡ encode_utf8 c
printed_plainly c = printed_at c (nat_lt c 128) refl

abbrev AreAscii : List ℕ → Type 0
AreAscii = AllByRecursion (λ b. b < 128)

spelled_alone : (bs : List ℕ) → AreAscii bs → encode_utf8_all bs ≡ bs
spelled_alone [] h = refl
spelled_alone (b ∷ bs) h = rw (encode_ascii b h.0, spelled_alone bs h.1) refl

low_digit : (test : Bool) (d : ℕ) → d < 16 → cond test (48 + d) (87 + d) < 128
low_digit true d h = omega arith
low_digit false d h = omega arith

low_hex : (place c : ℕ) → hex_digit_at place c < 128
low_hex place c = low_digit (nat_lt (c / place % 16) 10) (c / place % 16) (omega arith)

ascii_if : (test : Bool) (xs ys : List ℕ) → AreAscii xs → AreAscii ys → AreAscii (cond test xs ys)
ascii_if true xs ys h k = h
ascii_if false xs ys h k = k

low_among : (tab return feed quote quotes slash : Bool) → cond tab 116 (cond return 114 (cond feed 110 (cond quote 39 (cond quotes 34 (cond slash 92 0))))) < 128
low_among true return feed quote quotes slash = omega arith
low_among false true feed quote quotes slash = omega arith
low_among false false true quote quotes slash = omega arith
low_among false false false true quotes slash = omega arith
low_among false false false false true slash = omega arith
low_among false false false false false true = omega arith
low_among false false false false false false = omega arith

low_letter : (c : ℕ) → short_escape c < 128
low_letter c = low_among (c == 9) (c == 13) (c == 10) (c == 39) (c == 34) (c == 92)

ascii_code : (c : ℕ) → c < 128 → AreAscii (escape_unicode c)
ascii_code c h =
    let byte : nat_lt c 256 ≡ true = search rules in
    rw byte (ascii_if (nat_lt c 16) _ _ (omega arith, (omega arith, (omega arith, (low_hex 1 c, (omega arith, tt))))) (omega arith, (omega arith, (omega arith, (low_hex 16 c, (low_hex 1 c, (omega arith, tt)))))))

ascii_escape : (c : ℕ) → c < 128 → AreAscii (escape_default c)
ascii_escape c h =
    let code = ascii_code c h in
    let itself : AreAscii (c ∷ []) = (h, tt) in
    let letter : AreAscii (92 ∷ short_escape c ∷ []) = (omega arith, (low_letter c, tt)) in
    ascii_if (nat_lt 0 (short_escape c)) _ _ letter (ascii_if (nat_lt c 32) _ _ code (ascii_if (nat_lt c 127) _ _ itself code))

low_control : (c : ℕ) → is_ascii_control c ≡ true → c < 128
low_control c h = search rules

-- a control character is escaped
pub printed_escaped : (c : ℕ) → is_ascii_control c ≡ true → flat_map byte_text (encode_utf8 c) ≡ encode_utf8_all (escape_default c)
printed_escaped c h = rw (encode_ascii c (low_control c h), h, spelled_alone _ (ascii_escape c (low_control c h))) (append-nil (escape_default c))

-- one more character at the end
pub encoded_last : (cs : List ℕ) (c : ℕ) → encode_utf8_all (cs ++ c ∷ []) ≡ encode_utf8_all cs ++ encode_utf8 c
encoded_last [] c = append-nil (encode_utf8 c)
encoded_last (x ∷ cs) c = ap (λ rest. encode_utf8 x ++ rest) (encoded_last cs c) ∙ sym (append_assoc (encode_utf8 x) (encode_utf8_all cs) (encode_utf8 c))

pub printed_last : (cs : List ℕ) (c : ℕ) → flat_map byte_text (encode_utf8_all (cs ++ c ∷ [])) ≡ flat_map byte_text (encode_utf8_all cs) ++ flat_map byte_text (encode_utf8 c)
printed_last cs c = ap (flat_map byte_text) (encoded_last cs c) ∙ flat_map-append byte_text (encode_utf8_all cs) (encode_utf8 c)
