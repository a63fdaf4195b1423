-- Escaping a key byte by byte and character by character is one thing, since no byte below 128
-- is a part of another character.
use Rattle.std.proofs.Common.{◌≡◌, ℕ, suc, ◌<◌, ◌≤◌, ◌⊎◌, inl, inr, List, [], ◌∷◌, ◌++◌, length, get_or, flat_map, refl, sym, ap, ap₂, ◌∙◌, arith, append-nil}
use Rattle.std.specs.Prelude.{encode_utf8, encode_utf8_all}
use Rattle.std.proofs.lemmas.Bool.{cases_lt, ne_eqb}
use Rattle.std.proofs.lemmas.List.Concat.{flat_map-append}
use Rattle.std.proofs.lemmas.Str.{inside_one, encode_ascii, encodes-append}
use Rattle.cs_json.specs.Walk.{escaped_byte, escaped_char}

-- a byte from 128 on is not escaped
escaped_high : (b : ℕ) → 128 ≤ b → escaped_byte b ≡ b ∷ []
escaped_high b high = rw (ne_eqb b 126 (λ e. omega arith), ne_eqb b 47 (λ e. omega arith)) refl

unescaped : (xs : List ℕ) → ((k : ℕ) → k < length xs → 128 ≤ get_or xs k 0)
    → flat_map escaped_byte xs ≡ xs
unescaped [] high = refl
unescaped (x ∷ xs) high =
    ap₂ (λ front rest. front ++ rest) (escaped_high x (high 0 (omega arith)))
    (unescaped xs (λ k h. high (suc k) (omega arith)))

-- no byte of a character from 128 on is below 128
high_bytes : (c : ℕ) → 128 ≤ c → (k : ℕ) → k < length (encode_utf8 c)
    → 128 ≤ get_or (encode_utf8 c) k 0
high_bytes c high k within = by_cases (cases_lt (get_or (encode_utf8 c) k 0) 128)
  where
    by_cases : (get_or (encode_utf8 c) k 0 < 128) ⊎ (128 ≤ get_or (encode_utf8 c) k 0)
        → 128 ≤ get_or (encode_utf8 c) k 0
    by_cases (inl low) =
        let same =
        inside_one c [] (encode_utf8 c) k (sym (append-nil (encode_utf8 c))) within low in
        absurd (omega arith)
    by_cases (inr is) = is

escaped_ascii : (c : ℕ) → encode_utf8 c ≡ c ∷ []
    → flat_map escaped_byte (encode_utf8 c) ≡ escaped_char c
escaped_ascii c one = rw one (append-nil (escaped_byte c))

pub flat_map-encode_utf8 : (c : ℕ) → flat_map escaped_byte (encode_utf8 c) ≡ escaped_char c
flat_map-encode_utf8 c = by_cases (cases_lt c 128)
  where
    by_cases : (c < 128) ⊎ (128 ≤ c) → flat_map escaped_byte (encode_utf8 c) ≡ escaped_char c
    by_cases (inl low) = escaped_ascii c (encode_ascii c low)
    by_cases (inr high) =
        unescaped (encode_utf8 c) (high_bytes c high)
        ∙ rw (ne_eqb c 126 (λ e. omega arith), ne_eqb c 47 (λ e. omega arith)) refl

-- one more character
pub escaped_more : (cs : List ℕ) (c : ℕ)
    → flat_map escaped_byte (encode_utf8_all (cs ++ c ∷ [])) ≡ flat_map escaped_byte
    (encode_utf8_all cs) ++ escaped_char c
escaped_more cs c =
    ap (flat_map escaped_byte) (encodes-append cs (c ∷ []))
    ∙ flat_map-append escaped_byte (encode_utf8_all cs) (encode_utf8_all (c ∷ []))
    ∙ ap (λ s. flat_map escaped_byte (encode_utf8_all cs) ++ s)
    (ap (flat_map escaped_byte) (append-nil (encode_utf8 c)) ∙ flat_map-encode_utf8 c)
