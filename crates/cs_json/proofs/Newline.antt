-- A newline behind a text that was printed for some tokens is passed over.
use Rattle.std.proofs.Common.{◌≡◌, ℕ, Bool, true, false, cond, ◌&&◌, List, [], ◌∷◌, ◌++◌, refl, sym, ap, ap₂, ◌∙◌, append_assoc, append-nil}
use Rattle.json.specs.Token.{Token, begin_object, end_object, begin_array, end_array, key, string, number, boolean, null, bad}
use Rattle.json.specs.Word.{ends_word, word}
use Rattle.json.specs.Lex.{Lexeme, token, comma, colon, string_token, lex, between, fresh, punctuate, tokens}
use Rattle.json.specs.Print.{escape, quoted, token_text, begins, ends, separator, print_from, print, IsPrintable, ArePrintable}
use Rattle.json.proofs.Printed.Strings.{content-escape, lex-escape}
use Rattle.json.proofs.Printed.Numbers.{lex-number, in_word-ended}
use Rattle.json.proofs.Printed.Tokens.{tokens-print}

-- the lexemes of a token's text
abbrev lexemes_of : Token → List Lexeme
lexemes_of begin_object = token begin_object ∷ []
lexemes_of end_object = token end_object ∷ []
lexemes_of begin_array = token begin_array ∷ []
lexemes_of end_array = token end_array ∷ []
lexemes_of (key s) = token (string s) ∷ colon ∷ []
lexemes_of (string s) = token (string s) ∷ []
lexemes_of (number s) = token (number s) ∷ []
lexemes_of (boolean b) = token (boolean b) ∷ []
lexemes_of null = token null ∷ []
lexemes_of bad = []

-- the lexemes of a printed text
abbrev lexemes : Bool → List Token → List Lexeme
lexemes c [] = []
lexemes c (t ∷ ts) = cond (c && begins t) (comma ∷ []) [] ++ (lexemes_of t ++ lexemes (ends t) ts)

-- a printed value ends where r does not go on
ends_before : (ts : List Token) (r : List ℕ) → ends_word r ≡ true
    → ends_word (print_from true ts ++ r) ≡ true
unfolding print_from
ends_before [] r ended = ended
ends_before (begin_object ∷ ts) r ended = refl
ends_before (end_object ∷ ts) r ended = refl
ends_before (begin_array ∷ ts) r ended = refl
ends_before (end_array ∷ ts) r ended = refl
ends_before (key s ∷ ts) r ended = refl
ends_before (string s ∷ ts) r ended = refl
ends_before (number s ∷ ts) r ended = refl
ends_before (boolean b ∷ ts) r ended = refl
ends_before (null ∷ ts) r ended = refl
ends_before (bad ∷ ts) r ended = refl

lex-quoted : (s r : List ℕ) → lex between (quoted s ++ r) ≡ token (string s) ∷ lex between r
unfolding lex
lex-quoted s r =
    ap (λ l. lex between (34 ∷ l)) (append_assoc (escape s) (34 ∷ []) r)
    ∙ ap₂ (λ o l. token (string_token o) ∷ l) (content-escape s r) (lex-escape s r)

lex-token : (t : Token) (r : List ℕ) → IsPrintable t → (ends t ≡ true → ends_word r ≡ true)
    → lex between (token_text t ++ r) ≡ lexemes_of t ++ lex between r
unfolding lex word
lex-token begin_object r h ended = refl
lex-token end_object r h ended = refl
lex-token begin_array r h ended = refl
lex-token end_array r h ended = refl
lex-token (key s) r h ended =
    ap (lex between) (append_assoc (quoted s) (58 ∷ []) r) ∙ lex-quoted s (58 ∷ r)
lex-token (string s) r h ended = lex-quoted s r
lex-token (number s) r h ended = lex-number s r h (ended refl)
lex-token (boolean true) r h ended =
    ap₂ (λ b l. token (cond b (boolean true) bad) ∷ l) (ended refl) (in_word-ended r (ended refl))
lex-token (boolean false) r h ended =
    ap₂ (λ b l. token (cond b (boolean false) bad) ∷ l) (ended refl) (in_word-ended r (ended refl))
lex-token null r h ended =
    ap₂ (λ b l. token (cond b null bad) ∷ l) (ended refl) (in_word-ended r (ended refl))
lex-token bad r h ended = absurd h

lex-comma : (b : Bool) (r : List ℕ)
    → lex between (cond b (44 ∷ []) [] ++ r) ≡ cond b (comma ∷ []) [] ++ lex between r
unfolding lex
lex-comma true r = refl
lex-comma false r = refl

lex-printed : (c : Bool) (ts : List Token) (r : List ℕ) → ArePrintable ts → ends_word r ≡ true
    → lex between (print_from c ts ++ r) ≡ lexemes c ts ++ lex between r
unfolding print_from ArePrintable
lex-printed c [] r h ended = refl
lex-printed c (t ∷ ts) r h ended =
    let front = separator c t in
    let rest = print_from (ends t) ts in
    let first : lex between (token_text t ++ (rest ++ r)) ≡ lexemes_of t ++ lex between
    (rest ++ r) =
    lex-token t (rest ++ r) h.0
    (λ e. ap (λ b. ends_word (print_from b ts ++ r)) e ∙ ends_before ts r ended) in
    ap (lex between)
    (append_assoc front (token_text t ++ rest) r
    ∙ ap (λ l. front ++ l) (append_assoc (token_text t) rest r))
    ∙ lex-comma (c && begins t) (token_text t ++ (rest ++ r))
    ∙ ap (λ l. cond (c && begins t) (comma ∷ []) [] ++ l)
    (first ∙ ap (λ l. lexemes_of t ++ l) (lex-printed (ends t) ts r h.1 ended)
    ∙ sym (append_assoc (lexemes_of t) (lexemes (ends t) ts) (lex between r)))
    ∙ sym
    (append_assoc (cond (c && begins t) (comma ∷ []) [])
    (lexemes_of t ++ lexemes (ends t) ts) (lex between r))

-- the round trip of tokens, with a newline
pub tokens-newline : (ts : List Token) → ArePrintable ts → tokens (print ts ++ 10 ∷ []) ≡ ts
unfolding lex
tokens-newline ts h =
    let nothing : lex between (print ts ++ 10 ∷ []) ≡ lex between (print ts ++ []) =
    lex-printed false ts (10 ∷ []) h refl
    ∙ sym (lex-printed false ts [] h refl) in
    ap (punctuate fresh) (nothing ∙ ap (lex between) (append-nil (print ts))) ∙ tokens-print ts h
