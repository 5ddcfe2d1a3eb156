-- A line feed behind a JSON text changes nothing of how it is read.
use Rattle.std.proofs.Common.{◌≡◌, ℕ, Bool, true, false, cond, ◌&&◌, List, [], ◌∷◌, ◌++◌, refl, sym, ap, ap₂, ◌∙◌, append_assoc}
use Rattle.json.specs.Token.{Token, begin_object, end_object, begin_array, end_array, key, string, number, boolean, null, bad}
use Rattle.json.specs.Word.{ends_word, word}
use Rattle.json.specs.Lex.{token, comma, colon, string_token, lex, between, fresh, punctuate, tokens}
use Rattle.json.specs.Print.{escape, quoted, token_text, begins, ends, separator, print_from, print, IsPrintable, ArePrintable}
use Rattle.json.proofs.Printed.Strings.{content-escape, lex-escape}
use Rattle.json.proofs.Printed.Numbers.{lex-number, in_word-ended}
use Rattle.json.proofs.Printed.Tokens.{tokens-print}

-- a line feed behind the text
abbrev pub ended : List ℕ → List ℕ
ended text = text ++ 10 ∷ []

-- both texts are divided alike from here on
abbrev Alike : List ℕ → List ℕ → Type 0
Alike r s = lex between r ≡ lex between s

lex-quoted : (s r : List ℕ) → lex between (quoted s ++ r) ≡ token (string s) ∷ lex between r
unfolding lex
lex-quoted s r =
    let e = append_assoc (escape s) (34 ∷ []) r in
    ap (λ l. lex between (34 ∷ l)) e ∙ ap₂ (λ o l. token (string_token o) ∷ l) (content-escape s r) (lex-escape s r)

-- what follows a token decides how the rest is divided
behind : (t : Token) (r s : List ℕ) → IsPrintable t → (ends t ≡ true → ends_word r ≡ true) → (ends t ≡ true → ends_word s ≡ true) → Alike r s
    → Alike (token_text t ++ r) (token_text t ++ s)
unfolding lex word
behind begin_object r s h er es same = ap (λ l. token begin_object ∷ l) same
behind end_object r s h er es same = ap (λ l. token end_object ∷ l) same
behind begin_array r s h er es same = ap (λ l. token begin_array ∷ l) same
behind end_array r s h er es same = ap (λ l. token end_array ∷ l) same
behind (key k) r s h er es same =
    let one = λ (l : List ℕ). ap (lex between) (append_assoc (quoted k) (58 ∷ []) l) ∙ lex-quoted k (58 ∷ l) in
    one r ∙ ap (λ l. token (string k) ∷ colon ∷ l) same ∙ sym (one s)
behind (string k) r s h er es same = lex-quoted k r ∙ ap (λ l. token (string k) ∷ l) same ∙ sym (lex-quoted k s)
behind (number k) r s h er es same = lex-number k r h (er refl) ∙ ap (λ l. token (number k) ∷ l) same ∙ sym (lex-number k s h (es refl))
behind (boolean true) r s h er es same =
    let one = λ (l : List ℕ) (e : ends_word l ≡ true). ap₂ (λ b m. token (cond b (boolean true) bad) ∷ m) e (in_word-ended l e) in
    one r (er refl) ∙ ap (λ l. token (boolean true) ∷ l) same ∙ sym (one s (es refl))
behind (boolean false) r s h er es same =
    let one = λ (l : List ℕ) (e : ends_word l ≡ true). ap₂ (λ b m. token (cond b (boolean false) bad) ∷ m) e (in_word-ended l e) in
    one r (er refl) ∙ ap (λ l. token (boolean false) ∷ l) same ∙ sym (one s (es refl))
behind null r s h er es same =
    let one = λ (l : List ℕ) (e : ends_word l ≡ true). ap₂ (λ b m. token (cond b null bad) ∷ m) e (in_word-ended l e) in
    one r (er refl) ∙ ap (λ l. token null ∷ l) same ∙ sym (one s (es refl))
behind bad r s h er es same = absurd h

separated : (b : Bool) (r s : List ℕ) → Alike r s → Alike (cond b (44 ∷ []) [] ++ r) (cond b (44 ∷ []) [] ++ s)
unfolding lex
separated true r s same = ap (λ l. comma ∷ l) same
separated false r s same = same

-- behind a value stands a comma, a closing bracket, or the end
value_ends : (ts : List Token) → ends_word (print_from true ts) ≡ true
unfolding print_from
value_ends [] = refl
value_ends (begin_object ∷ ts) = refl
value_ends (end_object ∷ ts) = refl
value_ends (begin_array ∷ ts) = refl
value_ends (end_array ∷ ts) = refl
value_ends (key s ∷ ts) = refl
value_ends (string s ∷ ts) = refl
value_ends (number s ∷ ts) = refl
value_ends (boolean b ∷ ts) = refl
value_ends (null ∷ ts) = refl
value_ends (bad ∷ ts) = refl

-- and likewise where a line feed follows
value_ends_line : (ts : List Token) → ends_word (ended (print_from true ts)) ≡ true
unfolding print_from
value_ends_line [] = refl
value_ends_line (begin_object ∷ ts) = refl
value_ends_line (end_object ∷ ts) = refl
value_ends_line (begin_array ∷ ts) = refl
value_ends_line (end_array ∷ ts) = refl
value_ends_line (key s ∷ ts) = refl
value_ends_line (string s ∷ ts) = refl
value_ends_line (number s ∷ ts) = refl
value_ends_line (boolean b ∷ ts) = refl
value_ends_line (null ∷ ts) = refl
value_ends_line (bad ∷ ts) = refl

lex-ended : (c : Bool) (ts : List Token) → ArePrintable ts → Alike (ended (print_from c ts)) (print_from c ts)
unfolding lex print_from ArePrintable
lex-ended c [] h = refl
lex-ended c (t ∷ ts) h =
    let rest = print_from (ends t) ts in
    let after : Alike (token_text t ++ ended rest) (token_text t ++ rest) =
    behind t (ended rest) rest h.0 (λ e. ap (λ b. ends_word (ended (print_from b ts))) e ∙ value_ends_line ts)
    (λ e. ap (λ b. ends_word (print_from b ts)) e ∙ value_ends ts) (lex-ended (ends t) ts h.1) in
    ap (lex between) (append_assoc (separator c t) (token_text t ++ rest) (10 ∷ []) ∙ ap (λ l. separator c t ++ l) (append_assoc (token_text t) rest (10 ∷ [])))
    ∙ separated (c && begins t) _ _ after

-- the tokens of what was printed, with a line feed behind it
pub tokens-ended : (ts : List Token) → ArePrintable ts → tokens (ended (print ts)) ≡ ts
tokens-ended ts h = ap (punctuate fresh) (lex-ended false ts h) ∙ tokens-print ts h
