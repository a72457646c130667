-- What is written of given tokens has characters alone.
use Rattle.std.proofs.Common.{rules, ◌≡◌, ◌+◌, ◌≤◌, ℕ, ℤ, pos, negsuc, zero, suc, Bool, true, false, cond, List, [], ◌∷◌, ◌++◌, length, refl, arith, nat_eq, nat_lt}
use Rattle.std.specs.List.{All, flat_map}
use Rattle.std.specs.Char.{IsScalar, is_ascii_alphabetic}
use Rattle.std.proofs.lemmas.Bool.{ltb-true}
use Rattle.std.proofs.lemmas.List.Elements.{All-nil, All-cons, All-head, All-tail, All-append, All-from_recursion}
use lib.Utf8.{scalar, low_scalar}
use Rattle.texml_token.specs.Token.{relax}
use Rattle.texml_token.specs.Spelling.{csname, endcsname, escape_codes, spelled_name, spelled, shown_code, name_end, shown_name, shown_token, shown}
use Rattle.texml_token.specs.Numbers.{Table, text_at, TextsAreScalar, name_at, token_at, tokens_at, TokenWithin, TokensWithin}
use Rattle.texml_token.specs.declared.tokens.Token.{Token as TokenCode}
use Rattle.texml_token.specs.declared.tokens.Token.TheVariants as tokens

one : (c : ℕ) → IsScalar c → All IsScalar (c ∷ [])
one c h = All-cons IsScalar c [] h (All-nil IsScalar)

relax_scalar : All IsScalar relax
relax_scalar = All-from_recursion IsScalar relax (search rules)

csname_scalar : All IsScalar csname
csname_scalar = All-from_recursion IsScalar csname (search rules)

endcsname_scalar : All IsScalar endcsname
endcsname_scalar = All-from_recursion IsScalar endcsname (search rules)

-- the text of a given name
pub text_scalar : (texts : Table) → TextsAreScalar texts → (n : ℕ) → n ≤ length texts → All IsScalar (text_at texts n)
text_scalar texts g zero h = relax_scalar
text_scalar texts g (suc k) h = g k [] (omega arith)

escape_scalar : (escape : ℤ) → All IsScalar (escape_codes escape)
escape_scalar (pos c) = by (scalar c) refl
  where
    by : (b : Bool) → scalar c ≡ b → All IsScalar (cond b (c ∷ []) [])
    by true e = one c e
    by false e = All-nil IsScalar
escape_scalar (negsuc c) = All-nil IsScalar

pub spelled_name_scalar : (escape : ℤ) (text : List ℕ) → All IsScalar text → All IsScalar (spelled_name escape text)
spelled_name_scalar escape [] h =
    All-append IsScalar (escape_codes escape ++ csname ++ escape_codes escape) endcsname
    (All-append IsScalar (escape_codes escape ++ csname) (escape_codes escape) (All-append IsScalar (escape_codes escape) csname (escape_scalar escape) csname_scalar) (escape_scalar escape))
    endcsname_scalar
spelled_name_scalar escape (c ∷ cs) h = All-append IsScalar (escape_codes escape) (c ∷ cs) (escape_scalar escape) h

shown_code_scalar : (c : ℕ) → IsScalar c → All IsScalar (shown_code c)
shown_code_scalar c h = by (nat_lt c 32) (nat_eq c 127) refl
  where
    carets : (d : ℕ) → IsScalar d → All IsScalar (94 ∷ 94 ∷ d ∷ [])
    carets d k = All-cons IsScalar 94 (94 ∷ d ∷ []) refl (All-cons IsScalar 94 (d ∷ []) refl (one d k))

    by : (low delete : Bool) → nat_lt c 32 ≡ low → All IsScalar (cond low (94 ∷ 94 ∷ (c + 64) ∷ []) (cond delete (94 ∷ 94 ∷ 63 ∷ []) (c ∷ [])))
    by true delete e = carets (c + 64) (low_scalar (c + 64) (omega (arith, ltb-true c 32 e)))
    by false true e = carets 63 refl
    by false false e = one c h

codes_scalar : (text : List ℕ) → All IsScalar text → All IsScalar (flat_map shown_code text)
codes_scalar [] h = All-nil IsScalar
codes_scalar (c ∷ cs) h = All-append IsScalar (shown_code c) (flat_map shown_code cs) (shown_code_scalar c (All-head IsScalar c cs h)) (codes_scalar cs (All-tail IsScalar c cs h))

name_end_scalar : (text : List ℕ) → All IsScalar (name_end text)
name_end_scalar [] = All-nil IsScalar
name_end_scalar (c ∷ []) = by (is_ascii_alphabetic c)
  where
    by : (b : Bool) → All IsScalar (cond b (32 ∷ []) [])
    by true = one 32 refl
    by false = All-nil IsScalar
name_end_scalar (c ∷ d ∷ cs) = one 32 refl

pub shown_name_scalar : (text : List ℕ) → All IsScalar text → All IsScalar (shown_name text)
shown_name_scalar text h = All-cons IsScalar 92 (flat_map shown_code text ++ name_end text) refl (All-append IsScalar (flat_map shown_code text) (name_end text) (codes_scalar text h) (name_end_scalar text))

module _ (texts : Table) (g : TextsAreScalar texts) where
  spelled_at : (escape : ℤ) (n : ℕ) → n ≤ length texts → All IsScalar (spelled escape (name_at texts n))
  spelled_at escape zero h = spelled_name_scalar escape relax relax_scalar
  spelled_at escape (suc k) h = spelled_name_scalar escape (text_at texts (suc k)) (text_scalar texts g (suc k) h)

  pub spelled_scalar : (escape : ℤ) (t : TokenCode) → TokenWithin (length texts) t → All IsScalar (spelled escape (token_at texts t))
  spelled_scalar escape (tokens.Char c category) h = one c h.0
  spelled_scalar escape (tokens.Active c) h = one c h
  spelled_scalar escape (tokens.Param n) h = absurd h
  spelled_scalar escape (tokens.Named name) h = spelled_at escape name.0 h

  shown_at : (n : ℕ) → n ≤ length texts → All IsScalar (shown_token (name_at texts n))
  shown_at zero h = shown_name_scalar relax relax_scalar
  shown_at (suc k) h = shown_name_scalar (text_at texts (suc k)) (text_scalar texts g (suc k) h)

  pub shown_token_scalar : (t : TokenCode) → TokenWithin (length texts) t → All IsScalar (shown_token (token_at texts t))
  shown_token_scalar (tokens.Char c category) h = shown_code_scalar c h.0
  shown_token_scalar (tokens.Active c) h = shown_code_scalar c h
  shown_token_scalar (tokens.Param n) h = absurd h
  shown_token_scalar (tokens.Named name) h = shown_at name.0 h

  pub shown_scalar : (ts : List TokenCode) → TokensWithin (length texts) ts → All IsScalar (shown (tokens_at texts ts))
  shown_scalar [] h = All-nil IsScalar
  shown_scalar (t ∷ ts) h = All-append IsScalar (shown_token (token_at texts t)) (shown (tokens_at texts ts)) (shown_token_scalar t (All-head (TokenWithin (length texts)) t ts h)) (shown_scalar ts (All-tail (TokenWithin (length texts)) t ts h))
