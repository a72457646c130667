-- Bodies of macros with their arguments.
use Rattle.std.proofs.Common.{◌≡◌, ℕ, zero, suc, List, [], ◌∷◌, ◌++◌, map, refl, ap₂, ◌∙◌, None}
use Rattle.std.specs.List.{All}
use Rattle.std.proofs.lemmas.List.{map-append}
use Rattle.std.proofs.lemmas.List.Elements.{All-nil, All-cons, All-head, All-tail, All-append}
use Rattle.texml_token.specs.Numbers.{Table, token_at, tokens_at, name_at, TokenWithin, TokensWithin, BodyTokenWithin, BodyWithin}
use Rattle.texml_token.specs.declared.tokens.Token.{Token as TokenCode}
use Rattle.texml_token.specs.declared.tokens.Token.TheVariants as tokens
use Rattle.texml_input.specs.Put.{argument, replaced, slot_of, put, code_slot, put_code}

-- the arguments of the code stand for those of the definitions
argument_at : (texts : Table) (args : List (List TokenCode)) (n : ℕ) → tokens_at texts (argument args n) ≡ argument (map (tokens_at texts) args) n
argument_at texts args zero = refl
argument_at texts [] (suc n) = refl
argument_at texts (a ∷ args) (suc zero) = refl
argument_at texts (a ∷ args) (suc (suc n)) = argument_at texts args (suc n)

named_slot : (texts : Table) (n : ℕ) → slot_of (name_at texts n) ≡ None
named_slot texts zero = refl
named_slot texts (suc n) = refl

replaced_at : (texts : Table) (args : List (List TokenCode)) (t : TokenCode) → tokens_at texts (replaced args t (code_slot t)) ≡ replaced (map (tokens_at texts) args) (token_at texts t) (slot_of (token_at texts t))
replaced_at texts args (tokens.Char c k) = refl
replaced_at texts args (tokens.Active c) = refl
replaced_at texts args (tokens.Param n) = argument_at texts args n
replaced_at texts args (tokens.Named n) = rw (named_slot texts n.0) refl

-- so do bodies with their arguments
pub put_at : (texts : Table) (args : List (List TokenCode)) (body : List TokenCode) → tokens_at texts (put_code args body) ≡ put (map (tokens_at texts) args) (tokens_at texts body)
put_at texts args [] = refl
put_at texts args (t ∷ body) =
    map-append (token_at texts) (replaced args t (code_slot t)) (put_code args body)
    ∙ ap₂ (λ a b. a ++ b) (replaced_at texts args t) (put_at texts args body)

-- names that give a body and its arguments give what is put
argument_within : (count : ℕ) (args : List (List TokenCode)) (n : ℕ) → All (TokensWithin count) args → TokensWithin count (argument args n)
argument_within count args zero h = All-nil (TokenWithin count)
argument_within count [] (suc n) h = All-nil (TokenWithin count)
argument_within count (a ∷ args) (suc zero) h = All-head (TokensWithin count) a args h
argument_within count (a ∷ args) (suc (suc n)) h = argument_within count args (suc n) (All-tail (TokensWithin count) a args h)

replaced_within : (count slots : ℕ) (args : List (List TokenCode)) (t : TokenCode) → All (TokensWithin count) args → BodyTokenWithin count slots t → TokensWithin count (replaced args t (code_slot t))
replaced_within count slots args (tokens.Char c k) h b = All-cons (TokenWithin count) (tokens.Char c k) [] b (All-nil (TokenWithin count))
replaced_within count slots args (tokens.Active c) h b = All-cons (TokenWithin count) (tokens.Active c) [] b (All-nil (TokenWithin count))
replaced_within count slots args (tokens.Param n) h b = argument_within count args n h
replaced_within count slots args (tokens.Named n) h b = All-cons (TokenWithin count) (tokens.Named n) [] b (All-nil (TokenWithin count))

pub put_within : (count slots : ℕ) (args : List (List TokenCode)) (body : List TokenCode) → All (TokensWithin count) args → BodyWithin count slots body → TokensWithin count (put_code args body)
put_within count slots args [] h b = All-nil (TokenWithin count)
put_within count slots args (t ∷ body) h b =
    All-append (TokenWithin count) (replaced args t (code_slot t)) (put_code args body)
    (replaced_within count slots args t h (All-head (BodyTokenWithin count slots) t body b))
    (put_within count slots args body h (All-tail (BodyTokenWithin count slots) t body b))
