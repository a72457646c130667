-- What is left of a body with its arguments.
use Rattle.std.proofs.Common.{◌≡◌, ℕ, ◌+◌, ◌<◌, ◌≤◌, List, [], ◌∷◌, ◌++◌, length, get_or, drop, sym, ap, ◌∙◌, None}
use Rattle.std.proofs.lemmas.List.{drop_more}
use Rattle.std.proofs.Math.ListN.{drop_of_length-le}
use Rattle.texml_token.specs.declared.tokens.Token.{Token as TokenCode}
use Rattle.texml_token.specs.declared.tokens.Token.TheVariants as tokens
use Rattle.texml_input.specs.Put.{argument, replaced, put_code, code_slot, left_of}

module _ (args : List (List TokenCode)) (body : List TokenCode) (at slot read : ℕ) where
  -- the argument has a token more
  pub argument_more : (t : TokenCode) → read < length (argument args slot) → t ≡ get_or (argument args slot) read t → left_of args body at slot read ≡ t ∷ left_of args body at slot (read + 1)
  argument_more t lt is =
      ap (λ l. l ++ put_code args (drop at body)) (drop_more (argument args slot) read t lt)
      ∙ ap (λ x. x ∷ left_of args body at slot (read + 1)) (sym is)

  module _ (done : length (argument args slot) ≤ read) where
    gone : drop read (argument args slot) ≡ []
    gone = drop_of_length-le (argument args slot) {i = read} done

    -- the argument was read, and the body
    pub all_read : length body ≤ at → left_of args body at slot read ≡ []
    all_read le = ap (λ l. l ++ put_code args (drop at body)) gone ∙ ap (put_code args) (drop_of_length-le body {i = at} le)

    body_more : (t : TokenCode) → at < length body → t ≡ get_or body at t → left_of args body at slot read ≡ replaced args t (code_slot t) ++ put_code args (drop (at + 1) body)
    body_more t lt is =
        ap (λ l. l ++ put_code args (drop at body)) gone
        ∙ ap (put_code args) (drop_more body at t lt ∙ ap (λ x. x ∷ drop (at + 1) body) (sym is))

    -- the body has the place of a parameter
    pub place_more : (n : ℕ) → at < length body → tokens.Param n ≡ get_or body at (tokens.Param n) → left_of args body at slot read ≡ left_of args body (at + 1) n 0
    place_more n lt is = body_more (tokens.Param n) lt is

    -- the body has another token
    pub token_more : (t : TokenCode) → at < length body → t ≡ get_or body at t → code_slot t ≡ None → left_of args body at slot read ≡ t ∷ left_of args body (at + 1) slot read
    token_more t lt is none =
        body_more t lt is ∙ ap (λ o. replaced args t o ++ put_code args (drop (at + 1) body)) none
        ∙ ap (λ l. t ∷ (l ++ put_code args (drop (at + 1) body))) (sym gone)

pub ruleset reading = (argument_more, all_read, place_more, token_more)
