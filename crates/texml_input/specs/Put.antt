-- The body of a macro with its arguments put in (The TeXbook, chapter 20).
use Rattle.std.specs.Prelude.{ℕ, zero, suc, List, [], ◌∷◌, ◌++◌, drop, Option, Some, None, slice_index_or}
use Rattle.texml_token.specs.Token.{Token, Param}
use Rattle.texml_token.specs.declared.tokens.Token.{Token as TokenCode}
use Rattle.texml_token.specs.declared.tokens.Token.TheVariants as tokens

-- the argument of a number, from 1 on
abbrev pub argument : {T : Type 0} → List (List T) → ℕ → List T
argument args zero = []
argument args (suc n) = slice_index_or args n []

-- what stands for a token: the argument of its number where it is the place of one, and else itself
abbrev pub replaced : {T : Type 0} → List (List T) → T → Option ℕ → List T
replaced args t (Some n) = argument args n
replaced args t None = t ∷ []

-- the body with each place of a parameter replaced by its argument, by what places are
abbrev pub put_by : {T : Type 0} → (T → Option ℕ) → List (List T) → List T → List T
put_by slot args [] = []
put_by slot args (t ∷ body) = replaced args t (slot t) ++ put_by slot args body

abbrev pub slot_of : Token → Option ℕ
slot_of (Param n) = Some n
slot_of t = None

abbrev pub put : List (List Token) → List Token → List Token
put = put_by slot_of

-- of the code's tokens
abbrev pub code_slot : TokenCode → Option ℕ
code_slot (tokens.Param n) = Some n
code_slot t = None

abbrev pub put_code : List (List TokenCode) → List TokenCode → List TokenCode
put_code = put_by code_slot

-- what is left of an argument that is being read, by its number, and of the body behind it
abbrev pub left_of : List (List TokenCode) → List TokenCode → ℕ → ℕ → ℕ → List TokenCode
left_of args body at slot read = drop read (argument args slot) ++ put_code args (drop at body)
