-- What is seen of a mouth, and what its answers say.
use Rattle.std.specs.Prelude.{◌≡◌, ℕ, [], Option, Some, None, Result, Ok, Err}
use Rattle.std.specs.Char.{IsScalar}
use Rattle.texml_token.specs.Token.{Token, Named}
use Rattle.texml_token.specs.Numbers.{Table, with_text, token_at, TokenWithin}
use Rattle.texml_token.specs.declared.tokens.Token.{Token as TokenCode}
use Rattle.texml_mouth.specs.declared.MouthFault.{MouthFault}
use Rattle.texml_mouth.specs.declared.MouthFault.TheVariants.{Invalid, NoMemory}
use Rattle.texml_mouth.specs.Mouth.{Spot, Bite, Gives, Dry, Bad}

-- where it is, and the fault that it answers from now on
pub record Seen : Type 0 where
  pub spot : Spot
  pub fault : Option MouthFault

-- a character that may not stand there is a character
abbrev pub IsFault : MouthFault → Type 0
IsFault (Invalid c) = IsScalar c
IsFault NoMemory = Unit {0}

-- an answer with its token as the definitions see it
abbrev pub answer_at : Table → Result (Option TokenCode) MouthFault → Result (Option Token) MouthFault
answer_at texts (Ok (Some t)) = Ok (Some (token_at texts t))
answer_at texts (Ok None) = Ok None
answer_at texts (Err e) = Err e

-- the line gives a name
abbrev pub GivesName : Bite → Type 0
GivesName (Gives (Named text) spot) = Unit {0}
GivesName b = ⊥

-- what an answer says of what the line gives; the spot is the one behind it. Only a name takes memory
abbrev pub Bitten : Bite → Result (Option Token) MouthFault → Spot → Type 0
Bitten b (Ok (Some t)) spot = b ≡ Gives t spot
Bitten b (Ok None) spot = (b ≡ Dry) × (spot.tail ≡ [])
Bitten b (Err (Invalid c)) spot = b ≡ Bad c
Bitten b (Err NoMemory) spot = GivesName b

-- the table of names behind an answer: a name that was given is in it
abbrev pub table_behind : Table → Result (Option Token) MouthFault → Table
table_behind texts (Ok (Some (Named text))) = with_text texts text
table_behind texts answer = texts

-- so many names give the token of an answer
abbrev pub AnswerWithin : ℕ → Result (Option TokenCode) MouthFault → Type 0
AnswerWithin count (Ok (Some t)) = TokenWithin count t
AnswerWithin count (Ok None) = Unit {0}
AnswerWithin count (Err e) = IsFault e

-- the fault that is kept after an answer
abbrev pub fault_after : {A : Type 0} → Result A MouthFault → Option MouthFault
fault_after (Ok v) = None
fault_after (Err e) = Some e
