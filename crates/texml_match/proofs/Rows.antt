-- The definitions computed on small lists.
use Rattle.std.proofs.Common.{◌≡◌, ◌∷◌, [], ◌++◌, ℕ, Bool, true, false, List, Some, None, Option, map, refl, codes}
use Rattle.texml_token.specs.Token.{Token, Char, Named, paragraph}
use Rattle.texml_token.specs.declared.pieces.PieceOf.{PieceOf}
use Rattle.texml_token.specs.declared.pieces.PieceOf.TheVariants.{Just, Slot}
use Rattle.texml_token.specs.declared.category.TheConstants.{BEGIN_GROUP, END_GROUP, SPACE, LETTER}
use Rattle.texml_match.specs.declared.arg_match.MatchFault.TheVariants.{Mismatch, RunawayPar, ExtraBrace}
use Rattle.texml_match.specs.Groups.{inside}
use Rattle.texml_match.specs.Reading.{Read, Wants, Gives, Fails}
use Rattle.texml_match.specs.Shape.{Shape, shape_of, shape_from}
use Rattle.texml_match.specs.Arguments.{reading}

abbrev pub letter : ℕ → Token
letter c = Char c LETTER

abbrev pub a : Token
a = letter 97

abbrev pub b : Token
b = letter 98

abbrev pub begin : Token
begin = Char 123 BEGIN_GROUP

abbrev pub end : Token
end = Char 125 END_GROUP

abbrev pub space : Token
space = Char 32 SPACE

-- what a macro that isn't long reads with this parameter text
abbrev pub reads : List (PieceOf Token) → List Token → Read (List (List Token))
reads pieces = reading (shape_from false pieces)

-- #1ab: a partial match doesn't begin afresh
pub shortest : reads (Slot 1 ∷ Just a ∷ Just b ∷ []) (a ∷ a ∷ b ∷ a ∷ []) ≡ Gives ((a ∷ []) ∷ []) (a ∷ [])
shortest = refl

pub partial : reads (Slot 1 ∷ Just a ∷ Just b ∷ []) (a ∷ a ∷ []) ≡ Wants
partial = refl

-- #1#2 of ` {a}b`
pub two_arguments : reads (Slot 1 ∷ Slot 2 ∷ []) (space ∷ begin ∷ a ∷ end ∷ b ∷ []) ≡ Gives ((a ∷ []) ∷ (b ∷ []) ∷ []) []
two_arguments = refl

-- #1a of `{b}a` and of `{b}{b}a`: exactly one group loses its braces
pub one_group : reads (Slot 1 ∷ Just a ∷ []) (begin ∷ b ∷ end ∷ a ∷ []) ≡ Gives ((b ∷ []) ∷ []) []
one_group = refl

pub two_groups : reads (Slot 1 ∷ Just a ∷ []) (begin ∷ b ∷ end ∷ begin ∷ b ∷ end ∷ a ∷ []) ≡ Gives ((begin ∷ b ∷ end ∷ begin ∷ b ∷ end ∷ []) ∷ []) []
two_groups = refl

-- a delimiter in a group is none
pub inner_delimiter : reads (Slot 1 ∷ Just a ∷ []) (begin ∷ a ∷ end ∷ b ∷ a ∷ []) ≡ Gives ((begin ∷ a ∷ end ∷ b ∷ []) ∷ []) []
inner_delimiter = refl

-- #1#{: up to the next group, which stays
pub up_to_group : reads (Slot 1 ∷ Just begin ∷ []) (a ∷ begin ∷ []) ≡ Gives ((a ∷ []) ∷ []) []
up_to_group = refl

pub other_prefix : reads (Just a ∷ Slot 1 ∷ []) (b ∷ []) ≡ Fails Mismatch
other_prefix = refl

pub unbegun_group : reads (Slot 1 ∷ []) (end ∷ []) ≡ Fails ExtraBrace
unbegun_group = refl

pub runaway : reads (Slot 1 ∷ []) (begin ∷ paragraph ∷ []) ≡ Fails RunawayPar
runaway = refl

pub long : reading (shape_from true (Slot 1 ∷ [])) (paragraph ∷ []) ≡ Gives ((paragraph ∷ []) ∷ []) []
long = refl

-- #1\par: the delimiter lets it stand
pub delimited_by_par : reads (Slot 1 ∷ Just paragraph ∷ []) (begin ∷ paragraph ∷ end ∷ paragraph ∷ []) ≡ Gives ((paragraph ∷ []) ∷ []) []
delimited_by_par = refl

-- where the first argument has a default, it was read before
pub default_before : shape_of {T = Token} false (record { default = Some []; pieces = Slot 1 ∷ Slot 2 ∷ [] }) ≡ record { prefix = []; delimiters = [] ∷ []; long = false }
default_before = refl
