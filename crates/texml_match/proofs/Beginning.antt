-- A reading that begins.
use Rattle.std.proofs.Common.{◌≡◌, ◌+◌, ◌≤◌, ◌<◌, ◌==◌, ◌&&◌, ◌||◌, ℕ, suc, Bool, true, false, nat_lt, List, [], ◌∷◌, length, drop, map, Option, None, Some, refl, ap, ◌∙◌, arith}
use Rattle.std.specs.List.{All}
use Rattle.std.proofs.lemmas.List.Elements.{All-nil, All-cons, All-head, All-tail, All-drop}
use Rattle.std.proofs.lemmas.Bool.Decides.{nat_tests}
use Rattle.texml_token.specs.Token.{Token}
use Rattle.texml_token.specs.declared.tokens.Token.{Token as TokenCode}
use Rattle.texml_token.specs.declared.pieces.PieceOf.{PieceOf}
use Rattle.texml_token.specs.declared.pieces.PieceOf.TheVariants.{Just, Slot}
use Rattle.texml_token.specs.Pieces.{Params, slots_in}
use Rattle.texml_token.specs.Numbers.{Table, Numbered, tokens_at, TokenWithin, TokensWithin, PieceWithin, ParamsWithin}
use Rattle.texml_match.specs.Reading.{Read, Wants, Gives, Fails, Reader, behind}
use Rattle.texml_match.specs.Shape.{Shape, ShapeWithin, shape_at, shape_of, is_empty, leading, delimiters, pieces_left}
use Rattle.texml_match.specs.Arguments.{exactly, arguments, reading}
use Rattle.texml_match.specs.Left.{nothing_matched, arguments_left, left, is_more, Reads}

all_left : (long : Bool) (ds : List (List Token)) (more : List Token) → arguments_left long ds [] [] more ≡ arguments long ds more
all_left long [] more = refl
all_left long (d ∷ ds) more = refl

behind_same : {A B : Type 0} (r : Read A) (f g : A → Reader B) → ((a : A) (list : List Token) → f a list ≡ g a list) → behind r f ≡ behind r g
behind_same Wants f g h = refl
behind_same (Gives a list) f g h = h a list
behind_same (Fails e) f g h = refl

pub begins : (texts : Table) (shape : Shape TokenCode) (more : List Token) → left texts shape nothing_matched more ≡ reading (shape_at texts shape) more
begins texts shape more = behind_same (exactly (tokens_at texts shape.prefix) more) (λ _. arguments_left shape.long (map (tokens_at texts) shape.delimiters) [] []) (λ _. arguments shape.long (map (tokens_at texts) shape.delimiters)) (λ _. all_left shape.long (map (tokens_at texts) shape.delimiters))

some_left : (m n : ℕ) → (m == 0 && n == 0) ≡ false → (nat_lt 0 m || nat_lt 0 n) ≡ true
some_left m n e = grind (arith, nat_tests, e)

pub begins_reads : (texts : Table) (shape : Shape TokenCode) → Numbered texts → ShapeWithin (length texts) shape → is_empty shape ≡ false → Reads texts shape nothing_matched
begins_reads texts shape g h e = record {
  stands = record {
    numbered = g;
    within = h;
    args = All-nil (TokensWithin (length texts));
    list = All-nil (TokenWithin (length texts));
    prefix = omega arith;
    before = λ lt. (refl, refl);
    few = omega arith;
    par = refl;
  };
  more = some_left (length shape.prefix) (length shape.delimiters) e;
}

-- the tokens of a parameter text
leading_within : (count : ℕ) (ps : List (PieceOf TokenCode)) → All (PieceWithin count) ps → TokensWithin count (leading ps)
leading_within count [] h = All-nil (TokenWithin count)
leading_within count (Just t ∷ ps) h = All-cons (TokenWithin count) t (leading ps) (All-head (PieceWithin count) (Just t) ps h).0 (leading_within count ps (All-tail (PieceWithin count) (Just t) ps h))
leading_within count (Slot n ∷ ps) h = All-nil (TokenWithin count)

delimiters_within : (count : ℕ) (ps : List (PieceOf TokenCode)) → All (PieceWithin count) ps → All (TokensWithin count) (delimiters ps)
delimiters_within count [] h = All-nil (TokensWithin count)
delimiters_within count (Just t ∷ ps) h = delimiters_within count ps (All-tail (PieceWithin count) (Just t) ps h)
delimiters_within count (Slot n ∷ ps) h =
    let rest = All-tail (PieceWithin count) (Slot n) ps h in
    All-cons (TokensWithin count) (leading ps) (delimiters ps) (leading_within count ps rest) (delimiters_within count ps rest)

one_each : (ps : List (PieceOf TokenCode)) → length (delimiters ps) ≡ slots_in ps
one_each [] = refl
one_each (Just t ∷ ps) = one_each ps
one_each (Slot n ∷ ps) = omega (arith, one_each ps)

fewer : (ps : List (PieceOf TokenCode)) → slots_in (drop 1 ps) ≤ slots_in ps
fewer [] = omega arith
fewer (Just t ∷ ps) = omega arith
fewer (Slot n ∷ ps) = omega arith

left_few : (o : Option (List TokenCode)) (ps : List (PieceOf TokenCode)) → slots_in (pieces_left o ps) ≤ slots_in ps
left_few None ps = omega arith
left_few (Some list) ps = fewer ps

left_within : (count : ℕ) (o : Option (List TokenCode)) (ps : List (PieceOf TokenCode)) → All (PieceWithin count) ps → All (PieceWithin count) (pieces_left o ps)
left_within count None ps h = h
left_within count (Some list) ps h = All-drop (PieceWithin count) 1 ps h

pub shape_within : (count : ℕ) (long : Bool) (p : Params TokenCode) → ParamsWithin count p → ShapeWithin count (shape_of long p)
shape_within count long p h =
    let ps = pieces_left p.default p.pieces in
    let pieces = left_within count p.default p.pieces h.pieces in
    record {
      prefix = leading_within count ps pieces;
      delimiters = delimiters_within count ps pieces;
      few = omega (arith, one_each ps, left_few p.default p.pieces, h.shape.few);
    }
