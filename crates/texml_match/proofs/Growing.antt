-- A reading whose table of texts grows meanwhile.
use Rattle.std.proofs.Common.{◌≡◌, List, [], length, map, drop, slice_index_or, refl, sym, ap, ap₂, ◌∙◌, subst, inl, inr}
use Rattle.std.specs.List.{All}
use Rattle.std.proofs.lemmas.Bool.{cases_lt}
use Rattle.std.proofs.lemmas.List.{get_or_past}
use Rattle.std.proofs.lemmas.List.Elements.{All-nil, All-drop}
use Rattle.texml_token.specs.Token.{Token}
use Rattle.texml_token.specs.declared.tokens.Token.{Token as TokenCode}
use Rattle.texml_token.specs.Numbers.{Table, Numbered, Extends, tokens_at, TokenWithin, TokensWithin}
use Rattle.texml_token.proofs.Translation.{map_same, tokens_kept, tokens_more}
use Rattle.texml_match.specs.Reading.{behind}
use Rattle.texml_match.specs.Shape.{Shape, ShapeWithin}
use Rattle.texml_match.specs.Arguments.{exactly}
use Rattle.texml_match.specs.Left.{Matched, arguments_left, left, next_delimiter, runs_away, Stands, Reads}

module _ (old new : Table) (g : Extends old new) (shape : Shape TokenCode) (m : Matched) (s : Stands old shape m) where
  lists_kept : (lists : List (List TokenCode)) → All (TokensWithin (length old)) lists → map (tokens_at new) lists ≡ map (tokens_at old) lists
  lists_kept lists h = map_same (tokens_at new) (tokens_at old) (TokensWithin (length old)) (tokens_kept old new g) lists h

  -- what is left stays the same
  pub left_kept : (more : List Token) → left new shape m more ≡ left old shape m more
  left_kept more =
      ap₂ (λ es list. behind (exactly es more) (λ _. arguments_left shape.long (map (tokens_at new) (drop (length m.args) shape.delimiters)) (map (tokens_at new) m.args) list))
      (tokens_kept old new g (drop m.prefix shape.prefix) (All-drop (TokenWithin (length old)) m.prefix shape.prefix s.within.prefix))
      (tokens_kept old new g m.list s.list) ∙
      ap₂ (λ ds args. behind (exactly (tokens_at old (drop m.prefix shape.prefix)) more) (λ _. arguments_left shape.long ds args (tokens_at old m.list)))
      (lists_kept (drop (length m.args) shape.delimiters) (All-drop (TokensWithin (length old)) (length m.args) shape.delimiters s.within.delimiters))
      (lists_kept m.args s.args)

  lists_more : (lists : List (List TokenCode)) → All (TokensWithin (length old)) lists → All (TokensWithin (length new)) lists
  lists_more lists h = λ k d lt. tokens_more (length old) (length new) g.longer _ (h k d lt)

  delimiter_within : TokensWithin (length old) (next_delimiter shape m)
  delimiter_within = elim (cases_lt (length m.args) (length shape.delimiters)) [
    | inl lt ↦ s.within.delimiters (length m.args) [] lt
    | inr le ↦ subst (TokensWithin (length old)) (sym (get_or_past shape.delimiters (length m.args) [] le)) (All-nil (TokenWithin (length old)))
  ]

  pub stands_kept : Numbered new → Stands new shape m
  stands_kept numbered = record {
    numbered = numbered;
    within = record {
      prefix = tokens_more (length old) (length new) g.longer shape.prefix s.within.prefix;
      delimiters = lists_more shape.delimiters s.within.delimiters;
      few = s.within.few;
    };
    args = lists_more m.args s.args;
    list = tokens_more (length old) (length new) g.longer m.list s.list;
    prefix = s.prefix;
    before = s.before;
    few = s.few;
    par = ap₂ (runs_away shape.long) (tokens_kept old new g (next_delimiter shape m) delimiter_within) (tokens_kept old new g m.list s.list) ∙ s.par;
  }

pub reads_kept : (old new : Table) → Extends old new → Numbered new → (shape : Shape TokenCode) (m : Matched) → Reads old shape m → Reads new shape m
reads_kept old new g numbered shape m r = record { stands = stands_kept old new g shape m r.stands numbered; more = r.more }
