-- Macros that are made of a parameter text and a body.
use Rattle.std.proofs.Common.{◌≡◌, ◌≤◌, ℕ, Bool, List, [], ◌∷◌, ◌++◌, map, length, Option, Some, None, refl, sym, ap, ap₂, ◌∙◌, subst, arith}
use Rattle.std.specs.Option.{option_map, option_to_list}
use Rattle.std.proofs.lemmas.List.{map-append}
use Rattle.std.proofs.lemmas.List.Elements.{All-push}
use Rattle.texml_token.specs.declared.tokens.Token.{Token as TokenCode}
use Rattle.texml_token.specs.declared.pieces.PieceOf.{PieceOf}
use Rattle.texml_token.specs.declared.pieces.PieceOf.TheVariants.{Just, Slot}
use Rattle.texml_token.specs.Pieces.{slots_in}
use Rattle.texml_token.specs.Numbers.{Table, Extends, token_at, tokens_at, TokenWithin, OptionWithin, PieceWithin, BodyTokenWithin, BodyWithin}
use Rattle.texml_token.proofs.Translation.{token_kept, pieces_kept, token_more, body_token}
use Rattle.texml_scope.specs.Values.{Macro as MacroBy, map_macro}
use Rattle.texml_scope.specs.Numbers.{name_text, MacroWithin}
use Rattle.texml_assign.specs.Parameters.{Head, head, head_at}
use Rattle.texml_assign.specs.TextFeeding.{HeadWithin}
use Rattle.texml_assign.specs.Define.{macro_of}

-- a parameter text stays as the table grows
brace_kept : (old new : Table) → Extends old new → (b : Option TokenCode) → OptionWithin (TokenWithin (length old)) b → option_map (token_at new) b ≡ option_map (token_at old) b
brace_kept old new g None w = refl
brace_kept old new g (Some t) w = ap Some (token_kept old new g t w)

pub head_stays : (old new : Table) (before : ℕ) → Extends old new → (h : Head TokenCode) → HeadWithin (length old) before h → head_at new h ≡ head_at old h
head_stays old new before g h w = ap₂ (λ ps b. head h.slots ps b) (pieces_kept old new g h.pieces w.pieces) (brace_kept old new g h.brace w.brace)

piece_more : (m n : ℕ) → m ≤ n → (p : PieceOf TokenCode) → PieceWithin m p → PieceWithin n p
piece_more m n le (Just t) w = (token_more m n le t w.0, w.1)
piece_more m n le (Slot k) w = tt

brace_more : (m n : ℕ) → m ≤ n → (b : Option TokenCode) → OptionWithin (TokenWithin m) b → OptionWithin (TokenWithin n) b
brace_more m n le None w = tt
brace_more m n le (Some t) w = token_more m n le t w

pub head_more : (m n before : ℕ) → m ≤ n → (h : Head TokenCode) → HeadWithin m before h → HeadWithin n before h
head_more m n before le h w = record {
  pieces = λ k d lt. piece_more m n le _ (w.pieces k d lt);
  numbered = w.numbered;
  slots = w.slots;
  few = w.few;
  brace = brace_more m n le h.brace w.brace;
}

-- what a macro of the code stands for
brace_at : (texts : Table) (b : Option TokenCode) → map (token_at texts) (option_to_list b) ≡ option_to_list (option_map (token_at texts) b)
brace_at texts None = refl
brace_at texts (Some t) = refl

pub macro_at : (texts : Table) (long : Bool) (h : Head TokenCode) (body : List TokenCode) (made : MacroBy TokenCode) → made ≡ macro_of long h body
    → map_macro (name_text texts) (token_at texts) made ≡ macro_of long (head_at texts h) (tokens_at texts body)
macro_at texts long h body made e =
    ap (map_macro (name_text texts) (token_at texts)) e
    ∙ ap (λ l. record (macro_of long (head_at texts h) (tokens_at texts body)) { body = l }) (map-append (token_at texts) body (option_to_list h.brace) ∙ ap (λ l. tokens_at texts body ++ l) (brace_at texts h.brace))

-- and its names are given
with_brace : (count slots : ℕ) (body : List TokenCode) (b : Option TokenCode) → BodyWithin count slots body → OptionWithin (TokenWithin count) b → BodyWithin count slots (body ++ option_to_list b)
with_brace count slots body None w v = subst (BodyWithin count slots) (sym (all body)) w
  where
    all : {X : Type 0} (l : List X) → l ++ [] ≡ l
    all [] = refl
    all (x ∷ l) = ap (λ r. x ∷ r) (all l)
with_brace count slots body (Some t) w v = All-push (BodyTokenWithin count slots) body t w (body_token count slots t v)

pub macro_within : (count : ℕ) (long : Bool) (h : Head TokenCode) (body : List TokenCode) → HeadWithin count 0 h → BodyWithin count h.slots body → MacroWithin count (macro_of long h body)
macro_within count long h body w v =
    let same : slots_in h.pieces ≡ h.slots = (let s = w.slots in omega arith) in
    record {
      params = record { default = tt; pieces = w.pieces; shape = record { numbered = w.numbered; few = (let f = w.few in omega (arith, same)); default = tt } };
      body = subst (λ n. BodyWithin count n (body ++ option_to_list h.brace)) (sym same) (with_brace count h.slots body h.brace v w.brace);
    }
