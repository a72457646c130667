-- New commands have one answer, and leave no more to be read.
use Rattle.std.proofs.Common.{◌≡◌, ◌≤◌, ◌<◌, ◌+◌, ℕ, zero, suc, Bool, true, false, not, if◌then◌else◌, List, [], ◌∷◌, ◌++◌, length, drop, get_or, Option, Some, None, refl, sym, ap, subst, ◌∙◌, arith}
use Rattle.std.specs.Option.{option_map, is_some, IfSome}
use Rattle.std.proofs.lemmas.List.{map-append, at_drop_more, drop_all}
use Rattle.std.specs.List.{All}
use Rattle.std.proofs.lemmas.List.Elements.{All-nil, All-push}
use Rattle.texml_token.specs.Token.{Token, has_category}
use Rattle.texml_token.specs.declared.category.TheConstants.{SPACE}
use Rattle.texml_token.specs.declared.tokens.Token.{Token as TokenCode}
use Rattle.texml_token.specs.declared.pieces.PieceOf.{PieceOf}
use Rattle.texml_token.specs.declared.pieces.PieceOf.TheVariants.{Just, Slot}
use Rattle.texml_token.specs.Pieces.{AreNumberedFrom, BeginsWithSlot, DefaultFits, slots_in}
use Rattle.texml_token.specs.Numbers.{Table, Extends, token_at, tokens_at, piece_at, pieces_at, TokensWithin, BodyWithin, OptionWithin, PieceWithin}
use Rattle.texml_token.proofs.Translation.{tokens_kept, tokens_more}
use Rattle.texml_scope.specs.Values.{Macro as MacroBy, map_macro}
use Rattle.texml_scope.specs.Numbers.{name_text, MacroWithin}
use Rattle.texml_expand.proofs.Least.{choose_yes, choose_no}
use Rattle.texml_token.specs.declared.fault_code.TheConstants.{UNDEFINED, NAME_TAKEN}
use Rattle.texml_scope.specs.Texts.{Key, Meaning}
use Rattle.texml_scope.specs.declared.values.MeaningOf.TheVariants.{Macro}
use Rattle.texml_input.specs.Next.{Taken}
use Rattle.texml_expand.specs.State.{State, room, Reading, chain, give, fail, change}
use Rattle.texml_expand.specs.Expand.{spelling}
use Rattle.texml_expand.specs.Arguments.{past_space, past_spaces, is_sign, no_sign, sign_or_back, sign, open_bracket, behind_bracket, read_argument, read_optional}
use Rattle.texml_expand.specs.Arguments.{is_space as is_space_there, behind_spaces as behind_spaces_there}
use Rattle.texml_expand.proofs.Calling.{sign_leads, sign_decided}
use Rattle.texml_expand.proofs.Leading.{lower_none, count}
use Rattle.texml_assign.specs.declared.table.Naming.{Naming}
use Rattle.texml_assign.specs.declared.table.Naming.TheVariants.{New, Renew, Provide}
use Rattle.texml_expand.specs.Take.{means}
use Rattle.texml_assign.specs.Operands.{key_of}
use Rattle.texml_assign.specs.Define.{body_said}
use Rattle.texml_assign.specs.NewCommand.{starred, only, without_spaces, only_token, is_undefined, is_free, defines, keep_if, defines_now, key_to_define, key_of_name, command_key, needed_number, only_digit, number_said, parameter_count, fitting, first_default, argument_body, numbered, command_of, command_macro, assign_some, new_command}
use Rattle.texml_assign.proofs.Readings.{IsUnlimited, unlimited_chain, Lawful, Plain, lawful_plain, lawful_then, plain_by, plain_give, plain_fail, plain_change, plain_if, plain_then}
use Rattle.texml_assign.proofs.Parts.{plain_take, plain_by_least, plain_key_of, plain_body_said, plain_assign}

-- What the engine reads

if_unlimited : {A : Type 0} (b : Bool) (x y : Reading A) (s : State) → IsUnlimited (x s) → IsUnlimited (y s) → IsUnlimited ((if b then x else y) s)
if_unlimited true x y s g h = g
if_unlimited false x y s g h = h

space_unlimited : (next : Reading (Option Taken)) → ((t : State) → IsUnlimited (next t)) → (o : Option Taken) (s : State) → IsUnlimited (past_space next o s)
space_unlimited next h None s = tt
space_unlimited next h (Some t) s = if_unlimited (is_space_there s.world t.token) next (give (Some t)) s (h s) tt

spaces_unlimited : (n : ℕ) (s : State) → IsUnlimited (past_spaces n s)
spaces_unlimited zero s = plain_take.unlimited s
spaces_unlimited (suc n) s = unlimited_chain _ (past_space (past_spaces n)) (plain_take.unlimited s) (λ o t. space_unlimited (past_spaces n) (spaces_unlimited n) o t)

back_unlimited : (code : ℕ) (o : Option Taken) (s : State) → IsUnlimited (sign_or_back code o s)
back_unlimited code None s = tt
back_unlimited code (Some t) s = if_unlimited (is_sign code t.token) (give true) (no_sign t) s tt tt

plain_sign : (code : ℕ) → Plain (sign code)
plain_sign code = record {
  decided = sign_decided code;
  falls = sign_leads code;
  unlimited = λ s. unlimited_chain (behind_spaces_there s) (sign_or_back code) (spaces_unlimited (room s) s) (λ o t. back_unlimited code o t);
}

pub plain_starred : Plain starred
plain_starred = plain_sign 42

plain_behind_bracket : (found : Bool) → Plain (behind_bracket true found)
plain_behind_bracket false = plain_give None
plain_behind_bracket true = plain_then _ (λ a. give (Some a)) (plain_by_least _) (λ a. plain_give _)

pub plain_optional : Plain read_optional
plain_optional = plain_then (sign open_bracket) (behind_bracket true) (plain_sign open_bracket) plain_behind_bracket

pub plain_argument : Plain read_argument
plain_argument = plain_by_least _

-- The name

plain_defines : (naming : Naming) (t : Token) (m : Meaning) → Plain (defines naming t m)
plain_defines New t m = plain_if (is_free m) (give true) (fail NAME_TAKEN (spelling t)) (plain_give true) (plain_fail _ _ _)
plain_defines Renew t m = plain_if (is_undefined m) (fail UNDEFINED (spelling t)) (give true) (plain_fail _ _ _) (plain_give true)
plain_defines Provide t m = plain_give _

pub plain_defines_now : (naming : Naming) (t : Token) → Plain (defines_now naming t)
plain_defines_now naming t = plain_by (λ s. means s.world t) (defines naming t) (plain_defines naming t)

pub plain_key_to_define : (naming : Naming) (t : Token) (k : Key) → Plain (key_to_define naming t k)
plain_key_to_define naming t k = plain_then (defines_now naming t) (λ b. give (keep_if k b)) (plain_defines_now naming t) (λ b. plain_give _)

abbrev pub name_said : Naming → List Token → Reading (Option Key)
name_said naming list = key_of_name naming (only_token list)

pub plain_key_of_name : (naming : Naming) (o : Option Token) → Plain (key_of_name naming o)
plain_key_of_name naming None = plain_fail _ _ _
plain_key_of_name naming (Some t) = plain_then (key_of t) (key_to_define naming t) (plain_key_of t) (plain_key_to_define naming t)

pub plain_name_said : (naming : Naming) (list : List Token) → Plain (name_said naming list)
plain_name_said naming list = plain_key_of_name naming (only_token list)

pub plain_command_key : (naming : Naming) → Plain (command_key naming)
plain_command_key naming = plain_then read_argument (name_said naming) plain_argument (plain_name_said naming)

-- The macro

plain_needed_number : (o : Option ℕ) → Plain (needed_number o)
plain_needed_number None = plain_fail _ _ _
plain_needed_number (Some n) = plain_give n

pub plain_number_said : (o : Option (List Token)) → Plain (number_said o)
plain_number_said None = plain_give 0
plain_number_said (Some list) = plain_needed_number (only_digit list)

pub plain_parameter_count : Plain parameter_count
plain_parameter_count = plain_then read_optional number_said plain_optional plain_number_said

pub plain_fitting : (slots : ℕ) (o : Option (List Token)) → Plain (fitting slots o)
plain_fitting zero None = plain_give _
plain_fitting zero (Some list) = plain_fail _ _ _
plain_fitting (suc n) o = plain_give _

pub plain_first_default : (slots : ℕ) → Plain (first_default slots)
plain_first_default slots = plain_then read_optional (fitting slots) plain_optional (plain_fitting slots)

pub plain_argument_body : (slots : ℕ) → Plain (argument_body slots)
plain_argument_body slots = plain_then read_argument (body_said slots) plain_argument (plain_body_said slots)

-- what follows a body, a default, and a number of parameters
abbrev pub body_read : Bool → ℕ → Option (List Token) → List Token → Reading Meaning
body_read long slots default body = give (Macro (command_of long slots default body))

abbrev pub default_read : Bool → ℕ → Option (List Token) → Reading Meaning
default_read long slots default s = chain (argument_body slots s) (body_read long slots default)

pub plain_default_read : (long : Bool) (slots : ℕ) (default : Option (List Token)) → Plain (default_read long slots default)
plain_default_read long slots default = plain_then (argument_body slots) (body_read long slots default) (plain_argument_body slots) (λ body. plain_give _)

abbrev pub slots_read : Bool → ℕ → Reading Meaning
slots_read long slots s = chain (first_default slots s) (default_read long slots)

pub plain_slots_read : (long : Bool) (slots : ℕ) → Plain (slots_read long slots)
plain_slots_read long slots = plain_then (first_default slots) (default_read long slots) (plain_first_default slots) (plain_default_read long slots)

pub plain_command_macro : (long : Bool) → Plain (command_macro long)
plain_command_macro long = plain_then parameter_count (slots_read long) plain_parameter_count (plain_slots_read long)

-- The command

pub plain_assign_some : (o : Option Key) (m : Meaning) → Plain (change (assign_some o m))
plain_assign_some None m = plain_change (assign_some None m) (λ s. lower_none s)
plain_assign_some (Some k) m = plain_assign false k m

abbrev pub macro_read : Option Key → Meaning → Reading (Unit {0})
macro_read k m = change (assign_some k m)

abbrev pub key_read : Bool → Option Key → Reading (Unit {0})
key_read star k s = chain (command_macro (not star) s) (macro_read k)

pub plain_key_read : (star : Bool) (k : Option Key) → Plain (key_read star k)
plain_key_read star k = plain_then (command_macro (not star)) (macro_read k) (plain_command_macro (not star)) (plain_assign_some k)

abbrev pub star_read : Naming → Bool → Reading (Unit {0})
star_read naming star s = chain (command_key naming s) (key_read star)

pub plain_star_read : (naming : Naming) (star : Bool) → Plain (star_read naming star)
plain_star_read naming star = plain_then (command_key naming) (key_read star) (plain_command_key naming) (plain_key_read star)

pub lawful_new_command : (naming : Naming) → Lawful (new_command naming)
lawful_new_command naming = lawful_then (λ n. starred) (λ star n. star_read naming star) (lawful_plain starred plain_starred) (λ star. lawful_plain (star_read naming star) (plain_star_read naming star))

-- Parameters one behind the other

slots_push : {T : Type 0} (ps : List (PieceOf T)) (n : ℕ) → slots_in (ps ++ Slot n ∷ []) ≡ slots_in ps + 1
slots_push [] n = refl
slots_push (Just t ∷ ps) n = slots_push ps n
slots_push (Slot m ∷ ps) n = let e = slots_push ps n in omega (arith, e)

pub slots_numbered : (T : Type 0) (n : ℕ) → slots_in (numbered {T = T} n) ≡ n
slots_numbered T zero = refl
slots_numbered T (suc n) = slots_push (numbered {T = T} n) (suc n) ∙ (let e = slots_numbered T n in omega (arith, e))

number_push : {T : Type 0} (before : ℕ) (ps : List (PieceOf T)) (n : ℕ) → AreNumberedFrom before ps → n ≡ before + slots_in ps → AreNumberedFrom before (ps ++ Slot n ∷ [])
number_push before [] n g e = (e ∙ omega arith, tt)
number_push before (Just t ∷ ps) n g e = number_push before ps n g e
number_push before (Slot m ∷ ps) n g e = (g.0, number_push (1 + before) ps n g.1 (omega (arith, e)))

pub numbered_from : (T : Type 0) (n : ℕ) → AreNumberedFrom 1 (numbered {T = T} n)
numbered_from T zero = tt
numbered_from T (suc n) = number_push 1 (numbered {T = T} n) (suc n) (numbered_from T n) (let e = slots_numbered T n in omega (arith, e))

pub numbered_within : (count n : ℕ) → All (PieceWithin count) (numbered {T = TokenCode} n)
numbered_within count zero = All-nil (PieceWithin count)
numbered_within count (suc n) = All-push (PieceWithin count) (numbered {T = TokenCode} n) (Slot (suc n)) (numbered_within count n) tt

begin_push : {T : Type 0} (ps : List (PieceOf T)) (p : PieceOf T) → BeginsWithSlot ps → BeginsWithSlot (ps ++ p ∷ [])
begin_push [] p h = absurd h
begin_push (Just t ∷ ps) p h = absurd h
begin_push (Slot m ∷ ps) p h = tt

pub numbered_begins : (T : Type 0) (n : ℕ) → 1 ≤ n → BeginsWithSlot (numbered {T = T} n)
numbered_begins T zero le = absurd (omega (arith, le))
numbered_begins T (suc zero) le = tt
numbered_begins T (suc (suc n)) le = begin_push (numbered {T = T} (suc n)) (Slot (suc (suc n))) (numbered_begins T (suc n) (omega arith))

-- The only token of a list

-- what is left of a list, perhaps behind a token
abbrev pub left_only : Option Token → List Token → Option Token
left_only None rest = only_token rest
left_only (Some t) rest = only (t ∷ without_spaces rest)

without_space : (t : Token) (ts : List Token) → has_category SPACE t ≡ true → without_spaces (t ∷ ts) ≡ without_spaces ts
without_space t ts e = choose_yes (has_category SPACE t) (without_spaces ts) (t ∷ without_spaces ts) e

with_token : (t : Token) (ts : List Token) → has_category SPACE t ≡ false → without_spaces (t ∷ ts) ≡ t ∷ without_spaces ts
with_token t ts e = choose_no (has_category SPACE t) (without_spaces ts) (t ∷ without_spaces ts) e

left_space : (o : Option Token) (t : Token) (ts : List Token) → has_category SPACE t ≡ true → left_only o (t ∷ ts) ≡ left_only o ts
left_space None t ts e = ap only (without_space t ts e)
left_space (Some u) t ts e = ap (λ l. only (u ∷ l)) (without_space t ts e)

-- the code's loop over a list
module _ (list : List TokenCode) (texts : Table) where
  abbrev only_at : Option TokenCode → ℕ → Option Token
  only_at o i = left_only (option_map (token_at texts) o) (tokens_at texts (drop i list))

  next_at : (o : Option TokenCode) (i : ℕ) (d : TokenCode) → i < length list → only_at o i ≡ left_only (option_map (token_at texts) o) (token_at texts (get_or list i d) ∷ tokens_at texts (drop (i + 1) list))
  next_at o i d lt = at_drop_more (λ l. left_only (option_map (token_at texts) o) (tokens_at texts l)) list i d lt

  pub only_space : (o new : Option TokenCode) (i : ℕ) (d : TokenCode) → i < length list → has_category SPACE (token_at texts (get_or list i d)) ≡ true → new ≡ o → only_token (tokens_at texts list) ≡ only_at o i
      → only_token (tokens_at texts list) ≡ only_at new (i + 1)
  only_space o new i d lt e is h =
      h ∙ next_at o i d lt ∙ left_space (option_map (token_at texts) o) (token_at texts (get_or list i d)) (tokens_at texts (drop (i + 1) list)) e ∙ ap (λ x. only_at x (i + 1)) (sym is)

  pub only_first : (o new : Option TokenCode) (i : ℕ) (d : TokenCode) → i < length list → has_category SPACE (token_at texts (get_or list i d)) ≡ false → is_some o ≡ false → new ≡ Some (get_or list i d)
      → only_token (tokens_at texts list) ≡ only_at o i → only_token (tokens_at texts list) ≡ only_at new (i + 1)
  only_first None new i d lt e none is h =
      h ∙ next_at None i d lt ∙ ap only (with_token (token_at texts (get_or list i d)) (tokens_at texts (drop (i + 1) list)) e) ∙ ap (λ x. only_at x (i + 1)) (sym is)
  only_first (Some u) new i d lt e none is h = cc

  pub only_second : (o : Option TokenCode) (i : ℕ) (d : TokenCode) → i < length list → has_category SPACE (token_at texts (get_or list i d)) ≡ false → is_some o ≡ true → only_token (tokens_at texts list) ≡ only_at o i
      → None ≡ only_token (tokens_at texts list)
  only_second None i d lt e some h = cc
  only_second (Some u) i d lt e some h =
      sym (h ∙ next_at (Some u) i d lt ∙ ap (λ l. only (token_at texts u ∷ l)) (with_token (token_at texts (get_or list i d)) (tokens_at texts (drop (i + 1) list)) e))

  only_last : (o : Option TokenCode) → left_only (option_map (token_at texts) o) [] ≡ option_map (token_at texts) o
  only_last None = refl
  only_last (Some u) = refl

  pub only_end : (o : Option TokenCode) (i : ℕ) → length list ≤ i → only_token (tokens_at texts list) ≡ only_at o i → option_map (token_at texts) o ≡ only_token (tokens_at texts list)
  only_end o i le h = sym (h ∙ ap (λ l. left_only (option_map (token_at texts) o) (tokens_at texts l)) (drop_all i list le) ∙ only_last o)

-- A macro of the code

pub command_at : (texts : Table) (long : Bool) (slots : ℕ) (default : Option (List TokenCode)) (body : List TokenCode) (made : MacroBy TokenCode) → made ≡ command_of long slots default body
    → map_macro (name_text texts) (token_at texts) made ≡ command_of long slots (option_map (tokens_at texts) default) (tokens_at texts body)
command_at texts long slots default body made e =
    ap (map_macro (name_text texts) (token_at texts)) e
    ∙ ap (λ ps. record (command_of long slots (option_map (tokens_at texts) default) (tokens_at texts body)) { params = record { default = option_map (tokens_at texts) default; pieces = ps } }) (pieces_numbered slots)
  where
    pieces_numbered : (n : ℕ) → pieces_at texts (numbered n) ≡ numbered n
    pieces_numbered zero = refl
    pieces_numbered (suc n) = map-append (piece_at texts) (numbered n) (Slot (suc n) ∷ []) ∙ ap (λ l. l ++ Slot (suc n) ∷ []) (pieces_numbered n)

default_fits : (slots : ℕ) (default : Option (List TokenCode)) → IfSome default (λ list. 1 ≤ slots) → DefaultFits default (numbered {T = TokenCode} slots)
default_fits slots None h = tt
default_fits slots (Some list) h = numbered_begins TokenCode slots h

pub command_within : (count : ℕ) (long : Bool) (slots : ℕ) (default : Option (List TokenCode)) (body : List TokenCode) → slots ≤ 9 → OptionWithin (TokensWithin count) default → IfSome default (λ list. 1 ≤ slots) → BodyWithin count slots body
    → MacroWithin count (command_of long slots default body)
command_within count long slots default body few w fits v = record {
  params = record {
    default = w;
    pieces = numbered_within count slots;
    shape = record { numbered = numbered_from TokenCode slots; few = (let e = slots_numbered TokenCode slots in omega (arith, e, few)); default = default_fits slots default fits };
  };
  body = subst (λ n. BodyWithin count n body) (sym (slots_numbered TokenCode slots)) v;
}

-- a default stays as the table grows
pub default_stays : (old new : Table) (default : Option (List TokenCode)) → Extends old new → OptionWithin (TokensWithin (length old)) default → option_map (tokens_at new) default ≡ option_map (tokens_at old) default
default_stays old new None g w = refl
default_stays old new (Some list) g w = ap Some (tokens_kept old new g list w)

pub default_more : (m n : ℕ) (default : Option (List TokenCode)) → m ≤ n → OptionWithin (TokensWithin m) default → OptionWithin (TokensWithin n) default
default_more m n None le w = tt
default_more m n (Some list) le w = tokens_more m n le list w
