-- What the call of a macro gives, by numbers of names and by their texts.
use Rattle.std.proofs.Common.{◌≡◌, ◌≤◌, ◌-◌, ◌==◌, ◌&&◌, ℕ, zero, suc, Bool, true, false, List, [], ◌∷◌, ◌++◌, length, map, Option, None, Some, option_map, Ok, Err, refl, sym, ap, ap₂, ◌∙◌, subst, arith, inl, inr}
use Rattle.std.specs.List.{All}
use Rattle.std.specs.Option.{option_to_list, unwrap_or}
use Rattle.std.specs.Prelude.{slice_index_or}
use Rattle.std.proofs.lemmas.Bool.{cases_lt, eqb-true}
use Rattle.std.proofs.lemmas.List.{map-append, get_or_past, drop-map}
use Rattle.std.proofs.lemmas.List.Elements.{All-nil, All-cons, All-append, All-head, All-tail}
use Rattle.std.proofs.Math.ListN.{get_or-map}
use Rattle.texml_token.specs.Token.{Token}
use Rattle.texml_token.specs.declared.tokens.Token.{Token as TokenCode}
use Rattle.texml_token.specs.declared.tokens.Token.TheVariants as tokens
use Rattle.texml_token.specs.declared.pieces.PieceOf.{PieceOf}
use Rattle.texml_token.specs.declared.pieces.PieceOf.TheVariants.{Just, Slot}
use Rattle.texml_token.specs.Pieces.{Params, slots_in, DefaultFits}
use Rattle.texml_token.specs.Numbers.{Table, Extends, name_at, token_at, tokens_at, piece_at, pieces_at, params_at, TokenWithin, TokensWithin, BodyTokenWithin, BodyWithin, OptionWithin}
use Rattle.texml_token.proofs.Translation.{map_same, tokens_kept, body_kept, body_more, params_kept}
use Rattle.texml_scope.specs.Numbers.{MacroWithin}
use Rattle.texml_match.specs.Shape.{Shape, shape_at, shape_of, shape_from, leading, delimiters, pieces_left}
use Rattle.texml_match.specs.Arguments.{reading}
use Rattle.texml_expand.specs.declared.stop.Stop.{Stop}
use Rattle.texml_expand.specs.declared.stop.Stop.TheVariants as stop
use Rattle.texml_expand.specs.declared.feeding.Verdict.TheVariants.{Yields}
use Rattle.texml_expand.specs.State.{State, nothing, Done, Reading, after, chain, give}
use Rattle.texml_expand.specs.Arguments.{decided_by, read_by, optional, first_argument, macro_arguments, filled_token, filled, called}
use Rattle.texml_input.specs.Put.{argument, replaced, code_slot, put_code}
use Rattle.texml_expand.specs.Calls.{Puts}
use Rattle.texml_expand.specs.Expansion.{puts}
use Rattle.texml_expand.specs.Fronts.{MacroCode, macro_at}
use Rattle.texml_expand.specs.Contract.{Outside}
use Rattle.texml_expand.specs.Held.{Held}
use Rattle.texml_expand.specs.Doing.{Gets}
use Rattle.texml_expand.proofs.Least.{by_least_at}
use Rattle.texml_expand.proofs.Getting.{gets_then, gets_stop, gets_now, gets_out}

-- the argument of a number
argument_at : (args : List (List TokenCode)) (n : ℕ) → 1 ≤ n → argument args n ≡ slice_index_or args (n - 1) []
argument_at args zero h = absurd (omega (arith, h))
argument_at args (suc n) h = let e : n ≡ suc n - 1 = omega arith in ap (λ k. slice_index_or args k []) e

-- a body with arguments in their places
module _ (texts : Table) (args : List (List TokenCode)) (count slots : ℕ) where
  abbrev at : List (List Token)
  at = map (tokens_at texts) args

  named_at : (k : ℕ) → name_at texts k ∷ [] ≡ filled_token at (name_at texts k)
  named_at zero = refl
  named_at (suc k) = refl

  replaced_at : (t : TokenCode) → BodyTokenWithin count slots t → tokens_at texts (replaced args t (code_slot t)) ≡ filled_token at (token_at texts t)
  replaced_at (tokens.Char c category) w = refl
  replaced_at (tokens.Active c) w = refl
  replaced_at (tokens.Param n) w = ap (tokens_at texts) (argument_at args n w.0) ∙ sym (get_or-map (tokens_at texts) args (n - 1) [])
  replaced_at (tokens.Named name) w = named_at name.0

  pub put_at : (body : List TokenCode) → BodyWithin count slots body → tokens_at texts (put_code args body) ≡ filled at (tokens_at texts body)
  put_at [] w = refl
  put_at (t ∷ ts) w =
      map-append (token_at texts) (replaced args t (code_slot t)) (put_code args ts)
      ∙ ap₂ (λ xs ys. xs ++ ys) (replaced_at t (All-head (BodyTokenWithin count slots) t ts w)) (put_at ts (All-tail (BodyTokenWithin count slots) t ts w))

module _ (count slots : ℕ) (args : List (List TokenCode)) (h : All (TokensWithin count) args) where
  argument_within : (n : ℕ) → TokensWithin count (slice_index_or args n [])
  argument_within n = elim (cases_lt n (length args)) [
    | inl lt ↦ h n [] lt
    | inr le ↦ subst (TokensWithin count) (sym (get_or_past args n [] le)) (All-nil (TokenWithin count))
  ]

  replaced_within : (t : TokenCode) → BodyTokenWithin count slots t → TokensWithin count (replaced args t (code_slot t))
  replaced_within (tokens.Char c category) w = All-cons (TokenWithin count) (tokens.Char c category) [] w (All-nil (TokenWithin count))
  replaced_within (tokens.Active c) w = All-cons (TokenWithin count) (tokens.Active c) [] w (All-nil (TokenWithin count))
  replaced_within (tokens.Named name) w = All-cons (TokenWithin count) (tokens.Named name) [] w (All-nil (TokenWithin count))
  replaced_within (tokens.Param n) w = subst (TokensWithin count) (sym (argument_at args n w.0)) (argument_within (n - 1))

  pub put_within : (body : List TokenCode) → BodyWithin count slots body → TokensWithin count (put_code args body)
  put_within [] w = All-nil (TokenWithin count)
  put_within (t ∷ ts) w =
      All-append (TokenWithin count) (replaced args t (code_slot t)) (put_code args ts) (replaced_within t (All-head (BodyTokenWithin count slots) t ts w)) (put_within ts (All-tail (BodyTokenWithin count slots) t ts w))

-- a body without places stays as it is
plain_put : (count : ℕ) (body : List TokenCode) → BodyWithin count 0 body → put_code [] body ≡ body
plain_put count [] w = refl
plain_put count (t ∷ ts) w = ap₂ (λ xs ys. xs ++ ys) (plain_token t (All-head (BodyTokenWithin count 0) t ts w)) (plain_put count ts (All-tail (BodyTokenWithin count 0) t ts w))
  where
    plain_token : (t : TokenCode) → BodyTokenWithin count 0 t → replaced [] t (code_slot t) ≡ t ∷ []
    plain_token (tokens.Char c category) w = refl
    plain_token (tokens.Active c) w = refl
    plain_token (tokens.Named name) w = refl
    plain_token (tokens.Param n) w = let few = w.0 in let most = w.1 in absurd (omega (arith, few, most))

-- the call of a macro without parameters
no_arguments : (long : Bool) (s : State) → read_by (reading (shape_from {T = Token} long [])) s ≡ Done [] s nothing
no_arguments long s = by_least_at (λ list. decided_by (reading (shape_from {T = Token} long []) list)) s s [] nothing (Yields []) refl refl refl (λ j lt. absurd (omega (arith, lt)))

both_first : (a b : Bool) → (a && b) ≡ true → a ≡ true
both_first true b e = refl
both_first false b e = e

-- a shape that asks for nothing
pub nothing_read : (texts : Table) (p : List TokenCode) (ds : List (List TokenCode)) (long : Bool) (s : State) → (length p == 0 && length ds == 0) ≡ true → read_by (reading (shape_at texts (record { prefix = p; delimiters = ds; long = long }))) s ≡ Done [] s nothing
nothing_read texts [] [] long s e = no_arguments long s
nothing_read texts [] (d ∷ ds) long s e = let no = eqb-true (length (d ∷ ds)) 0 e in absurd (omega (arith, no))
nothing_read texts (t ∷ p) ds long s e = let no = eqb-true (length (t ∷ p)) 0 (both_first (length (t ∷ p) == 0) (length ds == 0) e) in absurd (omega (arith, no))

pub plain_called : (texts : Table) (count : ℕ) (m : MacroCode) (default : Option (List TokenCode)) (pieces : List (PieceOf TokenCode)) → default ≡ m.params.default → pieces ≡ m.params.pieces → pieces ≡ [] → DefaultFits default pieces
    → BodyWithin count (slots_in pieces) m.body → (s : State) → called (macro_at texts (record { long = m.long; params = record { default = default; pieces = pieces }; body = m.body })) s ≡ Done (tokens_at texts m.body) s nothing
plain_called texts count m None [] d p none fits w s =
    ap (λ a. chain a (λ args. give (filled args (tokens_at texts m.body)))) (ap (λ a. after nothing (chain a (λ rest. give ([] ++ rest)))) (no_arguments m.long s))
    ∙ ap (λ b. Done b s nothing) (sym (put_at texts [] count 0 m.body w) ∙ ap (tokens_at texts) (plain_put count m.body w))
plain_called texts count m (Some list) [] d p none fits w s = absurd fits
plain_called texts count m default (x ∷ xs) d p none fits w s = cc

-- a shape by texts
leading_at : (texts : Table) (ps : List (PieceOf TokenCode)) → leading (pieces_at texts ps) ≡ tokens_at texts (leading ps)
leading_at texts [] = refl
leading_at texts (Just t ∷ ps) = ap (λ l. token_at texts t ∷ l) (leading_at texts ps)
leading_at texts (Slot n ∷ ps) = refl

delimiters_at : (texts : Table) (ps : List (PieceOf TokenCode)) → delimiters (pieces_at texts ps) ≡ map (tokens_at texts) (delimiters ps)
delimiters_at texts [] = refl
delimiters_at texts (Just t ∷ ps) = delimiters_at texts ps
delimiters_at texts (Slot n ∷ ps) = ap₂ (λ d ds. d ∷ ds) (leading_at texts ps) (delimiters_at texts ps)

from_at : (texts : Table) (long : Bool) (ps : List (PieceOf TokenCode)) → shape_from long (pieces_at texts ps) ≡ shape_at texts (shape_from long ps)
from_at texts long ps = ap₂ (λ p ds. record { prefix = p; delimiters = ds; long = long }) (leading_at texts ps) (delimiters_at texts ps)

left_at : (texts : Table) (default : Option (List TokenCode)) (ps : List (PieceOf TokenCode)) → pieces_left (option_map (tokens_at texts) default) (pieces_at texts ps) ≡ pieces_at texts (pieces_left default ps)
left_at texts None ps = refl
left_at texts (Some list) ps = drop-map (piece_at texts) 1 ps

pub shape_of_at : (texts : Table) (long : Bool) (p : Params TokenCode) → shape_of long (params_at texts p) ≡ shape_at texts (shape_of long p)
shape_of_at texts long p = ap (shape_from long) (left_at texts p.default p.pieces) ∙ from_at texts long (pieces_left p.default p.pieces)

-- by a grown table the same
pub macro_kept : (old new : Table) → Extends old new → (m : MacroCode) → MacroWithin (length old) m → macro_at new m ≡ macro_at old m
macro_kept old new g m h = ap₂ (λ p b. record { long = m.long; params = p; body = b }) (params_kept old new g m.params h.params) (body_kept old new g _ m.body h.body)

pub lists_kept : (old new : Table) → Extends old new → (lists : List (List TokenCode)) → All (TokensWithin (length old)) lists → map (tokens_at new) lists ≡ map (tokens_at old) lists
lists_kept old new g lists h = map_same (tokens_at new) (tokens_at old) (TokensWithin (length old)) (tokens_kept old new g) lists h

pub empty_list : {A : Type 0} (xs : List A) → (length xs == 0) ≡ true → xs ≡ []
empty_list [] e = refl
empty_list (x ∷ xs) e = let no = eqb-true (length (x ∷ xs)) 0 e in absurd (omega (arith, no))

-- the first argument where nothing stands in brackets
pub default_done : (long : Bool) (old new : Held) → Extends old.names new.names → (default : Option (List TokenCode)) (d copy : List TokenCode) (f g : Outside) → default ≡ Some d → OptionWithin (TokensWithin (length old.names)) default
    → Gets (optional long) (Ok None) old new f g → copy ≡ d → Gets (first_argument long (option_map (tokens_at old.names) default)) (Ok (tokens_at new.names copy ∷ [])) old new f g
default_done long old new grows default d copy f g e w h same =
    let list = sym (tokens_kept old.names new.names grows d (subst (OptionWithin (TokensWithin (length old.names))) e w)) ∙ ap (tokens_at new.names) (sym same) in
    subst (λ o. Gets (first_argument long (option_map (tokens_at old.names) o)) (Ok (tokens_at new.names copy ∷ [])) old new f g) (sym e)
    (gets_then (optional long) (λ found. give (unwrap_or found (tokens_at old.names d) ∷ [])) None (Ok (tokens_at new.names copy ∷ [])) old new new f g g h
    (subst (λ (l : List Token). Gets (give (tokens_at old.names d ∷ [])) (Ok (l ∷ [])) new new g g) list (gets_now (tokens_at old.names d ∷ []) new g h.keeps.sound h.stops.kept h.holds.owns)))

-- all arguments
module _ (old mid : Held) (grows : Extends old.names mid.names) (m : MacroCode) (w : MacroWithin (length old.names) m) (shape : Shape TokenCode) (is : shape ≡ shape_of m.long m.params) (first : Option (List TokenCode)) (f g : Outside)
    (reads : Gets (first_argument m.long (option_map (tokens_at old.names) m.params.default)) (Ok (map (tokens_at mid.names) (option_to_list first))) old mid f g) where
  abbrev firsts : List (List Token)
  firsts = map (tokens_at mid.names) (option_to_list first)

  abbrev others_read : Reading (List (List Token))
  others_read = read_by (reading (shape_of m.long (params_at old.names m.params)))

  abbrev onward : List (List Token) → Reading (List (List Token))
  onward list u = chain (others_read u) (λ rest. give (list ++ rest))

  shape_same : shape_at mid.names shape ≡ shape_of m.long (params_at old.names m.params)
  shape_same = ap (shape_at mid.names) is ∙ sym (shape_of_at mid.names m.long m.params) ∙ ap (shape_of m.long) (params_kept old.names mid.names grows m.params w.params)

  pub arguments_stop : (e : Stop) (new : Held) (h : Outside) → Gets (read_by (reading (shape_at mid.names shape))) (Err e) mid new g h → Gets (macro_arguments (macro_at old.names m)) (Err e) old new f h
  arguments_stop e new h d =
      gets_then (first_argument m.long (option_map (tokens_at old.names) m.params.default)) onward firsts (Err e) old mid new f g h reads
      (gets_stop others_read (λ rest. give (firsts ++ rest)) e mid new g h (subst (λ sh. Gets (read_by (reading sh)) (Err e) mid new g h) shape_same d))

  pub arguments_out : (e : Stop) (new : Held) → e ≡ stop.NoMemory → new ≡ record mid { stop = Some stop.NoMemory } → Gets (macro_arguments (macro_at old.names m)) (Err e) old new f g
  arguments_out e new short is' =
      gets_then (first_argument m.long (option_map (tokens_at old.names) m.params.default)) onward firsts (Err e) old mid new f g g reads (gets_out (onward firsts) e mid new g short is' reads.holds.owns)

  firsts_kept : (new : Table) → Extends mid.names new → (o : Option (List TokenCode)) → OptionWithin (TokensWithin (length mid.names)) o → map (tokens_at new) (option_to_list o) ≡ map (tokens_at mid.names) (option_to_list o)
  firsts_kept new k None within = refl
  firsts_kept new k (Some list) within = ap (λ l. l ∷ []) (tokens_kept mid.names new k list within)

  pub arguments_done : (new : Held) (h : Outside) → OptionWithin (TokensWithin (length mid.names)) first → (others args : List (List TokenCode)) → Gets (read_by (reading (shape_at mid.names shape))) (Ok (map (tokens_at new.names) others)) mid new g h
      → args ≡ option_to_list first ++ others → Gets (macro_arguments (macro_at old.names m)) (Ok (map (tokens_at new.names) args)) old new f h
  arguments_done new h within others args d e =
      let same =
      ap (λ l. l ++ map (tokens_at new.names) others) (sym (firsts_kept new.names d.keeps.grows first within)) ∙ sym (map-append (tokens_at new.names) (option_to_list first) others)
      ∙ ap (map (tokens_at new.names)) (sym e) in
      gets_then (first_argument m.long (option_map (tokens_at old.names) m.params.default)) onward firsts (Ok (map (tokens_at new.names) args)) old mid new f g h reads
      (gets_then others_read (λ rest. give (firsts ++ rest)) (map (tokens_at new.names) others) (Ok (map (tokens_at new.names) args)) mid new new g h h
      (subst (λ sh. Gets (read_by (reading sh)) (Ok (map (tokens_at new.names) others)) mid new g h) shape_same d)
      (subst (λ l. Gets (give (firsts ++ map (tokens_at new.names) others)) (Ok l) new new h h) same (gets_now (firsts ++ map (tokens_at new.names) others) new h d.keeps.sound d.stops.kept d.holds.owns)))

-- and the body with them in their places
pub called_done : (old new : Held) → Extends old.names new.names → (m : MacroCode) → MacroWithin (length old.names) m → (args : List (List TokenCode)) (f g : Outside)
    → Gets (macro_arguments (macro_at old.names m)) (Ok (map (tokens_at new.names) args)) old new f g → Gets (called (macro_at old.names m)) (Ok (tokens_at new.names (put_code args m.body))) old new f g
called_done old new grows m w args f g d =
    let same =
    ap (filled (map (tokens_at new.names) args)) (sym (body_kept old.names new.names grows (slots_in m.params.pieces) m.body w.body))
    ∙ sym (put_at new.names args (length old.names) (slots_in m.params.pieces) m.body w.body) in
    gets_then (macro_arguments (macro_at old.names m)) (λ args. give (filled args (tokens_at old.names m.body))) (map (tokens_at new.names) args) (Ok (tokens_at new.names (put_code args m.body))) old new new f g g d
    (subst (λ l. Gets (give (filled (map (tokens_at new.names) args) (tokens_at old.names m.body))) (Ok l) new new g g) same
    (gets_now (filled (map (tokens_at new.names) args) (tokens_at old.names m.body)) new g d.keeps.sound d.stops.kept d.holds.owns))

pub called_stop : (old new : Held) (m : MacroCode) (e : Stop) (f g : Outside) → Gets (macro_arguments (macro_at old.names m)) (Err e) old new f g → Gets (called (macro_at old.names m)) (Err e) old new f g
called_stop old new m e f g d = gets_stop (macro_arguments (macro_at old.names m)) (λ args. give (filled args (tokens_at old.names m.body))) e old new f g d

pub called_within : (old new : Table) → Extends old new → (m : MacroCode) → MacroWithin (length old) m → (args : List (List TokenCode)) → All (TokensWithin (length new)) args → TokensWithin (length new) (put_code args m.body)
called_within old new g m w args h = put_within (length new) (slots_in m.params.pieces) args h m.body (body_more (length old) (length new) g.longer (slots_in m.params.pieces) m.body w.body)

-- what it gives goes back
pub puts_got : (q : Reading (List Token)) (list : List Token) (old new : Held) (f g : Outside) → Gets q (Ok list) old new f g → Gets (puts q) (Ok (Puts list)) old new f g
puts_got q list old new f g d = gets_then q (λ list. give (Puts list)) list (Ok (Puts list)) old new new f g g d (gets_now (Puts list) new g d.keeps.sound d.stops.kept d.holds.owns)

pub puts_stopped : (q : Reading (List Token)) (e : Stop) (old new : Held) (f g : Outside) → Gets q (Err e) old new f g → Gets (puts q) (Err e) old new f g
puts_stopped q e old new f g d = gets_stop q (λ list. give (Puts list)) e old new f g d
