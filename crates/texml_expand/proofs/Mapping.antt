-- A reading by the least number of next tokens, of which the value alone is changed.
use Rattle.std.proofs.Common.{◌≡◌, ◌+◌, ℕ, zero, suc, Bool, List, [], ◌∷◌, if◌then◌else◌, map, length, slice_index_or, Ok, Err, refl, sym, ap, ap₂, ◌∙◌, subst, arith}
use Rattle.std.proofs.lemmas.List.{length-map}
use Rattle.texml_base.specs.Outside.{Shelf}
use Rattle.texml_token.specs.Token.{Token}
use Rattle.texml_token.specs.Numbers.{Table, token_at, tokens_at}
use Rattle.texml_token.specs.declared.tokens.Token.{Token as TokenCode}
use Rattle.texml_match.specs.Shape.{Shape, shape_at}
use Rattle.texml_match.specs.Reading.{Read, Wants, Gives, Fails, behind, give as give_read, ◌>>=◌}
use Rattle.texml_match.specs.Arguments.{argument, arguments, reading}
use Rattle.texml_expand.specs.declared.stop.Stop.{Stop}
use Rattle.texml_expand.specs.declared.stop.Stop.TheVariants as stop
use Rattle.texml_expand.specs.declared.feeding.Verdict.{Verdict}
use Rattle.texml_expand.specs.declared.feeding.Verdict.TheVariants.{TooShort, Yields, Refuses}
use Rattle.texml_expand.specs.State.{State, Gains, End, Tex, Limit, room, nothing, loads, ◌⊕◌, Answer, Done, Ended, Unfinished, Reading, after, chain, added, give}
use Rattle.texml_expand.specs.Least.{next_tokens, least, decides, decided, is_enough, by_tokens, by_least}
use Rattle.texml_expand.specs.Arguments.{decided_by, read_by}
use Rattle.texml_expand.specs.Contract.{Quiet, Outside}
use Rattle.texml_expand.specs.Held.{Held, state_of, Shrinks}
use Rattle.texml_expand.specs.Doing.{Gets}
use Rattle.texml_expand.specs.Matched.{MatchedBy}
use Rattle.texml_expand.proofs.Lengths.{argument_fits, yields_fits}
use Rattle.texml_expand.proofs.Running.{shrinks_less, runs_as, runs_stop, gets_runs}
use Rattle.texml_expand.specs.Spending.{Spent}
use Rattle.texml_expand.proofs.Spending.{plus_nothing, spent_err, spent_ok}
use Rattle.texml_expand.proofs.Getting.{gets_by}

abbrev pub verdict_map : {A B : Type 0} → (A → B) → Verdict A → Verdict B
verdict_map f TooShort = TooShort
verdict_map f (Yields v) = Yields (f v)
verdict_map f (Refuses code) = Refuses code

least_same : (n : ℕ) (p q : ℕ → Bool) → ((k : ℕ) → p k ≡ q k) → least n p ≡ least n q
least_same zero p q h = refl
least_same (suc n) p q h = ap₂ (λ b k. if b then zero else suc k) (h zero) (least_same n (λ k. p (suc k)) (λ k. q (suc k)) (λ k. h (suc k)))

module _ {A B : Type 0} (f : A → B) (d : List Token → Verdict A) (e : List Token → Verdict B) (same : (list : List Token) → e list ≡ verdict_map f (d list)) where
  decides_map : (v : Verdict A) → decides (verdict_map f v) ≡ decides v
  decides_map TooShort = refl
  decides_map (Yields v) = refl
  decides_map (Refuses code) = refl

  enough_same : (a : Answer (List Token)) → is_enough e a ≡ is_enough d a
  enough_same (Done list t gains) = ap decides (same list) ∙ decides_map (d list)
  enough_same (Ended end gains) = refl
  enough_same (Unfinished gains) = refl

  decided_map : (v : Verdict A) (t : State) (gains : Gains) → after gains (decided (verdict_map f v) t) ≡ chain (after gains (decided v t)) (λ a. give (f a))
  decided_map TooShort t gains = refl
  decided_map (Yields v) t gains = ap (λ g. Done (f v) t g) (sym (plus_nothing (gains ⊕ nothing)))
  decided_map (Refuses code) t gains = refl

  tokens_map : (a : Answer (List Token)) → chain a (λ list. decided (e list)) ≡ chain (chain a (λ list. decided (d list))) (λ a. give (f a))
  tokens_map (Done list t gains) = ap (λ v. after gains (decided v t)) (same list) ∙ decided_map (d list) t gains
  tokens_map (Ended end gains) = refl
  tokens_map (Unfinished gains) = refl

  pub least_map : (s : State) → by_least e s ≡ chain (by_least d s) (λ a. give (f a))
  least_map s =
      ap (λ k. by_tokens e k s) (least_same (room s + 1) (λ k. is_enough e (next_tokens k s)) (λ k. is_enough d (next_tokens k s)) (λ k. enough_same (next_tokens k s)))
      ∙ tokens_map (next_tokens (least (room s + 1) (λ k. is_enough d (next_tokens k s))) s)

-- one argument is what the list of it alone has
abbrev pub one : List Token → List (List Token)
one a = a ∷ []

pub one_read : (long : Bool) (r : Read (List Token)) → decided_by (behind r (λ first. arguments long [] >>= (λ others. give_read (first ∷ others)))) ≡ verdict_map one (decided_by r)
one_read long Wants = refl
one_read long (Gives a left) = refl
one_read long (Fails f) = refl

pub reading_one : (long : Bool) (delimiter : List Token) (s : State)
    → read_by (reading (record { prefix = []; delimiters = delimiter ∷ []; long = long })) s ≡ chain (read_by (argument long delimiter) s) (λ a. give (one a))
reading_one long delimiter s =
    least_map one (λ list. decided_by (argument long delimiter list)) (λ list. decided_by (reading (record { prefix = []; delimiters = delimiter ∷ []; long = long }) list))
    (λ list. one_read long (argument long delimiter list)) s

-- and back
pub one_done : (x : Answer (List Token)) (v : List (List Token)) (t : State) (gains : Gains) → chain x (λ a. give (one a)) ≡ Done v t gains → (a : List Token) × (v ≡ one a) × (x ≡ Done a t gains)
one_done (Done a u more) v t gains e =
    let value : one a ≡ v = cc in
    let state : u ≡ t = cc in
    let same : more ⊕ nothing ≡ gains = cc in
    (a, sym value, ap₂ (λ s g. Done a s g) state (sym (plus_nothing more) ∙ same))
one_done (Ended end more) v t gains e = cc
one_done (Unfinished more) v t gains e = cc

one_ended : (x : Answer (List Token)) (end : End) (gains : Gains) → chain x (λ a. give (one a)) ≡ Ended end gains → x ≡ Ended end gains
one_ended (Done a u more) end gains e = cc
one_ended (Ended end' more) end gains e =
    let same : end' ≡ end = cc in
    let none : more ≡ gains = cc in
    ap₂ (λ x g. Ended x g) same none
one_ended (Unfinished more) end gains e = cc

pub one_stops : (x : Answer (List Token)) (e : Stop) (s t : State) → Quiet (chain x (λ a. give (one a))) (Err e) s → Quiet x (Err e) t
one_stops x (stop.Tex n) s t h = (h.0, one_ended x (Tex n) (loads h.0) h.1)
one_stops x (stop.Limit n) s t h = (h.0, one_ended x (Limit n) (loads h.0) h.1)
one_stops x stop.ReadFailed s t h = tt
one_stops x stop.TellFailed s t h = absurd h
one_stops x stop.NoMemory s t h = tt

added_one : (x : Answer (List Token)) → added (chain x (λ a. give (one a))) ≡ added x
added_one (Done a u gains) = plus_nothing gains
added_one (Ended end gains) = refl
added_one (Unfinished gains) = refl

one_yields : (v : Verdict (List Token)) (l : List (List Token)) → verdict_map one v ≡ Yields l → (a : List Token) × (v ≡ Yields a) × (l ≡ one a)
one_yields TooShort l e = cc
one_yields (Yields a) l e = (a, refl, cc)
one_yields (Refuses code) l e = cc

-- a shape of the code that asks for one argument
module _ (old : Held) (shape : Shape TokenCode) (long : Bool) (delimiter : List TokenCode) (is : shape ≡ record { prefix = []; delimiters = delimiter ∷ []; long = long }) where
  abbrev whole : Reading (List (List Token))
  whole = read_by (reading (shape_at old.names shape))

  abbrev alone : Reading (List Token)
  alone = read_by (argument long (tokens_at old.names delimiter))

  shape_one : (s : State) → whole s ≡ chain (alone s) (λ a. give (one a))
  shape_one s = ap (λ x. read_by (reading (shape_at old.names x)) s) is ∙ reading_one long (tokens_at old.names delimiter) s

  pub argument_stops : (e : Stop) (new : Held) (f g : Outside) → Gets whole (Err e) old new f g → Gets alone (Err e) old new f g
  argument_stops e new f g d =
      gets_by alone (Err e) old new f g
      (λ told. one_stops (alone (state_of f.shelf old)) e (state_of g.shelf new) (state_of g.shelf new) (subst (λ x. Quiet x (Err e) (state_of g.shelf new)) (shape_one (state_of f.shelf old)) (d.reads told)))
      (λ told little. subst (Spent (Err e) f.shelf g.shelf old.input.sources new.input.sources) (ap (λ (x : Answer (List (List Token))). added x) (shape_one (state_of f.shelf old)) ∙ added_one (alone (state_of f.shelf old)))
      (spent_err (List (List Token)) (List Token) e f.shelf g.shelf old.input.sources new.input.sources (added (whole (state_of f.shelf old))) (d.spends told little)))
      (runs_stop e old new f g (gets_runs whole (Err e) old new f g d))

  first_is : (new : Table) (args : List (List TokenCode)) (first : List TokenCode) (a : List Token) → first ≡ slice_index_or args 0 [] → map (tokens_at new) args ≡ one a → a ≡ tokens_at new first
  first_is new [] first a e h = cc
  first_is new (b ∷ bs) first a e h =
      let same : tokens_at new b ≡ a = cc in
      sym same ∙ ap (tokens_at new) (sym e)

  pub argument_done : (new : Held) (args : List (List TokenCode)) (first : List TokenCode) (f g : Outside) → Gets whole (Ok (map (tokens_at new.names) args)) old new f g → first ≡ slice_index_or args 0 [] → Gets alone (Ok (tokens_at new.names first)) old new f g
  argument_done new args first f g d e =
      gets_by alone (Ok (tokens_at new.names first)) old new f g
      (λ told.
      let q = d.reads told in
      let o = one_done (alone (state_of f.shelf old)) (map (tokens_at new.names) args) (state_of g.shelf new) (loads q.0) (sym (shape_one (state_of f.shelf old)) ∙ q.1) in
      (q.0, o.2 ∙ ap (λ a. Done a (state_of g.shelf new) (loads q.0)) (first_is new.names args first o.0 e o.1)))
      (λ told little. subst (Spent (Ok (tokens_at new.names first)) f.shelf g.shelf old.input.sources new.input.sources) (ap (λ (x : Answer (List (List Token))). added x) (shape_one (state_of f.shelf old)) ∙ added_one (alone (state_of f.shelf old)))
      (spent_ok (map (tokens_at new.names) args) (tokens_at new.names first) f.shelf g.shelf old.input.sources new.input.sources (added (whole (state_of f.shelf old))) (d.spends told little)))
      (runs_as (map (tokens_at new.names) args) (tokens_at new.names first) old new f g (gets_runs whole (Ok (map (tokens_at new.names) args)) old new f g d))

  -- the argument is no longer than what was read for it
  pub argument_shrinks : (new : Held) (args : List (List TokenCode)) (first : List TokenCode) (a b : Shelf) → MatchedBy shape args a old b new → first ≡ slice_index_or args 0 [] → Shrinks (length first) a old b new
  argument_shrinks new args first a b m e =
      let x = argument long (tokens_at old.names delimiter) m.list in
      let o = one_yields (decided_by x) (map (tokens_at new.names) args) (sym (one_read long x) ∙ ap (λ (s : Shape TokenCode). decided_by (reading (shape_at old.names s) m.list)) (sym is) ∙ m.is) in
      let le = yields_fits (length m.list) x o.0 (argument_fits long (tokens_at old.names delimiter) m.list) o.1 in
      let n = ap length (first_is new.names args first o.0 e o.2) ∙ length-map first (token_at new.names) in
      shrinks_less (length m.list) (length first) a b old new m.shrinks (omega (arith, le, n))
