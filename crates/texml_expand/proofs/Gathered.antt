-- Gathering tokens that are expanded as they come, step by step.
use Rattle.std.proofs.Common.{◌≡◌, ◌+◌, ℕ, Bool, true, false, List, [], ◌∷◌, ◌++◌, length, length-append, append-nil, None, Some, Result, Ok, Err, refl, sym, ap, ◌∙◌, subst, arith}
use Rattle.std.specs.Result.{OnOk}
use Rattle.std.proofs.lemmas.List.{map-append}
use Rattle.std.proofs.lemmas.List.Elements.{All-append, All-cons, All-nil}
use Rattle.texml_token.specs.Token.{Token}
use Rattle.texml_token.specs.Numbers.{Table, Extends, token_at, tokens_at, TokenWithin, TokensWithin}
use Rattle.texml_token.specs.declared.tokens.Token.{Token as TokenCode}
use Rattle.texml_token.proofs.Translation.{tokens_kept, tokens_more}
use Rattle.texml_watch.specs.declared.record.Record.{Record}
use Rattle.texml_input.specs.declared.fault.Read.{Read}
use Rattle.texml_expand.specs.declared.stop.Stop.{Stop}
use Rattle.texml_expand.specs.declared.stop.Stop.TheVariants as stop
use Rattle.texml_expand.specs.declared.feeding.Verdict.TheVariants.{TooShort, Yields, Refuses}
use Rattle.texml_expand.specs.declared.gathering.Gathering.{Gathering}
use Rattle.texml_expand.specs.Calls.{Expandable, Calls}
use Rattle.texml_expand.specs.State.{State, Answer, Done, Ended, Unfinished, Reading, give, change, chain, after}
use Rattle.texml_expand.specs.Least.{decided}
use Rattle.texml_expand.specs.Front.{Front, Nothing, Plain, Expands, front}
use Rattle.texml_expand.specs.Expand.{level}
use Rattle.texml_expand.specs.Fronts.{at_once}
use Rattle.texml_expand.specs.Gathering.{judged, at_end, left, copies, gather_on, gather_front, gather_expansion}
use Rattle.texml_expand.specs.Held.{Held, state_of, place_of, world_in, read_at, ok_at, Sound, Kept, Progress, IsAtLimit, Owns, SameFiles, Shrinks, Begun}
use Rattle.texml_expand.specs.Contract.{Local, Outside, IsFaultAt, stop_after}
use Rattle.texml_expand.specs.Doing.{Does}
use Rattle.texml_expand.proofs.Running.{limit_as, shrinks_none, shrinks_then, shrinks_begun}
use Rattle.texml_expand.proofs.Lawful.{Lawful, lawful_give, lawful_then, lawful_expand, lawful_gather, lawful_copy}
use Rattle.texml_expand.proofs.Total.{total, gather_is}
use Rattle.texml_expand.proofs.Groups.{pushed}
use Rattle.texml_expand.proofs.Spending.{plus_nothing}
use Rattle.texml_expand.proofs.Doing.{Did, does_of, did_of, did_as, did_then, did_stop, did_now, did_silent, did_fault, did_out, does_then, does_stop, does_now}

pub lawful_at_once : (t : Token) (e : Expandable) (b : Bool) → Lawful (λ c. at_once c t e b)
lawful_at_once t e true = lawful_copy t
lawful_at_once t e false = lawful_then (λ c. c.expand t e) (λ _ c. give []) (lawful_expand t e) (λ _. lawful_give [])

-- what an expansion gives at once is gathered
unit_then : (c : Calls) (k : Gathering) (seen : List Token) (x : Answer (Unit {0})) → chain x (λ _. c.gather k seen) ≡ chain (chain x (λ _. give [])) (λ list. c.gather k (seen ++ list))
unit_then c k seen (Done v s gains) =
    ap (λ l. after gains (c.gather k l s)) (sym (append-nil seen)) ∙ ap (λ g. after g (c.gather k (seen ++ []) s)) (sym (plus_nothing gains))
unit_then c k seen (Ended e gains) = refl
unit_then c k seen (Unfinished gains) = refl

pub expansion_parted : (c : Calls) (k : Gathering) (seen : List Token) (t : Token) (e : Expandable) (b : Bool) (s : State) → gather_expansion c k seen t e b s ≡ chain (at_once c t e b s) (λ list. c.gather k (seen ++ list))
expansion_parted c k seen t e true s = refl
expansion_parted c k seen t e false s = unit_then c k seen (c.expand t e s)

within_more : (old new : Table) → Extends old new → (list : List TokenCode) → TokensWithin (length old) list → TokensWithin (length new) list
within_more old new g list w = tokens_more (length old) (length new) g.longer list w

module _ {T : Type 0} (hear part : T → Record → T → Type 0) (k : Gathering) where
  abbrev Gather : List TokenCode → Result (List Token) Stop → Held → Held → Outside → Outside → T → T → Type 0
  Gather seen r now new g h b c = Did hear part (total.gather k (tokens_at now.names seen) (state_of g.shelf now)) r now new g h b c

  -- an engine that gathers, and the tokens that it has: what it does from now on is what the whole does
  pub record Gathers (old : Held) (f : Outside) (a : T) (seen : List TokenCode) (now : Held) (g : Outside) (b : T) : Type 0 where
    pub running : now.stop ≡ None
    pub sound : Sound now
    pub within : TokensWithin (length now.names) seen
    pub owns : Owns g.shelf now
    pub lower : Shrinks (length seen) f.shelf old g.shelf now
    pub on : (r : Result (List Token) Stop) (new : Held) (h : Outside) (c : T) → Gather seen r now new g h b c → Gather [] r old new f h a c

  pub gathers_none : (h : Held) (f : Outside) (a : T) → h.stop ≡ None → Sound h → Owns f.shelf h → Gathers h f a [] h f a
  gathers_none h f a running sound owns = record { running = running; sound = sound; within = All-nil (TokenWithin (length h.names)); owns = owns; lower = shrinks_none f.shelf h; on = λ r new g c d. d }

  gather_does : (r : Result (List Token) Stop) (old now new : Held) (f g h : Outside) (a b c : T) (seen : List TokenCode) → Gathers old f a seen now g b → Gather seen r now new g h b c → Does hear part (λ n. (level n).gather k []) r old new f h a c
  gather_does r old now new f g h a b c seen i d = does_of hear part (λ c. c.gather k []) (lawful_gather k) r old new f h a c (i.on r new h c d)

  -- by the front
  by_front : (x : Front) (r : Result (List Token) Stop) (now mid new : Held) (g m h : Outside) (b c : T) (seen : List TokenCode) → Did hear part (front (state_of g.shelf now)) (Ok x) now mid g m b b
      → Did hear part (gather_front total k (tokens_at now.names seen) x (state_of m.shelf mid)) r mid new m h b c → Gather seen r now new g h b c
  by_front x r now mid new g m h b c seen d e =
      did_as hear part _ _ r now new g h b c (gather_is k (tokens_at now.names seen) (state_of g.shelf now)) (did_then hear part (front (state_of g.shelf now)) (gather_front total k (tokens_at now.names seen)) x r now mid new g m h b b c d e)

  pub gather_stops : (e : Stop) (old now new : Held) (f g h : Outside) (a b : T) (seen : List TokenCode) → Gathers old f a seen now g b → Did hear part (front (state_of g.shelf now)) (Err e) now new g h b b → Does hear part (λ n. (level n).gather k []) (Err e) old new f h a b
  gather_stops e old now new f g h a b seen i d =
      gather_does (Err e) old now new f g h a b b seen i
      (did_as hear part _ _ (Err e) now new g h b b (gather_is k (tokens_at now.names seen) (state_of g.shelf now)) (did_stop hear part (front (state_of g.shelf now)) (gather_front total k (tokens_at now.names seen)) e now new g h b b d))

  -- whatever it is that stops behind the front
  pub gather_broken : (x : Front) (r : Result (List Token) Stop) (old now mid new : Held) (f g m h : Outside) (a b c : T) (seen : List TokenCode) → Gathers old f a seen now g b → Did hear part (front (state_of g.shelf now)) (Ok x) now mid g m b b
      → Did hear part (gather_front total k (tokens_at now.names seen) x (state_of m.shelf mid)) r mid new m h b c → Does hear part (λ n. (level n).gather k []) r old new f h a c
  gather_broken x r old now mid new f g m h a b c seen i d e = gather_does r old now new f g h a b c seen i (by_front x r now mid new g m h b c seen d e)

  -- what a call did that takes no files, whose value stands for another one
  did_at : {A B : Type 0} (at : A → B) (x : Reading B) (r : Result A Stop) (old new : Held) (f : Outside) (a : T) → Local x (ok_at at r) old new → new.stop ≡ stop_after r → IsAtLimit r new → OnOk r (Kept old new) → Progress old new → SameFiles old new → Owns f.shelf old
      → Did hear part (x (state_of f.shelf old)) (ok_at at r) old new f f a a
  did_at at x (Ok v) old new f a h kept limit keeps progress files owns = did_silent hear part (x (state_of f.shelf old)) (Ok (at v)) old new f a (h f.shelf) kept limit keeps progress files owns
  did_at {A = A} {B = B} at x (Err e) old new f a h kept limit keeps progress files owns = did_silent hear part (x (state_of f.shelf old)) (Err e) old new f a (h f.shelf) kept (limit_as A B e new limit) tt progress files owns

  -- at the end of the text
  pub gather_ends : (r : Result (List TokenCode) Stop) (old now mid new : Held) (f g m : Outside) (a b : T) (seen : List TokenCode) → Gathers old f a seen now g b → Did hear part (front (state_of g.shelf now)) (Ok Nothing) now mid g m b b
      → Local (decided (at_end k (tokens_at mid.names seen))) (ok_at (tokens_at new.names) r) mid new → new.stop ≡ stop_after r → IsAtLimit r new → OnOk r (Kept mid new) → Progress mid new → SameFiles mid new
      → Does hear part (λ n. (level n).gather k []) (ok_at (tokens_at new.names) r) old new f m a b
  gather_ends r old now mid new f g m a b seen i d local kept limit keeps progress files =
      gather_broken Nothing (ok_at (tokens_at new.names) r) old now mid new f g m m a b b seen i d
      (did_as hear part _ _ (ok_at (tokens_at new.names) r) mid new m m b b (ap (λ l. decided (at_end k l) (state_of m.shelf mid)) (sym (tokens_kept now.names mid.names d.keeps.grows seen i.within)))
      (did_at (tokens_at new.names) (decided (at_end k (tokens_at mid.names seen))) r mid new m b local kept limit keeps progress files d.holds.owns))

  -- a token by what it decides behind those that were gathered
  decides : (now mid : Held) (m : Outside) (seen : List TokenCode) (t : Read) → Extends now.names mid.names → TokensWithin (length now.names) seen
      → gather_front total k (tokens_at now.names seen) (Plain (read_at mid.names t)) (state_of m.shelf mid)
      ≡ gather_on total k (tokens_at mid.names seen) (token_at mid.names t.token) (judged k (world_in mid) (tokens_at mid.names seen) (read_at mid.names t)) (state_of m.shelf mid)
  decides now mid m seen t names within =
      ap (λ l. gather_on total k l (token_at mid.names t.token) (judged k (world_in mid) l (read_at mid.names t)) (state_of m.shelf mid)) (sym (tokens_kept now.names mid.names names seen within))

  -- what was gathered is complete, and the token behind it may go back
  gather_left : (list : List Token) (t : Read) (r : Result (List Token) Stop) (old now mid new : Held) (f g m : Outside) (a b : T) (seen : List TokenCode) → Gathers old f a seen now g b → Did hear part (front (state_of g.shelf now)) (Ok (Plain (read_at mid.names t))) now mid g m b b
      → Yields list ≡ judged k (world_in mid) (tokens_at mid.names seen) (read_at mid.names t)
      → Did hear part (chain (change (left k (token_at mid.names t.token)) (state_of m.shelf mid)) (λ _. give list)) r mid new m m b b → Does hear part (λ n. (level n).gather k []) r old new f m a b
  gather_left list t r old now mid new f g m a b seen i d is e =
      gather_broken (Plain (read_at mid.names t)) r old now mid new f g m m a b b seen i d
      (did_as hear part _ _ r mid new m m b b
      (decides now mid m seen t d.keeps.grows i.within ∙ ap (λ v. gather_on total k (tokens_at mid.names seen) (token_at mid.names t.token) v (state_of m.shelf mid)) (sym is)) e)

  pub gather_unleft : (e : Stop) (list : List Token) (t : Read) (old now mid new : Held) (f g m : Outside) (a b : T) (seen : List TokenCode) → Gathers old f a seen now g b → Did hear part (front (state_of g.shelf now)) (Ok (Plain (read_at mid.names t))) now mid g m b b
      → Yields list ≡ judged k (world_in mid) (tokens_at mid.names seen) (read_at mid.names t) → Local (change (left k (token_at mid.names t.token))) (Err e) mid new → new.stop ≡ Some e → IsAtLimit {A = Unit {0}} (Err e) new → Progress mid new → SameFiles mid new
      → Does hear part (λ n. (level n).gather k []) (Err e) old new f m a b
  gather_unleft e list t old now mid new f g m a b seen i d is local kept limit progress files =
      gather_left list t (Err e) old now mid new f g m a b seen i d is
      (did_stop hear part (change (left k (token_at mid.names t.token)) (state_of m.shelf mid)) (λ _. give list) e mid new m m b b
      (did_silent hear part (change (left k (token_at mid.names t.token)) (state_of m.shelf mid)) (Err e) mid new m b (local m.shelf) kept limit tt progress files d.holds.owns))

  pub gather_yields : (list : List TokenCode) (t : Read) (old now mid new : Held) (f g m : Outside) (a b : T) (seen : List TokenCode) → Gathers old f a seen now g b → Did hear part (front (state_of g.shelf now)) (Ok (Plain (read_at mid.names t))) now mid g m b b
      → Yields (tokens_at mid.names list) ≡ judged k (world_in mid) (tokens_at mid.names seen) (read_at mid.names t) → Local (change (left k (token_at mid.names t.token))) (Ok tt) mid new → new.stop ≡ None → Kept mid new → Progress mid new → SameFiles mid new
      → new.names ≡ mid.names → Does hear part (λ n. (level n).gather k []) (Ok (tokens_at new.names list)) old new f m a b
  gather_yields list t old now mid new f g m a b seen i d is local kept keeps progress files names =
      let s = state_of m.shelf mid in
      let x = token_at mid.names t.token in
      let e = did_silent hear part (change (left k x) s) (Ok tt) mid new m b (local m.shelf) kept tt keeps progress files d.holds.owns in
      let all = tokens_at mid.names list in
      let done = gather_left all t (Ok all) old now mid new f g m a b seen i d is
      (did_then hear part (change (left k x) s) (λ _. give all) tt (Ok all) mid new new m m m b b b e (did_now hear part all new m b keeps.sound kept e.holds.owns)) in
      subst (λ texts. Does hear part (λ n. (level n).gather k []) (Ok (tokens_at texts list)) old new f m a b) (sym names) done

  pub gather_refuses : (code : ℕ) (e : Stop) (t : Read) (old now mid new : Held) (f g m : Outside) (a b : T) (seen : List TokenCode) → Gathers old f a seen now g b
      → Did hear part (front (state_of g.shelf now)) (Ok (Plain (read_at mid.names t))) now mid g m b b → Refuses code ≡ judged k (world_in mid) (tokens_at mid.names seen) (read_at mid.names t) → IsFaultAt code [] (place_of mid) e → new ≡ record mid { stop = Some e }
      → Does hear part (λ n. (level n).gather k []) (Err e) old new f m a b
  gather_refuses code e t old now mid new f g m a b seen i d is fault e' =
      gather_broken (Plain (read_at mid.names t)) (Err e) old now mid new f g m m a b b seen i d
      (did_as hear part _ _ (Err e) mid new m m b b
      (decides now mid m seen t d.keeps.grows i.within ∙ ap (λ v. gather_on total k (tokens_at mid.names seen) (token_at mid.names t.token) v (state_of m.shelf mid)) (sym is))
      (did_fault hear part _ code [] e mid new m b refl fault e' d.holds.owns))

  -- one more token
  pub gathers_token : (t : Read) (old now mid : Held) (f g m : Outside) (a b : T) (seen : List TokenCode) → Gathers old f a seen now g b → Did hear part (front (state_of g.shelf now)) (Ok (Plain (read_at mid.names t))) now mid g m b b
      → Shrinks 1 g.shelf now m.shelf mid → TokenWithin (length mid.names) t.token → TooShort ≡ judged k (world_in mid) (tokens_at mid.names seen) (read_at mid.names t) → Gathers old f a (seen ++ t.token ∷ []) mid m b
  gathers_token t old now mid f g m a b seen i d low within is = record {
    running = d.stops.kept;
    sound = d.keeps.sound;
    within = All-append (TokenWithin (length mid.names)) seen (t.token ∷ []) (within_more now.names mid.names d.keeps.grows seen i.within) (All-cons (TokenWithin (length mid.names)) t.token [] within (All-nil (TokenWithin (length mid.names))));
    owns = d.holds.owns;
    lower = shrinks_then (length seen) 1 (length (seen ++ t.token ∷ [])) f.shelf g.shelf m.shelf old now mid i.lower low (omega (arith, length-append seen (t.token ∷ [])));
    on = λ r z h c y. i.on r z h c (by_front (Plain (read_at mid.names t)) r now mid z g m h b c seen d
        (did_as hear part _ _ r mid z m h b c
        (decides now mid m seen t d.keeps.grows i.within ∙ ap (λ v. gather_on total k (tokens_at mid.names seen) (token_at mid.names t.token) v (state_of m.shelf mid)) (sym is)
        ∙ ap (λ l. total.gather k l (state_of m.shelf mid)) (sym (pushed mid.names seen t.token))) y));
  }

  -- one more expansion
  gathers_behind : (t : Token) (x : Expandable) (list : List TokenCode) (r : Result (List Token) Stop) (now mid new z : Held) (m h q : Outside) (b c y : T) (seen : List TokenCode) → Extends now.names mid.names → TokensWithin (length now.names) seen
      → Does hear part (λ n. at_once (level n) t x (copies k x)) (Ok (tokens_at new.names list)) mid new m h b c → Gather (seen ++ list) r new z h q c y → Did hear part (gather_front total k (tokens_at now.names seen) (Expands t x) (state_of m.shelf mid)) r mid z m q b y
  gathers_behind t x list r now mid new z m h q b c y seen names within e u =
      let grown : tokens_at new.names (seen ++ list) ≡ tokens_at now.names seen ++ tokens_at new.names list =
      map-append (token_at new.names) seen list
      ∙ ap (λ l. l ++ tokens_at new.names list) (tokens_kept mid.names new.names e.keeps.grows seen (within_more now.names mid.names names seen within) ∙ tokens_kept now.names mid.names names seen within) in
      did_as hear part _ _ r mid z m q b y (expansion_parted total k (tokens_at now.names seen) t x (copies k x) (state_of m.shelf mid))
      (did_then hear part (at_once total t x (copies k x) (state_of m.shelf mid)) (λ l. total.gather k (tokens_at now.names seen ++ l)) (tokens_at new.names list) r mid new z m h q b c y
      (did_of hear part (λ c. at_once c t x (copies k x)) (lawful_at_once t x (copies k x)) (Ok (tokens_at new.names list)) mid new m h b c e)
      (did_as hear part _ _ r new z h q c y (ap (λ l. total.gather k l (state_of h.shelf new)) (sym grown)) u))

  pub gathers_expansion : (t : Token) (x : Expandable) (list : List TokenCode) (old now mid new : Held) (f g m h : Outside) (a b c : T) (seen : List TokenCode) → Gathers old f a seen now g b → Did hear part (front (state_of g.shelf now)) (Ok (Expands t x)) now mid g m b b
      → Shrinks 1 g.shelf now m.shelf mid → Does hear part (λ n. at_once (level n) t x (copies k x)) (Ok (tokens_at new.names list)) mid new m h b c → Begun mid new → TokensWithin (length new.names) list → Gathers old f a (seen ++ list) new h c
  gathers_expansion t x list old now mid new f g m h a b c seen i d low e begun within = record {
    running = e.stops.kept;
    sound = e.keeps.sound;
    within = All-append (TokenWithin (length new.names)) seen list (within_more mid.names new.names e.keeps.grows seen (within_more now.names mid.names d.keeps.grows seen i.within)) within;
    owns = e.holds.owns;
    lower = shrinks_begun (length seen + 1) (length (seen ++ list)) f.shelf m.shelf h.shelf old mid new (shrinks_then (length seen) 1 (length seen + 1) f.shelf g.shelf m.shelf old now mid i.lower low (omega arith)) begun;
    on = λ r z q y u. i.on r z q y (by_front (Expands t x) r now mid z g m q b y seen d (gathers_behind t x list r now mid new z m h q b c y seen d.keeps.grows i.within e u));
  }

  pub gather_unexpanded : (t : Token) (x : Expandable) (e : Stop) (old now mid new : Held) (f g m h : Outside) (a b c : T) (seen : List TokenCode) → Gathers old f a seen now g b → Did hear part (front (state_of g.shelf now)) (Ok (Expands t x)) now mid g m b b
      → Does hear part (λ n. at_once (level n) t x (copies k x)) (Err e) mid new m h b c → Does hear part (λ n. (level n).gather k []) (Err e) old new f h a c
  gather_unexpanded t x e old now mid new f g m h a b c seen i d u =
      gather_broken (Expands t x) (Err e) old now mid new f g m h a b c seen i d
      (did_as hear part _ _ (Err e) mid new m h b c (expansion_parted total k (tokens_at now.names seen) t x (copies k x) (state_of m.shelf mid))
      (did_stop hear part (at_once total t x (copies k x) (state_of m.shelf mid)) (λ l. total.gather k (tokens_at now.names seen ++ l)) e mid new m h b c
      (did_of hear part (λ c. at_once c t x (copies k x)) (lawful_at_once t x (copies k x)) (Err e) mid new m h b c u)))

  -- memory is short behind it
  pub gather_short : (t : Token) (x : Expandable) (list : List TokenCode) (e : Stop) (old now mid new z : Held) (f g m h : Outside) (a b c : T) (seen : List TokenCode) → Gathers old f a seen now g b → Did hear part (front (state_of g.shelf now)) (Ok (Expands t x)) now mid g m b b
      → Does hear part (λ n. at_once (level n) t x (copies k x)) (Ok (tokens_at new.names list)) mid new m h b c → e ≡ stop.NoMemory → z ≡ record new { stop = Some stop.NoMemory } → Does hear part (λ n. (level n).gather k []) (Err e) old z f h a c
  gather_short t x list e old now mid new z f g m h a b c seen i d u is kept =
      gather_broken (Expands t x) (Err e) old now mid z f g m h a b c seen i d
      (did_as hear part _ _ (Err e) mid z m h b c (expansion_parted total k (tokens_at now.names seen) t x (copies k x) (state_of m.shelf mid))
      (did_then hear part (at_once total t x (copies k x) (state_of m.shelf mid)) (λ l. total.gather k (tokens_at now.names seen ++ l)) (tokens_at new.names list) (Err e) mid new z m h h b c c
      (did_of hear part (λ c. at_once c t x (copies k x)) (lawful_at_once t x (copies k x)) (Ok (tokens_at new.names list)) mid new m h b c u) (did_out hear part _ e new z h c is kept u.holds.owns)))

module _ {T : Type 0} (hear part : T → Record → T → Type 0) where
  -- what an expansion gives at once: what \the does, or nothing
  pub once_copied : (t : Token) (x : Expandable) (b : Bool) (r : Result (List Token) Stop) (old new : Held) (f g : Outside) (a c : T) → b ≡ true → Does hear part (λ n. (level n).copy t) r old new f g a c → Does hear part (λ n. at_once (level n) t x b) r old new f g a c
  once_copied t x b r old new f g a c e d = subst (λ y. Does hear part (λ n. at_once (level n) t x y) r old new f g a c) (sym e) d

  pub once_stops : (t : Token) (x : Expandable) (b : Bool) (e : Stop) (old new : Held) (f g : Outside) (a c : T) → b ≡ false → Does hear part (λ n. (level n).expand t x) (Err e) old new f g a c → Does hear part (λ n. at_once (level n) t x b) (Err e) old new f g a c
  once_stops t x b e old new f g a c is d =
      subst (λ y. Does hear part (λ n. at_once (level n) t x y) (Err e) old new f g a c) (sym is) (does_stop hear part (λ c. c.expand t x) (λ _ c. give []) (lawful_expand t x) (λ _. lawful_give []) e old new f g a c d)

  pub once_expanded : (t : Token) (x : Expandable) (b : Bool) (old new : Held) (f g : Outside) (a c : T) → b ≡ false → Does hear part (λ n. (level n).expand t x) (Ok tt) old new f g a c → Does hear part (λ n. at_once (level n) t x b) (Ok []) old new f g a c
  once_expanded t x b old new f g a c is d =
      subst (λ y. Does hear part (λ n. at_once (level n) t x y) (Ok []) old new f g a c) (sym is)
      (does_then hear part (λ c. c.expand t x) (λ _ c. give []) (lawful_expand t x) (λ _. lawful_give []) tt (Ok []) old new new f g g a c c d (does_now hear part [] new g c d.keeps.sound d.stops.kept d.holds.owns))
