-- \expandafter, \csname and groups, step by step.
use Rattle.std.specs.Result.{IfOk, OnOk}
use Rattle.std.proofs.Common.{◌≡◌, ◌+◌, ◌-◌, ℕ, sym, Bool, true, false, if◌then◌else◌, List, [], ◌∷◌, ◌++◌, length, take, length-append, Result, Ok, Err, ap, ◌∙◌, subst, arith}
use Rattle.std.proofs.lemmas.List.{length-map, length-take-le}
use Rattle.texml_base.specs.Outside.{Shelf}
use Rattle.texml_token.specs.Numbers.{Table, token_at, tokens_at}
use Rattle.texml_token.specs.declared.tokens.Token.{Token as TokenCode}
use Rattle.texml_token.specs.declared.fault_code.TheConstants.{FILE_ENDED}
use Rattle.texml_scope.specs.Texts.{World}
use Rattle.texml_input.specs.declared.fault.Read.{Read}
use Rattle.texml_expand.specs.declared.feeding.Verdict.TheVariants.{TooShort, Yields, Refuses}
use Rattle.texml_expand.specs.declared.gathering.Gathering.{Gathering}
use Rattle.texml_expand.specs.Braces.{closes}
use Rattle.texml_expand.specs.Gathering.{judged}
use Rattle.texml_expand.specs.Fronts.{gathered_count, left_count, EndsGathering}
use Rattle.texml_token.specs.Token.{Token}
use Rattle.texml_watch.specs.declared.record.Record.{Record}
use Rattle.texml_input.specs.Next.{Taken}
use Rattle.texml_expand.specs.declared.stop.Stop.{Stop}
use Rattle.texml_expand.specs.declared.gathering.Gathering.TheVariants.{Name, Group, FileName, All}
use Rattle.texml_expand.specs.State.{give}
use Rattle.texml_expand.specs.Calls.{Expandable, Gift, Puts}
use Rattle.texml_expand.specs.Front.{Front, Plain, Expands, front}
use Rattle.texml_expand.specs.Expansion.{one_token, behind_first, expand_after}
use Rattle.texml_expand.specs.Names.{name_of, cs_name}
use Rattle.texml_expand.specs.Expand.{level}
use Rattle.texml_expand.specs.Contract.{Outside}
use Rattle.texml_input.specs.Held.{Source, IsAtFence}
use Rattle.texml_expand.specs.Held.{Held, read_at, Shrinks}
use Rattle.texml_expand.specs.Held.{Puts as PutsBack}
use Rattle.texml_expand.specs.Doing.{Does}
use Rattle.texml_expand.proofs.Lawful.{lawful_give, lawful_expand, lawful_gather}
use Rattle.texml_expand.proofs.Standing.{lawful_front}
use Rattle.texml_expand.proofs.Giving.{lawful_one_token, lawful_behind_first, second_behind, lawful_second_behind, lawful_name_of}
use Rattle.texml_expand.proofs.Running.{shrinks_then, shrinks_puts, shrinks_same}
use Rattle.texml_expand.proofs.Doing.{does_stop, does_then}

-- a group has as many tokens as were gathered before its end
group_by : (seen list : List Token) (t : Token) (crossed closed : Bool) → Yields list ≡ (if crossed then Refuses FILE_ENDED else if closed then Yields (take (length (seen ++ t ∷ []) - 1) (seen ++ t ∷ [])) else TooShort) → length list ≡ length seen
group_by seen list t true closed e = cc
group_by seen list t false true e =
    let is : list ≡ take (length (seen ++ t ∷ []) - 1) (seen ++ t ∷ []) = cc in
    let one = length-append seen (t ∷ []) in
    ap length is ∙ length-take-le (length (seen ++ t ∷ []) - 1) (seen ++ t ∷ []) (omega arith) ∙ (omega arith)
group_by seen list t false false e = cc

group_length : (w : World) (seen list : List Token) (t : Taken) → Yields list ≡ judged Group w seen t → length list ≡ length seen
group_length w seen list t e = group_by seen list t.token t.crossed (closes (seen ++ t.token ∷ [])) e

pub gathered_shrinks : (k : Gathering) (texts : Table) (w : World) (seen list : List TokenCode) (t : Read) (a b c : Shelf) (old now mid : Held) → Shrinks (length seen) a old b now → Shrinks 1 b now c mid
    → Yields (tokens_at texts list) ≡ judged k w (tokens_at texts seen) (read_at texts t) → Shrinks (gathered_count k list) a old c mid
gathered_shrinks Group texts w seen list t a b c old now mid i low is =
    let same = group_length w (tokens_at texts seen) (tokens_at texts list) (read_at texts t) is in
    shrinks_then (length seen) 1 (length list + 1) a b c old now mid i low (omega (arith, same, length-map seen (token_at texts), length-map list (token_at texts)))
gathered_shrinks k texts w seen list t a b c old now mid i low is = shrinks_then (length seen) 1 0 a b c old now mid i low (omega arith)

-- and with the token that may go back
pub gathered_left : (k : Gathering) (texts : Table) (w : World) (seen list : List TokenCode) (t : Read) (a b c : Shelf) (old now mid new : Held) → Shrinks (length seen) a old b now → Shrinks 1 b now c mid
    → Yields (tokens_at texts list) ≡ judged k w (tokens_at texts seen) (read_at texts t) → PutsBack (left_count k) mid new → Shrinks (gathered_count k list) a old c new
gathered_left Group texts w seen list t a b c old now mid new i low is p = shrinks_puts (length list + 1) 0 (length list + 1) a c old mid new (gathered_shrinks Group texts w seen list t a b c old now mid i low is) p (omega arith)
gathered_left FileName texts w seen list t a b c old now mid new i low is p = shrinks_puts 1 1 0 a c old mid new (shrinks_then (length seen) 1 1 a b c old now mid i low (omega arith)) p (omega arith)
gathered_left k texts w seen list t a b c old now mid new i low is p = shrinks_puts 0 0 0 a c old mid new (shrinks_then (length seen) 1 0 a b c old now mid i low (omega arith)) p (omega arith)

-- where all is gathered no token ends it
pub yields_ends : (k : Gathering) (w : World) (seen list : List Token) (t : Taken) (sources : List Source) → Yields list ≡ judged k w seen t → EndsGathering k sources
yields_ends All w seen list t sources e = cc
yields_ends k w seen list t sources e = tt

pub fence_ends : (k : Gathering) (sources : List Source) → IsAtFence sources → EndsGathering k sources
fence_ends All sources h = h
fence_ends k sources h = tt

-- at the end of the text
pub ended_shrinks : (k : Gathering) (r : Result (List TokenCode) Stop) (j : ℕ) (a b c : Shelf) (old now mid new : Held) → Shrinks j a old b now → Shrinks 0 b now c mid → OnOk r (new ≡ mid) → IfOk r (λ list. gathered_count k list ≡ 0)
    → IfOk r (λ list. Shrinks (gathered_count k list) a old c new)
ended_shrinks k (Ok list) j a b c old now mid new i low same none = subst (λ n. Shrinks n a old c new) (sym none) (shrinks_same 0 a c old mid new (shrinks_then j 0 0 a b c old now mid i low (omega arith)) same)
ended_shrinks k (Err e) j a b c old now mid new i low same none = tt

pub ended_ends : (k : Gathering) (r : Result (List TokenCode) Stop) (mid new : Held) → IsAtFence mid.input.sources → OnOk r (new ≡ mid) → OnOk r (EndsGathering k new.input.sources)
ended_ends k (Ok list) mid new h same = subst (λ (n : Held). EndsGathering k n.input.sources) (sym same) (fence_ends k mid.input.sources h)
ended_ends k (Err e) mid new h same = tt

module _ {T : Type 0} (hear part : T → Record → T → Type 0) where
  -- the first token can't be taken, or it is this one
  pub after_stops : (e : Stop) (old new : Held) (f g : Outside) (a b : T) → Does hear part (λ n. one_token) (Err e) old new f g a b → Does hear part (λ n. expand_after (level n)) (Err e) old new f g a b
  after_stops e old new f g a b d = does_stop hear part (λ c. one_token) second_behind lawful_one_token lawful_second_behind e old new f g a b d

  pub after_first : (t : Token) (r : Result Gift Stop) (old mid new : Held) (f g h : Outside) (a b c : T) → Does hear part (λ n. one_token) (Ok t) old mid f g a b → Does hear part (λ n. second_behind t (level n)) r mid new g h b c
      → Does hear part (λ n. expand_after (level n)) r old new f h a c
  after_first t r old mid new f g h a b c d e = does_then hear part (λ c. one_token) second_behind lawful_one_token lawful_second_behind t r old mid new f g h a b c d e

  -- so it is with the second
  pub second_stops : (t : Token) (e : Stop) (old new : Held) (f g : Outside) (a b : T) → Does hear part (λ n. front) (Err e) old new f g a b → Does hear part (λ n. second_behind t (level n)) (Err e) old new f g a b
  second_stops t e old new f g a b d = does_stop hear part (λ c. front) (λ x c. behind_first c t x) lawful_front (lawful_behind_first t) e old new f g a b d

  pub second_is : (t : Token) (x : Front) (r : Result Gift Stop) (old mid new : Held) (f g h : Outside) (a b c : T) → Does hear part (λ n. front) (Ok x) old mid f g a b → Does hear part (λ n. behind_first (level n) t x) r mid new g h b c
      → Does hear part (λ n. second_behind t (level n)) r old new f h a c
  second_is t x r old mid new f g h a b c d e = does_then hear part (λ c. front) (λ x c. behind_first c t x) lawful_front (lawful_behind_first t) x r old mid new f g h a b c d e

  -- it goes back as it stands
  pub behind_plain : (s t : Token) (x : Taken) (r : Result Gift Stop) (old new : Held) (f g : Outside) (a b : T) → s ≡ t → Does hear part (λ n. give (Puts (s ∷ x.token ∷ []))) r old new f g a b
      → Does hear part (λ n. behind_first (level n) t (Plain x)) r old new f g a b
  behind_plain s t x r old new f g a b e d = subst (λ y. Does hear part (λ n. give (Puts (y ∷ x.token ∷ []))) r old new f g a b) e d

  -- or it is expanded
  pub behind_stops : (t u : Token) (x : Expandable) (e : Stop) (old new : Held) (f g : Outside) (a b : T) → Does hear part (λ n. (level n).expand u x) (Err e) old new f g a b → Does hear part (λ n. behind_first (level n) t (Expands u x)) (Err e) old new f g a b
  behind_stops t u x e old new f g a b d = does_stop hear part (λ c. c.expand u x) (λ v c. give (Puts (t ∷ []))) (lawful_expand u x) (λ v. lawful_give (Puts (t ∷ []))) e old new f g a b d

  pub behind_expands : (s t u : Token) (x : Expandable) (r : Result Gift Stop) (old mid new : Held) (f g h : Outside) (a b c : T) → s ≡ t → Does hear part (λ n. (level n).expand u x) (Ok tt) old mid f g a b
      → Does hear part (λ n. give (Puts (s ∷ []))) r mid new g h b c → Does hear part (λ n. behind_first (level n) t (Expands u x)) r old new f h a c
  behind_expands s t u x r old mid new f g h a b c e d k =
      does_then hear part (λ c. c.expand u x) (λ v c. give (Puts (t ∷ []))) (lawful_expand u x) (λ v. lawful_give (Puts (t ∷ []))) tt r old mid new f g h a b c d
      (subst (λ y. Does hear part (λ n. give (Puts (y ∷ []))) r mid new g h b c) e k)

  -- no name is gathered, or one is
  pub name_stops : (e : Stop) (old new : Held) (f g : Outside) (a b : T) → Does hear part (λ n. (level n).gather Name []) (Err e) old new f g a b → Does hear part (λ n. cs_name (level n)) (Err e) old new f g a b
  name_stops e old new f g a b d = does_stop hear part (λ c. c.gather Name []) (λ list c. name_of list) (lawful_gather Name) lawful_name_of e old new f g a b d

  pub name_does : (list : List Token) (r : Result Gift Stop) (old mid new : Held) (f g h : Outside) (a b c : T) → Does hear part (λ n. (level n).gather Name []) (Ok list) old mid f g a b → Does hear part (λ n. name_of list) r mid new g h b c
      → Does hear part (λ n. cs_name (level n)) r old new f h a c
  name_does list r old mid new f g h a b c d e = does_then hear part (λ c. c.gather Name []) (λ list c. name_of list) (lawful_gather Name) lawful_name_of list r old mid new f g h a b c d e
