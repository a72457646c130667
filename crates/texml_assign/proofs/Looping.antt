-- A loop over tokens is lawful where its parts are, and each token leaves less to be read.
use Rattle.std.proofs.Common.{◌≡◌, ◌-◌, ◌<◌, ◌≤◌, ℕ, zero, suc, List, Option, Some, None, Result, Ok, Err, refl, sym, arith, inl, inr, eq-or-lt_of_le}
use Rattle.texml_watch.specs.declared.record.Record.{Record}
use Rattle.texml_expand.specs.declared.stop.Stop.{Stop}
use Rattle.texml_expand.specs.declared.stop.Stop.TheVariants as stop
use Rattle.texml_expand.specs.State.{State, room, Reading, added, give}
use Rattle.texml_expand.specs.Contract.{Lower}
use Rattle.texml_expand.specs.Hearing.{Follows}
use Rattle.texml_expand.proofs.Readings.{Grows, grows_refl, chain_grows, Mono, Settles, settles_chain}
use Rattle.texml_expand.proofs.Leading.{Leads, leads_at, lower_none, lower_then, count}
use Rattle.texml_assign.specs.Loop.{Next, On, Over, LoopOver, looped, turned, loops}
use Rattle.texml_expand.specs.Expand.{ByDepth}
use Rattle.texml_base.specs.Outside.{Shelf}
use Rattle.texml_input.specs.Held.{Source, AreLittle}
use Rattle.texml_expand.specs.Held.{readers_of}
use Rattle.texml_expand.specs.Spending.{SpentBy}
use Rattle.texml_expand.proofs.Spending.{spent_little}
use Rattle.texml_assign.proofs.Readings.{Lawful, Sure, sure, spent_behind, spent_broken, spent_settled, Plain, chained, lawful_plain, plain_give, falls_then, follows_then, follows_stop, follows_silent, follows_out}

-- the parts of a loop are lawful, and the tokens that come lower what is left
pub record LawfulLoop {X S A : Type 0} (loop : LoopOver X S A) : Type 0 where
  pub source : Lawful loop.source
  pub lowers : (n : ℕ) (s : State) → Leads (λ o t. Lower (count o) s t) (loop.source n s)
  pub turn : (seen : S) (t : X) → Lawful (loop.turn seen t)
  pub end : (seen : S) → Plain (loop.end seen)

looped_grows : {S A : Type 0} (more more' : S → Reading A) → ((seen : S) (s : State) → Grows (more seen s) (more' seen s)) → (next : Next S A) (s : State) → Grows (looped more next s) (looped more' next s)
looped_grows more more' g (On seen) s = g seen s
looped_grows more more' g (Over a) s = grows_refl _

module _ {X S A : Type 0} (loop : LoopOver X S A) (laws : LawfulLoop loop) where
  -- the loop at a depth, and what follows a token there
  abbrev at_depth : ℕ → S → Reading A
  at_depth n seen = loops loop seen n

  abbrev token_at_depth : S → Option X → ByDepth A
  token_at_depth seen o n = turned loop (at_depth n) n seen o

  abbrev next_at_depth : Next S A → ByDepth A
  next_at_depth next n = looped (at_depth n) next

  turned_grows : (n m : ℕ) → n ≤ m → ((seen : S) (s : State) → Grows (at_depth n seen s) (at_depth m seen s)) → (seen : S) (o : Option X) (s : State) → Grows (token_at_depth seen o n s) (token_at_depth seen o m s)
  turned_grows n m le g seen None s = grows_refl _
  turned_grows n m le g seen (Some t) s = chain_grows (((laws.turn seen t).mono s).grows n m le) (looped_grows (at_depth n) (at_depth m) g)

  loop_grows : (n m : ℕ) → n ≤ m → (seen : S) (s : State) → Grows (at_depth n seen s) (at_depth m seen s)
  loop_grows zero m le seen s = record { same = λ d. absurd d }
  loop_grows (suc n) zero le seen s = absurd (omega arith)
  loop_grows (suc n) (suc m) le seen s =
      let less : n ≤ m = omega arith in
      chain_grows ((laws.source.mono s).grows n m less) (λ o u. turned_grows n m less (loop_grows n m less) seen o u)

  loop_mono : (seen : S) (s : State) → Mono (λ n. at_depth n seen s)
  loop_mono seen s = record { grows = λ n m le. loop_grows n m le seen s }

  token_mono : (seen : S) (o : Option X) (s : State) → Mono (λ n. token_at_depth seen o n s)
  token_mono seen o s = record { grows = λ n m le. turned_grows n m le (loop_grows n m le) seen o s }

  next_mono : (next : Next S A) (s : State) → Mono (λ n. next_at_depth next n s)
  next_mono next s = record { grows = λ n m le. looped_grows (at_depth n) (at_depth m) (loop_grows n m le) next s }

  -- no more is left behind it
  next_falls : (n : ℕ) → ((seen : S) (s : State) → Leads (λ v t. Lower 0 s t) (at_depth n seen s)) → (next : Next S A) (s : State) → Leads (λ v t. Lower 0 s t) (next_at_depth next n s)
  next_falls n h (On seen) s = h seen s
  next_falls n h (Over a) s = lower_none s

  token_falls : (n : ℕ) → ((seen : S) (s : State) → Leads (λ v t. Lower 0 s t) (at_depth n seen s)) → (seen : S) (o : Option X) (s : State) → Leads (λ v t. Lower 0 s t) (token_at_depth seen o n s)
  token_falls n h seen None s = (laws.end seen).falls s
  token_falls n h seen (Some t) s = falls_then (loop.turn seen t n s) (looped (at_depth n)) s ((laws.turn seen t).falls n s) (next_falls n h)

  loop_falls : (n : ℕ) (seen : S) (s : State) → Leads (λ v t. Lower 0 s t) (at_depth n seen s)
  loop_falls zero seen s = tt
  loop_falls (suc n) seen s = falls_then (loop.source n s) (turned loop (at_depth n) n seen) s (laws.source.falls n s) (token_falls n (loop_falls n) seen)

  -- some depth decides
  next_settles : (next : Next S A) (s t : State) → Lower 1 s t → ((seen : S) (u : State) → Lower 1 s u → Settles (λ n. at_depth n seen u)) → Settles (λ n. next_at_depth next n t)
  next_settles (On seen) s t low later = later seen t low
  next_settles (Over a) s t low later = record { at = 0; decided = tt }

  token_settles : (seen : S) (o : Option X) (s t : State) → Lower (count o) s t → ((seen : S) (u : State) → Lower 1 s u → Settles (λ n. at_depth n seen u)) → Settles (λ n. token_at_depth seen o n t)
  token_settles seen None s t low later = record { at = 0; decided = (laws.end seen).decided t }
  token_settles seen (Some k) s t low later =
      let l = laws.turn seen k in
      let h = l.settles t in
      settles_chain (λ n. loop.turn seen k n t) (λ n. looped (at_depth n)) (l.mono t) next_mono h
      (λ next u gains e. next_settles next s u (lower_then 1 0 1 s t u low (leads_at (λ v u. Lower 0 t u) (loop.turn seen k h.at t) next u gains e (l.falls h.at t)) (omega arith)) later)

  step_settles : (seen : S) (s : State) → Settles (λ n. at_depth (suc n) seen s) → Settles (λ n. at_depth n seen s)
  step_settles seen s h = record { at = suc h.at; decided = h.decided }

  -- how many expansions may begin
  left : State → ℕ
  left s = s.limit - s.begun

  turn_settles : (e z : ℕ) → ((seen : S) (s : State) → left s < e → Settles (λ n. at_depth n seen s)) → ((seen : S) (s : State) → left s ≤ e → room s < z → Settles (λ n. at_depth n seen s))
      → (seen : S) (s : State) → left s ≤ e → room s ≤ z → Settles (λ n. at_depth n seen s)
  unfolding left
  turn_settles e z below less seen s h k =
      let source = laws.source.settles s in
      step_settles seen s
      (settles_chain (λ n. loop.source n s) (λ n. turned loop (at_depth n) n seen) (laws.source.mono s) (token_mono seen) source
      (λ o t gains is.
      let low = leads_at (λ o t. Lower (count o) s t) (loop.source source.at s) o t gains is (laws.lowers source.at s) in
      token_settles seen o s t low
      (λ seen u l. elim (eq-or-lt_of_le l.begun) [
        | inl same ↦ (let size = l.size (sym same) in let limit = l.limit in less seen u (omega arith) (omega arith))
        | inr more ↦ (let under = l.within more in let limit = l.limit in below seen u (omega arith))
      ])))

  within : (e : ℕ) → ((seen : S) (s : State) → left s < e → Settles (λ n. at_depth n seen s)) → (z : ℕ) (seen : S) (s : State) → left s ≤ e → room s ≤ z → Settles (λ n. at_depth n seen s)
  within e below zero = turn_settles e 0 below (λ seen s h k. absurd (omega arith))
  within e below (suc z) = turn_settles e (suc z) below (λ seen s h k. within e below z seen s h (omega arith))

  all_settle : (e : ℕ) (seen : S) (s : State) → left s < e → Settles (λ n. at_depth n seen s)
  all_settle zero seen s h = absurd (omega arith)
  all_settle (suc e) seen s h = within e (all_settle e) (room s) seen s (omega arith) (omega arith)

  pub lawful_loop : (seen : S) → Lawful (loops loop seen)
  lawful_loop seen = record { mono = loop_mono seen; settles = λ s. all_settle (suc (left s)) seen s (omega arith); falls = λ n s. loop_falls n seen s }

  lawful_next : (next : Next S A) → Lawful (next_at_depth next)
  lawful_next (On seen) = lawful_loop seen
  lawful_next (Over a) = lawful_plain (give a) (plain_give a)

  token_settled : (seen : S) (o : Option X) (s : State) → Settles (λ n. token_at_depth seen o n s)
  token_settled seen None s = record { at = 0; decided = (laws.end seen).decided s }
  token_settled seen (Some t) s =
      let l = laws.turn seen t in
      let h = l.settles s in
      settles_chain (λ n. loop.turn seen t n s) (λ n. looped (at_depth n)) (l.mono s) next_mono h
      (λ next u gains e. (lawful_next next).settles u)

  lawful_token : (seen : S) (o : Option X) → Lawful (token_at_depth seen o)
  lawful_token seen o = record { mono = token_mono seen o; settles = token_settled seen o; falls = λ n s. token_falls n (loop_falls n) seen o s }

  -- what files gave in it, turn by turn
  step_spent : {B : Type 0} (seen : S) (r : Result B Stop) (now : State) (s t : Shelf) (i j : List Source) → SpentBy (λ n. chained loop.source (token_at_depth seen) n now) r s t i j → SpentBy (λ n. loops loop seen n now) r s t i j
  step_spent seen r now s t i j p = record { answer = p.answer; given = record { depth = suc p.given.depth; is = p.given.is; decided = p.given.decided }; spent = p.spent }

  sure_token : (seen : S) (o : Option X) → Sure (token_at_depth seen o)
  sure_token seen o = sure (token_at_depth seen o) (lawful_token seen o)

  sure_next : (next : Next S A) → Sure (next_at_depth next)
  sure_next next = sure (next_at_depth next) (lawful_next next)

  -- the loop in the code, turn by turn
  module _ {T : Type 0} (hear part : T → Record → T → Type 0) where
    -- one turn more, by what follows the source
    by_step : (seen : S) (r : Result A Stop) (s new : State) (a b : T) → Follows hear part (λ n. chained loop.source (token_at_depth seen) n s) r new a b → Follows hear part (λ n. loops loop seen n s) r new a b
    by_step seen r s new a b g = record { answer = g.answer; given = record { depth = suc g.given.depth; is = g.given.is; decided = g.given.decided }; meets = g.meets }

    -- what follows the loop from now on follows the whole loop
    pub record LoopOnward (first : S) (old : State) (a : T) (seen : S) (now : State) (b : T) : Type 0 where
      pub on : (r : Result A Stop) (new : State) (c : T) → Follows hear part (λ n. loops loop seen n now) r new b c → Follows hear part (λ n. loops loop first n old) r new a c

    pub onward_start : (seen : S) (s : State) (a : T) → LoopOnward seen s a seen s a
    onward_start seen s a = record { on = λ r new c k. k }

    by_source : (seen : S) (o : Option X) (r : Result A Stop) (now mid new : State) (b c d : T) → Follows hear part (λ n. loop.source n now) (Ok o) mid b c → Follows hear part (λ n. token_at_depth seen o n mid) r new c d
        → Follows hear part (λ n. loops loop seen n now) r new b d
    by_source seen o r now mid new b c d g k = by_step seen r now new b d (follows_then hear part loop.source (token_at_depth seen) laws.source (λ o. sure (token_at_depth seen o) (lawful_token seen o)) o r now mid new b c d g k)

    -- no token can be had
    pub loop_stops : (e : Stop) (first seen : S) (old now new : State) (a b c : T) → LoopOnward first old a seen now b → Follows hear part (λ n. loop.source n now) (Err e) new b c
        → Follows hear part (λ n. loops loop first n old) (Err e) new a c
    loop_stops e first seen old now new a b c o g =
        o.on (Err e) new c (by_step seen (Err e) now new b c (follows_stop hear part loop.source (token_at_depth seen) laws.source (λ o. sure (token_at_depth seen o) (lawful_token seen o)) e now new b c g))

    -- the end of what is to be read
    pub loop_ends : (r : Result A Stop) (first seen : S) (old now mid new : State) (a b c d : T) → LoopOnward first old a seen now b → Follows hear part (λ n. loop.source n now) (Ok None) mid b c
        → Follows hear part (λ n. loop.end seen mid) r new c d → Follows hear part (λ n. loops loop first n old) r new a d
    loop_ends r first seen old now mid new a b c d o g h = o.on r new d (by_source seen None r now mid new b c d g h)

    by_turn : (t : X) (next : Next S A) (r : Result A Stop) (seen : S) (now mid far new : State) (b c d e : T) → Follows hear part (λ n. loop.source n now) (Ok (Some t)) mid b c → Follows hear part (λ n. loop.turn seen t n mid) (Ok next) far c d
        → Follows hear part (λ n. next_at_depth next n far) r new d e → Follows hear part (λ n. loops loop seen n now) r new b e
    by_turn t next r seen now mid far new b c d e g h k =
        by_source seen (Some t) r now mid new b c e g (follows_then hear part (loop.turn seen t) next_at_depth (laws.turn seen t) (λ x. sure (next_at_depth x) (lawful_next x)) next r mid far new c d e h k)

    -- a turn that stops
    pub turn_stops : (t : X) (e : Stop) (first seen : S) (old now mid new : State) (a b c d : T) → LoopOnward first old a seen now b → Follows hear part (λ n. loop.source n now) (Ok (Some t)) mid b c
        → Follows hear part (λ n. loop.turn seen t n mid) (Err e) new c d → Follows hear part (λ n. loops loop first n old) (Err e) new a d
    turn_stops t e first seen old now mid new a b c d o g h =
        o.on (Err e) new d (by_source seen (Some t) (Err e) now mid new b c d g (follows_stop hear part (loop.turn seen t) next_at_depth (laws.turn seen t) (λ x. sure (next_at_depth x) (lawful_next x)) e mid new c d h))

    -- a turn behind which it is over
    pub turn_over : (t : X) (v : A) (first seen : S) (old now mid new : State) (a b c d : T) → LoopOnward first old a seen now b → Follows hear part (λ n. loop.source n now) (Ok (Some t)) mid b c
        → Follows hear part (λ n. loop.turn seen t n mid) (Ok (Over v)) new c d → Follows hear part (λ n. loops loop first n old) (Ok v) new a d
    turn_over t v first seen old now mid new a b c d o g h =
        o.on (Ok v) new d (by_turn t (Over v) (Ok v) seen now mid new new b c d d g h (follows_silent hear part (give v) (plain_give v).decided (Ok v) new new d refl))

    -- a turn behind which it goes on
    pub turn_onward : (t : X) (first seen more : S) (old now mid new : State) (a b c d : T) → LoopOnward first old a seen now b → Follows hear part (λ n. loop.source n now) (Ok (Some t)) mid b c
        → Follows hear part (λ n. loop.turn seen t n mid) (Ok (On more)) new c d → LoopOnward first old a more new d
    turn_onward t first seen more old now mid new a b c d o g h = record { on = λ r z e k. o.on r z e (by_turn t (On more) r seen now mid new z b c d e g h k) }

    -- want of memory behind a turn
    pub turn_out : (t : X) (next : Next S A) (first seen : S) (old now mid far new : State) (a b c d : T) → LoopOnward first old a seen now b → Follows hear part (λ n. loop.source n now) (Ok (Some t)) mid b c
        → Follows hear part (λ n. loop.turn seen t n mid) (Ok next) far c d → Follows hear part (λ n. loops loop first n old) (Err stop.NoMemory) new a d
    turn_out t next first seen old now mid far new a b c d o g h =
        o.on (Err stop.NoMemory) new d (by_turn t next (Err stop.NoMemory) seen now mid far new b c d d g h (follows_out hear part (next_at_depth next) (lawful_next next) far new d))

    -- what files gave from now on and before is what the whole loop loads
    pub record LoopPays (first : S) (old : State) (s : Shelf) (i : List Source) (seen : S) (now : State) (t : Shelf) (j : List Source) : Type 0 where
      pub little : AreLittle j
      pub on : (r : Result A Stop) (u : Shelf) (k : List Source) → SpentBy (λ n. loops loop seen n now) r t u j k → SpentBy (λ n. loops loop first n old) r s u i k

    pub pays_start : (seen : S) (now : State) (s : Shelf) (i : List Source) → AreLittle i → LoopPays seen now s i seen now s i
    pays_start seen now s i little = record { little = little; on = λ r u k p. p }

    source_spent : (seen : S) (o : Option X) (r : Result A Stop) (now mid : State) (s t u : Shelf) (i j k : List Source) (b c : T) → Follows hear part (λ n. loop.source n now) (Ok o) mid b c → SpentBy (λ n. loop.source n now) (Ok o) s t i j
        → (AreLittle j → SpentBy (λ n. token_at_depth seen o n mid) r t u j k) → SpentBy (λ n. loops loop seen n now) r s u i k
    source_spent seen o r now mid s t u i j k b c g p next =
        step_spent seen r now s u i k (spent_behind hear part loop.source (token_at_depth seen) laws.source (sure_token seen) o r now mid s t u i j k b c g p next)

    turn_spent : (t : X) (next : Next S A) (r : Result A Stop) (seen : S) (mid far : State) (s u v : Shelf) (i j k : List Source) (c d : T) → Follows hear part (λ n. loop.turn seen t n mid) (Ok next) far c d → SpentBy (λ n. loop.turn seen t n mid) (Ok next) s u i j
        → (AreLittle j → SpentBy (λ n. next_at_depth next n far) r u v j k) → SpentBy (λ n. token_at_depth seen (Some t) n mid) r s v i k
    turn_spent t next r seen mid far s u v i j k c d g p more = spent_behind hear part (loop.turn seen t) next_at_depth (laws.turn seen t) sure_next next r mid far s u v i j k c d g p more

    module _ (first seen : S) (old now : State) (s t : Shelf) (i j : List Source) (o : LoopPays first old s i seen now t j) where
      -- no token can be had
      pub loop_stops_pays : (e : Stop) (u : Shelf) (k : List Source) → (AreLittle j → SpentBy {B = Option X} (λ n. loop.source n now) (Err e) t u j k) → SpentBy {B = A} (λ n. loops loop first n old) (Err e) s u i k
      loop_stops_pays e u k p = o.on (Err e) u k (step_spent seen (Err e) now t u j k (spent_broken loop.source (token_at_depth seen) laws.source (sure_token seen) e now t u j k (p o.little)))

      module _ (mid : State) (u : Shelf) (k : List Source) (b c : T) where
        -- the end of what is to be read
        pub loop_ends_pays : (r : Result A Stop) (v : Shelf) (l : List Source) → Follows hear part (λ n. loop.source n now) (Ok None) mid b c → (AreLittle j → SpentBy {B = Option X} (λ n. loop.source n now) (Ok None) t u j k)
            → (AreLittle k → SpentBy (λ n. loop.end seen mid) r u v k l) → SpentBy (λ n. loops loop first n old) r s v i l
        loop_ends_pays r v l g p q = o.on r v l (source_spent seen None r now mid t u v j k l b c g (p o.little) q)

        module _ (x : X) (g : Follows hear part (λ n. loop.source n now) (Ok (Some x)) mid b c) (p : AreLittle j → SpentBy (λ n. loop.source n now) (Ok (Some x)) t u j k) where
          -- a turn that stops
          pub turn_stops_pays : (e : Stop) (v : Shelf) (l : List Source) → (AreLittle k → SpentBy {B = Next S A} (λ n. loop.turn seen x n mid) (Err e) u v k l) → SpentBy {B = A} (λ n. loops loop first n old) (Err e) s v i l
          turn_stops_pays e v l q =
              o.on (Err e) v l (source_spent seen (Some x) (Err e) now mid t u v j k l b c g (p o.little) (λ small. spent_broken (loop.turn seen x) next_at_depth (laws.turn seen x) sure_next e mid u v k l (q small)))

          module _ (far : State) (v : Shelf) (l : List Source) (d : T) where
            -- a turn behind which it is over
            pub turn_over_pays : (w : A) → Follows hear part (λ n. loop.turn seen x n mid) (Ok (Over w)) far c d → (AreLittle k → SpentBy {B = Next S A} (λ n. loop.turn seen x n mid) (Ok (Over w)) u v k l) → SpentBy (λ n. loops loop first n old) (Ok w) s v i l
            turn_over_pays w h q =
                o.on (Ok w) v l (source_spent seen (Some x) (Ok w) now mid t u v j k l b c g (p o.little)
                (λ small. turn_spent x (Over w) (Ok w) seen mid far u v v k l l c d h (q small) (λ fine. spent_settled (λ n. give w) (lawful_plain (give w) (plain_give w)) (Ok w) far v l l refl fine)))

            -- a turn behind which it goes on
            pub turn_onward_pays : (more : S) → Follows hear part (λ n. loop.turn seen x n mid) (Ok (On more)) far c d → (AreLittle k → SpentBy {B = Next S A} (λ n. loop.turn seen x n mid) (Ok (On more)) u v k l) → LoopPays first old s i more far v l
            turn_onward_pays more h q =
                let a = p o.little in
                let small = spent_little (Some x) t u j k (added a.answer) a.spent in
                let b' = q small in
                record {
                  little = spent_little (On more) u v k l (added b'.answer) b'.spent;
                  on = λ r w m z. o.on r w m (source_spent seen (Some x) r now mid t u w j k m b c g a (λ small. turn_spent x (On more) r seen mid far u v w k l m c d h (q small) (λ fine. z)));
                }

            -- want of memory behind a turn
            pub turn_out_pays : (next : Next S A) (m : List Source) → readers_of m ≡ readers_of l → Follows hear part (λ n. loop.turn seen x n mid) (Ok next) far c d → (AreLittle k → SpentBy (λ n. loop.turn seen x n mid) (Ok next) u v k l)
                → SpentBy {B = A} (λ n. loops loop first n old) (Err stop.NoMemory) s v i m
            turn_out_pays next m same h q =
                o.on (Err stop.NoMemory) v m (source_spent seen (Some x) (Err stop.NoMemory) now mid t u v j k m b c g (p o.little)
                (λ small. turn_spent x next (Err stop.NoMemory) seen mid far u v v k l m c d h (q small) (λ fine. spent_settled (next_at_depth next) (lawful_next next) (Err stop.NoMemory) far v l m same fine)))
