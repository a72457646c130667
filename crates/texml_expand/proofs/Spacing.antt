-- Spaces that are taken, one after the other.
use Rattle.std.proofs.Common.{◌≡◌, ◌+◌, ◌≤◌, ℕ, zero, suc, Bool, true, false, ◌||◌, if◌then◌else◌, Option, Some, None, Result, Ok, Err, refl, sym, ap, ◌∙◌, arith}
use Rattle.texml_expand.specs.declared.stop.Stop.{Stop}
use Rattle.texml_expand.specs.declared.stop.Stop.TheVariants as stop
use Rattle.texml_input.specs.Next.{Taken}
use Rattle.texml_expand.specs.State.{State, Gains, room, Answer, Done, Ended, Unfinished, Reading, after, chain, ◌>>=◌, give}
use Rattle.texml_expand.specs.Take.{take}
use Rattle.texml_expand.specs.Arguments.{is_space, past_space, past_spaces, behind_spaces}
use Rattle.texml_expand.specs.Held.{Held, world_in, state_of, Sound, Owns, Shrinks}
use Rattle.texml_expand.specs.Contract.{Outside}
use Rattle.texml_expand.specs.Doing.{Gets}
use Rattle.texml_expand.proofs.Leading.{Leads, leads_at, count}
use Rattle.texml_expand.proofs.Running.{shrinks_none, shrinks_then}
use Rattle.texml_expand.proofs.Spending.{plus_nothing}
use Rattle.texml_expand.proofs.Getting.{gets_as, gets_then, gets_stop, gets_now, gets_out}
use Rattle.texml_expand.proofs.Least.{Takes, take_takes, takes_room}

pub or_right : (a b c : Bool) → a ≡ false → b ≡ c → b ≡ (a || c)
or_right a b c e f = f ∙ ap (λ x. x || c) (sym e)

-- where nothing is left, no space can be passed over
none_left : (a : Answer (Option Taken)) (s : State) (next : Reading (Option Taken)) → room s ≤ 0 → Leads (λ o t. Takes (count o) s t) a → a ≡ chain a (past_space next)
none_left (Done None t gains) s next le h = ap (λ g. Done None t g) (sym (plus_nothing gains))
none_left (Done (Some x) t gains) s next le h = let few = takes_room 1 s t h in absurd (omega (arith, le, few))
none_left (Ended e gains) s next le h = refl
none_left (Unfinished gains) s next le h = refl

same_if : (b : Bool) (x : Taken) (f g : Reading (Option Taken)) (t : State) → f t ≡ g t → (if b then f else give (Some x)) t ≡ (if b then g else give (Some x)) t
same_if true x f g t e = e
same_if false x f g t e = refl

same_behind : (a : Answer (Option Taken)) (s : State) (f g : Reading (Option Taken)) → ((t : State) → room t + 1 ≤ room s → f t ≡ g t) → Leads (λ o t. Takes (count o) s t) a → chain a (past_space f) ≡ chain a (past_space g)
same_behind (Done None t gains) s f g h l = refl
same_behind (Done (Some x) t gains) s f g h l = ap (after gains) (same_if (is_space t.world x.token) x f g t (h t (l.lower.size l.begun)))
same_behind (Ended e gains) s f g h l = refl
same_behind (Unfinished gains) s f g h l = refl

-- each number that is no less than the room gives the same
enough : (n m : ℕ) (s : State) → room s ≤ n → room s ≤ m → past_spaces n s ≡ past_spaces m s
enough zero zero s h k = refl
enough zero (suc m) s h k = none_left (take s) s (past_spaces m) h (take_takes s)
enough (suc n) zero s h k = sym (none_left (take s) s (past_spaces n) k (take_takes s))
enough (suc n) (suc m) s h k = same_behind (take s) s (past_spaces n) (past_spaces m) (λ t le. enough n m t (omega (arith, le, h)) (omega (arith, le, k))) (take_takes s)

-- the next token is taken, and a space is passed over
pub behind_is : (s : State) → behind_spaces s ≡ chain (take s) (past_space behind_spaces)
behind_is s = enough (room s) (suc (room s)) s (omega arith) (omega arith) ∙ same_behind (take s) s (past_spaces (room s)) behind_spaces (λ t le. enough (room s) (room t) t (omega (arith, le)) (omega arith)) (take_takes s)

pub take_smaller : (s t : State) (x : Taken) (gains : Gains) → take s ≡ Done (Some x) t gains → room t + 1 ≤ room s
take_smaller s t x gains e = let g : Takes 1 s t = leads_at (λ o u. Takes (count o) s u) (take s) (Some x) t gains e (take_takes s) in g.lower.size g.begun

-- an engine that passes over spaces: what it does from now on is what the whole does
pub record Spacing (old : Held) (f : Outside) (now : Held) (g : Outside) : Type 0 where
  pub running : now.stop ≡ None
  pub sound : Sound now
  pub owns : Owns g.shelf now
  pub lower : Shrinks 0 f.shelf old g.shelf now
  pub on : (r : Result (Option Taken) Stop) (new : Held) (h : Outside) → Gets behind_spaces r now new g h → Gets behind_spaces r old new f h

pub spacing_none : (h : Held) (f : Outside) → h.stop ≡ None → Sound h → Owns f.shelf h → Spacing h f h f
spacing_none h f running sound owns = record { running = running; sound = sound; owns = owns; lower = shrinks_none f.shelf h; on = λ r new g d. d }

-- a token, and what it is behind it
by_take : (x : Option Taken) (r : Result (Option Taken) Stop) (now mid new : Held) (g m h : Outside) → Gets take (Ok x) now mid g m → Gets (past_space behind_spaces x) r mid new m h → Gets behind_spaces r now new g h
by_take x r now mid new g m h d e = gets_as (take >>= past_space behind_spaces) behind_spaces r now new g h (behind_is (state_of g.shelf now)) (gets_then take (past_space behind_spaces) x r now mid new g m h d e)

past_if : (x : Taken) (b : Bool) (s : State) → is_space s.world x.token ≡ b → past_space behind_spaces (Some x) s ≡ (if b then behind_spaces else give (Some x)) s
past_if x b s e = ap (λ c. (if c then behind_spaces else give (Some x)) s) e

module _ (old now new : Held) (f g h : Outside) (i : Spacing old f now g) where
  pub spacing_on : (x : Taken) → Gets take (Ok (Some x)) now new g h → is_space (world_in new) x.token ≡ true → Shrinks 1 g.shelf now h.shelf new → Spacing old f new h
  spacing_on x d b low = record {
    running = d.stops.kept;
    sound = d.keeps.sound;
    owns = d.holds.owns;
    lower = shrinks_then 0 1 0 f.shelf g.shelf h.shelf old now new i.lower low (omega arith);
    on = λ r z k y. i.on r z k (by_take (Some x) r now new z g h k d (gets_as behind_spaces (past_space behind_spaces (Some x)) r new z h k (past_if x true (state_of h.shelf new) b) y));
  }

  pub spacing_ends : Gets take (Ok None) now new g h → Gets behind_spaces (Ok None) old new f h
  spacing_ends d = i.on (Ok None) new h (by_take None (Ok None) now new new g h h d (gets_now None new h d.keeps.sound d.stops.kept d.holds.owns))

  pub spacing_found : (x : Taken) → Gets take (Ok (Some x)) now new g h → is_space (world_in new) x.token ≡ false → Gets behind_spaces (Ok (Some x)) old new f h
  spacing_found x d b =
      i.on (Ok (Some x)) new h (by_take (Some x) (Ok (Some x)) now new new g h h d
      (gets_as (give (Some x)) (past_space behind_spaces (Some x)) (Ok (Some x)) new new h h (past_if x false (state_of h.shelf new) b) (gets_now (Some x) new h d.keeps.sound d.stops.kept d.holds.owns)))

  pub spacing_stops : (e : Stop) → Gets take (Err e) now new g h → Gets behind_spaces (Err e) old new f h
  spacing_stops e d = i.on (Err e) new h (gets_as (take >>= past_space behind_spaces) behind_spaces (Err e) now new g h (behind_is (state_of g.shelf now)) (gets_stop take (past_space behind_spaces) e now new g h d))

-- what a token means can't be told
pub spacing_out : (e : Stop) (x : Taken) (old now mid new : Held) (f g h : Outside) → Spacing old f now g → Gets take (Ok (Some x)) now mid g h → e ≡ stop.NoMemory → new ≡ record mid { stop = Some stop.NoMemory } → Gets behind_spaces (Err e) old new f h
spacing_out e x old now mid new f g h i d short is = i.on (Err e) new h (by_take (Some x) (Err e) now mid new g h h d (gets_out (past_space behind_spaces (Some x)) e mid new h short is d.holds.owns))
