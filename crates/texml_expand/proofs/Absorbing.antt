-- The tokens of a group, expanded or as they stand.
use Rattle.std.proofs.Common.{◌≡◌, ℕ, Bool, true, false, List, [], None, Result, Ok, Err, refl, sym, subst, arith}
use Rattle.texml_base.specs.Outside.{Shelf}
use Rattle.texml_token.specs.Token.{Token}
use Rattle.texml_watch.specs.declared.record.Record.{Record}
use Rattle.texml_expand.specs.declared.stop.Stop.{Stop}
use Rattle.texml_expand.specs.Least.{by_least}
use Rattle.texml_expand.specs.declared.gathering.Gathering.TheVariants.{Group}
use Rattle.texml_expand.specs.State.{change, give}
use Rattle.texml_expand.specs.Absorb.{absorbed, absorbs, absorb_expanded, absorb}
use Rattle.texml_expand.specs.Expand.{level}
use Rattle.texml_expand.specs.Contract.{Outside, outside, files_at}
use Rattle.texml_expand.specs.Held.{Held, Sound, Kept, Progress, Owns, Shrinks}
use Rattle.texml_expand.specs.Doing.{Does, Gets}
use Rattle.texml_token.proofs.Table.{extends_refl}
use Rattle.texml_expand.proofs.Lawful.{lawful_give, lawful_gather}
use Rattle.texml_expand.proofs.Doing.{does_gets, does_silent, does_now, does_stop, does_then}
use Rattle.texml_expand.proofs.Public.{lawful_absorbing, lawful_absorbs, no_longer, lawful_no_longer, group_expanded, lawful_group_expanded}

module _ {T : Type 0} (hear part : T → Record → T → Type 0) (expanding : Bool) where
  pub absorb_expanding : (r : Result (List Token) Stop) (old new : Held) (f g : Outside) (a b : T) → expanding ≡ true → Does hear part (λ n. absorb_expanded (level n)) r old new f g a b → Does hear part (absorb expanding) r old new f g a b
  absorb_expanding r old new f g a b e d = subst (λ x. Does hear part (absorb x) r old new f g a b) (sym e) d

  pub absorb_plain : (r : Result (List Token) Stop) (old new : Held) (before now : Shelf) (reads reads' tells loan : ℕ) (a : T) → expanding ≡ false → Gets (by_least absorbed) r old new (files_at before reads) (files_at now reads')
      → Does hear part (absorb expanding) r old new (outside before reads tells loan) (outside now reads' tells loan) a a
  absorb_plain r old new before now reads reads' tells loan a e d =
      subst (λ x. Does hear part (absorb x) r old new (outside before reads tells loan) (outside now reads' tells loan) a a) (sym e)
      (does_gets hear part (λ c. by_least absorbed) (lawful_absorbing false) r old new before now reads reads' tells loan a d)

-- whether a group is absorbed with expanding, and nothing else

pub set_sound : (b : Bool) (h : Held) → Sound h → Sound (record h { absorbing = b })
set_sound b h s = record { numbered = s.numbered; sources = s.sources; ready = s.ready; kept = s.kept; scope = s.scope; budget = s.budget }

set_kept : (b : Bool) (h : Held) → Sound h → Kept h (record h { absorbing = b })
set_kept b h s = record { grows = extends_refl h.names; sound = set_sound b h s }

set_progress : (b : Bool) (h : Held) → Progress h (record h { absorbing = b })
set_progress b h = record { names = extends_refl h.names; begun = omega arith; within = λ b. b; limit = refl; writes = omega arith }

pub set_owns : (b : Bool) (shelf : Shelf) (h : Held) → Owns shelf h → Owns shelf (record h { absorbing = b })
set_owns b shelf h o = record { held = o.held; all = o.all }

pub set_shrinks : (k : ℕ) (x y : Bool) (a b : Shelf) (old new : Held) → Shrinks k a (record old { absorbing = x }) b new → Shrinks k a old b (record new { absorbing = y })
set_shrinks k x y a b old new s = record { limit = s.limit; nesting = s.nesting; begun = s.begun; room = s.room; within = s.within }

module _ {T : Type 0} (hear part : T → Record → T → Type 0) where
  set_does : (b : Bool) (h : Held) (f : Outside) (a : T) → Sound h → h.stop ≡ None → Owns f.shelf h → Does hear part (λ n. change (absorbs b)) (Ok tt) h (record h { absorbing = b }) f f a a
  set_does b h f a sound running owns = does_silent hear part (λ c. change (absorbs b)) (lawful_absorbs b) (Ok tt) h (record h { absorbing = b }) f a refl running tt (set_kept b h sound) (set_progress b h) (record { ids = refl; readers = refl }) owns

  pub expanded_stops : (e : Stop) (old new : Held) (f g : Outside) (a b : T) → Sound old → old.stop ≡ None → Owns f.shelf old → Does hear part (λ n. (level n).gather Group []) (Err e) (record old { absorbing = true }) new f g a b
      → Does hear part (λ n. absorb_expanded (level n)) (Err e) old new f g a b
  expanded_stops e old new f g a b sound running owns d =
      does_then hear part (λ c. change (absorbs true)) (λ v. group_expanded) (lawful_absorbs true) (λ v. lawful_group_expanded) tt (Err e) old (record old { absorbing = true }) new f f g a a b (set_does true old f a sound running owns)
      (does_stop hear part (λ c. c.gather Group []) (λ list c. no_longer list) (lawful_gather Group) lawful_no_longer e (record old { absorbing = true }) new f g a b d)

  ended_does : (list : List Token) (h : Held) (f : Outside) (a : T) → Sound h → h.stop ≡ None → Owns f.shelf h → Does hear part (λ n. no_longer list) (Ok list) h (record h { absorbing = false }) f f a a
  ended_does list h f a sound running owns =
      let s = set_does false h f a sound running owns in
      does_then hear part (λ c. change (absorbs false)) (λ v c. give list) (lawful_absorbs false) (λ v. lawful_give list) tt (Ok list) h (record h { absorbing = false }) (record h { absorbing = false }) f f f a a a s
      (does_now hear part list (record h { absorbing = false }) f a s.keeps.sound running s.holds.owns)

  pub expanded_does : (list : List Token) (old mid : Held) (f g : Outside) (a b : T) → Sound old → old.stop ≡ None → Owns f.shelf old → Does hear part (λ n. (level n).gather Group []) (Ok list) (record old { absorbing = true }) mid f g a b
      → Does hear part (λ n. absorb_expanded (level n)) (Ok list) old (record mid { absorbing = false }) f g a b
  expanded_does list old mid f g a b sound running owns d =
      does_then hear part (λ c. change (absorbs true)) (λ v. group_expanded) (lawful_absorbs true) (λ v. lawful_group_expanded) tt (Ok list) old (record old { absorbing = true }) (record mid { absorbing = false }) f f g a a b (set_does true old f a sound running owns)
      (does_then hear part (λ c. c.gather Group []) (λ list c. no_longer list) (lawful_gather Group) lawful_no_longer list (Ok list) (record old { absorbing = true }) mid (record mid { absorbing = false }) f g g a b b d
      (ended_does list mid g b d.keeps.sound d.stops.kept d.holds.owns))
