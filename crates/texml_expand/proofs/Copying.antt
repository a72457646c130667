-- Taking at once what \the gives of a list of tokens, step by step.
use Rattle.std.proofs.Common.{◌≡◌, ℕ, List, Result, Ok, Err, subst}
use Rattle.std.specs.Result.{OnOk}
use Rattle.texml_base.specs.Outside.{Shelf}
use Rattle.texml_token.specs.Token.{Token}
use Rattle.texml_watch.specs.declared.record.Record.{Record}
use Rattle.texml_expand.specs.declared.stop.Stop.{Stop}
use Rattle.texml_expand.specs.Variables.{Internal}
use Rattle.texml_expand.specs.Quantities.{next_internal}
use Rattle.texml_expand.specs.Gathering.{copied, copy_by}
use Rattle.texml_expand.specs.Begin.{begin}
use Rattle.texml_expand.specs.Expand.{level}
use Rattle.texml_expand.specs.Contract.{Outside, outside, Stops}
use Rattle.texml_expand.specs.Hearing.{Meets}
use Rattle.texml_expand.specs.Held.{Held, state_of, Kept, Progress, IsAtLimit, Owns, SameFiles, ok_at}
use Rattle.texml_expand.specs.Doing.{Does}
use Rattle.texml_expand.proofs.Meeting.{stops_as}
use Rattle.texml_expand.proofs.Running.{holding_same}
use Rattle.texml_expand.proofs.Spending.{spends_same}
use Rattle.texml_expand.proofs.Lawful.{lawful_copy}
use Rattle.texml_expand.proofs.Looking.{lawful_next_internal}
use Rattle.texml_expand.proofs.Total.{total, copy_is}
use Rattle.texml_expand.proofs.Doing.{Did, does_of, did_of, did_as, did_then, did_stop}

-- a call stops alike whatever it gives
stops_at : {A B : Type 0} (at : A → B) (r : Result A Stop) (x y : Outside) (new : Held) → Stops r x y new.stop → Stops (ok_at at r) x y new.stop
stops_at at (Ok v) x y new h = record { kept = h.kept; reads = h.reads; tells = h.tells; loan = h.loan }
stops_at {A = A} {B = B} at (Err e) x y new h = stops_as A B e x y new.stop h

on_at : {A B : Type 0} (P : Type 0) (at : A → B) (r : Result A Stop) → OnOk r P → OnOk (ok_at at r) P
on_at P at (Ok v) h = h
on_at P at (Err e) h = tt

limit_at : {A B : Type 0} (at : A → B) (r : Result A Stop) (new : Held) → IsAtLimit r new → IsAtLimit (ok_at at r) new
limit_at at (Ok v) new h = h
limit_at at (Err e) new h = h

module _ {T : Type 0} (hear part : T → Record → T → Type 0) where
  copy_does : (t : Token) (r : Result (List Token) Stop) (old new : Held) (f g : Outside) (a b : T) → Did hear part (copy_by total t (state_of f.shelf old)) r old new f g a b → Does hear part (λ n. (level n).copy t) r old new f g a b
  copy_does t r old new f g a b d = does_of hear part (λ c. c.copy t) (lawful_copy t) r old new f g a b (did_as hear part _ _ r old new f g a b (copy_is t (state_of f.shelf old)) d)

  -- it can't begin
  pub copy_stops : (t : Token) (e : Stop) (old new : Held) (f : Outside) (a : T) → Did hear part (begin (state_of f.shelf old)) (Err e) old new f f a a → Does hear part (λ n. (level n).copy t) (Err e) old new f f a a
  copy_stops t e old new f a d = copy_does t (Err e) old new f f a a (did_stop hear part (begin (state_of f.shelf old)) _ e old new f f a a d)

  -- nothing is there that it can give
  pub copy_unread : (t : Token) (e : Stop) (old mid new : Held) (f g : Outside) (a b : T) → Did hear part (begin (state_of f.shelf old)) (Ok tt) old mid f f a a → Does hear part (λ n. next_internal (level n)) (Err e) mid new f g a b
      → Does hear part (λ n. (level n).copy t) (Err e) old new f g a b
  copy_unread t e old mid new f g a b d k =
      copy_does t (Err e) old new f g a b (did_then hear part (begin (state_of f.shelf old)) _ tt (Err e) old mid new f f g a a b d
      (did_stop hear part (next_internal total (state_of f.shelf mid)) (copied t) e mid new f g a b (did_of hear part next_internal lawful_next_internal (Err e) mid new f g a b k)))

  -- and it ends
  pub copy_ends : (t : Token) (q : Internal) (r : Result (List Token) Stop) (old mid now new : Held) (f g h : Outside) (a b c : T) → Did hear part (begin (state_of f.shelf old)) (Ok tt) old mid f f a a
      → Does hear part (λ n. next_internal (level n)) (Ok q) mid now f g a b → Did hear part (copied t q (state_of g.shelf now)) r now new g h b c → Does hear part (λ n. (level n).copy t) r old new f h a c
  copy_ends t q r old mid now new f g h a b c d k u =
      copy_does t r old new f h a c (did_then hear part (begin (state_of f.shelf old)) _ tt r old mid new f f h a a c d
      (did_then hear part (next_internal total (state_of f.shelf mid)) (copied t) q r mid now new f g h a b c (did_of hear part next_internal lawful_next_internal (Ok q) mid now f g a b k) u))

  pub copied_did : {A : Type 0} (at : A → List Token) (t u : Token) (q : Internal) (r : Result A Stop) (old new : Held) (shelf : Shelf) (reads tells tells' loan loan' : ℕ) (a b : T) → u ≡ t
      → ((shelf : Shelf) → Meets hear part (copied u q (state_of shelf old)) (ok_at at r) (state_of shelf new) a b) → ((shelf : Shelf) (reads : ℕ) → Stops r (outside shelf reads tells loan) (outside shelf reads tells' loan') new.stop)
      → OnOk r (Kept old new) → IsAtLimit r new → Progress old new → SameFiles old new → Owns shelf old
      → Did hear part (copied t q (state_of shelf old)) (ok_at at r) old new (outside shelf reads tells loan) (outside shelf reads tells' loan') a b
  copied_did at t u q r old new shelf reads tells tells' loan loan' a b e meets stops keeps limit progress files owns = record {
    meets = λ told. subst (λ x. Meets hear part (copied x q (state_of shelf old)) (ok_at at r) (state_of shelf new) a b) e (meets shelf);
    spends = spends_same (copied t q (state_of shelf old)) (ok_at at r) shelf old new files;
    stops = stops_at at r _ _ new (stops shelf reads);
    limit = limit_at at r new limit;
    keeps = on_at (Kept old new) at r keeps;
    progress = progress;
    holds = holding_same shelf old new owns files;
  }
