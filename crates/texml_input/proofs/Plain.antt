-- A token is taken where the frame in front stands.
use Rattle.std.proofs.Common.{◌≡◌, ℕ, ◌+◌, ◌≤◌, ◌<◌, List, [], ◌∷◌, ◌++◌, length, refl, sym, ap, ap₂, ◌∙◌, subst, arith, Option, Some, None, get_or, set, take, drop, false, MatchOption, IfSome}
use Rattle.std.specs.Option.{option_to_list}
use Rattle.std.proofs.lemmas.List.{take-set, drop-set-lt, get_or-set_same, length-set, drop_all}
use Rattle.std.proofs.lemmas.List.Elements.{All-cons}
use Rattle.texml_base.specs.Outside.{Shelf}
use Rattle.texml_token.specs.Numbers.{Table, token_at, TokenWithin}
use Rattle.texml_token.specs.declared.tokens.Token.{Token as TokenCode}
use Rattle.texml_text.proofs.Filling.{touches_refl}
use Rattle.texml_mouth.specs.Mouth.{Gives, bites}
use Rattle.texml_input.specs.Rest.{Place}
use Rattle.texml_input.specs.Next.{Got, taken, next}
use Rattle.texml_input.specs.Held.{Opened, Source, Plain, File, rest_at, ids_of, AreHeld, SourcesWithin, SourceWithin}
use Rattle.texml_input.specs.Inside.{written, sources_of}
use Rattle.texml_input.specs.Turning.{TakesToken, TakesPlain}
use Rattle.texml_input.specs.declared.turning.Frame.{Frame}
use Rattle.texml_input.specs.declared.turning.Frame.TheVariants as frame
use Rattle.texml_input.proofs.InFront.{turn_token}
use Rattle.texml_input.proofs.Sources.{sources_at, within_behind}

module _ (cats : ℕ → ℕ) (t : TokenCode) (old new : List Source) (p : TakesToken cats old t new) where
  pub plain_turn : (end : Option ℕ) (texts : Table) (shelf : Shelf) (place : Place) → AreHeld shelf.ids (ids_of old)
      → next cats end (rest_at texts shelf old) place ≡ Got (taken (token_at texts t) false) (rest_at texts shelf new) place 0
  plain_turn end texts shelf place held =
      subst (λ s. next cats end (rest_at texts shelf s) place ≡ Got (taken (token_at texts t) false) (rest_at texts shelf new) place 0) (sym p.was)
      (turn_token shelf shelf p.file (record p.file { spot = p.spot }) p.more new p.is (subst (λ s. AreHeld shelf.ids (ids_of s)) p.was held) refl (touches_refl shelf p.file.reader.id) cats end texts place t refl (p.gives texts))

  pub plain_within : (count : ℕ) → SourcesWithin count old → SourcesWithin count new
  plain_within count h = subst (SourcesWithin count) (sym p.is) (All-cons (SourceWithin count) (File (record p.file { spot = p.spot })) p.more tt (within_behind count old (File p.file ∷ []) p.more p.was h))

-- the last frame stands in front
module _ (frames : List Frame) (i : ℕ) (last : i + 1 ≡ length frames) where
  front_is : (x : Frame) → x ≡ get_or frames i x → sources_of frames ≡ written x ++ sources_of (take i frames)
  front_is x is = sources_at frames i x (omega arith) is ∙ ap (λ d. sources_of d ++ (written x ++ sources_of (take i frames))) (drop_all (i + 1) frames (omega arith))

  front_set : (y : Frame) → sources_of (set frames i y) ≡ written y ++ sources_of (take i frames)
  front_set y =
      let lt : i < length frames = omega arith in
      sources_at (set frames i y) i y (rw length-set lt) (sym (get_or-set_same frames i y y lt))
      ∙ ap₂ (λ a b. sources_of a ++ (written y ++ sources_of b)) (drop-set-lt (i + 1) frames i y (omega arith)) (take-set frames i y)
      ∙ ap (λ d. sources_of d ++ (written y ++ sources_of (take i frames))) (drop_all (i + 1) frames (omega arith))

  pub plain_front : (cats : ℕ → ℕ) (f g : Opened) (r : Option TokenCode) → frame.File f ≡ get_or frames i (frame.File f)
      → IfSome r (λ t. (texts : Table) → bites cats f.spot ≡ Gives (token_at texts t) g.spot) → MatchOption r (g ≡ f) (λ _. g ≡ record f { spot = g.spot })
      → length g.spot.tail + length (option_to_list r) ≤ length f.spot.tail → IfSome r (TokenWithin 0)
      → TakesPlain cats (sources_of frames) r (sources_of (set frames i (frame.File g)))
  plain_front cats f g (Some t) is gives same lower given = record {
    file = f;
    spot = g.spot;
    more = sources_of (take i frames);
    was = front_is (frame.File f) is;
    is = front_set (frame.File g) ∙ ap (λ k. File k ∷ sources_of (take i frames)) same;
    gives = gives;
    lower = lower;
    given = given;
  }
  plain_front cats f g None is gives same lower given = front_set (frame.File g) ∙ ap (λ k. File k ∷ sources_of (take i frames)) same ∙ sym (front_is (frame.File f) is)

  -- the list in front gives a token, or is as before
  pub list_front : (x y : Frame) (r : Option TokenCode) → x ≡ get_or frames i x → MatchOption r (written y ≡ written x) (λ t. written x ≡ Plain t ∷ written y)
      → MatchOption r (sources_of (set frames i y) ≡ sources_of frames) (λ t. sources_of frames ≡ Plain t ∷ sources_of (set frames i y))
  list_front x y (Some t) is h = front_is x is ∙ ap (λ w. w ++ sources_of (take i frames)) h ∙ ap (λ s. Plain t ∷ s) (sym (front_set y))
  list_front x y None is h = front_set y ∙ ap (λ w. w ++ sources_of (take i frames)) h ∙ sym (front_is x is)

  -- nothing is left of the front
  pub spent_front : (x : Frame) → x ≡ get_or frames i x → written x ≡ [] → sources_of (take i frames) ≡ sources_of frames
  spent_front x is none = sym (front_is x is ∙ ap (λ w. w ++ sources_of (take i frames)) none)
